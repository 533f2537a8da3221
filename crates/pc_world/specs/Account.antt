-- A user of a world, and the entries of the user's account.
use Rattle.std.specs.Prelude.{ℕ, List}
use Rattle.pc_account_history.specs.declared.entry.Entry.{Entry}
use Rattle.pc_account_history.specs.History.{History, new_account, ◌▸▸◌}

pub record Account : Type 0 where
  pub user : List ℕ
  pub entries : List Entry

-- the history of a new account with these entries
abbrev pub history_of : List Entry → History
history_of entries = new_account ▸▸ entries
