-- What can be written of an account.
use Rattle.std.specs.Prelude.{ℕ, ◌<◌, List, length}
use Rattle.std.specs.List.{AllByRecursion}
use Rattle.pc_account_history.specs.Record.{MailboxRecord}
use Rattle.pc_account_holdings.specs.Mailboxes.{Table}

-- the update lists of each mailbox can be counted in two bytes
abbrev pub HaveFewLists : Table → Type 0
HaveFewLists table = AllByRecursion (λ (mailbox : List ℕ × MailboxRecord). length mailbox.1.lists < 65536) table
