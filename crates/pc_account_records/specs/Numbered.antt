-- The number of the next entry, given to an account that was made or loaded.
use Rattle.std.specs.Prelude.{ℕ, Bool, ◌&&◌, nat_lt, List}
use Rattle.std.specs.List.{list_all}
use Rattle.pc_account_history.specs.declared.kept.Listed.{Listed}
use Rattle.pc_account_history.specs.Record.{MailboxRecord}
use Rattle.pc_account_holdings.specs.Mailboxes.{Table}
use Rattle.pc_account_holdings.specs.State.{State}

-- the client was made before the entry with this number
abbrev pub is_born_before : ℕ → List ℕ × ℕ → Bool
is_born_before number client = nat_lt client.1 number

-- the changes were made before it
abbrev pub are_before : ℕ → List Listed → Bool
are_before number list = list_all (λ (listed : Listed). nat_lt listed.stamp number) list

-- so were those on the lists of a mailbox
abbrev pub is_mailbox_before : ℕ → List ℕ × MailboxRecord → Bool
is_mailbox_before number mailbox = list_all (λ (list : List ℕ × List Listed). are_before number list.1) mailbox.1.lists

abbrev pub are_mailboxes_before : ℕ → Table → Bool
are_mailboxes_before number table = list_all (is_mailbox_before number) table

-- the next entry may have this number: it is past all births and stamps
abbrev pub suits : State → ℕ → Bool
suits state number = nat_lt 0 number && list_all (is_born_before number) state.held.clients && are_mailboxes_before number state.held.live && are_mailboxes_before number state.held.dropped

-- the state whose next entry has this number
abbrev pub numbered : State → ℕ → State
numbered state number = record state { next = number }
