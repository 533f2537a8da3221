-- What an entry makes of the record of the office.
use Rattle.std.specs.Prelude.{ℕ, suc, Bool, true, false, nat_le, List, [], ◌∷◌, ◌++◌, map, if◌then◌else◌}
use Rattle.std.specs.List.{filter}
use Rattle.std.specs.Map.{lookup, set_value}
use Rattle.pc_base.specs.Name.{inbox}
use Rattle.pc_tables.specs.Table.{same, is_among, others}
use Rattle.pc_office_history.specs.declared.kept.Target.{Target}
use Rattle.pc_office_history.specs.declared.kept.KeptMail.{KeptMail}
use Rattle.pc_office_history.specs.declared.entry.OfficeEntry.{OfficeEntry}
use Rattle.pc_office_history.specs.declared.entry.OfficeEntry.TheVariants.{AddUser, AddBoard, TakeAddress, DropAddress, Accept, Pulled}
use Rattle.pc_office_history.specs.Record.{OfficeRecord}
use Rattle.pc_office_history.specs.Effect.{other_targets, targets_of}
use Rattle.pc_office_history.specs.History.{History, start, ◌▹◌}

-- these are somebody's
abbrev pub is_awaited : List Target → Bool
is_awaited [] = false
is_awaited (target ∷ targets) = true

-- the mails that still wait for somebody
abbrev pub still_waiting : List KeptMail → List KeptMail
still_waiting kept = filter (λ mail. is_awaited mail.targets) kept

-- a mail once a user has pulled up to a number
abbrev pub pulled_by : List ℕ → ℕ → KeptMail → KeptMail
pulled_by user number mail = record mail { targets = if nat_le mail.number number then other_targets user mail.targets else mail.targets }

-- the boards once a message is sent to these names
abbrev pub with_message : List (List ℕ) → List (List ℕ) → List (List ℕ × List (List (List ℕ))) → List (List ℕ × List (List (List ℕ)))
with_message names message boards = map (λ board. (board.0, if is_among board.0 names then board.1 ++ message ∷ [] else board.1)) boards

-- the mail that comes of a message that is sent to these names
abbrev pub new_mail : OfficeRecord → List (List ℕ) → List (List ℕ) → KeptMail
new_mail r names message = record { number = suc r.accepted; targets = targets_of (λ name. lookup (same name) r.addresses) names; message = message }

-- the record after an entry
abbrev pub after : OfficeRecord → OfficeEntry → OfficeRecord
after r (AddUser user) = record r { users = r.users ++ (user, 0) ∷ []; addresses = r.addresses ++ (user, record { user = user; mailbox = inbox }) ∷ [] }
after r (AddBoard board) = record r { boards = r.boards ++ (board, []) ∷ [] }
after r (TakeAddress address user mailbox) = record r { addresses = r.addresses ++ (address, record { user = user; mailbox = mailbox }) ∷ [] }
after r (DropAddress address) = record r { addresses = others address r.addresses }
after r (Accept names message) = record r { boards = with_message names message r.boards; accepted = suc r.accepted; kept = r.kept ++ still_waiting (new_mail r names message ∷ []) }
after r (Pulled user number) = record r { users = set_value (same user) r.users number; kept = still_waiting (map (pulled_by user number) r.kept) }

-- the record that stands for a history
abbrev pub record_of : History → OfficeRecord
record_of (start r number) = r
record_of (h ▹ e) = after (record_of h) e
