-- What one entry does, as small functions of it.
use Rattle.std.specs.Prelude.{ℕ, suc, ◌&&◌, not, List, [], ◌∷◌, ◌++◌, Option, None, Some, if◌then◌else◌}
use Rattle.std.specs.Option.{option_map_or}
use Rattle.std.specs.List.{filter}
use Rattle.pc_base.specs.Name.{inbox}
use Rattle.pc_tables.specs.Table.{same, is_among, other_names}
use Rattle.pc_office_history.specs.declared.kept.Target.{Target}
use Rattle.pc_office_history.specs.declared.kept.KeptMail.{KeptMail}
use Rattle.pc_office_history.specs.declared.entry.OfficeEntry.{OfficeEntry}
use Rattle.pc_office_history.specs.declared.entry.OfficeEntry.TheVariants.{AddUser, AddBoard, TakeAddress, DropAddress, Accept, Pulled}

-- the users, in order of making
abbrev pub users_after : OfficeEntry → List (List ℕ) → List (List ℕ)
users_after (AddUser user) names = names ++ user ∷ []
users_after _ names = names

-- the boards, in order of making
abbrev pub boards_after : OfficeEntry → List (List ℕ) → List (List ℕ)
boards_after (AddBoard board) names = names ++ board ∷ []
boards_after _ names = names

-- the addresses, in order of their last taking; a user takes its own name when it is made
abbrev pub addresses_after : OfficeEntry → List (List ℕ) → List (List ℕ)
addresses_after (AddUser user) names = names ++ user ∷ []
addresses_after (TakeAddress address _ _) names = names ++ address ∷ []
addresses_after (DropAddress address) names = other_names address names
addresses_after _ names = names

-- for whom an address is: for whom it was last taken, while it wasn't dropped since
abbrev pub owner_after : OfficeEntry → List ℕ → Option Target → Option Target
owner_after (AddUser user) address before = if same user address then Some (record { user = user; mailbox = inbox }) else before
owner_after (TakeAddress taken user mailbox) address before = if same taken address then Some (record { user = user; mailbox = mailbox }) else before
owner_after (DropAddress dropped) address before = if same dropped address then None else before
owner_after _ address before = before

-- the number up to which a user is noted to have pulled
abbrev pub noted_after : OfficeEntry → List ℕ → ℕ → ℕ
noted_after (Pulled by number) user before = if same by user then number else before
noted_after _ user before = before

-- how many mails were accepted
abbrev pub accepted_after : OfficeEntry → ℕ → ℕ
accepted_after (Accept _ _) count = suc count
accepted_after _ count = count

-- the targets of other users
abbrev pub other_targets : List ℕ → List Target → List Target
other_targets user targets = filter (λ target. not (same user target.user)) targets

-- the users to whom these names belong, each once, with the mailbox of the first name that is an address of it
abbrev pub targets_of : (List ℕ → Option Target) → List (List ℕ) → List Target
targets_of owner [] = []
targets_of owner (name ∷ names) = option_map_or (λ target. target ∷ other_targets target.user (targets_of owner names)) (owner name) (targets_of owner names)

-- the mail that the entry accepts, where it does, for those who own its names then
abbrev pub new_mails : OfficeEntry → (List ℕ → Option Target) → ℕ → List KeptMail
new_mails (Accept names message) owner accepted = record { number = suc accepted; targets = targets_of owner names; message = message } ∷ []
new_mails _ owner accepted = []

-- what the entry puts on a board: a message that is sent to it, once
abbrev pub new_messages : OfficeEntry → List (List ℕ) → List ℕ → List (List (List ℕ))
new_messages (Accept names message) boards board = if is_among board names && is_among board boards then message ∷ [] else []
new_messages _ boards board = []
