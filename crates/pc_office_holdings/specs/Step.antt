-- What an entry makes of what the office holds.
use Rattle.std.specs.Prelude.{ℕ, zero, suc, ◌+◌, ◌%◌, ◌^◌, List, [], ◌∷◌, ◌++◌, map, length, Option, None, Some, is_some, if◌then◌else◌}
use Rattle.std.specs.Map.{lookup, set_value}
use Rattle.pc_base.specs.Name.{inbox}
use Rattle.pc_message.specs.declared.lists.Mail.{Mail}
use Rattle.pc_message.specs.Message.{weight_of}
use Rattle.pc_tables.specs.Table.{same, is_among, others}
use Rattle.pc_office_history.specs.declared.kept.Target.{Target}
use Rattle.pc_office_history.specs.declared.kept.KeptMail.{KeptMail}
use Rattle.pc_office_history.specs.declared.entry.OfficeEntry.{OfficeEntry}
use Rattle.pc_office_history.specs.declared.entry.OfficeEntry.TheVariants.{AddUser, AddBoard, TakeAddress, DropAddress, Accept, Pulled}
use Rattle.pc_office_history.specs.Record.{target_of, mails_for}
use Rattle.pc_office_history.specs.Effect.{targets_of}
use Rattle.pc_office_history.specs.Limits.{mail_weight}
use Rattle.pc_office_history.specs.Step.{still_waiting, pulled_by, with_message}
use Rattle.pc_office_holdings.specs.declared.users.Standing.{Standing}
use Rattle.pc_office_holdings.specs.Held.{Held}

-- the standing of a user for whom nothing waits
abbrev pub new_standing : Standing
new_standing = record { noted = 0; mails = 0; weight = 0 }

-- a standing with one mail more
abbrev pub with_mail : ℕ → Standing → Standing
with_mail weight standing = record standing { mails = (standing.mails + 1) % 2 ^ 64; weight = (standing.weight + weight) % 2 ^ 64 }

-- a user, once a mail for these targets waits
abbrev pub awaited : List Target → ℕ → List ℕ × Standing → List ℕ × Standing
awaited targets weight user = (user.0, if is_some (target_of user.0 targets) then with_mail weight user.1 else user.1)

-- the standing of a user that has pulled up to a number, and for whom these mails wait still
abbrev pub standing_of : ℕ → List Mail → Standing
standing_of number mails = record { noted = number; mails = length mails % 2 ^ 64; weight = mail_weight mails % 2 ^ 64 }

-- a board, once a message is sent to these names
abbrev pub posted : List (List ℕ) → List (List ℕ) → List ℕ × List (List (List ℕ)) → List ℕ × List (List (List ℕ))
posted names message board = (board.0, if is_among board.0 names then board.1 ++ message ∷ [] else board.1)

-- what is held after an entry that accepts a mail
abbrev pub accepted_in : Held → List (List ℕ) → List (List ℕ) → List Target → Held
accepted_in held names message targets = record held {
  users = map (awaited targets (weight_of message)) held.users;
  boards = with_message names message held.boards;
  accepted = suc held.accepted;
  kept = held.kept ++ still_waiting (record { number = suc held.accepted; targets = targets; message = message } ∷ []);
}

-- the targets with one more, unless there is one of its user
abbrev pub with_target : Option Target → List Target → List Target
with_target None targets = targets
with_target (Some target) targets = if is_some (target_of target.user targets) then targets else targets ++ target ∷ []

-- what is kept once a user has pulled up to a number
abbrev pub kept_after : List ℕ → ℕ → List KeptMail → List KeptMail
kept_after user number kept = still_waiting (map (pulled_by user number) kept)

-- what is held after an entry
abbrev pub entered : Held → OfficeEntry → Held
entered held (AddUser user) = record held { users = held.users ++ (user, new_standing) ∷ []; addresses = held.addresses ++ (user, record { user = user; mailbox = inbox }) ∷ [] }
entered held (AddBoard board) = record held { boards = held.boards ++ (board, []) ∷ [] }
entered held (TakeAddress address user mailbox) = record held { addresses = held.addresses ++ (address, record { user = user; mailbox = mailbox }) ∷ [] }
entered held (DropAddress address) = record held { addresses = others address held.addresses }
entered held (Accept names message) = accepted_in held names message (targets_of (λ name. lookup (same name) held.addresses) names)
entered held (Pulled user number) = record held { users = set_value (same user) held.users (standing_of number (mails_for user (kept_after user number held.kept))); kept = kept_after user number held.kept }
