-- What a history answers.
use Rattle.std.specs.Prelude.{ℕ, Bool, false, ◌&&◌, List, take, Option, None, Some, if◌then◌else◌}
use Rattle.std.specs.Option.{option_map_or}
use Rattle.std.specs.List.{filter}
use Rattle.pc_message.specs.declared.lists.Mail.{Mail}
use Rattle.pc_message.specs.declared.limits.TheConstants.{MOST_LETTERS}
use Rattle.pc_tables.specs.Table.{same}
use Rattle.pc_office_history.specs.Known.{Known, is_past}
use Rattle.pc_office_history.specs.Allowed.{is_board}

-- the address is for this mailbox of this user
abbrev pub is_for : Known → List ℕ → List ℕ → List ℕ → Bool
is_for k user mailbox address = option_map_or (λ target. same user target.user && same mailbox target.mailbox) (k.owner address) false

-- the addresses of a mailbox of a user, in order of their last taking
abbrev pub addresses_of : Known → List ℕ → List ℕ → List (List ℕ)
addresses_of k user mailbox = filter (is_for k user mailbox) k.addresses

-- the first 64 mails that wait for a user past a number
abbrev pub waiting_past : Known → List ℕ → ℕ → List Mail
waiting_past k user number = take MOST_LETTERS (filter (is_past number) (k.waiting user))

-- the messages of a board, where there is one
abbrev pub board_of : Known → List ℕ → Option (List (List (List ℕ)))
board_of k board = if is_board k board then Some (k.messages board) else None

-- those of the names that are boards
abbrev pub boards_among : Known → List (List ℕ) → List (List ℕ)
boards_among k names = filter (is_board k) names
