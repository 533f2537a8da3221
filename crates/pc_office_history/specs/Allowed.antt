-- Which entries are allowed, the limits apart.
use Rattle.std.specs.Prelude.{ℕ, Bool, true, not, ◌&&◌, ◌||◌, nat_lt, nat_le, List, [], ◌∷◌, length, is_some}
use Rattle.std.specs.List.{list_all}
use Rattle.pc_message.specs.declared.limits.TheConstants.{LAST_MAIL}
use Rattle.pc_tables.specs.Table.{is_among}
use Rattle.pc_office_history.specs.declared.entry.OfficeEntry.{OfficeEntry}
use Rattle.pc_office_history.specs.declared.entry.OfficeEntry.TheVariants.{AddUser, AddBoard, TakeAddress, DropAddress, Accept, Pulled}
use Rattle.pc_office_history.specs.Known.{Known}

-- the name is a user's
abbrev pub is_user : Known → List ℕ → Bool
is_user k name = is_among name k.users

-- the name is a board's
abbrev pub is_board : Known → List ℕ → Bool
is_board k name = is_among name k.boards

-- the name is an address
abbrev pub is_address : Known → List ℕ → Bool
is_address k name = is_some (k.owner name)

-- the name is none of the three
abbrev pub is_free : Known → List ℕ → Bool
is_free k name = not (is_user k name || is_board k name || is_address k name)

-- mail may be sent to the name
abbrev pub is_recipient : Known → List ℕ → Bool
is_recipient k name = is_address k name || is_board k name

-- no name comes twice
abbrev pub are_apart : List (List ℕ) → Bool
are_apart [] = true
are_apart (name ∷ names) = not (is_among name names) && are_apart names

-- what an entry needs
abbrev pub is_allowed : Known → OfficeEntry → Bool
is_allowed k (AddUser user) = is_free k user
is_allowed k (AddBoard board) = is_free k board
is_allowed k (TakeAddress address user mailbox) = is_free k address && is_user k user
is_allowed k (DropAddress address) = is_address k address && not (is_user k address)
is_allowed k (Accept names message) = nat_lt 0 (length names) && are_apart names && list_all (is_recipient k) names && nat_lt k.accepted LAST_MAIL
is_allowed k (Pulled user number) = is_user k user && nat_lt (k.noted user) number && nat_le number k.accepted
