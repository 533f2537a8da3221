-- What is tried where limits are tried.
use Rattle.std.specs.Prelude.{◌≡◌, ℕ, ◌+◌, ◌*◌, ◌<◌, Bool, true, false, not, ◌&&◌, ◌||◌, nat_lt, nat_le, List, length, is_some}
use Rattle.std.specs.Option.{option_map_or}
use Rattle.std.specs.List.{filter, list_any, list_all}
use Rattle.std.specs.Map.{lookup}
use Rattle.pc_tables.specs.Table.{same}
use Rattle.pc_office_history.specs.declared.limits.TheConstants.{MOST_WAITING, MOST_WAITING_WEIGHT, MOST_BOARD_MESSAGES, MOST_BOARD_WEIGHT}
use Rattle.pc_office_history.specs.declared.kept.Target.{Target}
use Rattle.pc_office_history.specs.Known.{Known}
use Rattle.pc_office_history.specs.Allowed.{is_recipient, are_apart}
use Rattle.pc_office_holdings.specs.declared.users.Standing.{Standing}
use Rattle.pc_office_holdings.specs.Held.{Held, weight_on_all}

-- a mail may be sent to these names, but for its limits
pub record IsSendable (k : Known) (names : List (List ℕ)) : Type 0 where
  pub some : 0 < length names
  pub apart : are_apart names ≡ true
  pub known : list_all (is_recipient k) names ≡ true

-- one mail more may wait beside what is counted
abbrev pub has_room : ℕ → Standing → Bool
has_room weight standing = nat_lt standing.mails MOST_WAITING && nat_le (standing.weight + weight) MOST_WAITING_WEIGHT

-- more would wait than may for the user to whom a name belongs
abbrev pub is_over : ℕ → Held → List ℕ → Bool
is_over weight held name = option_map_or (λ (target : Target). option_map_or (λ standing. not (has_room weight standing)) (lookup (same target.user) held.users) false) (lookup (same name) held.addresses) false

-- the board of this name has no place for one message more
abbrev pub is_filled : Held → List ℕ → Bool
is_filled held name = option_map_or (λ messages. nat_le MOST_BOARD_MESSAGES (length messages)) (lookup (same name) held.boards) false

-- how many of the names are boards
abbrev pub board_count : Held → List (List ℕ) → ℕ
board_count held names = length (filter (λ name. is_some (lookup (same name) held.boards)) names)

-- a board among the names has no place, or all boards have no room
abbrev pub are_full : ℕ → Held → List (List ℕ) → Bool
are_full weight held names = list_any (is_filled held) names || nat_lt MOST_BOARD_WEIGHT (weight_on_all held.boards + board_count held names * weight)
