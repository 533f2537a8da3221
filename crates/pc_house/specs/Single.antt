-- A repository on one thread: the desk of each user, and what it tells of them.
use Rattle.std.specs.Prelude.{◌≡◌, ℕ, Bool, List, Option, None, Some, is_some}
use Rattle.std.proofs.Common.{refl}
use Rattle.std.specs.List.{AllByRecursion}
use Rattle.std.specs.Map.{lookup}
use Rattle.std.specs.Option.{option_map}
use Rattle.pc_tables.specs.Table.{same}
use Rattle.pc_session.specs.Desks.{Desks}
use Rattle.pc_house.specs.Desk.{DeskValue, told_by}

-- each desk stands under the name of its user
abbrev pub AreUsers : {D : Type 0} → List (List ℕ × DeskValue D) → Type 0
AreUsers {D} desks = AllByRecursion (λ (desk : List ℕ × DeskValue D). desk.1.user ≡ desk.0) desks

-- the desk of a user
abbrev pub desk_for : {D : Type 0} → List (List ℕ × DeskValue D) → List ℕ → Option (DeskValue D)
desk_for desks user = lookup (same user) desks

abbrev pub has_desk : {D : Type 0} → List (List ℕ × DeskValue D) → List ℕ → Bool
has_desk desks user = is_some (desk_for desks user)

-- what the desks hold
abbrev pub told_in : {D : Type 0} → (D → ℕ) → List (List ℕ × DeskValue D) → Desks
told_in faults desks user = option_map (told_by faults) (desk_for desks user)

-- they are those of its users
pub told_users : {D : Type 0} (faults : D → ℕ) (desks : List (List ℕ × DeskValue D)) (user : List ℕ) → is_some (told_in faults desks user) ≡ has_desk desks user
told_users {D} faults desks user = by_found (desk_for desks user)
  where
    by_found : (found : Option (DeskValue D)) → is_some (option_map (told_by faults) found) ≡ is_some found
    by_found None = refl
    by_found (Some desk) = refl
