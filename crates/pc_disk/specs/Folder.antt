-- What stands under the names of a folder, and what is handed out of it.
use Rattle.std.specs.Prelude.{◌≡◌, ◌↔◌, ℕ, ◌+◌, ◌==◌, Bool, true, false, not, ◌&&◌, List, [], Option, Some, None}
use Rattle.std.specs.List.{filter}
use Rattle.std.specs.Map.{lookup}
use Rattle.std.specs.Cmp.Lexicographic.{pointwise}
use Rattle.pc_base.specs.declared.name.StoreName.{StoreName}
use Rattle.pc_base.specs.declared.name.StoreName.TheVariants.{Office, Account, Client}
use Rattle.pc_disk.specs.Images.{Images}
use Rattle.pc_disk.specs.Outcomes.{Only, Keeps}

-- two names of stores are the same
abbrev pub is_same : StoreName → StoreName → Bool
is_same Office Office = true
is_same (Account user) (Account other) = pointwise ◌==◌ user other
is_same (Client user client) (Client other_user other) = pointwise ◌==◌ user other_user && pointwise ◌==◌ client other
is_same _ _ = false

-- what stands under a name
abbrev pub standing : {X : Type 0} → StoreName → List (StoreName × X) → Option X
standing name shelf = lookup (is_same name) shelf

-- what stands under the other names
abbrev pub without : {X : Type 0} → StoreName → List (StoreName × X) → List (StoreName × X)
without name shelf = filter (λ kept. not (is_same name kept.0)) shelf

-- the disk that is handed out reads as the one that stood there, and a crash may leave the same of
-- it; where none stood, it is empty
abbrev pub IsHanded : {D : Type 0} → (D → Images) → (D → Images → Type 0) → Option D → D → Type 0
IsHanded seen may_leave None given = (seen given ≡ ([], [])) × Only ([], []) (may_leave given)
IsHanded seen may_leave (Some stood) given = (seen given ≡ seen stood) × Keeps (may_leave stood) (may_leave given) × Keeps (may_leave given) (may_leave stood)

-- counted from now, the same device calls of it fail as of the one that stood there; where none
-- stood, none fails
abbrev pub IsDueAlike : {D : Type 0} → (D → ℕ) → (D → ℕ → Type 0) → Option D → D → Type 0
IsDueAlike moment due None given = (ahead : ℕ) → due given (moment given + ahead) → ⊥
IsDueAlike moment due (Some stood) given = (ahead : ℕ) → due given (moment given + ahead) ↔ due stood (moment stood + ahead)

-- under each name but this one stands what stood there before
abbrev pub SameBut : {D : Type 0} → StoreName → (StoreName → Option D) → (StoreName → Option D) → Type 0
SameBut name before now = (other : StoreName) → (other ≡ name → ⊥) → now other ≡ before other

-- under each name stands what stood there before
abbrev pub SameAll : {D : Type 0} → (StoreName → Option D) → (StoreName → Option D) → Type 0
SameAll before now = (name : StoreName) → now name ≡ before name
