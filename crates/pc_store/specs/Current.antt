-- Two areas, of which the made one of the greater generation counts.
use Rattle.std.specs.Prelude.{◌≡◌, ◌⊎◌, ℕ, ◌<◌, true, false, List, drop, take, Ok, Err}
use Rattle.pc_base.specs.declared.machine.Machine.{Ghosts}
use Rattle.pc_disk.specs.Images.{Images, area_of, other_of}
use Rattle.pc_log.specs.Area.{Head, is_made}
use Rattle.pc_log.specs.Reading.{numbers_of}
use Rattle.pc_log.specs.declared.head.Numbers.{Numbers}
use Rattle.pc_store.specs.History.{StandsFor}

-- a made area whose head has these numbers
pub record HasNumbers (kind : ℕ) (area : List ℕ) (numbers : Numbers) : Type 0 where
  pub made : is_made area ≡ true
  pub read : numbers_of kind (take 29 (drop 1 area)) ≡ Ok numbers

-- a made area whose head has its first fault here, among its numbers
pub record HasFault (kind : ℕ) (area : List ℕ) (place : ℕ) : Type 0 where
  pub made : is_made area ≡ true
  pub fault : numbers_of kind (take 29 (drop 1 area)) ≡ Err place

-- an area that isn't made, or whose numbers are read
abbrev pub IsPassed : ℕ → List ℕ → Type 0
IsPassed kind area = (is_made area ≡ false) ⊎ ((numbers : Numbers) × HasNumbers kind area numbers)

-- an area doesn't count beside one of this generation: it isn't made, or its own generation is less
abbrev pub IsOlder : ℕ → ℕ → List ℕ → Type 0
IsOlder kind generation area = (is_made area ≡ false) ⊎ ((numbers : Numbers) × HasNumbers kind area numbers × (numbers.generation < generation))

-- the area with this number counts
pub record IsCurrent (kind index : ℕ) (images : Images) : Type 0 where
  pub within : index < 2
  pub numbers : Numbers
  pub has : HasNumbers kind (area_of index images) numbers
  pub older : IsOlder kind numbers.generation (other_of index images)

-- neither area is made
abbrev pub NoneMade : Images → Type 0
NoneMade images = (is_made (area_of 0 images) ≡ false) × (is_made (area_of 1 images) ≡ false)

-- no area counts, since the numbers of area 0 have a fault, or those of area 1, or both have one generation
pub data NoneCounts (kind : ℕ) (images : Images) (index place : ℕ) : Type 0 where
  in_first : HasFault kind (area_of 0 images) place → index ≡ 0 → NoneCounts kind images index place
  in_second : IsPassed kind (area_of 0 images) → HasFault kind (area_of 1 images) place → index ≡ 1 → NoneCounts kind images index place
  of_one_generation : (first second : Numbers) → HasNumbers kind (area_of 0 images) first → HasNumbers kind (area_of 1 images) second
      → first.generation ≡ second.generation → index ≡ 1 → place ≡ 10 → NoneCounts kind images index place

-- the area with this number holds the history, and counts
pub record OpensIn {M E : Type 0} (machine : Ghosts M E) (index : ℕ) (head : Head) (trail : List E) (images : Images) : Type 0 where
  pub within : index < 2
  pub stands : StandsFor machine head trail (area_of index images)
  pub older : IsOlder machine.KIND head.generation (other_of index images)
