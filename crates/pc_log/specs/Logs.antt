-- What a log stands for on a disk, and what an append makes of it.
use Rattle.std.specs.Prelude.{◌≡◌, ◌⊎◌, ℕ, ◌+◌, ◌^◌, ◌<◌, ◌≤◌, List, [], ◌∷◌, ◌++◌, length, Result, Ok, Err}
use Rattle.std.proofs.Common.{sym, subst}
use Rattle.pc_disk.specs.Outcomes.{IsStill}
use Rattle.pc_disk.specs.Images.{Images, area_of}
use Rattle.pc_log.specs.declared.fault.AppendFault.{AppendFault}
use Rattle.pc_log.specs.Area.{Head, front, Spelled}

-- the area, and where its closed gate stands
pub record LogState : Type 0 where
  pub area : ℕ
  pub gate : ℕ

-- images in which the log's area has this head and these entries, with the closed gate where the log has it
pub record IsLogOf (log : LogState) (head : Head) (entries : List (List ℕ)) (images : Images) : Type 0 where
  pub spelled : Spelled head entries (area_of log.area images)
  pub gate : log.gate ≡ length (front head entries)

-- the log stands on a disk: in what a read gives, and in every image that a crash now may leave
pub record Stands (log : LogState) (head : Head) (entries : List (List ℕ)) (seen : Images) (may_leave : Images → Type 0) : Type 0 where
  pub reads : IsLogOf log head entries seen
  pub leaves : (left : Images) → may_leave left → IsLogOf log head entries left

-- there is room on a disk for four device calls, and for an entry of so many bytes
pub record IsPrepared (log : LogState) (count spare_calls spare_bytes : ℕ) : Type 0 where
  pub calls : 4 ≤ spare_calls
  pub bytes : count + 6 ≤ spare_bytes
  pub place : log.gate + count + 6 < 2 ^ 64

-- what a crash may leave of the log's area while the record is written behind the closed gate
abbrev pub Without : Head → List (List ℕ) → List ℕ → List ℕ → Type 0
Without head entries old new = Spelled head entries new

-- and later: the entries, with the new one as a whole or without it
abbrev pub WithOrWithout : Head → List (List ℕ) → List ℕ → List ℕ → List ℕ → Type 0
WithOrWithout head entries entry old new = Spelled head entries new ⊎ Spelled head (entries ++ entry ∷ []) new

-- how many device calls an append made
abbrev pub append_calls : {T : Type 0} → Result T AppendFault → ℕ
append_calls (Ok value) = 4
append_calls (Err fault) = fault.call

-- an append fails at the first of its four calls that is due to fail, and nowhere else
abbrev pub FailsAtFirstDue : {T : Type 0} → Result T AppendFault → ℕ → (ℕ → Type 0) → Type 0
FailsAtFirstDue (Ok value) moment due = (k : ℕ) → k < 4 → due (moment + k) → ⊥
FailsAtFirstDue (Err fault) moment due = (last : ℕ) × (fault.call ≡ last + 1) × due (moment + last) × ((k : ℕ) → k < last → due (moment + k) → ⊥)

-- a log stands as before where no device call was made
pub stands-still : (log : LogState) (head : Head) (entries : List (List ℕ)) (seen seen' : Images) (may_leave may_leave' : Images → Type 0) (past past' : ℕ → Images → Type 0)
    → IsStill seen seen' may_leave may_leave' past past' → Stands log head entries seen may_leave → Stands log head entries seen' may_leave'
stands-still log head entries seen seen' may_leave may_leave' past past' still stands = record {
  reads = subst (λ (images : Images). IsLogOf log head entries images) (sym still.seen) stands.reads;
  leaves = λ left may. stands.leaves left (still.leaves left may);
}
