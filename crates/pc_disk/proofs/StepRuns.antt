-- The moments of a device call and its sync, over any disk.
use Rattle.std.proofs.Common.{◌≡◌, ◌+◌, ℕ, subst}
use Rattle.pc_disk.specs.Images.{Images}
use Rattle.pc_disk.specs.Outcomes.{Only, Follows, Keeps, Elapses, LeavesOnly}
use Rattle.pc_disk.specs.StepFaults.{LeadsOn}
use Rattle.pc_disk.proofs.Runs.{started, goes_on}

-- over a settled disk a step begins at what is read
pub from_settled : (seen : Images) (step : Images → Images → Type 0) (before : Images → Type 0) → Only seen before → (left : Images) → LeadsOn step before left → step seen left
from_settled seen step before settled left leads = subst (λ images. step images left) (settled leads.0 leads.1) leads.2

pub called_on : {D : Type 0} (moment : D → ℕ) (left_since : D → ℕ → Images → Type 0) (old mid : D) (step : Images → Images → Type 0) (before between : Images → Type 0)
    → ((images : Images) → step images images) → ((left : Images) → left_since old (moment old) left → before left)
    → moment mid ≡ moment old + 1 → Elapses (moment old) (left_since old) (left_since mid) between → Follows step before between
    → LeavesOnly moment left_since old mid (LeadsOn step before)
called_on moment left_since old mid step before between same now next time crash =
    let begun = started moment left_since old (LeadsOn step before) (λ left since. (left, now left since, same left)) in
    goes_on moment left_since old old mid (LeadsOn step before) between begun next time (λ left may. crash left may)

pub stepped_on : {D : Type 0} (moment : D → ℕ) (left_since : D → ℕ → Images → Type 0) (old mid new : D) (step : Images → Images → Type 0) (before between after : Images → Type 0)
    → LeavesOnly moment left_since old mid (LeadsOn step before) → Follows step before between
    → moment new ≡ moment mid + 1 → Elapses (moment mid) (left_since mid) (left_since new) after → Keeps between after
    → LeavesOnly moment left_since old new (LeadsOn step before)
stepped_on moment left_since old mid new step before between after called crash last passes keeps =
    goes_on moment left_since old mid new (LeadsOn step before) after called last passes (λ left may. crash left (keeps left may))
