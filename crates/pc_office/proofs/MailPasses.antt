-- The limit that a mail would pass first.
use Rattle.std.proofs.Common.{◌≡◌, ℕ, Bool, cond, nat_lt, List, length, Option, Some, None}
use Rattle.pc_base.specs.declared.refusal.LimitWord.{LimitWord}
use Rattle.pc_base.specs.declared.refusal.LimitWord.TheVariants as limit
use Rattle.pc_office_history.specs.declared.limits.TheConstants.{MOST_RECIPIENTS}
use Rattle.pc_office_history.specs.declared.entry.OfficeEntry.TheVariants.{Accept}
use Rattle.pc_office_history.specs.Known.{Known}
use Rattle.pc_office_history.specs.Limits.{would_pass, limit_passed}

-- by what each of the three comes to
pub mail-passes : (k : Known) (names message : List (List ℕ)) (many waits full : Bool) → nat_lt MOST_RECIPIENTS (length names) ≡ many → would_pass k (Accept names message) limit.Waiting ≡ waits → would_pass k (Accept names message) limit.Board ≡ full → limit_passed k (Accept names message) ≡ cond many (Some limit.Recipients) (cond waits (Some limit.Waiting) (cond full (Some limit.Board) None))
mail-passes k names message many waits full a b d = λ i. cond {A = Option LimitWord} (a i) (Some limit.Recipients) (cond (b i) (Some limit.Waiting) (cond (d i) (Some limit.Board) None))
