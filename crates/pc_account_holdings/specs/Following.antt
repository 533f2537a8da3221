-- What holds of an entry that may come next.
use Rattle.std.proofs.Common.{◌≡◌, suc, true, IsTrue, is_none, Option, None, Some, refl, sym, true≢false}
use Rattle.std.proofs.lemmas.Bool.{and_parts}
use Rattle.pc_account_history.specs.declared.entry.Entry.{Entry}
use Rattle.pc_account_history.specs.Known.{Known}
use Rattle.pc_account_history.specs.History.{start, ◌▸◌}
use Rattle.pc_account_history.specs.Allowed.{is_allowed}
use Rattle.pc_account_history.specs.Limits.{limit_passed}
use Rattle.pc_account_history.specs.Legal.{IsCanonical}
use Rattle.pc_account_history.specs.Step.{after}
use Rattle.pc_account_history.proofs.Within.{IsCanonical-legal}
use Rattle.pc_account_holdings.specs.State.{State, said, may_follow}

none-from : {X : Type 0} (o : Option X) → is_none o ≡ true → o ≡ None
none-from None h = refl
none-from (Some x) h = absurd (true≢false (sym h))

-- it is allowed and passes no limit
pub may-parts : (k : Known) (e : Entry) → IsTrue (may_follow k e) → (is_allowed k e ≡ true) × (limit_passed k e ≡ None)
may-parts k e h = let parts = and_parts (is_allowed k e) (is_none (limit_passed k e)) h in (parts.0, none-from (limit_passed k e) parts.1)

-- the record after it is canonical
pub canonical-after : (s : State) (e : Entry) → IsCanonical s.held s.next → IsTrue (may_follow (said s) e) → IsCanonical (after s.held s.next e) (suc s.next)
canonical-after s e canonical h = let parts = may-parts (said s) e h in IsCanonical-legal (start s.held s.next ▸ e) (canonical, parts.0, parts.1)
