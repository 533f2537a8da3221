use Rattle.std.proofs.Common.{◌≡◌, ◌≤◌, IsTrue, sym, ap, ◌∙◌, subst, arith}
use Rattle.pc_base.proofs.Results.{from-ok}
use Rattle.pc_account_history.specs.History.{◌▸◌}
use Rattle.pc_account_history.specs.Legal.{IsCanonical}
use Rattle.pc_account_holdings.specs.State.{State, said, may_follow, step, StandsFor}
use Rattle.pc_account_holdings.specs.Following.{canonical-after}
use Rattle.pc_account.proofs.Standing.{StandsFor-step}
use Rattle.pc_account.proofs.account.Account.apply.Goals as goal

pub invariant_of-self-else-is_err : goal.invariant_of-self-else-is_err
invariant_of-self-else-is_err c =
    let s = c.self.inside.holdings in
    let stepped = from-ok c.step.result c.is_err.result c.is_err.ensures.value c.if-is_err.false c.step.ensures in
    let allowed = subst (λ (state : State). IsTrue (may_follow (said state) c.args.entry.now)) (sym c.self.view_is) c.requires.allowed in
    let before : s.next ≡ c.args.self.now.next = ap (λ (state : State). state.next) c.self.view_is in
    subst (λ (state : State). IsCanonical state.held state.next × (state.next ≤ 9223372036854775808)) (sym stepped)
    (canonical-after s c.args.entry.now c.self.invariant.0 allowed, omega (arith, before, c.requires.next))

pub returns-clause-history : goal.returns-clause-history
returns-clause-history c = λ h stands.
    let stepped = from-ok c.step.result c.is_err.result c.is_err.ensures.value c.if-is_err.false c.step.ensures in
    subst (λ (state : State). StandsFor state (h ▸ c.args.entry.now)) (sym (stepped ∙ ap (λ (state : State). step state c.args.entry.now) c.self.view_is))
    (StandsFor-step c.args.self.now c.args.entry.now c.requires.allowed h stands)
