use Rattle.std.proofs.Common.{◌≡◌, true, refl, subst, sym, ap, ◌∙◌, arith, true≢false}
use Rattle.pc_account_history.specs.History.{start}
use Rattle.pc_account_holdings.specs.State.{State, StandsFor}
use Rattle.pc_account_records.specs.Numbered.{suits, numbered}
use Rattle.pc_account_records.specs.Renumbered.{canonical_numbered}
use Rattle.pc_account.proofs.Standing.{stands-base, suits-legal, stands-numbered}
use Rattle.pc_account.proofs.account.Account.number_from.Goals as goal

pub invariant_of-self : goal.invariant_of-self
invariant_of-self c =
    let passed : suits c.self.inside.holdings c.args.first ≡ true = grind (arith, c.suits.ensures, c.if-not-suits.false) in
    rw c.set_next.ensures (canonical_numbered c.self.inside.holdings c.args.first c.self.inside.holdings.next c.self.invariant.0 passed, c.requires.most)

pub returns-then-not-suits-clause-base : goal.returns-then-not-suits-clause-base
returns-then-not-suits-clause-base c = λ answer. absurd (true≢false (sym answer))

pub returns-then-not-suits-clause-history : goal.returns-then-not-suits-clause-history
returns-then-not-suits-clause-history c = λ h legal held follows.
    absurd (true≢false (
    sym (suits-legal c.args.self.now c.args.first h legal held follows)
    ∙ sym (ap (λ (s : State). suits s c.args.first) c.self.view_is)
    ∙ sym c.suits.ensures
    ∙ c.if-not-suits.true))

pub returns-clause-base : goal.returns-clause-base
returns-clause-base c = λ answer.
    let s = c.self.inside.holdings in
    let first = c.args.first in
    let canonical = canonical_numbered s first s.next c.self.invariant.0 (sym c.suits.ensures ∙ c.if-not-suits.false) in
    let new = c.set_next.ensures ∙ ap (λ (old : State). numbered old first) c.self.view_is in
    subst (λ (state : State). StandsFor state (start c.args.self.now.held first)) (sym new)
    (subst (λ (old : State). StandsFor (numbered old first) (start old.held first)) c.self.view_is (stands-base (numbered s first) canonical))

pub returns-clause-history : goal.returns-clause-history
returns-clause-history c = λ h legal held follows.
    let new = c.set_next.ensures ∙ ap (λ (old : State). numbered old c.args.first) c.self.view_is in
    (refl, subst (λ (state : State). StandsFor state h) (sym new) (stands-numbered c.args.self.now c.args.first h legal held follows))
