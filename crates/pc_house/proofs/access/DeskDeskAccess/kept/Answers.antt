use Rattle.std.proofs.Common.{◌≡◌, ◌∙◌, ℕ, ◌+◌, ◌-◌, ◌<◌, slice_get, ap, sym, subst, arith}
use Rattle.pc_account_history.specs.History.{start}
use Rattle.pc_session.specs.Desk.{entry_at}
use Rattle.pc_house.specs.Base.{base_of}
use Rattle.pc_house.specs.Desk.{history_of}
use Rattle.pc_house.proofs.Trails.{entry_at-front, entry_at-behind, entry_found}
use Rattle.pc_house.proofs.access.DeskDeskAccess.kept.Goals as goal

pub returns-then-number-first-clause-entry : goal.returns-then-number-first-clause-entry
returns-then-number-first-clause-entry g c =
    let store = c.self.inside.store in
    rw (← c.self.view_is) (entry_at-front (start (base_of c.self.inside.base) store.head.first) store.trail c.args.number (subst (λ (first : ℕ). c.args.number < first) c.first.ensures c.if-number-first.true))

pub returns-clause-entry : goal.returns-clause-entry
returns-clause-entry g c =
    let store = c.self.inside.store in
    let base = base_of c.self.inside.base in
    let at : ℕ = c.args.number - store.head.first in
    let there : c.args.number ≡ store.head.first + at = omega (arith, c.first.ensures, c.if-number-first.false) in
    let asked = ap (entry_at (history_of base store)) there ∙ entry_at-behind (start base store.head.first) store.trail at in
    let read = asked ∙ sym (λ i. slice_get (c.trail.ensures i) (c.args.number - c.first-2.ensures i)) in
    rw (← c.self.view_is) (entry_found c.get.result c.trail.result.now (c.args.number - c.first-2.result) (entry_at (history_of base store) c.args.number) c.get.ensures.lookup.0 c.get.ensures.lookup.1 read)
