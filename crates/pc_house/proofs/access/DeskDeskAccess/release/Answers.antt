use Rattle.std.proofs.Common.{refl, ap}
use Rattle.pc_house.specs.Base.{same_base}
use Rattle.pc_house.specs.Desk.{history_of}
use Rattle.pc_house.proofs.Standing.{other_sessions}
use Rattle.pc_house.proofs.access.DeskDeskAccess.release.Goals as goal

pub invariant_of-self : goal.invariant_of-self
invariant_of-self g c =
    let inside = c.self.inside in
    other_sessions inside.user inside.store inside.base _ inside.drawn inside.drawn inside.sessions c.end.new.self c.self.invariant c.self.invariant.drawn

pub returns-clause-released : goal.returns-clause-released
returns-clause-released g c =
    let inside = c.self.inside in
    rw (← c.self.view_is) (record {
      latest = c.end.ensures;
      drawn = refl;
      history = ap (λ base. history_of base inside.store) (same_base inside.store.head.base inside.store.head.base refl _ inside.base);
      doubt = refl;
      broken = refl;
      state = refl;
    })
