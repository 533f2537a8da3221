use Rattle.std.proofs.Common.{◌+◌, ◌≤◌, arith}
use Rattle.pc_session.specs.Desk.{LAST_SESSION}
use Rattle.pc_house.proofs.Drawing.{stays_same, takes}
use Rattle.pc_house.proofs.Standing.{other_sessions}
use Rattle.pc_house.proofs.access.DeskDeskAccess.take_over.Goals as goal

pub invariant_of-self : goal.invariant_of-self
invariant_of-self g c =
    let inside = c.self.inside in
    other_sessions inside.user inside.store inside.base _ inside.drawn inside.drawn inside.sessions c.put.new.self c.self.invariant c.self.invariant.drawn

pub returns-in_default-clause-takes : goal.returns-in_default-clause-takes
returns-in_default-clause-takes g c =
    let inside = c.self.inside in
    stays_same g.D.Disk.faults inside.user inside.store inside.base _ inside.drawn inside.sessions c.put.new.self c.args.self.now c.self.view_is c.in_default.ensures.err

pub invariant_of-self-2 : goal.invariant_of-self-2
invariant_of-self-2 g c =
    let inside = c.self.inside in
    let most : inside.drawn + 1 ≤ LAST_SESSION = omega (arith, c.self.invariant.drawn, c.if-self-eq-LAST_SESSION.false) in
    other_sessions inside.user inside.store inside.base _ inside.drawn (inside.drawn + 1) inside.sessions c.put.new.self c.self.invariant most

pub returns-clause-takes : goal.returns-clause-takes
returns-clause-takes g c =
    let inside = c.self.inside in
    takes g.D.Disk.faults inside.user inside.store inside.base _ inside.drawn inside.sessions c.put.new.self c.args.self.now c.self.view_is c.args.client c.args.batch c.self.invariant.drawn c.if-self-eq-LAST_SESSION.false c.in-Ok.ensures.ok
