use Rattle.std.proofs.Common.{rules, sym, ap, ◌∙◌}
use Rattle.pc_house.specs.Single.{desk_for}
use Rattle.pc_house.proofs.Singles.{absent, at_place, found, within}
use Rattle.pc_house.proofs.single.Single.desk.Goals as goal

pub returns-in_err-place : goal.returns-in_err-place
returns-in_err-place g c = rw c.from_residual.ensures (absent c.args.user.now c.args.self.now c.in_err-place.ensures)

pub index-requires : goal.index-requires
index-requires g c =
    let less = within _ c.self.inside.desks.items c.in_ok-place.place (at_place _ c.self.inside.desks.items c.args.self.now c.in_ok-place.place c.self.view_is c.in_ok-place.ensures) in
    search (rules, less)

pub returns : goal.returns
returns g c = sym (ap (λ all. desk_for all c.args.user.now) c.self.view_is) ∙ found g.D.Disk.faults c.args.user.now c.self.inside.desks.items c.index.result.now c.in_ok-place.place (at_place _ c.self.inside.desks.items c.args.self.now c.in_ok-place.place c.self.view_is c.in_ok-place.ensures) c.index.ensures
