use Rattle.std.proofs.Common.{rules, ℕ, List, Some, sym, ap, subst, ◌∙◌}
use Rattle.std.proofs.Math.ListN.{set}
use Rattle.pc_session.specs.Desks.{SessionEnds}
use Rattle.pc_house.specs.Desk.{DeskValue}
use Rattle.pc_house.specs.Single.{has_desk, told_in}
use Rattle.pc_house.proofs.Singles.{are_still, at_place, ended_absent, ended_there, its_user, same_users, within}
use Rattle.pc_house.proofs.single.SingleRepository.end.Goals as goal

pub returns-in_default-place_of-clause-told : goal.returns-in_default-place_of-clause-told
returns-in_default-place_of-clause-told g c _ = ended_absent g.D.Disk.faults c.args.self.now c.in-Some.user c.args.session.now.state.who c.in-Some.ensures c.in_default-place_of.ensures

pub index_mut-requires : goal.index_mut-requires
index_mut-requires g c =
    let less = within _ c.self.inside.desks.items c.in-Some-place_of.place (at_place _ c.self.inside.desks.items c.args.self.now c.in-Some-place_of.place c.self.view_is c.in-Some-place_of.ensures) in
    search (rules, less)

pub end-requires : goal.end-requires
end-requires g c =
    let at = at_place _ c.self.inside.desks.items c.args.self.now c.in-Some-place_of.place c.self.view_is c.in-Some-place_of.ensures in
    sym c.in-Some.ensures ∙ ap Some (sym (its_user g.D.Disk.faults c.in-Some.user c.self.inside.desks.items c.index_mut.result.now c.in-Some-place_of.place at c.index_mut.ensures.value c.self.invariant))

pub invariant_of-self : goal.invariant_of-self
invariant_of-self g c =
    let at = at_place _ c.self.inside.desks.items c.args.self.now c.in-Some-place_of.place c.self.view_is c.in-Some-place_of.ensures in
    are_still g.D.Disk.faults c.in-Some.user c.self.inside.desks.items c.index_mut.result.now c.in-Some-place_of.place at c.index_mut.ensures.value c.end.new.desk c.self.invariant c.end.ensures.user

pub returns-clause-told : goal.returns-clause-told
returns-clause-told g c _ =
    let at = at_place _ c.self.inside.desks.items c.args.self.now c.in-Some-place_of.place c.self.view_is c.in-Some-place_of.ensures in
    subst (λ (all : List (List ℕ × DeskValue g.row.D.Denot)). SessionEnds c.args.session.now.state.who (told_in g.D.Disk.faults all) (told_in g.D.Disk.faults (set c.self.inside.desks.items c.in-Some-place_of.place (c.index_mut.result.now.0, c.end.new.desk)))) c.self.view_is
    (ended_there g.D.Disk.faults c.in-Some.user c.self.inside.desks.items c.index_mut.result.now c.in-Some-place_of.place at c.index_mut.ensures.value c.end.new.desk c.args.session.now.state.who c.in-Some.ensures (c.end.ensures.ends, c.end.ensures.faults))

pub returns-clause-users : goal.returns-clause-users
returns-clause-users g c =
    let at = at_place _ c.self.inside.desks.items c.args.self.now c.in-Some-place_of.place c.self.view_is c.in-Some-place_of.ensures in
    same_users g.D.Disk.faults c.in-Some.user c.self.inside.desks.items c.index_mut.result.now c.in-Some-place_of.place at c.index_mut.ensures.value c.end.new.desk ∙ ap has_desk c.self.view_is
