use Rattle.std.proofs.Common.{rules, ℕ, List, sym, ap, subst, ◌∙◌}
use Rattle.std.proofs.Math.ListN.{set}
use Rattle.pc_session.specs.Desks.{Asked, AskedSomewhere}
use Rattle.pc_session.specs.declared.state.Reach.{Reach}
use Rattle.pc_house.specs.Asking.{ReachesOnly}
use Rattle.pc_house.specs.Desk.{DeskValue}
use Rattle.pc_house.specs.Single.{has_desk, told_in}
use Rattle.pc_house.proofs.Singles.{are_still, asked_absent, asked_alone, asked_there, at_place, its_user, same_users, somewhere, within}
use Rattle.pc_house.proofs.single.SingleRepository.ask.Goals as goal

pub returns-in_default-clause-asked : goal.returns-in_default-clause-asked
returns-in_default-clause-asked g c = somewhere g.D.Disk.faults g.D.Disk.tells c.args.request.now c.args.session.now c.alone.result c.alone.new.self c.args.self.now c.args.self.now (asked_alone g.D.Disk.faults c.args.self.now g.D.Disk.tells c.args.request.now c.args.session.now c.alone.result c.alone.new.self c.in_default.ensures c.alone.ensures.reply c.alone.ensures.heard c.alone.ensures.keeps)

pub returns-in_default-place_of-clause-asked : goal.returns-in_default-place_of-clause-asked
returns-in_default-place_of-clause-asked g c = somewhere g.D.Disk.faults g.D.Disk.tells c.args.request.now c.args.session.now c.no_desk.result c.no_desk.new.self c.args.self.now c.args.self.now (asked_absent g.D.Disk.faults c.args.self.now g.D.Disk.tells c.args.request.now c.args.session.now c.no_desk.result c.no_desk.new.self c.in-Account.user c.in-Account.ensures c.in_default-place_of.ensures c.no_desk.ensures.reply c.no_desk.ensures.same)

pub returns-in_default-place_of-clause-told : goal.returns-in_default-place_of-clause-told
returns-in_default-place_of-clause-told g c _ = asked_absent g.D.Disk.faults c.args.self.now g.D.Disk.tells c.args.request.now c.args.session.now c.no_desk.result c.no_desk.new.self c.in-Account.user c.in-Account.ensures c.in_default-place_of.ensures c.no_desk.ensures.reply c.no_desk.ensures.same

pub index_mut-requires : goal.index_mut-requires
index_mut-requires g c =
    let less = within _ c.self.inside.desks.items c.in-Some.place (at_place _ c.self.inside.desks.items c.args.self.now c.in-Some.place c.self.view_is c.in-Some.ensures) in
    search (rules, less)

pub ask-requires-clause-reach : goal.ask-requires-clause-reach
ask-requires-clause-reach g c =
    let at = at_place _ c.self.inside.desks.items c.args.self.now c.in-Some.place c.self.view_is c.in-Some.ensures in
    subst (λ (r : Reach). ReachesOnly c.index_mut.result.now.1.user r) c.in-Account.ensures (sym (its_user g.D.Disk.faults c.in-Account.user c.self.inside.desks.items c.index_mut.result.now c.in-Some.place at c.index_mut.ensures.value c.self.invariant))

pub invariant_of-self : goal.invariant_of-self
invariant_of-self g c =
    let at = at_place _ c.self.inside.desks.items c.args.self.now c.in-Some.place c.self.view_is c.in-Some.ensures in
    are_still g.D.Disk.faults c.in-Account.user c.self.inside.desks.items c.index_mut.result.now c.in-Some.place at c.index_mut.ensures.value c.ask.new.self c.self.invariant c.ask.ensures.user

pub returns-clause-asked : goal.returns-clause-asked
returns-clause-asked g c =
    let at = at_place _ c.self.inside.desks.items c.args.self.now c.in-Some.place c.self.view_is c.in-Some.ensures in
    subst (λ (all : List (List ℕ × DeskValue g.row.D.Denot)). AskedSomewhere g.D.Disk.tells (has_desk all) c.args.request.now c.args.session.now c.ask.result c.ask.new.session) c.self.view_is
    (somewhere g.D.Disk.faults g.D.Disk.tells c.args.request.now c.args.session.now c.ask.result c.ask.new.session c.self.inside.desks.items _ (asked_there g.D.Disk.faults c.in-Account.user c.self.inside.desks.items c.index_mut.result.now c.in-Some.place at c.index_mut.ensures.value c.ask.new.self g.D.Disk.tells c.args.request.now c.args.session.now c.ask.result c.ask.new.session c.self.invariant c.in-Account.ensures c.ask.ensures.asked c.ask.ensures.heard))

pub returns-clause-told : goal.returns-clause-told
returns-clause-told g c _ =
    let at = at_place _ c.self.inside.desks.items c.args.self.now c.in-Some.place c.self.view_is c.in-Some.ensures in
    subst (λ (all : List (List ℕ × DeskValue g.row.D.Denot)). Asked g.D.Disk.tells c.args.request.now (told_in g.D.Disk.faults all) c.args.session.now c.ask.result (told_in g.D.Disk.faults (set c.self.inside.desks.items c.in-Some.place (c.index_mut.result.now.0, c.ask.new.self))) c.ask.new.session) c.self.view_is
    (asked_there g.D.Disk.faults c.in-Account.user c.self.inside.desks.items c.index_mut.result.now c.in-Some.place at c.index_mut.ensures.value c.ask.new.self g.D.Disk.tells c.args.request.now c.args.session.now c.ask.result c.ask.new.session c.self.invariant c.in-Account.ensures c.ask.ensures.asked c.ask.ensures.heard)

pub returns-clause-users : goal.returns-clause-users
returns-clause-users g c =
    let at = at_place _ c.self.inside.desks.items c.args.self.now c.in-Some.place c.self.view_is c.in-Some.ensures in
    same_users g.D.Disk.faults c.in-Account.user c.self.inside.desks.items c.index_mut.result.now c.in-Some.place at c.index_mut.ensures.value c.ask.new.self ∙ ap has_desk c.self.view_is
