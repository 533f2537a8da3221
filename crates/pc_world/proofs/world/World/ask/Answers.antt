use Rattle.std.proofs.Common.{List, OnOk, sym, ap, subst, ◌∙◌}
use Rattle.std.proofs.Math.ListN.{set}
use Rattle.pc_world.specs.Account.{Account}
use Rattle.pc_world.specs.Steps.{Prints, place_in}
use Rattle.pc_world.specs.declared.event.Event.TheVariants.{Ask}
use Rattle.pc_world.proofs.Adding.{Prints-asked}
use Rattle.pc_world.proofs.Users.{no_way}
use Rattle.pc_world.proofs.world.World.ask.Goals as goal

pub returns-clause-ok : goal.returns-clause-ok
returns-clause-ok g c =
    let at = c.in-Some.ensures ∙ ap (place_in c.args.self.now) c.bytes.ensures.value ∙ ap (λ all. place_in all c.args.name.now) (sym c.self.view_is) in
    subst (λ (all : List Account). OnOk c.answer.result (Prints all (Ask c.args.name.now c.args.asked.now) (set c.self.inside.users.items c.in-Some.place c.answer.new.user) (g.T.Transcript.adds c.args.transcript.now) c.answer.new.transcript)) c.self.view_is
    (Prints-asked c.answer.result c.self.inside.users.items c.in-Some.place c.index_mut.result.now c.answer.new.user c.args.name.now c.args.asked.now (g.T.Transcript.adds c.args.transcript.now) c.answer.new.transcript at c.index_mut.ensures.value c.answer.ensures.user c.answer.ensures.prints c.answer.ensures.entry)

pub unreachable-requires : goal.unreachable-requires
unreachable-requires g c = no_way c.args.self.now c.args.name.now (c.in_default.ensures ∙ ap (place_in c.args.self.now) c.bytes.ensures.value) c.requires
