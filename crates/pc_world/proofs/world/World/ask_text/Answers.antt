use Rattle.std.proofs.Common.{List, OnOk, sym, ap, subst, ◌∙◌}
use Rattle.std.proofs.Math.ListN.{set}
use Rattle.pc_world.specs.Account.{Account}
use Rattle.pc_world.specs.Steps.{Prints, place_in}
use Rattle.pc_world.specs.declared.event.Event.TheVariants.{Ask}
use Rattle.pc_world.proofs.Adding.{Prints-asked}
use Rattle.pc_world.proofs.Users.{no_way}
use Rattle.pc_world.proofs.world.World.ask_text.Goals as goal

pub returns-clause-asked : goal.returns-clause-asked
returns-clause-asked g c =
    let told = c.answer_text.ensures.asked in
    let at = c.in-Some.ensures ∙ ap (λ all. place_in all c.args.name.now) (sym c.self.view_is) in (
      told.0,
      (
        told.1.0,
        subst (λ (all : List Account). OnOk c.answer_text.result (Prints all (Ask c.args.name.now told.0) (set c.self.inside.users.items c.in-Some.place c.answer_text.new.user) (g.T.Transcript.adds c.args.transcript.now) c.answer_text.new.transcript)) c.self.view_is
            (Prints-asked c.answer_text.result c.self.inside.users.items c.in-Some.place c.index_mut.result.now c.answer_text.new.user c.args.name.now told.0 (g.T.Transcript.adds c.args.transcript.now) c.answer_text.new.transcript at c.index_mut.ensures.value c.answer_text.ensures.user told.1.1 told.1.2),
      ),
    )

pub unreachable-requires : goal.unreachable-requires
unreachable-requires g c = no_way c.args.self.now c.args.name.now c.in_default.ensures c.requires
