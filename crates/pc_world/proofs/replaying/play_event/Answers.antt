use Rattle.std.proofs.Common.{◌≡◌, IfOk, Result, subst, sym, ◌∙◌, [], ◌∷◌, ◌++◌}
use Rattle.pc_world.specs.Events.{IsEvent}
use Rattle.pc_world.specs.Runs.{text_of}
use Rattle.pc_world.specs.declared.event.Event.{Event}
use Rattle.pc_world.specs.declared.event.EventFault.{EventFault}
use Rattle.pc_world.proofs.Adding.{Plays-printed}
use Rattle.pc_world.proofs.replaying.play_event.Goals as goal

pub returns : goal.returns
returns c =
    let is = subst (λ (r : Result Event EventFault). IfOk r (λ event. IsEvent (c.args.line.now ∷ []) event)) c.in-Ok.is c.read_event-read.ensures.ok in
    Plays-printed c.play_into.result c.args.world.now c.play_into.new.self c.args.line.now c.in-Ok.event (λ printed text. text.items ≡ c.args.text.now.items ++ text_of printed) c.play_into.new.transcript is c.play_into.ensures.ok (sym c.is_err.ensures.value ∙ c.if-is_err.false)
