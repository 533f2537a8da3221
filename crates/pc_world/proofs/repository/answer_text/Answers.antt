use Rattle.std.proofs.Common.{rules}
use Rattle.pc_request.specs.declared.request.RequestFault.TheVariants.{Unknown}
use Rattle.pc_world.specs.declared.event.Asked.TheVariants.{Faulty}
use Rattle.pc_world.proofs.AskedCalls.{IsCall-create}
use Rattle.pc_world.proofs.repository.answer_text.Goals as goal

pub returns-in-Some-clause-asked : goal.returns-in-Some-clause-asked
returns-in-Some-clause-asked g c =
    let told = c.answer_create_mailbox.ensures.asked in
    (told.0, (told.1.0 c.args.text.now (IsCall-create c.args.text.now c.in-Some.words.now c.if-text-gt-MOST_REQUEST.false c.in-Some.ensures), told.1.1, told.1.2))

pub returns-in_default-called-clause-asked : goal.returns-in_default-called-clause-asked
returns-in_default-called-clause-asked g c =
    (Faulty Unknown, ((c.if-text-gt-MOST_REQUEST.false, c.in_default-called.ensures {u = tt}), search rules, search rules))
