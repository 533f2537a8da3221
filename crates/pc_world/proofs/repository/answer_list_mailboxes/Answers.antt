use Rattle.std.proofs.Common.{rules}
use Rattle.pc_request.specs.Fault.{kinds_of}
use Rattle.pc_request.specs.Request.{call_of}
use Rattle.pc_request.specs.declared.operation.Operation.TheVariants as operation
use Rattle.pc_request.specs.declared.request.Request.TheVariants as request
use Rattle.pc_world.specs.Repository.{reply_to_request}
use Rattle.pc_world.specs.declared.event.Asked.TheVariants.{Faulty, Read}
use Rattle.pc_world.proofs.AskedCalls.{IsAsked-read, IsAsked-faulty}
use Rattle.pc_world.proofs.repository.answer_list_mailboxes.Goals as goal

pub returns-in-Ok-clause-asked : goal.returns-in-Ok-clause-asked
unfolding call_of reply_to_request
returns-in-Ok-clause-asked g c =
    let read = rw c.in-Ok.is at c.no_arguments-read.ensures in
    (Read request.ListMailboxes, ((λ text call. IsAsked-read request.ListMailboxes c.args.words.now text read.0 call), c.list_mailboxes.ensures.ok, search rules))

pub returns-in-Err-clause-asked : goal.returns-in-Err-clause-asked
unfolding kinds_of
returns-in-Err-clause-asked g c =
    let faulty = rw c.in-Err.is at c.no_arguments-read.ensures in
    (Faulty c.in-Err.fault, ((λ text call. IsAsked-faulty operation.ListMailboxes c.in-Err.fault c.args.words.now text faulty call), search rules, search rules))
