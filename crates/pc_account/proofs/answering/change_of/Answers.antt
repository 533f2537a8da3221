use Rattle.pc_account.proofs.Told.{told-present}
use Rattle.pc_account.proofs.answering.change_of.Goals as goal

pub returns : goal.returns
returns c = told-present c.args.uid c.in-Some.flags c.in-Some-body.message.now c.args.mailbox.now c.in_ok-descriptor.descriptor c.in-Some.ensures.value c.in-Some-body.ensures.value c.in_ok-descriptor.ensures
