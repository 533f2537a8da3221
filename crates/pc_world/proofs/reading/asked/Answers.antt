use Rattle.std.proofs.Common.{Ok, Err}
use Rattle.pc_world.proofs.Asking.{asked_once}
use Rattle.pc_world.proofs.reading.asked.Goals as goal

pub returns-in-Ok-clause-only : goal.returns-in-Ok-clause-only
returns-in-Ok-clause-only c =
    asked_once c.args.text.now (Ok c.in-Ok.request) c.if-text-gt-MOST_REQUEST.false c.in-Ok.ensures.every_request c.in-Ok.ensures.every_fault

pub returns-in-Err-clause-only : goal.returns-in-Err-clause-only
returns-in-Err-clause-only c =
    asked_once c.args.text.now (Err c.in-Err.fault) c.if-text-gt-MOST_REQUEST.false c.in-Err.ensures.every_request c.in-Err.ensures.every_fault
