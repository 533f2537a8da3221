use Rattle.pc_session.proofs.Heard.{asks_for}
use Rattle.pc_session.proofs.conversing.request_of.Goals as goal

-- src/conversing.rt:238:1
pub returns-in-Ok-clause-asks : goal.returns-in-Ok-clause-asks
returns-in-Ok-clause-asks c = asks_for c.args.line.now c.in-Ok.request c.if-line.false c.in-Ok.ensures.request (c.requests_have_no_fault.ensures c.in-Ok.request c.args.line.now c.in-Ok.ensures.request) c.one_request_a_line.ensures
