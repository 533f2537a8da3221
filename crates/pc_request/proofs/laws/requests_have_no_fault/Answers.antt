use Rattle.pc_request.proofs.Grammar.{fault_of-request}
use Rattle.pc_request.proofs.laws.requests_have_no_fault.Goals as goal

pub returns : goal.returns
returns c = fault_of-request
