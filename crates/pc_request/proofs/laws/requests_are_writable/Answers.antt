use Rattle.pc_request.proofs.Grammar.{IsWritable-request}
use Rattle.pc_request.proofs.laws.requests_are_writable.Goals as goal

pub returns : goal.returns
returns c = IsWritable-request
