use Rattle.pc_request.proofs.Grammar.{IsRequest-unique}
use Rattle.pc_request.proofs.laws.one_request_a_line.Goals as goal

pub returns : goal.returns
returns c = IsRequest-unique
