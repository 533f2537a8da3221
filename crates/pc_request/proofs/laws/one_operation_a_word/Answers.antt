use Rattle.pc_request.proofs.OperationLemmas.{one_operation_named}
use Rattle.pc_request.proofs.laws.one_operation_a_word.Goals as goal

pub returns : goal.returns
returns c = one_operation_named
