-- None of the operations so far is the one that the word names.
use Rattle.std.proofs.Common.{◌≡◌, drop}
use Rattle.std.specs.List.{find}
use Rattle.pc_request.specs.Operation.{is_named, operation_named}
use Rattle.pc_request.proofs.operation.Operation.named.Given as goal

abbrev pub invariant-loop-operation : goal.invariant-loop-operation
invariant-loop-operation l = find (λ operation. is_named operation l.word) (drop l.operation-index l.operation-items) ≡ operation_named l.word
