use Rattle.std.proofs.Common.{◌≡◌, map, take}
use Rattle.pc_request.specs.Operation.{operations, word_of}
use Rattle.pc_session.proofs.asking.lines_of_help.Given as goal

abbrev pub invariant-loop-operation : goal.invariant-loop-operation
invariant-loop-operation l = l.lines ≡ map word_of (take l.operation-index operations)
