use Rattle.std.proofs.Common.{◌≡◌, true, false, None, sym, ◌∙◌}
use Rattle.std.proofs.lemmas.List.{at_drop_all}
use Rattle.std.specs.List.{find}
use Rattle.pc_request.specs.Operation.{is_named, operation_named}
use Rattle.pc_request.specs.declared.operation.Operation.TheVariants.{SendVersion}
use Rattle.pc_request.proofs.OperationLemmas.{operation_named-is, find_more, find_here, is_named-is}
use Rattle.pc_request.proofs.operation.Operation.named.Goals as goal

pub loop-operation-preserved : goal.loop-operation-preserved
loop-operation-preserved c =
    let fails : is_named _ c.args.word.now ≡ false = is_named-is _ c.args.word.now c.word.result.now c.is_spelled.result c.word.ensures.value c.is_spelled.ensures.same ∙ c.if-is_spelled.false in
    find_more (λ operation. is_named operation c.args.word.now) c.all-operation-items.result.now c.loop-operation.operation-index SendVersion c.loop-operation-test.true fails
    ∙ c.loop-operation.invariant

pub returns-then-is_spelled-clause-value : goal.returns-then-is_spelled-clause-value
returns-then-is_spelled-clause-value c =
    let passes : is_named _ c.args.word.now ≡ true = is_named-is _ c.args.word.now c.word.result.now c.is_spelled.result c.word.ensures.value c.is_spelled.ensures.same ∙ c.if-is_spelled.true in
    sym (find_here (λ operation. is_named operation c.args.word.now) c.all-operation-items.result.now c.loop-operation.operation-index SendVersion c.loop-operation-test.true passes)
    ∙ c.loop-operation.invariant

nothing : (c : goal.After-loop-operation) → None ≡ operation_named c.args.word.now
nothing c =
    sym (at_drop_all (find (λ operation. is_named operation c.args.word.now)) c.all-operation-items.result.now c.loop-operation.operation-index c.loop-operation-test.false)
    ∙ c.loop-operation.invariant

pub returns-clause-value : goal.returns-clause-value
returns-clause-value c = nothing c

pub returns-clause-unknown : goal.returns-clause-unknown
returns-clause-unknown c = λ operation named.
    let found = operation_named-is operation c.args.word.now named in
    let over = nothing c in
    cc

pub returns-in-Some-clause-value : goal.returns-in-Some-clause-value
returns-in-Some-clause-value c = sym (operation_named-is c.in-Some.operation c.args.word.now c.in-Some.ensures)
