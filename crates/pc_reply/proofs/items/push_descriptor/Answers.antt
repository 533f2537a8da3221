use Rattle.std.proofs.Common.{[], ◌∷◌, ◌++◌, ap, ◌∙◌}
use Rattle.std.proofs.lemmas.Result.{on_err_weaker}
use Rattle.pc_reply.specs.Items.{descriptor_lines}
use Rattle.pc_reply.proofs.PushLemmas.{two_added, three_added, four_added, stops_behind}
use Rattle.pc_reply.proofs.items.push_descriptor.Goals as goal

pub returns-in_err-push_copy-2-clause-err : goal.returns-in_err-push_copy-2-clause-err
returns-in_err-push_copy-2-clause-err c =
    let old = c.args.lines.now in
    let first = c.in_ok-push_text.ensures.ok ∙ ap (λ text. old ++ text ∷ []) c.counts_text-first.ensures in
    let two = two_added old _ _ _ _ first c.in_ok-push_copy.ensures.ok in
    stops_behind c.from_residual-in_err-push_copy-2.result 2 old _ (descriptor_lines c.args.descriptor.now) (c.in_err-push_copy-2.ensures.err ∙ two)

pub returns-in_err-push_copy-3-clause-err : goal.returns-in_err-push_copy-3-clause-err
returns-in_err-push_copy-3-clause-err c =
    let old = c.args.lines.now in
    let first = c.in_ok-push_text.ensures.ok ∙ ap (λ text. old ++ text ∷ []) c.counts_text-first.ensures in
    let three = three_added old _ _ _ _ _ _ first c.in_ok-push_copy.ensures.ok c.in_ok-push_copy-2.ensures.ok in
    stops_behind c.from_residual-in_err-push_copy-3.result 3 old _ (descriptor_lines c.args.descriptor.now) (c.in_err-push_copy-3.ensures.err ∙ three)

pub returns-clause-err : goal.returns-clause-err
returns-clause-err c =
    let old = c.args.lines.now in
    let first = c.in_ok-push_text.ensures.ok ∙ ap (λ text. old ++ text ∷ []) c.counts_text-first.ensures in
    let four = four_added old _ _ _ _ _ _ _ _ first c.in_ok-push_copy.ensures.ok c.in_ok-push_copy-2.ensures.ok c.in_ok-push_copy-3.ensures.ok in
    on_err_weaker c.push_copy-4.result (λ same. (4, same ∙ four)) c.push_copy-4.ensures.err
