use Rattle.std.proofs.Common.{true≢false, sym, ◌∙◌, refl, List, ℕ}
use Rattle.pc_account_history.specs.declared.kept.Listed.{Listed}
use Rattle.pc_mailbox.specs.UpdateList.{are_on, touched_entry}
use Rattle.pc_mailbox.proofs.Admitted.{back-end, restored, finished, still-on, all-set, on-err, on-ok, not-both}
use Rattle.pc_mailbox.proofs.update_lists.+touch_from.Goals as goal

pub returns-then-place-lists-clause-ok : goal.returns-then-place-lists-clause-ok
returns-then-place-lists-clause-ok n c = sym (back-end (touched_entry c.args.at c.args.uids.now) c.args.lists.now c.args.place c.if-place-lists.true)

pub returns-then-is_err-clause-err : goal.returns-then-is_err-clause-err
returns-then-is_err-clause-err n c = restored c.args.lists.now _ c.args.place c.args.uids.now c.index-lists-place-2.result c.admit.new.list c.if-place-lists.false c.admit.ensures.grown c.index-lists-place.result c.index-lists-place-then-is_err.result c.count-count.result c.cut.new.self refl c.count-count.ensures c.cut.ensures

pub returns-then-is_err-2-clause-err : goal.returns-then-is_err-2-clause-err
returns-then-is_err-2-clause-err n c =
    let failed = on-err c.touch_from.result _ (sym c.is_err-2.ensures.value ∙ c.if-is_err-2.true) c.touch_from.ensures.err in
    restored c.args.lists.now c.touch_from.new.lists c.args.place c.args.uids.now c.index-lists-place-2.result c.admit.new.list c.if-place-lists.false c.admit.ensures.grown c.index-lists-place.result c.index-lists-place-then-is_err-2.result c.count-count.result c.cut-then-is_err-2.new.self failed c.count-count.ensures c.cut-then-is_err-2.ensures

pub returns-then-is_err-2-clause-spare : goal.returns-then-is_err-2-clause-spare
returns-then-is_err-2-clause-spare n c = λ all.
    let on = on-ok c.admit.result _ (sym c.is_err.ensures.value ∙ c.if-is_err.false) c.admit.ensures.ok in
    not-both c.touch_from.result (sym c.is_err-2.ensures.value ∙ c.if-is_err-2.true) (c.touch_from.ensures.spare (all-set (λ (entry : List ℕ × List Listed). are_on c.args.uids.now entry.1) c.args.lists.now c.args.place _ all on))

pub returns-in_err-touch_all-clause-err : goal.returns-in_err-touch_all-clause-err
returns-in_err-touch_all-clause-err n c =
    let on = on-ok c.admit.result _ (sym c.is_err.ensures.value ∙ c.if-is_err.false) c.admit.ensures.ok in
    let done = on-ok c.touch_from.result _ (sym c.is_err-2.ensures.value ∙ c.if-is_err-2.false) c.touch_from.ensures.ok in
    absurd (true≢false (sym (c.in_err-touch_all.ensures.spare (still-on c.args.lists.now c.touch_from.new.lists c.args.place c.args.uids.now c.index-lists-place-2.result c.admit.new.list c.if-place-lists.false c.admit.ensures.grown c.args.at c.index-lists-place-3.result done on))))

pub returns-in_err-touch_all-clause-spare : goal.returns-in_err-touch_all-clause-spare
returns-in_err-touch_all-clause-spare n c =
    let on = on-ok c.admit.result _ (sym c.is_err.ensures.value ∙ c.if-is_err.false) c.admit.ensures.ok in
    let done = on-ok c.touch_from.result _ (sym c.is_err-2.ensures.value ∙ c.if-is_err-2.false) c.touch_from.ensures.ok in
    absurd (true≢false (sym (c.in_err-touch_all.ensures.spare (still-on c.args.lists.now c.touch_from.new.lists c.args.place c.args.uids.now c.index-lists-place-2.result c.admit.new.list c.if-place-lists.false c.admit.ensures.grown c.args.at c.index-lists-place-3.result done on))))

pub returns-clause-ok : goal.returns-clause-ok
returns-clause-ok n c =
    let done = on-ok c.touch_from.result _ (sym c.is_err-2.ensures.value ∙ c.if-is_err-2.false) c.touch_from.ensures.ok in
    finished c.args.lists.now c.touch_from.new.lists c.args.place c.args.uids.now c.index-lists-place-2.result c.admit.new.list c.if-place-lists.false c.admit.ensures.grown c.args.at c.index-lists-place-3.result c.touch_all.new.list done c.in_ok-touch_all.ensures.ok
