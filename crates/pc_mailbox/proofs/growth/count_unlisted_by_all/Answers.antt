use Rattle.std.proofs.Common.{ap, ◌∙◌, ◌+◌, arith, sym, add-one, take, ℕ, List}
use Rattle.pc_account_history.specs.declared.kept.Listed.{Listed}
use Rattle.pc_mailbox.specs.Growth.{unlisted, unlisted_by_all}
use Rattle.pc_tables.proofs.Totals.{total-more}
use Rattle.pc_mailbox.proofs.growth.count_unlisted_by_all.Goals as goal

pub loop-entry-preserved : goal.loop-entry-preserved
loop-entry-preserved c =
    let more = λ (entry : List ℕ × List Listed). unlisted c.args.deleted_only c.args.messages.now entry.1 in
    let before = unlisted_by_all c.args.deleted_only c.args.messages.now (take c.loop-entry.entry-index c.args.lists.now) in record {
      so_far = rw (c.loop-entry.invariant.so_far, c.count_unlisted.ensures.unlisted, add-one)
          (ap (λ (entry : List ℕ × List Listed). before + unlisted c.args.deleted_only c.args.messages.now entry.1) c.entry-item.is ∙ sym (total-more more c.args.lists.now c.loop-entry.entry-index c.entry-item.result c.loop-entry-test.true));
      bound = omega (arith, c.count_unlisted.ensures.bound, c.requires.messages, c.loop-entry.invariant.bound);
    }
