use Rattle.std.proofs.Common.{ℕ, List, ap, ◌∙◌, ◌+◌, arith, sym, add-one, take, length}
use Rattle.pc_account_history.specs.declared.kept.Listed.{Listed}
use Rattle.pc_mailbox.specs.UpdateList.{listed_in}
use Rattle.pc_tables.proofs.Totals.{total-more}
use Rattle.pc_mailbox.proofs.update_lists.count_listed.Goals as goal

pub loop-entry-preserved : goal.loop-entry-preserved
loop-entry-preserved c =
    let so_far = listed_in (take c.loop-entry.entry-index c.args.lists.now) in record {
      so_far = rw (c.loop-entry.invariant.so_far, c.count.ensures, add-one)
          (ap (λ (entry : List ℕ × List Listed). so_far + length entry.1) c.entry-item.is ∙ sym (total-more (λ (entry : List ℕ × List Listed). length entry.1) c.args.lists.now c.loop-entry.entry-index c.entry-item.result c.loop-entry-test.true));
      bound = omega (arith, c.count.type_inv, c.loop-entry.invariant.bound);
    }
