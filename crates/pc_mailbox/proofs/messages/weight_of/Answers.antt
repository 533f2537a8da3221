use Rattle.std.proofs.Common.{ap, ◌∙◌, ◌+◌, arith, sym, add-one, take}
use Rattle.pc_message.specs.Message.{weight_of}
use Rattle.pc_account_history.specs.declared.kept.Kept.{Kept}
use Rattle.pc_mailbox.specs.Mailbox.{weight_of_all}
use Rattle.pc_tables.proofs.Totals.{total-more}
use Rattle.pc_mailbox.proofs.messages.weight_of.Goals as goal

pub loop-kept-preserved : goal.loop-kept-preserved
loop-kept-preserved c = let before = weight_of_all (take c.loop-kept.kept-index c.args.messages.now) in record {
  so_far = rw (c.loop-kept.invariant.so_far, c.weight-weight.ensures.weight, add-one)
      (ap (λ (kept : Kept). before + weight_of kept.message) c.kept-item.is ∙ sym (total-more (λ (kept : Kept). weight_of kept.message) c.args.messages.now c.loop-kept.kept-index c.kept-item.result c.loop-kept-test.true));
  bound = omega (arith, c.weight-weight.ensures.bound, c.loop-kept.invariant.bound);
}
