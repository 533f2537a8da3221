use Rattle.std.proofs.Common.{◌∙◌, sym, refl}
use Rattle.pc_message.proofs.Items.{IsFront-none, IsFront-more, items_of-split, items_of-whole}
use Rattle.pc_message.proofs.addresses.item_end.Goals as goal

pub loop-end-init : goal.loop-end-init
loop-end-init c = IsFront-none c.args.text.now

pub loop-end-preserved : goal.loop-end-preserved
loop-end-preserved c =
    rw c.quoted_after-quoted.ensures (IsFront-more c.args.text.now c.loop-end.end _ c.loop-end.quoted c.loop-end-test.true refl (sym c.is_unquoted.ensures ∙ c.if-is_unquoted.false) c.loop-end.invariant)

pub returns-then-is_unquoted-clause-split : goal.returns-then-is_unquoted-clause-split
returns-then-is_unquoted-clause-split c =
    items_of-split c.args.text.now c.loop-end.end _ c.loop-end.quoted c.loop-end-test.true refl (sym c.is_unquoted.ensures ∙ c.if-is_unquoted.true) c.loop-end.invariant

pub returns-clause-split : goal.returns-clause-split
returns-clause-split c =
    items_of-whole c.args.text.now c.loop-end.end c.loop-end.quoted c.loop-end-test.false c.loop-end.invariant
