-- No comma outside quotes stands in front.
use Rattle.pc_message.proofs.Items.{IsFront}
use Rattle.pc_message.proofs.addresses.item_end.Given as goal

abbrev pub invariant-loop-end : goal.invariant-loop-end
invariant-loop-end l = IsFront l.text l.end l.quoted
