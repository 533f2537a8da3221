-- The last `<` outside quotes among the bytes so far.
use Rattle.pc_message.proofs.Openings.{IsLast}
use Rattle.pc_message.proofs.addresses.opening_end.Given as goal

abbrev pub invariant-loop-place : goal.invariant-loop-place
invariant-loop-place l = IsLast l.item l.place l.quoted l.start
