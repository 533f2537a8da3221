-- What is left to add is the addresses of the rest of the header.
use Rattle.std.proofs.Common.{[], length}
use Rattle.pc_message.specs.Recipients.{addresses_of}
use Rattle.pc_message.proofs.Collected.{AreLeft}
use Rattle.pc_message.proofs.addresses.recipients.Given as goal

abbrev pub invariant-loop-field : goal.invariant-loop-field
invariant-loop-field l = AreLeft [] (addresses_of l.message) l.names (addresses_of l.rest)

abbrev pub decreases-loop-field : goal.decreases-loop-field
decreases-loop-field l = length l.rest
