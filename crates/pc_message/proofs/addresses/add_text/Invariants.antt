-- What is left to add is the addresses of the rest of the text.
use Rattle.std.proofs.Common.{length}
use Rattle.pc_message.specs.Recipients.{text_addresses}
use Rattle.pc_message.proofs.Collected.{AreLeft}
use Rattle.pc_message.proofs.addresses.add_text.Given as goal

abbrev pub invariant-items : goal.invariant-items
invariant-items l = AreLeft l.initial.names (text_addresses l.text) l.names (text_addresses l.rest)

abbrev pub decreases-items : goal.decreases-items
decreases-items l = length l.rest
