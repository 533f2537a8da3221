-- The bytes so far are shown.
use Rattle.std.proofs.Common.{◌≡◌, map, take}
use Rattle.pc_base.specs.Recipient.{shown_byte}
use Rattle.pc_base.proofs.recipient.Recipient.shown.Given as goal

abbrev pub invariant-loop-byte : goal.invariant-loop-byte
invariant-loop-byte l = l.shown.items ≡ map shown_byte (take l.byte-index l.front)
