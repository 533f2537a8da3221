-- The texts of the fields so far are kept.
use Rattle.std.proofs.Common.{length}
use Rattle.pc_message.proofs.Firsts.{AreKept}
use Rattle.pc_message.proofs.descriptor.describe.Given as goal

abbrev pub invariant-loop-field : goal.invariant-loop-field
invariant-loop-field l = AreKept l.lines l.date l.from l.to l.subject l.rest

abbrev pub decreases-loop-field : goal.decreases-loop-field
decreases-loop-field l = length l.rest
