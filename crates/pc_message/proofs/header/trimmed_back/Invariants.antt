-- The bytes from the count on are blanks.
use Rattle.std.proofs.Common.{◌≡◌, ◌+◌, ◌≤◌, length, take}
use Rattle.std.specs.List.{suffix_len}
use Rattle.pc_message.specs.Header.{is_blank}
use Rattle.pc_message.proofs.header.trimmed_back.Given as goal

abbrev pub invariant-loop-count : goal.invariant-loop-count
invariant-loop-count l = (l.count ≤ length l.bytes) × (l.count + suffix_len is_blank l.bytes ≡ length l.bytes + suffix_len is_blank (take l.count l.bytes))

abbrev pub decreases-loop-count : goal.decreases-loop-count
decreases-loop-count l = l.count
