-- The bytes so far are blanks.
use Rattle.std.proofs.Common.{◌≡◌, ◌+◌, drop}
use Rattle.std.specs.List.{prefix_len}
use Rattle.pc_message.specs.Header.{is_blank}
use Rattle.pc_message.proofs.header.trimmed_front.Given as goal

abbrev pub invariant-loop-count : goal.invariant-loop-count
invariant-loop-count l = prefix_len is_blank l.bytes ≡ l.count + prefix_len is_blank (drop l.count l.bytes)
