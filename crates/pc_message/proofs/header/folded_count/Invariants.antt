-- The lines so far are folded.
use Rattle.std.proofs.Common.{◌≡◌, ◌+◌, drop}
use Rattle.std.specs.List.{prefix_len}
use Rattle.pc_message.specs.Header.{is_folded}
use Rattle.pc_message.proofs.header.folded_count.Given as goal

abbrev pub invariant-loop-count : goal.invariant-loop-count
invariant-loop-count l = prefix_len is_folded l.lines ≡ l.count + prefix_len is_folded (drop l.count l.lines)
