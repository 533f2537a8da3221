-- The lines so far aren't empty.
use Rattle.std.proofs.Common.{◌≡◌, ◌+◌, ◌==◌, drop, length}
use Rattle.std.specs.List.{position_or_len}
use Rattle.pc_message.proofs.header.header_count.Given as goal

abbrev pub invariant-loop-count : goal.invariant-loop-count
invariant-loop-count l = position_or_len (λ line. length line == 0) l.lines ≡ l.count + position_or_len (λ line. length line == 0) (drop l.count l.lines)
