use Rattle.std.proofs.Common.{ℕ, ◌<◌, ◌≤◌, length, get_or, []}
use Rattle.pc_reply.proofs.reading.short_texts.Given as goal

abbrev pub invariant-loop-place : goal.invariant-loop-place
invariant-loop-place l = (k : ℕ) → k < l.place → length (get_or l.front k []) ≤ 128
