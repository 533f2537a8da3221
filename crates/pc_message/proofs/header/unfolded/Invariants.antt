-- The text has the folded lines so far, and no LF.
use Rattle.std.proofs.Common.{◌≡◌, ◌++◌, ◌==◌, false, take}
use Rattle.std.specs.List.{after_first, concat}
use Rattle.pc_base.specs.Line.{has_feed}
use Rattle.pc_message.proofs.header.unfolded.Given as goal

abbrev pub invariant-loop-line : goal.invariant-loop-line
invariant-loop-line l = (l.text.items ≡ after_first (λ byte. byte == 58) l.field.line.now ++ concat (take l.line-index l.field.folded.now)) × (has_feed l.text.items ≡ false)
