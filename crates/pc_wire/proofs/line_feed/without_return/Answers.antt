use Rattle.pc_wire.proofs.LineLemmas.{without_return-returned, without_return-other}
use Rattle.pc_wire.proofs.line_feed.without_return.Goals as goal

pub returns-then-last-eq13 : goal.returns-then-last-eq13
returns-then-last-eq13 c =
    without_return-returned c.args.bytes.now c.in-len1-up.len_at_least c.if-last-eq13.true

pub returns-else-last-eq13 : goal.returns-else-last-eq13
returns-else-last-eq13 c = without_return-other c.args.bytes.now c.if-last-eq13.false
