use Rattle.std.proofs.Common.{not, nat_le, length, arith, ap}
use Rattle.std.proofs.lemmas.Bool.{and_parts, leb-true}
use Rattle.pc_base.specs.Line.{has_feed}
use Rattle.pc_cache.proofs.room.length_of.Goals as goal

pub returns-clause-bound : goal.returns-clause-bound
returns-clause-bound c =
    let line = c.args.line.now in
    let short = leb-true (length line) 1000 (and_parts (nat_le (length line) 1000) (not (has_feed line)) c.bytes.ensures.line).0 in
    omega (arith, short, ap length c.bytes.ensures.value)
