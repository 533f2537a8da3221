use Rattle.std.proofs.Common.{length, drop, arith, ap, ◌∙◌}
use Rattle.pc_wire.proofs.ReaderLemmas.{slice_range-skip, length-slice_range}
use Rattle.pc_wire.proofs.read_buffer.ReadBuffer.skip.Goals as goal

pub returns : goal.returns
returns c =
    let b = c.self.inside in
    let size = length-slice_range b.bytes.items b.start b.end (omega (arith, b.bytes.ok.0, c.self.invariant.2)) in
    let same = ap length c.self.view_is in
    slice_range-skip b.bytes.items b.start c.args.count b.end (omega (arith, size, same)) ∙ ap (drop c.args.count) c.self.view_is
