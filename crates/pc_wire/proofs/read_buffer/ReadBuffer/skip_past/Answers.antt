use Rattle.std.proofs.Common.{◌+◌, length, drop, slice_range, add_assoc, arith, ap, ◌∙◌}
use Rattle.pc_wire.proofs.ReaderLemmas.{slice_range-skip, length-slice_range}
use Rattle.pc_wire.proofs.read_buffer.ReadBuffer.skip_past.Goals as goal

pub returns : goal.returns
returns c =
    let b = c.self.inside in
    let size = length-slice_range b.bytes.items b.start b.end (omega (arith, b.bytes.ok.0, c.self.invariant.2)) in
    let same = ap length c.self.view_is in
    ap (λ start. slice_range b.bytes.items start b.end) (add_assoc b.start c.args.place 1)
    ∙ slice_range-skip b.bytes.items b.start (c.args.place + 1) b.end (omega (arith, size, same))
    ∙ ap (drop (c.args.place + 1)) c.self.view_is
