use Rattle.std.proofs.Common.{◌≡◌, length, sym, ◌∙◌, arith}
use Rattle.pc_wire.proofs.ReaderLemmas.{Fills-read, slice_range-none, take-over}
use Rattle.pc_wire.proofs.read_buffer.ReadBuffer.fill.Goals as goal

pub returns-clause-bytes : goal.returns-clause-bytes
returns-clause-bytes g c =
    let b = c.self.inside in
    let e = c.in-Ok.ensures {u = tt} in
    let none = sym c.self.view_is ∙ slice_range-none b.bytes.items b.start b.end c.if-self.false in
    let into = c.read.new.into in
    let size : length into ≡ b.bytes.len = omega (arith, b.bytes.ok.0, c.read.auto.into) in
    rw (take-over into b.bytes.items b.bytes.len size) (Fills-read (g.S.Source.left c.args.source.now) (g.S.Source.left c.read.new.self) c.args.self.now into c.in-Ok.count none e.bound.0 (omega arith) e.bytes)
