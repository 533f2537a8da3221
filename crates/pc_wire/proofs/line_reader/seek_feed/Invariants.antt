use Rattle.std.proofs.Common.{◌≡◌, ◌+◌, ◌-◌, ◌≤◌, length}
use Rattle.std.specs.Io.KnownBytes.{prepend_known}
use Rattle.pc_wire.specs.Reader.{TakesFront}
use Rattle.pc_wire.specs.Reading.{TakesOpen}
use Rattle.pc_wire.proofs.line_reader.seek_feed.Given as goal

abbrev pub invariant-loop-buffer : goal.invariant-loop-buffer
invariant-loop-buffer g l =
    TakesOpen l.initial.feed.limit l.initial.feed.text l.feed (prepend_known l.initial.buffer (g.S.Source.left l.initial.source)) (prepend_known l.buffer (g.S.Source.left l.source)) × (g.S.Source.faults l.initial.source ≤ g.S.Source.faults l.source) × TakesFront (g.S.Source.left l.initial.source) (g.S.Source.left l.source) × (g.S.Source.beside l.source ≡ g.S.Source.beside l.initial.source)

abbrev pub decreases-loop-buffer : goal.decreases-loop-buffer
decreases-loop-buffer g l = l.feed.limit + 2 - length l.feed.text
