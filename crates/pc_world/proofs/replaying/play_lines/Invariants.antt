-- The lines so far were played, and what they print is written but for the text.
use Rattle.std.proofs.Common.{◌≡◌, ◌≤◌}
use Rattle.pc_wire.specs.Reader.{no_line, unread}
use Rattle.pc_world.proofs.Playing.{IsPlayed}
use Rattle.pc_world.proofs.replaying.play_lines.Given as goal

abbrev pub invariant-loop-number : goal.invariant-loop-number
invariant-loop-number g l = record {
  played : IsPlayed (g.S.Source.left l.initial.input) (unread l.lines (g.S.Source.left l.input)) (g.K.Sink.written l.initial.output) (g.K.Sink.written l.output) l.world l.text.items l.number;
  waits : l.lines.waits ≡ no_line;
  limit : l.lines.limit ≡ 1000;
  input_count : g.S.Source.faults l.initial.input ≤ g.S.Source.faults l.input;
  output_count : g.K.Sink.faults l.initial.output ≤ g.K.Sink.faults l.output;
}
