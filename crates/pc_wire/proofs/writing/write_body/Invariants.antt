-- The lines so far are written, and have no LF.
use Rattle.std.proofs.Common.{◌≡◌, ◌≤◌, false, take}
use Rattle.std.specs.List.{flat_map, list_any}
use Rattle.std.specs.Io.KnownBytes.{Appends}
use Rattle.pc_wire.specs.Lines.{has_feed}
use Rattle.pc_wire.specs.Body.{written_content}
use Rattle.pc_wire.proofs.writing.write_body.Given as goal

abbrev pub invariant-loop-line : goal.invariant-loop-line
invariant-loop-line g l = record {
  written : Appends (g.K.Sink.written l.initial.sink) (g.K.Sink.written l.sink) (flat_map written_content (take l.line-index l.line-items));
  without_feed : list_any has_feed (take l.line-index l.line-items) ≡ false;
  beside : g.K.Sink.beside l.sink ≡ g.K.Sink.beside l.initial.sink;
  later : g.K.Sink.faults l.initial.sink ≤ g.K.Sink.faults l.sink;
}
