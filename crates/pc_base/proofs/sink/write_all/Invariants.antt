-- What is written so far and what is left to write are the bytes, and what lies beside them stays.
use Rattle.std.proofs.Common.{◌≡◌, ◌≤◌, length}
use Rattle.pc_base.proofs.Writes.{IsPartWritten}
use Rattle.pc_base.proofs.sink.write_all.Given as goal

abbrev pub invariant-loop-rest : goal.invariant-loop-rest
invariant-loop-rest g l =
    IsPartWritten (g.K.Sink.written l.initial.sink) (g.K.Sink.written l.sink) l.bytes l.rest × (g.K.Sink.faults l.initial.sink ≤ g.K.Sink.faults l.sink) × (g.K.Sink.beside l.sink ≡ g.K.Sink.beside l.initial.sink)

abbrev pub decreases-loop-rest : goal.decreases-loop-rest
decreases-loop-rest g l = length l.rest
