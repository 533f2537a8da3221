use Rattle.std.proofs.Common.{◌≡◌, ◌+◌, ap, refl, Ok, arith}
use Rattle.pc_wire.proofs.ReaderLemmas.{TakesFront-none}
use Rattle.pc_wire.specs.Reader.{ReaderState}
use Rattle.pc_world.specs.Runs.{most_lines}
use Rattle.pc_world.specs.declared.replaying.ReplayEnd.TheVariants.{Done, Refused, ReadFault, Memory}
use Rattle.pc_world.proofs.Playing.{IsPlayed-start, IsPlayed-count, IsPlayed-more, IsPlayed-passed, Finishes-text, Ends-done, Ends-refused, Ends-read_fault, Ends-memory, Ends-write_fault, StopsAt-stops, StopsAt-past, StopsAt-overlong}
use Rattle.pc_world.proofs.replaying.play_lines.Goals as goal

pub loop-number-init : goal.loop-number-init
loop-number-init g c = record {
  played = IsPlayed-start _ _ c.args.lines.now c.args.world.now c.args.text.now.items c.requires.lines c.requires.world c.requires.text;
  waits = ap (λ (state : ReaderState). state.waits) c.requires.lines;
  limit = ap (λ (state : ReaderState). state.limit) c.requires.lines;
  input_count = omega arith;
  output_count = omega arith;
}

pub returns-in-Ended-clause-ends : goal.returns-in-Ended-clause-ends
returns-in-Ended-clause-ends g c =
    let faults = g.K.Sink.faults c.loop-number.output in
    let faults' = g.K.Sink.faults c.finish.new.output in
    let finished = Finishes-text (g.K.Sink.written c.loop-number.output) (g.K.Sink.written c.finish.new.output) faults faults' c.play_next.new.text.items c.loop-number.text.items Done c.finish.result c.in-Ended.ensures.turn.1 c.finish.ensures.end in
    Ends-done _ c.loop-number.lines.ahead _ _ _ _ _ c.play_next.new.lines.ahead _ _ c.loop-number.number faults faults' _ c.loop-number.invariant.played c.in-Ended.ensures.front c.in-Ended.ensures.turn.0 finished

pub returns-in-Refused-clause-ends : goal.returns-in-Refused-clause-ends
returns-in-Refused-clause-ends g c =
    let faults = g.K.Sink.faults c.loop-number.output in
    let faults' = g.K.Sink.faults c.finish-in-Refused.new.output in
    let finished = Finishes-text (g.K.Sink.written c.loop-number.output) (g.K.Sink.written c.finish-in-Refused.new.output) faults faults' c.play_next.new.text.items c.loop-number.text.items (Refused (c.loop-number.number + 1)) c.finish-in-Refused.result c.in-Refused.ensures.turn.1 c.finish-in-Refused.ensures.end in
    Ends-refused _ c.loop-number.lines.ahead _ _ _ _ _ _ _ c.loop-number.number faults faults' _ c.loop-number.invariant.played c.in-Refused.ensures.front (StopsAt-stops _ _ _ c.in-Refused.ensures.turn.0) finished

pub returns-in-ReadFault-clause-ends : goal.returns-in-ReadFault-clause-ends
returns-in-ReadFault-clause-ends g c =
    let faults = g.K.Sink.faults c.loop-number.output in
    let faults' = g.K.Sink.faults c.finish-in-ReadFault.new.output in
    let finished = Finishes-text (g.K.Sink.written c.loop-number.output) (g.K.Sink.written c.finish-in-ReadFault.new.output) faults faults' c.play_next.new.text.items c.loop-number.text.items ReadFault c.finish-in-ReadFault.result c.in-ReadFault.ensures.turn c.finish-in-ReadFault.ensures.end in
    Ends-read_fault _ c.loop-number.lines.ahead _ _ _ _ _ _ _ c.loop-number.number faults faults' _ c.loop-number.invariant.played c.in-ReadFault.ensures.front finished

pub returns-in-Memory-clause-ends : goal.returns-in-Memory-clause-ends
returns-in-Memory-clause-ends g c =
    let faults = g.K.Sink.faults c.loop-number.output in
    let faults' = g.K.Sink.faults c.finish-in-Memory.new.output in
    let finished = Finishes-text (g.K.Sink.written c.loop-number.output) (g.K.Sink.written c.finish-in-Memory.new.output) faults faults' c.play_next.new.text.items c.loop-number.text.items Memory c.finish-in-Memory.result c.in-Memory.ensures.turn c.finish-in-Memory.ensures.end in
    Ends-memory _ c.loop-number.lines.ahead _ _ _ _ _ _ _ c.loop-number.number faults faults' _ c.loop-number.invariant.played c.in-Memory.ensures.front finished

pub returns-in_default-clause-ends : goal.returns-in_default-clause-ends
returns-in_default-clause-ends g c =
    let turn = c.in-Played.ensures.turn in
    let played = IsPlayed-more _ _ _ _ _ _ c.play_next.new.world _ c.play_next.new.text.items c.loop-number.number turn.0 turn.1.1.0 (omega arith) c.loop-number.invariant.played turn.1.0 turn.1.1.1.0 turn.1.1.1.1 in
    Ends-write_fault _ c.play_next.new.lines.ahead (g.S.Source.left c.play_next.new.input) _ _ _ _ _ _ _ played (TakesFront-none _) c.in_default.ensures.content

pub loop-number-preserved : goal.loop-number-preserved
loop-number-preserved g c =
    let turn = c.in-Played.ensures.turn in
    let played = IsPlayed-more _ _ _ _ _ _ c.play_next.new.world _ c.play_next.new.text.items c.loop-number.number turn.0 turn.1.1.0 (omega arith) c.loop-number.invariant.played turn.1.0 turn.1.1.1.0 turn.1.1.1.1 in
    record {
      played = IsPlayed-passed _ _ _ _ _ _ _ c.send_full.new.text.items _ (Ok c.in-Ok.field-0) played refl c.in-Ok.ensures.content;
      waits = c.in-Played.ensures.waits;
      limit = c.in-Played.ensures.limit;
      input_count = omega (arith, c.loop-number.invariant.input_count, c.in-Played.ensures.count);
      output_count = omega (arith, c.loop-number.invariant.output_count, c.in-Ok.ensures.cause.later);
    }

pub returns-in-Ok-End-clause-ends : goal.returns-in-Ok-End-clause-ends
returns-in-Ok-End-clause-ends g c =
    let fetched = rw c.in-Ok-End.field-0-is at c.in-Ok-End.ensures.lines in
    Ends-done _ c.loop-number.lines.ahead _ _ _ _ _ c.fetch.new.self.ahead _ _ c.loop-number.number (g.K.Sink.faults c.loop-number.output) (g.K.Sink.faults c.finish-in-Ok-End.new.output) _ c.loop-number.invariant.played c.in-Ok-End.ensures.front fetched.2 c.finish-in-Ok-End.ensures.end

pub returns-in-Err-clause-ends : goal.returns-in-Err-clause-ends
returns-in-Err-clause-ends g c =
    Ends-read_fault _ c.loop-number.lines.ahead _ _ _ _ _ _ _ c.loop-number.number (g.K.Sink.faults c.loop-number.output) (g.K.Sink.faults c.finish-in-Err.new.output) _ c.loop-number.invariant.played c.in-Err.ensures.front c.finish-in-Err.ensures.end

pub returns-in-Ok-Waits-clause-ends : goal.returns-in-Ok-Waits-clause-ends
returns-in-Ok-Waits-clause-ends g c =
    let fetched = rw c.in-Ok-Waits.field-0-is at c.in-Ok-Waits.ensures.lines in
    let full : c.loop-number.number ≡ most_lines = omega arith in
    let played = IsPlayed-count _ _ _ _ _ _ _ most_lines full c.loop-number.invariant.played in
    Ends-refused _ c.loop-number.lines.ahead _ _ _ _ _ _ _ most_lines (g.K.Sink.faults c.loop-number.output) (g.K.Sink.faults c.finish-in-Ok-Waits.new.output) _ played c.in-Ok-Waits.ensures.front (StopsAt-past _ _ _ fetched.0 fetched.1.1) c.finish-in-Ok-Waits.ensures.end

pub returns-in-Ok-Overlong-clause-ends : goal.returns-in-Ok-Overlong-clause-ends
returns-in-Ok-Overlong-clause-ends g c =
    let fetched = rw (c.in-Ok-Overlong.field-0-is, c.loop-number.invariant.limit) at c.in-Ok-Overlong.ensures.lines in
    let full : c.loop-number.number ≡ most_lines = omega arith in
    let played = IsPlayed-count _ _ _ _ _ _ _ most_lines full c.loop-number.invariant.played in
    Ends-refused _ c.loop-number.lines.ahead _ _ _ _ _ _ _ most_lines (g.K.Sink.faults c.loop-number.output) (g.K.Sink.faults c.finish-in-Ok-Overlong.new.output) _ played c.in-Ok-Overlong.ensures.front (StopsAt-overlong _ _ _ _ fetched.1) c.finish-in-Ok-Overlong.ensures.end
