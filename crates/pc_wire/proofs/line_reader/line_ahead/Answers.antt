use Rattle.std.proofs.Common.{◌≡◌, [], length, sym, ap, ◌∙◌, arith}
use Rattle.std.specs.List.{position_or_len}
use Rattle.std.proofs.lemmas.List.{nil_from_length}
use Rattle.pc_wire.specs.Lines.{is_feed}
use Rattle.pc_wire.specs.LineFeed.{fed}
use Rattle.pc_wire.proofs.AheadLemmas.{LineStops-place}
use Rattle.pc_wire.proofs.line_reader.line_ahead.Goals as goal

pub returns : goal.returns
returns c =
    let none : c.args.feed.now.text ≡ [] = nil_from_length c.args.feed.now.text (omega (arith, c.count.ensures.value, c.if-count-gt0.false)) in
    let same = c.bytes-bytes.ensures in (
      c.requires ∙ ap (fed c.args.feed.now.limit) none,
      LineStops-place c.args.buffer.now c.feed_place-stop.result (c.feed_place-stop.ensures.place ∙ ap (position_or_len is_feed) same) (omega (arith, c.feed_place-stop.ensures.within, ap length same)) (λ all. c.if-stop-bytes.false (all ∙ ap length (sym same))),
    )
