use Rattle.std.proofs.Common.{ℕ, List, Ok, refl, sym, subst, ◌∙◌, arith}
use Rattle.std.specs.Io.KnownBytes.{prepend_known}
use Rattle.std.proofs.lemmas.Bool.{false≢true}
use Rattle.pc_wire.specs.Reading.{Seeks}
use Rattle.pc_wire.specs.declared.fetched.Fetched.TheVariants.{Waits}
use Rattle.pc_wire.proofs.ReaderLemmas.{Fills-true, TakesOpen-none, TakesOpen-kept, TakesOpen-turn, TakesOpen-room, Seeks-line, TakesFront-none, TakesFront-more}
use Rattle.pc_wire.proofs.line_reader.seek_feed.Goals as goal

pub loop-buffer-init : goal.loop-buffer-init
loop-buffer-init g c = (TakesOpen-none c.args.feed.now _ c.requires, omega arith, TakesFront-none _, refl)

pub returns-then-feed_ahead-clause-bytes : goal.returns-then-feed_ahead-clause-bytes
returns-then-feed_ahead-clause-bytes g c =
    let filled = Fills-true _ _ _ c.in_ok-fill.field-0 c.in_ok-fill.ensures.bytes c.if-branch.true in
    let taken = TakesOpen-kept _ _ _ _ _ _ c.loop-buffer.invariant.0 filled.0 in
    let fed = c.feed_ahead.ensures.bytes in
    let start = prepend_known c.args.buffer.now (g.S.Source.left c.args.source.now) in
    let P : List ℕ → Type 0 = λ ahead. Seeks c.args.feed.now.limit c.args.feed.now.text c.feed_ahead.new.feed start (prepend_known ahead (g.S.Source.left c.fill.new.source)) (Ok Waits) in
    subst P (sym fed.1.1) (Seeks-line _ _ _ _ start _ _ _ taken fed.1.0 (sym c.feed_ahead.ensures.whole ∙ c.if-feed_ahead.true))

pub returns-then-over-clause-bytes : goal.returns-then-over-clause-bytes
returns-then-over-clause-bytes g c =
    let filled = Fills-true _ _ _ c.in_ok-fill.field-0 c.in_ok-fill.ensures.bytes c.if-branch.true in
    let more = sym c.feed_ahead.ensures.whole ∙ c.if-feed_ahead.false in
    (TakesOpen-turn _ _ _ _ _ _ _ _ _ c.loop-buffer.invariant.0 filled.0 c.feed_ahead.ensures.bytes more, c.over.ensures.0 c.if-over.true)

pub loop-buffer-smaller : goal.loop-buffer-smaller
loop-buffer-smaller g c =
    let filled = Fills-true _ _ _ c.in_ok-fill.field-0 c.in_ok-fill.ensures.bytes c.if-branch.true in
    let more = sym c.feed_ahead.ensures.whole ∙ c.if-feed_ahead.false in
    TakesOpen-room _ _ _ _ _ _ _ _ c.loop-buffer.invariant.0 filled.1 c.feed_ahead.ensures.bytes.1.0 more (λ over. false≢true (sym c.if-over.false ∙ c.over.ensures.1 over))

pub loop-buffer-preserved : goal.loop-buffer-preserved
loop-buffer-preserved g c =
    let filled = Fills-true _ _ _ c.in_ok-fill.field-0 c.in_ok-fill.ensures.bytes c.if-branch.true in
    let more = sym c.feed_ahead.ensures.whole ∙ c.if-feed_ahead.false in
    (TakesOpen-turn _ _ _ _ _ _ _ _ _ c.loop-buffer.invariant.0 filled.0 c.feed_ahead.ensures.bytes more, omega (arith, c.loop-buffer.invariant.1, c.fill.ensures.cause.later), TakesFront-more _ _ _ c.loop-buffer.invariant.2 c.fill.ensures.front, c.fill.ensures.beside ∙ c.loop-buffer.invariant.3)

pub returns-then-feed_ahead-clause-front : goal.returns-then-feed_ahead-clause-front
returns-then-feed_ahead-clause-front g c = TakesFront-more _ _ _ c.loop-buffer.invariant.2 c.fill.ensures.front

pub returns-then-over-clause-front : goal.returns-then-over-clause-front
returns-then-over-clause-front g c = TakesFront-more _ _ _ c.loop-buffer.invariant.2 c.fill.ensures.front

pub returns-in_err-fill-clause-front : goal.returns-in_err-fill-clause-front
returns-in_err-fill-clause-front g c = TakesFront-more _ _ _ c.loop-buffer.invariant.2 c.fill.ensures.front
