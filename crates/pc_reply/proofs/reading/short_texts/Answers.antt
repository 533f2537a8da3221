use Rattle.std.proofs.lemmas.Bool.{false≢true}
use Rattle.pc_reply.proofs.ChangeLemmas.{short_up_to}
use Rattle.pc_reply.proofs.reading.short_texts.Goals as goal

pub returns-then-not-is_short : goal.returns-then-not-is_short
returns-then-not-is_short c =
    short_up_to c.args.lines.now c.min.result c.loop-place.place c.index-front-place.result c.min.ensures c.loop-place-test.true c.loop-place.invariant c.index-front-place.is (λ short. false≢true (c.if-not-is_short.ensures.1 short))
