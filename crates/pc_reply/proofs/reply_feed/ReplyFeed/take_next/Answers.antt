use Rattle.std.proofs.Common.{ap, arith}
use Rattle.pc_wire.specs.LineFeed.{FeedState}
use Rattle.pc_reply.proofs.StepLemmas.{shown_is_line, counted_on}
use Rattle.pc_reply.proofs.reply_feed.ReplyFeed.take_next.Goals as goal

pub next_step-requires-clause-line : goal.next_step-requires-clause-line
next_step-requires-clause-line c =
    shown_is_line c.self.inside.line c.in-Line.line c.self.invariant.0 c.in-Line.ensures

pub invariant_of-self-in-On : goal.invariant_of-self-in-On
invariant_of-self-in-On c = (
  omega (arith, ap (λ (state : FeedState). state.limit) c.new-self-inside.ensures),
  counted_on c.self.inside.stage c.replace-stage.result c.in-On.stage c.in_ok-reply.field-0 c.in-Line.line.now c.self.inside.place c.count.result c.replace-stage.ensures.value c.self.invariant.1 c.in_ok-reply.ensures c.in-On.is c.count.ensures.bound,
)
