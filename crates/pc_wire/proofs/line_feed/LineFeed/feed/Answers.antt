use Rattle.std.proofs.Common.{true, take, sym, ap, ◌∙◌}
use Rattle.pc_wire.specs.Lines.{has_feed}
use Rattle.pc_wire.specs.LineFeed.{FeedState}
use Rattle.pc_wire.proofs.FeedLemmas.{Feeds-all, Feeds-whole, open-before_feed, before_feed-is}
use Rattle.pc_wire.proofs.line_feed.LineFeed.feed.Goals as goal

pub keep-requires : goal.keep-requires
keep-requires c =
    ap has_feed (ap (λ n. take n c.args.piece.now) c.feed_place-end.ensures.place ∙ sym (before_feed-is c.args.piece.now)) ∙ open-before_feed c.args.piece.now

pub returns-then-end-piece-clause-feeds : goal.returns-then-end-piece-clause-feeds
returns-then-end-piece-clause-feeds c =
    Feeds-all c.args.self.now c.keep.new.self c.args.piece.now c.feed_place-end.result (sym (ap (λ (state : FeedState). state.is_whole) c.self.view_is) ∙ c.if-self.false) c.feed_place-end.ensures.place c.if-end-piece.true c.keep.ensures

pub returns-clause-feeds : goal.returns-clause-feeds
returns-clause-feeds c =
    Feeds-whole c.args.self.now _ c.args.piece.now c.feed_place-end.result (sym (ap (λ (state : FeedState). state.is_whole) c.self.view_is) ∙ c.if-self.false) c.feed_place-end.ensures.place c.if-end-piece.false (ap (λ (state : FeedState). record state { is_whole = true }) (c.self-2.view_is ∙ c.keep.ensures))
