use Rattle.std.proofs.Common.{ap, ◌∙◌}
use Rattle.pc_wire.specs.Lines.{has_feed, without_return}
use Rattle.pc_wire.proofs.LineLemmas.{open-without_return}
use Rattle.pc_wire.proofs.line_feed.LineFeed.next.Goals as goal

pub within-requires : goal.within-requires
within-requires c =
    ap has_feed (c.without_return.ensures ∙ ap without_return c.as_slice.ensures.value) ∙ open-without_return c.self.inside.text.items c.self.invariant.2
