use Rattle.std.proofs.Common.{◌∙◌, take, ◌+◌}
use Rattle.pc_mailbox.specs.Mailbox.{is_below}
use Rattle.pc_mailbox.proofs.Search.{from-place, rise-filter, both-bounds}
use Rattle.pc_mailbox.proofs.messages.between.Goals as goal

pub count_below-start-requires : goal.count_below-start-requires
count_below-start-requires c = rw c.count_below-end.ensures.front (rise-filter (is_below (c.args.high + 1)) c.args.messages.now c.requires)

pub returns : goal.returns
returns c =
    let upto = take c.count_below-end.result c.args.messages.now in
    from-place c.count_below-start.result upto ∙ (c.count_below-start.ensures.back ∙ rw c.count_below-end.ensures.front (both-bounds c.args.low c.args.high c.args.messages.now))
