use Rattle.std.proofs.Common.{take, ap, ◌∙◌}
use Rattle.pc_wire.specs.Lines.{has_feed, without_return}
use Rattle.pc_wire.proofs.LineLemmas.{open-without_return}
use Rattle.pc_wire.proofs.line_reader.shown_ahead.Goals as goal

pub within-requires : goal.within-requires
within-requires c =
    ap has_feed (c.without_return.ensures ∙ ap (λ bytes. without_return (take c.args.stop bytes)) c.bytes.ensures) ∙ open-without_return (take c.args.stop c.args.buffer.now) c.requires.1
