use Rattle.std.proofs.Common.{ap, ◌∙◌, arith}
use Rattle.pc_base.specs.Line.{has_feed}
use Rattle.pc_reply.proofs.TextLemmas.{open-decimal}
use Rattle.pc_reply.proofs.text.Text.with_number.Goals as goal

pub with-requires-clause-line : goal.with-requires-clause-line
with-requires-clause-line c =
    ap has_feed (c.as_bytes.ensures.value ∙ c.format.ensures.text) ∙ open-decimal c.args.number (omega arith)
