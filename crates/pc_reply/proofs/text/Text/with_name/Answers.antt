use Rattle.std.proofs.Common.{ap, ◌∙◌}
use Rattle.pc_base.specs.Line.{has_feed}
use Rattle.pc_reply.proofs.TextLemmas.{open-name}
use Rattle.pc_reply.proofs.text.Text.with_name.Goals as goal

pub with-requires-clause-line : goal.with-requires-clause-line
with-requires-clause-line c = ap has_feed c.bytes.ensures.value ∙ open-name c.args.name.now c.bytes.ensures.name
