use Rattle.std.proofs.Common.{Some, length, ap, ◌∙◌}
use Rattle.pc_reply.specs.FirstLine.{flags_shown}
use Rattle.pc_reply.proofs.FlagLemmas.{flags_shown-digits, length-flag_digits}
use Rattle.pc_reply.proofs.flags.flags_of.Goals as goal

pub returns-then-digits-ne16 : goal.returns-then-digits-ne16
returns-then-digits-ne16 c = λ flags fits is.
    absurd (c.if-digits-ne16.true (ap length is ∙ length-flag_digits 16 flags))

pub returns : goal.returns
returns c = λ flags fits is.
    ap Some (c.value_of.ensures.value ∙ ap flags_shown is ∙ flags_shown-digits 16 flags fits)
