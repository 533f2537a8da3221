use Rattle.std.proofs.Common.{ap, sym, ◌∙◌, ◌+◌, ◌-◌, ◌/◌, ◌++◌, List, ℕ, arith}
use Rattle.pc_wire.specs.Lines.{has_feed}
use Rattle.pc_reply.specs.Items.{flag_digits}
use Rattle.pc_reply.proofs.FlagLemmas.{flag_digits-step, flag_digits-done, open-flag_digits}
use Rattle.pc_reply.proofs.flags.flags_text.Goals as goal

pub loop-preserved : goal.loop-preserved
loop-preserved c = record {
  count = omega (arith, c.push.ensures.len, c.loop.invariant.count);
  spelled = ap (λ (digits : List ℕ). digits ++ flag_digits (16 - (c.loop.counter + 1)) (c.loop.rest / 2)) c.push.ensures.items ∙ flag_digits-step c.loop.digits.items c.loop.counter c.loop.rest c.loop-test.true ∙ c.loop.invariant.spelled;
}

pub returns-clause-value : goal.returns-clause-value
returns-clause-value c =
    c.copy_of.ensures ∙ c.deref.ensures.0 ∙ sym (flag_digits-done c.loop.digits.items c.loop.counter c.loop.rest c.loop-test.false) ∙ c.loop.invariant.spelled

pub returns-clause-line : goal.returns-clause-line
returns-clause-line c =
    ap has_feed (returns-clause-value c) ∙ open-flag_digits 16 c.args.flags
