-- The characters so far, and those of the flags that are left.
use Rattle.std.proofs.Common.{◌≡◌, ◌-◌, ◌++◌, length}
use Rattle.pc_reply.specs.Items.{flag_digits}
use Rattle.pc_reply.proofs.flags.flags_text.Given as goal

abbrev pub invariant-loop : goal.invariant-loop
invariant-loop l = record {
  count : length l.digits.items ≡ l.counter;
  spelled : l.digits.items ++ flag_digits (16 - l.counter) l.rest ≡ flag_digits 16 l.flags;
}
