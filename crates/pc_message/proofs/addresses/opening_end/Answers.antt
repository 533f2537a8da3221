use Rattle.std.proofs.Common.{◌∙◌, sym, refl}
use Rattle.pc_message.proofs.Openings.{IsLast-none, IsLast-hit, IsLast-miss, IsLast-end}
use Rattle.pc_message.proofs.addresses.opening_end.Goals as goal
use Rattle.pc_message.proofs.addresses.opening_end.Goals.{then-is_unquoted, else-is_unquoted}

pub loop-place-init : goal.loop-place-init
loop-place-init c = IsLast-none c.args.item.now

pub loop-place-preserved : goal.loop-place-preserved
loop-place-preserved c =
    let item = c.args.item.now in
    let last = c.loop-place.invariant in
    rw c.quoted_after-quoted.ensures (elim c.if-is_unquoted.branch [
      | then-is_unquoted w ↦ rw w.start-is (IsLast-hit item c.loop-place.place _ c.loop-place.quoted c.loop-place.start c.loop-place-test.true refl (sym c.is_unquoted.ensures ∙ w.if-is_unquoted.true) last)
      | else-is_unquoted w ↦ rw w.start-is (IsLast-miss item c.loop-place.place _ c.loop-place.quoted c.loop-place.start c.loop-place-test.true refl (sym c.is_unquoted.ensures ∙ w.if-is_unquoted.false) last)
    ])

pub returns-clause-rest : goal.returns-clause-rest
returns-clause-rest c = IsLast-end c.args.item.now c.loop-place.place c.loop-place.quoted c.loop-place.start c.loop-place-test.false c.loop-place.invariant
