use Rattle.std.proofs.Common.{◌≡◌, sym, ap, ◌∙◌, arith}
use Rattle.pc_account_spelling.specs.RecordFormat.{above}
use Rattle.pc_account_records.proofs.ReadLists.{above_looked_up, above_not_found}
use Rattle.pc_account_records.proofs.loading.lists.count_between.Goals as goal
use Rattle.pc_account_records.proofs.loading.lists.count_between.Goals.{then-is_some, else-is_some}

pub loop-passed-preserved : goal.loop-passed-preserved
loop-passed-preserved c =
    let before = c.loop-passed.invariant in
    elim c.if-is_some.branch [
      | then-is_some w ↦
          let one = above_looked_up c.loop-passed.passed c.args.list.now c.stamp.result c.requires.distinct c.stamp.ensures (sym c.is_some.ensures ∙ w.if-is_some.true) in
          record { counted = omega (arith, before.counted, one, w.count-is); few = omega (arith, before.few, w.count-is) }
      | else-is_some w ↦
          let none = above_not_found c.loop-passed.passed c.args.list.now c.stamp.result c.stamp.ensures (sym c.is_some.ensures ∙ w.if-is_some.false) in
          record { counted = omega (arith, before.counted, none, w.count-is); few = omega (arith, before.few, w.count-is) }
    ]

pub returns : goal.returns
returns c =
    let end : c.loop-passed.passed ≡ c.args.high = omega arith in
    let same = ap (λ n. above n c.args.list.now) end in
    omega (arith, same, c.loop-passed.invariant.counted)
