use Rattle.std.proofs.Common.{sym, arith}
use Rattle.std.proofs.lemmas.Bool.{le-leb}
use Rattle.pc_account_records.proofs.ReadLists.{above_below, room_below, too_many}
use Rattle.pc_account_records.proofs.loading.lists.has_room.Goals as goal

pub returns-then-below-tally-clause-has : goal.returns-then-below-tally-clause-has
returns-then-below-tally-clause-has c =
    sym (le-leb _ _ (room_below c.args.left c.args.uid c.args.highest c.args.list.now c.args.tally.now c.requires.room (omega arith)))

pub returns-then-from-clause-has : goal.returns-then-from-clause-has
returns-then-from-clause-has c =
    let same = above_below c.args.uid c.args.list.now c.requires.positive c.requires.new in
    sym (too_many _ _ (omega (arith, same, c.requires.room.counted, c.count_between.ensures, c.if-from.true, c.from.ensures, c.from-2.ensures, c.from-3.ensures, c.from-4.ensures)))

pub returns-clause-has : goal.returns-clause-has
returns-clause-has c =
    let same = above_below c.args.uid c.args.list.now c.requires.positive c.requires.new in
    sym (le-leb _ _ (omega (arith, same, c.requires.room.counted, c.count_between.ensures, c.if-from.false, c.from.ensures, c.from-2.ensures, c.from-3.ensures, c.from-4.ensures)))
