use Rattle.std.proofs.Common.{◌∙◌}
use Rattle.pc_account.proofs.Taken.{stays-there, goes-there}
use Rattle.pc_account.proofs.forgetting.insert_rising.Goals as goal

pub returns-then-is_at : goal.returns-then-is_at
returns-then-is_at c = stays-there c.args.uid c.place_of-place.result c.args.uids.now.items c.deref.result.now c.deref-2.result.now c.place_of-place.ensures.place c.deref.ensures.value c.deref-2.ensures.value c.if-is_at.ensures

pub returns : goal.returns
returns c = c.in_ok-insert.ensures.items ∙ goes-there c.args.uid c.place_of-place.result c.args.uids.now.items c.deref.result.now c.deref-2.result.now c.place_of-place.ensures.place c.deref.ensures.value c.deref-2.ensures.value c.if-is_at.ensures
