use Rattle.pc_store.proofs.OpenedLemmas.{held_sound}
use Rattle.pc_store.proofs.store.Store.of.Goals as goal

pub invariant_of-result : goal.invariant_of-result
invariant_of-result g c = held_sound g.M.Machine g.D.Disk.tells g.D.Disk.seen g.D.Disk.may_leave c.args.disk c.args.history c.requires
