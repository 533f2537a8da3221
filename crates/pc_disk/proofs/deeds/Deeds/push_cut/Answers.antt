use Rattle.pc_disk.proofs.NoteLemmas.{AreNoted-cut}
use Rattle.pc_disk.proofs.deeds.Deeds.push_cut.Goals as goal

pub invariant_of-self : goal.invariant_of-self
invariant_of-self c = AreNoted-cut c.args.fate _ _ _ c.args.area c.args.to _ c.self.invariant c.in-Ok.ensures.items
