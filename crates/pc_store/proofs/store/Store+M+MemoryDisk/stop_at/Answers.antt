use Rattle.std.proofs.Common.{ap, subst}
use Rattle.pc_disk.specs.Deeds.{MayLeave, reads}
use Rattle.pc_disk.specs.Memory.{DiskState}
use Rattle.pc_store.proofs.OpenedLemmas.{sound_still}
use Rattle.pc_store.proofs.store.Store+M+MemoryDisk.stop_at.Goals as goal

pub invariant_of-self : goal.invariant_of-self
invariant_of-self g c =
    sound_still g.M.Machine _ _ _ _ c.stop_at.new.self _ _ (λ told. ap (λ (d : DiskState). reads d.first d.deeds) c.stop_at.ensures.state) (λ told left may. subst (λ (d : DiskState). MayLeave d.first d.deeds left) c.stop_at.ensures.state may) c.self.invariant
