use Rattle.std.proofs.Common.{rules}
use Rattle.pc_disk.proofs.NoteLemmas.{AreNoted-synced, AreNoted-unsynced}
use Rattle.pc_disk.proofs.deeds.Deeds.push_sync.Goals as goal

pub invariant_of-self : goal.invariant_of-self
invariant_of-self c = AreNoted-synced c.args.fate _ _ _ c.len-self-inside.result c.self.invariant.within c.in-Made.is c.in-Ok.ensures.items (search rules)

pub invariant_of-self-in_default-fate : goal.invariant_of-self-in_default-fate
invariant_of-self-in_default-fate c = AreNoted-unsynced c.args.fate _ _ _ _ c.self.invariant c.in_default-fate.not-Made c.in-Ok.ensures.items
