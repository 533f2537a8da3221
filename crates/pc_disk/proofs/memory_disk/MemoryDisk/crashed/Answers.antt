use Rattle.std.proofs.Common.{arith}
use Rattle.pc_disk.specs.Areas.{held}
use Rattle.pc_disk.specs.MemoryLaws.{chosen_possible}
use Rattle.pc_disk.proofs.ReplayLemmas.{Fits_more}
use Rattle.pc_disk.proofs.StateLemmas.{longest_left, crashed_sound}
use Rattle.pc_disk.proofs.memory_disk.MemoryDisk.crashed.Goals as goal

pub crash-requires : goal.crash-requires
crash-requires c = Fits_more _ _ _ c.self.invariant.first_holds c.self.invariant.fits

pub copy-requires : goal.copy-requires
copy-requires c =
    omega (arith, longest_left c.self.inside.limit c.self.inside.alarm.choice (held c.self.inside.first) (held c.crash.new.areas) c.self.inside.deeds.deeds c.self.invariant.first_fits c.self.invariant.fits c.crash.ensures.held, c.self.invariant.present_holds)

pub invariant_of-result : goal.invariant_of-result
invariant_of-result c =
    crashed_sound (held c.crash.new.areas) (held c.copy.new.self) _ _ _ _ _ _ c.self.inside.limit c.copy.ensures.held c.clear.ensures.deeds c.clear.ensures.written
    (longest_left c.self.inside.limit c.self.inside.alarm.choice (held c.self.inside.first) (held c.crash.new.areas) c.self.inside.deeds.deeds c.self.invariant.first_fits c.self.invariant.fits c.crash.ensures.held)
    (omega (arith, c.crash.ensures.room, c.self.invariant.first_holds)) (omega (arith, c.copy.ensures.room, c.self.invariant.present_holds))

pub returns-clause-possible : goal.returns-clause-possible
returns-clause-possible c =
    rw (c.crash.ensures.held, ← c.self.view_is) (chosen_possible c.self.inside.alarm.choice (held c.self.inside.first) c.self.inside.deeds.deeds)
