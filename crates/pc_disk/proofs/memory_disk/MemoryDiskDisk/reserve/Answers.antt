use Rattle.std.proofs.Common.{arith, ap, length, ◌≤◌}
use Rattle.pc_disk.proofs.ReplayLemmas.{Fits_more}
use Rattle.pc_disk.proofs.memory_disk.MemoryDiskDisk.reserve.Goals as goal

pub invariant_of-self-2 : goal.invariant_of-self-2
invariant_of-self-2 c =
    let more : c.self.inside.limit ≤ c.max-limit.result = omega (arith, c.max-limit.ensures) in
    rw (c.reserve-3.ensures.held, c.reserve-2.ensures.held, c.reserve.ensures.deeds, c.reserve.ensures.written) record {
      reading = c.self.invariant.reading;
      fits = Fits_more _ _ _ more c.self.invariant.fits;
      first_fits = omega (arith, c.self.invariant.first_fits);
      present_fits = omega (arith, c.max-limit.ensures, c.in-Some-checked_add.ensures, c.longest.ensures);
      first_holds = omega (arith, c.in_ok-reserve-3.ensures.made);
      present_holds = omega (arith, c.in_ok-reserve-2.ensures.made);
      calls_fit = omega (arith, c.in_ok-reserve.ensures.calls, ap length c.reserve.ensures.deeds);
      bytes_fit = omega (arith, c.in_ok-reserve.ensures.bytes);
    }
