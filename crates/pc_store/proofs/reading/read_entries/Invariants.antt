use Rattle.std.proofs.Common.{◌≤◌, ◌-◌, ◌+◌}
use Rattle.pc_disk.specs.Images.{area_of}
use Rattle.pc_log.specs.Untouched.{Untouched}
use Rattle.pc_store.proofs.EntriesLemmas.{IsReading}
use Rattle.pc_store.proofs.reading.read_entries.Given as goal

abbrev pub invariant-loop-trail : goal.invariant-loop-trail
invariant-loop-trail g l = record {
  reading : IsReading g.M.Machine g.D.Disk.tells (area_of l.fn.area (g.D.Disk.seen l.initial.disk)) l.initial.opening l.opening l.initial.state l.state l.fn.first l.trail.items l.gate l.number l.bytes;
  untouched : Untouched g.D.Disk l.initial.disk l.disk;
  taken : g.D.Disk.taken l.disk + l.initial.opening.reached.gate ≤ g.D.Disk.taken l.initial.disk + l.opening.reached.gate;
}

abbrev pub decreases-loop-trail : goal.decreases-loop-trail
decreases-loop-trail g l = 65536 - l.opening.reached.entries
