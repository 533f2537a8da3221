-- The entries so far were read and stand there; the disk is as it was.
use Rattle.std.proofs.Common.{◌≡◌, ◌+◌, ◌*◌, ◌-◌, ◌≤◌}
use Rattle.pc_disk.specs.Images.{area_of}
use Rattle.pc_log.specs.Untouched.{Untouched}
use Rattle.pc_log.specs.Opening.{ReadsSoFar}
use Rattle.pc_log.proofs.opening.Opening.rest.Given as goal

abbrev pub invariant-loop-entries : goal.invariant-loop-entries
invariant-loop-entries g l = record {
  same_area : l.self.area ≡ l.initial.self.area;
  trail : g.D.Disk.tells → ReadsSoFar (area_of l.initial.self.area (g.D.Disk.seen l.initial.disk)) l.initial.self.reached l.self.reached l.entries.items;
  untouched : Untouched g.D.Disk l.initial.disk l.disk;
  gate : l.self.reached.gate + 5 * l.initial.self.reached.entries + l.initial.self.reached.bytes ≤ l.initial.self.reached.gate + 5 * l.self.reached.entries + l.self.reached.bytes;
  most : l.self.reached.gate ≤ l.initial.self.reached.gate + 17104896;
  taken : g.D.Disk.taken l.disk + l.initial.self.reached.gate ≤ g.D.Disk.taken l.initial.disk + l.self.reached.gate;
}

abbrev pub decreases-loop-entries : goal.decreases-loop-entries
decreases-loop-entries g l = 65536 - l.self.reached.entries
