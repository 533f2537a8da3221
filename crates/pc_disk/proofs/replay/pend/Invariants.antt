use Rattle.std.proofs.Common.{◌≡◌, ◌≤◌, take}
use Rattle.pc_disk.specs.Areas.{held, room}
use Rattle.pc_disk.specs.Notes.{told, pended}
use Rattle.pc_disk.proofs.replay.pend.Given as goal

abbrev pub invariant-loop-note : goal.invariant-loop-note
invariant-loop-note l = record {
  room : room l.initial.areas ≤ room l.areas;
  held : held l.areas ≡ pended l.choice (held l.initial.areas) (told l.pool (take l.note-index l.notes));
}
