-- A run of calls that only reads a disk.
use Rattle.std.specs.Prelude.{◌≡◌, ◌≤◌}
use Rattle.pc_disk.specs.declared.disk.Disk.{Ghosts}
use Rattle.pc_disk.specs.Outcomes.{IsStill, SameDue}

-- no device call was made: what is read and what a crash may leave are as they were, and the same
-- calls fail; no fault is forgotten, and what finds room does so still
pub record Untouched {D : Type 0} (d : Ghosts D) (old new : D) : Type 0 where
  pub still : d.tells → IsStill (d.seen old) (d.seen new) (d.may_leave old) (d.may_leave new) (d.left_since old) (d.left_since new)
  pub same_moment : d.moment new ≡ d.moment old
  pub ahead : d.tells_due → SameDue (d.moment old) (d.due old) (d.due new)
  pub no_fewer_faults : d.faults old ≤ d.faults new
  pub no_fewer_calls : d.spare_calls old ≤ d.spare_calls new
  pub no_fewer_bytes : d.spare_bytes old ≤ d.spare_bytes new
