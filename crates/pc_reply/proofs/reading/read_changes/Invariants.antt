-- The changes so far are those of the lines so far, and their uids are known.
use Rattle.std.proofs.Common.{◌≡◌, ℕ, ◌-◌, ◌≤◌, ◌==◌, length, map, take}
use Rattle.std.specs.List.{list_any}
use Rattle.std.specs.BTreeSet.{contains}
use Rattle.std.specs.Ordering.{nat_cmp}
use Rattle.pc_reply.specs.Items.{AreChangeLines, uid_of}
use Rattle.pc_reply.proofs.reading.read_changes.Given as goal

abbrev pub invariant-loop-place : goal.invariant-loop-place
invariant-loop-place l = record {
  within : l.place ≤ length l.all;
  items : AreChangeLines l.changes (take l.place l.all);
  known : (uid : ℕ) → contains nat_cmp l.uids uid ≡ list_any (λ other. other == uid) (map uid_of l.changes);
}

abbrev pub decreases-loop-place : goal.decreases-loop-place
decreases-loop-place l = length l.all - l.place
