-- The names so far are those of the mailboxes of the lines so far, and they are known.
use Rattle.std.proofs.Common.{◌≡◌, ℕ, List, take}
use Rattle.std.specs.List.{list_any}
use Rattle.std.specs.Str.{bytes_eq}
use Rattle.std.specs.BTreeSet.{contains}
use Rattle.std.specs.Ordering.{nat_cmp}
use Rattle.std.specs.Cmp.Lexicographic.{slice_cmp}
use Rattle.pc_reply.specs.Items.{AreMailboxLines}
use Rattle.pc_reply.proofs.reading.read_mailboxes.Given as goal

abbrev pub invariant-loop-line : goal.invariant-loop-line
invariant-loop-line l = record {
  items : AreMailboxLines l.names (take l.line l.row-items);
  known : (name : List ℕ) → contains (slice_cmp nat_cmp) l.known name ≡ list_any (λ other. bytes_eq other name) l.names;
}
