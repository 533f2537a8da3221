use Rattle.std.proofs.Common.{◌≡◌, ◌+◌, ◌*◌, ◌≤◌, drop}
use Rattle.pc_tables.specs.Table.{total}
use Rattle.pc_cache_history.specs.Allowed.{change_bytes, took_bytes}
use Rattle.pc_cache.proofs.room.is_short.Given as goal

-- the bytes so far, and those still to come
abbrev pub invariant-loop-change : goal.invariant-loop-change
invariant-loop-change l = record {
  whole : l.bytes + total change_bytes (drop l.change-index l.changes) ≡ took_bytes l.mailbox l.changes;
  bound : l.bytes ≤ 36 + 4023 * l.change-index;
}
