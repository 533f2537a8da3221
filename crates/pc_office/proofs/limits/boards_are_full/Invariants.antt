use Rattle.std.proofs.Common.{◌≡◌, ◌+◌, ◌*◌, ◌≤◌, ◌^◌, drop}
use Rattle.std.specs.List.{list_any}
use Rattle.pc_office.specs.Limits.{is_filled, board_count}
use Rattle.pc_office.proofs.limits.boards_are_full.Given as goal

-- what is summed and what is still to come, where no board so far has no place
abbrev pub invariant-loop-name : goal.invariant-loop-name
invariant-loop-name l = record {
  whole : l.more + board_count l.holdings (drop l.name-index l.names) * l.weight ≡ board_count l.holdings l.names * l.weight;
  none : list_any (is_filled l.holdings) (drop l.name-index l.names) ≡ list_any (is_filled l.holdings) l.names;
  bound : l.more ≤ l.name-index * 2 ^ 32;
}
