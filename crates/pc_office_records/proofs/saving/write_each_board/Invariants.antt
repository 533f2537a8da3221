use Rattle.std.proofs.Common.{◌≡◌, ◌++◌}
use Rattle.std.specs.List.{flat_map, concat}
use Rattle.pc_office_spelling.specs.RecordSpelling.{board_fields}
use Rattle.pc_office_records.specs.Saving.{HaveFewMessages}
use Rattle.pc_office_records.proofs.saving.write_each_board.Given as goal

-- the boards that are left make the list whole
abbrev pub invariant-loop-name : goal.invariant-loop-name
invariant-loop-name l = record {
  whole : l.out ++ concat (flat_map board_fields l.name-iterator) ≡ l.fn.out ++ concat (flat_map board_fields l.boards);
  few : HaveFewMessages l.name-iterator;
}
