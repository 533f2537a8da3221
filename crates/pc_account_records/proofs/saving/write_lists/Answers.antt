use Rattle.std.proofs.Common.{◌++◌}
use Rattle.std.specs.List.{flat_map, concat}
use Rattle.pc_account_spelling.specs.Spelling.{update_list_fields}
use Rattle.pc_fields.proofs.Loops.{fields_more}
use Rattle.pc_account_records.proofs.saving.write_lists.Goals as goal

pub loop-entry-preserved : goal.loop-entry-preserved
loop-entry-preserved c =
    fields_more update_list_fields c.args.lists.now c.loop-entry.entry-index _ c.loop-entry.out c.write_list.new.out (c.write_count.new.out ++ concat (flat_map update_list_fields c.args.lists.now)) c.loop-entry-test.true c.entry-item.is c.in_ok-write_list.ensures c.loop-entry.invariant
