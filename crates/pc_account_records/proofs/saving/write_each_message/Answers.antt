use Rattle.std.proofs.Common.{◌++◌}
use Rattle.std.specs.List.{flat_map, concat}
use Rattle.pc_account_spelling.specs.Spelling.{kept_fields}
use Rattle.pc_fields.proofs.Loops.{fields_more}
use Rattle.pc_account_records.proofs.saving.write_each_message.Goals as goal

pub loop-kept-preserved : goal.loop-kept-preserved
loop-kept-preserved c =
    fields_more kept_fields c.args.messages.now c.loop-kept.kept-index _ c.loop-kept.out c.write_kept.new.out (c.args.out.now ++ concat (flat_map kept_fields c.args.messages.now)) c.loop-kept-test.true c.kept-item.is c.in_ok-write_kept.ensures c.loop-kept.invariant
