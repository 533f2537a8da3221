use Rattle.std.proofs.Common.{◌++◌}
use Rattle.std.specs.List.{flat_map, concat}
use Rattle.pc_account_spelling.specs.Spelling.{letter_fields}
use Rattle.pc_fields.proofs.Loops.{fields_more}
use Rattle.pc_account_spelling.proofs.spelling.entry_writing.write_letters.Goals as goal

pub loop-letter-preserved : goal.loop-letter-preserved
loop-letter-preserved c =
    fields_more letter_fields c.args.letters.now c.loop-letter.letter-index _ c.loop-letter.out c.write_letter.new.out (c.args.out.now ++ concat (flat_map letter_fields c.args.letters.now)) c.loop-letter-test.true c.letter-item.is c.in_ok-write_letter.ensures c.loop-letter.invariant
