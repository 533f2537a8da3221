use Rattle.std.proofs.Common.{◌<◌, ◌++◌, length}
use Rattle.std.specs.List.{flat_map, concat}
use Rattle.pc_fields.proofs.Loops.{fields_more}
use Rattle.pc_office_history.specs.declared.kept.KeptMail.{KeptMail}
use Rattle.pc_office_spelling.specs.RecordSpelling.{kept_fields}
use Rattle.pc_office_records.proofs.Written.{each-dropped}
use Rattle.pc_office_records.proofs.saving.write_each_kept.Goals as goal

pub write_kept-requires : goal.write_kept-requires
write_kept-requires c = (each-dropped (λ (mail : KeptMail). length mail.targets < 65536) c.args.kept.now c.loop-mail.mail-index c.mail-item.result c.loop-mail-test.true c.mail-item.is c.loop-mail.invariant.few).0

pub loop-mail-preserved : goal.loop-mail-preserved
loop-mail-preserved c = record {
  whole = fields_more kept_fields c.args.kept.now c.loop-mail.mail-index _ c.loop-mail.out c.write_kept.new.out (c.args.out.now ++ concat (flat_map kept_fields c.args.kept.now)) c.loop-mail-test.true c.mail-item.is c.in_ok-write_kept.ensures c.loop-mail.invariant.whole;
  few = (each-dropped (λ (mail : KeptMail). length mail.targets < 65536) c.args.kept.now c.loop-mail.mail-index c.mail-item.result c.loop-mail-test.true c.mail-item.is c.loop-mail.invariant.few).1;
}
