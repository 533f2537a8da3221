use Rattle.pc_fields.proofs.Follows.{match_err}
use Rattle.pc_office_records.proofs.ReadMails.{kept_no_count, kept_read}
use Rattle.pc_office_records.proofs.loading.kept.read_kept.Goals as goal

pub returns-in_err-count-clause-read : goal.returns-in_err-count-clause-read
returns-in_err-count-clause-read c =
    match_err c.from_residual.result c.in_err-count.field-0.0 _ _ c.from_residual.ensures (kept_no_count c.args.users.now c.args.accepted c.requires.uncounted c.args.cursor.now c.read_count.new.cursor c.in_err-count.field-0.0 c.in_err-count.ensures)

pub returns-clause-read : goal.returns-clause-read
returns-clause-read c =
    kept_read c.args.users.now c.args.accepted c.requires.uncounted (λ kept. kept.items) c.args.cursor.now c.read_count.new.cursor c.read_mails.new.cursor c.in_ok-count.count c.in_ok-count.ensures c.read_mails.result c.read_mails.ensures.read
