use Rattle.std.proofs.Common.{rules, arith, nat_le, ◌∙◌, ap}
use Rattle.std.proofs.lemmas.List.{take_rest}
use Rattle.std.proofs.lemmas.List.Sorted.{IsPartitionPoint-from_clause, IsPartitionedBy-leb}
use Rattle.pc_office_history.specs.declared.kept.KeptMail.{KeptMail}
use Rattle.pc_office_history.specs.Record.{mails_for}
use Rattle.pc_tables.proofs.Halves.{numbers-rise_by}
use Rattle.pc_office.proofs.Past.{parted}
use Rattle.pc_office.proofs.telling.past.Goals as goal

pub returns : goal.returns
returns c = λ user.
    let kept = c.args.kept.now in
    let after = c.args.after in
    let rise = IsPartitionedBy-leb (λ (mail : KeptMail). mail.number) kept after (numbers-rise_by (λ (mail : KeptMail). mail.number) kept c.requires) in
    let point = IsPartitionPoint-from_clause (λ (mail : KeptMail). nat_le mail.number after) kept c.partition_point-count.result c.partition_point-count.ensures.partitioned rise (λ a r q k. search rules) in
    ap (mails_for user) (take_rest kept c.partition_point-count.result)
    ∙ parted user after kept c.partition_point-count.result c.partition_point-count.ensures.bound (λ k d lt. point.0 k d (omega arith) lt) (λ k d le lt. point.1 k d le lt)
