use Rattle.std.proofs.Common.{◌-◌, length, take, drop}
use Rattle.std.specs.BTreeSet.{contains}
use Rattle.std.specs.Ordering.{nat_cmp}
use Rattle.std.proofs.lemmas.Result.{err_from_is_err_and}
use Rattle.pc_reply.proofs.ChangeLemmas.{first_and_others, read_fault, text_fault}
use Rattle.pc_reply.proofs.reading.read_change.Goals as goal

pub returns-in_err-uid-clause-item : goal.returns-in_err-uid-clause-item
returns-in_err-uid-clause-item c =
    let p = err_from_is_err_and c.from_residual.result c.from_residual.ensures.1 in
    let lines = first_and_others c.args.lines.now c.index-lines-0.result c.bytes.result.now c.requires c.index-lines-0.is c.bytes.ensures.value in
    let texts = take (length c.args.lines.now - 1) (drop 1 c.args.lines.now) in
    rw (p.1, p.2) (read_fault (contains nat_cmp c.args.uids.now) c.args.lines.now texts c.bytes.result.now c.in_err-uid.field-0.0 lines c.in_err-uid.ensures.first)

pub returns-then-short-lt4-clause-item : goal.returns-then-short-lt4-clause-item
returns-then-short-lt4-clause-item c =
    let lines = first_and_others c.args.lines.now c.index-lines-0.result c.bytes.result.now c.requires c.index-lines-0.is c.bytes.ensures.value in
    text_fault (contains nat_cmp c.args.uids.now) c.args.lines.now (take (length c.args.lines.now - 1) (drop 1 c.args.lines.now)) c.bytes.result.now c.in_ok-uid.field-0 c.in-Counts.uid c.in-Counts.flags c.in-Counts.bytes c.in-Counts.lines c.short_texts-short.result lines c.in-Counts.is c.in_ok-uid.ensures.first c.short_texts-short.ensures c.if-short-lt4.true
