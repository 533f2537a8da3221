use Rattle.std.proofs.Common.{sym, ◌∙◌}
use Rattle.pc_fields.specs.Fields.{u64_kind, within}
use Rattle.pc_fields.proofs.TestedFields.{field_fails}
use Rattle.pc_account_records.specs.ReadList.{is_stamp}
use Rattle.pc_account_records.proofs.ReadLists.{field_ahead, stamp_stuck}
use Rattle.pc_account_records.proofs.loading.lists.read_stamp.Goals as goal

pub returns-then-not-can_follow-clause-read : goal.returns-then-not-can_follow-clause-read
returns-then-not-can_follow-clause-read c =
    let range = within c.least_stamp_of.result 9223372036854775807 in
    let stamp = c.in_ok-stamp.stamp in
    let reads = field_ahead u64_kind range c.ahead-ahead.result c.args.cursor.now c.u64.new.self stamp c.ahead-ahead.ensures c.in_ok-stamp.ensures in
    field_fails u64_kind range (is_stamp c.args.highest c.args.left c.args.list.now c.args.last c.args.uid) c.args.cursor.now c.u64.new.self stamp reads
    (stamp_stuck c.args.highest c.args.left c.args.list.now c.args.last c.args.uid stamp (sym c.can_follow.ensures.can ∙ c.if-not-can_follow.true))
