use Rattle.std.proofs.Common.{sym, ◌∙◌, true, false}
use Rattle.pc_fields.specs.Fields.{u32_kind, within}
use Rattle.pc_fields.proofs.TestedFields.{field_passes, field_fails}
use Rattle.pc_fields.proofs.Pushes.{within-parts}
use Rattle.pc_account_records.specs.ReadList.{is_next}
use Rattle.pc_account_records.proofs.ReadLists.{listed_by, field_ahead, next_listed, next_stuck, next_passes}
use Rattle.pc_account_records.proofs.loading.lists.read_uid.Goals as goal

pub returns-then-is_some-clause-read : goal.returns-then-is_some-clause-read
returns-then-is_some-clause-read c =
    let range = within 1 c.args.highest in
    let uid = c.in_ok-uid.uid in
    let reads = field_ahead u32_kind range c.ahead-ahead.result c.args.cursor.now c.u32.new.self uid c.ahead-ahead.ensures c.in_ok-uid.ensures in
    field_fails u32_kind range (is_next c.args.highest c.args.left c.args.list.now c.args.last) c.args.cursor.now c.u32.new.self uid reads
    (next_listed c.args.highest c.args.left c.args.list.now c.args.last uid (listed_by uid c.args.list.now c.stamp.result true c.stamp.ensures (sym c.is_some.ensures ∙ c.if-is_some.true)))

pub can_follow-requires-clause-new : goal.can_follow-requires-clause-new
can_follow-requires-clause-new c = listed_by c.in_ok-uid.uid c.args.list.now c.stamp.result false c.stamp.ensures (sym c.is_some.ensures ∙ c.if-is_some.false)

pub returns-then-not-can_follow-clause-read : goal.returns-then-not-can_follow-clause-read
returns-then-not-can_follow-clause-read c =
    let range = within 1 c.args.highest in
    let uid = c.in_ok-uid.uid in
    let reads = field_ahead u32_kind range c.ahead-ahead.result c.args.cursor.now c.u32.new.self uid c.ahead-ahead.ensures c.in_ok-uid.ensures in
    field_fails u32_kind range (is_next c.args.highest c.args.left c.args.list.now c.args.last) c.args.cursor.now c.u32.new.self uid reads
    (next_stuck c.args.highest c.args.left c.args.list.now c.args.last uid c.least_stamp_of.result c.can_follow.result c.least_stamp_of.ensures (sym c.can_follow.ensures.can) c.if-not-can_follow.true)

pub returns-clause-read : goal.returns-clause-read
returns-clause-read c =
    let range = within 1 c.args.highest in
    let uid = c.in_ok-uid.uid in
    let reads = field_ahead u32_kind range c.ahead-ahead.result c.args.cursor.now c.u32.new.self uid c.ahead-ahead.ensures c.in_ok-uid.ensures in
    let off = listed_by uid c.args.list.now c.stamp.result false c.stamp.ensures (sym c.is_some.ensures ∙ c.if-is_some.false) in
    field_passes u32_kind range (is_next c.args.highest c.args.left c.args.list.now c.args.last) c.args.cursor.now c.u32.new.self uid reads
    (next_passes c.args.highest c.args.left c.args.list.now c.args.last uid c.least_stamp_of.result c.can_follow.result c.least_stamp_of.ensures (sym c.can_follow.ensures.can) reads.told.passed off c.if-not-can_follow.false)

pub returns-clause-new : goal.returns-clause-new
returns-clause-new c = (
  (within-parts 1 c.args.highest c.in_ok-uid.uid c.in_ok-uid.ensures.told.passed).0,
  listed_by c.in_ok-uid.uid c.args.list.now c.stamp.result false c.stamp.ensures (sym c.is_some.ensures ∙ c.if-is_some.false),
)
