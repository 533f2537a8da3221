use Rattle.std.proofs.Common.{nat_lt, ap, ◌∙◌}
use Rattle.pc_office_records.proofs.Rows.{open-yes, open-no, open-none}
use Rattle.pc_office_records.proofs.loading.kept.is_open.Goals as goal

pub returns-then-standing-number : goal.returns-then-standing-number
returns-then-standing-number c =
    ap (nat_lt 0) c.space_beside.ensures.space ∙ open-yes c.args.number c.args.user.now c.args.users.now c.get.result c.in-Some.standing c.requires c.get.ensures c.in-Some.is c.if-standing-number.true

pub returns-else-standing-number : goal.returns-else-standing-number
returns-else-standing-number c = open-no c.args.number c.args.user.now c.args.users.now c.get.result c.in-Some.standing c.requires c.get.ensures c.in-Some.is c.if-standing-number.false

pub returns-in-None : goal.returns-in-None
returns-in-None c = open-none c.args.number c.args.user.now c.args.users.now c.get.result c.requires c.get.ensures c.in-None.is
