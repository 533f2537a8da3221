use Rattle.std.proofs.Common.{sym}
use Rattle.pc_account_records.proofs.ReadLists.{can_follow-lower}
use Rattle.pc_account_records.proofs.loading.lists.can_follow.Goals as goal

pub returns-then-stamp-lt-LAST_NUMBER-clause-can : goal.returns-then-stamp-lt-LAST_NUMBER-clause-can
returns-then-stamp-lt-LAST_NUMBER-clause-can c = sym (can_follow-lower c.args.highest c.args.left c.args.uid c.args.stamp c.args.list.now c.if-stamp-lt-LAST_NUMBER.true)
