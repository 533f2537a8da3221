use Rattle.std.proofs.Common.{◌-◌, []}
use Rattle.pc_account_spelling.specs.RecordFormat.{subscriptions_from}
use Rattle.pc_fields.proofs.Follows.{Follows}
use Rattle.pc_account_records.proofs.loading.read_each_subscription.Given as goal

abbrev pub invariant-loop-taken : goal.invariant-loop-taken
invariant-loop-taken l = Follows (subscriptions_from l.count []) (subscriptions_from (l.count - l._taken) l.subscriptions.entries) l.fn.cursor l.cursor
