use Rattle.std.proofs.Common.{arith, None}
use Rattle.pc_base.specs.declared.refusal.LimitWord.TheVariants.{Subscriptions}
use Rattle.pc_account_history.specs.declared.limits.TheConstants.{MOST_SUBSCRIPTIONS}
use Rattle.pc_account.proofs.TableSums.{none-from}
use Rattle.pc_account.proofs.Found.{not-true, clients-counted}
use Rattle.pc_tables.proofs.Table.{length-pushed}
use Rattle.pc_account.proofs.Passed.{some-limit, no-limit, above, not-above}
use Rattle.pc_account.proofs.limits.limit_of_subscriptions.Goals as goal

pub returns-then-len-ge-MOST_SUBSCRIPTIONS : goal.returns-then-len-ge-MOST_SUBSCRIPTIONS
returns-then-len-ge-MOST_SUBSCRIPTIONS c =
    let table = c.args.holdings.now.held.subscriptions in
    let count = clients-counted c.subscriptions.result.now.entries table c.len.result c.subscriptions.ensures c.len.ensures.len in
    let pushed = length-pushed c.args.board.now table 0 (none-from _ (not-true _ c.requires)) in
    let full = c.if-len-ge-MOST_SUBSCRIPTIONS.true in
    some-limit _ Subscriptions None (above MOST_SUBSCRIPTIONS _ (omega (arith, count, pushed, full)))

pub returns : goal.returns
returns c =
    let table = c.args.holdings.now.held.subscriptions in
    let count = clients-counted c.subscriptions.result.now.entries table c.len.result c.subscriptions.ensures c.len.ensures.len in
    let pushed = length-pushed c.args.board.now table 0 (none-from _ (not-true _ c.requires)) in
    let room = c.if-len-ge-MOST_SUBSCRIPTIONS.false in
    no-limit _ Subscriptions None (not-above MOST_SUBSCRIPTIONS _ (omega (arith, count, pushed, room)))
