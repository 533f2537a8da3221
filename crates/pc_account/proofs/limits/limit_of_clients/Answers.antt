use Rattle.std.proofs.Common.{◌∙◌, sym, ap, arith, None, nat_lt}
use Rattle.pc_base.specs.declared.refusal.LimitWord.TheVariants.{Clients, Changes}
use Rattle.pc_account_history.specs.declared.limits.TheConstants.{MOST_CLIENTS, MOST_CHANGES}
use Rattle.pc_account_history.specs.declared.entry.Entry.TheVariants.{MakeClient}
use Rattle.pc_account_history.specs.Known.{after_entry}
use Rattle.pc_account_history.specs.Limits.{listed_count}
use Rattle.pc_account_holdings.specs.State.{said}
use Rattle.pc_account.specs.Limits.{limit_where}
use Rattle.pc_account.proofs.TableSums.{none-from}
use Rattle.pc_account.proofs.Found.{not-true, clients-counted}
use Rattle.pc_tables.proofs.Table.{length-pushed}
use Rattle.pc_account.proofs.Passed.{some-limit, no-limit, above, not-above}
use Rattle.pc_account.proofs.limits.limit_of_clients.Goals as goal

pub returns-then-len-ge-MOST_CLIENTS : goal.returns-then-len-ge-MOST_CLIENTS
returns-then-len-ge-MOST_CLIENTS c =
    let table = c.args.holdings.now.held.clients in
    let count = clients-counted c.clients.result.now.entries table c.len.result c.clients.ensures c.len.ensures.len in
    let pushed = length-pushed c.args.client.now table c.args.holdings.now.next (none-from _ (not-true _ c.requires.allowed)) in
    let full = c.if-len-ge-MOST_CLIENTS.true in
    some-limit _ Clients (limit_where (nat_lt MOST_CHANGES (listed_count (after_entry (said c.args.holdings.now) (MakeClient c.args.client.now)))) Changes None) (above MOST_CLIENTS _ (omega (arith, count, pushed, full)))

pub returns : goal.returns
returns c =
    let table = c.args.holdings.now.held.clients in
    let count = clients-counted c.clients.result.now.entries table c.len.result c.clients.ensures c.len.ensures.len in
    let pushed = length-pushed c.args.client.now table c.args.holdings.now.next (none-from _ (not-true _ c.requires.allowed)) in
    let room = c.if-len-ge-MOST_CLIENTS.false in
    c.limit_of_changes.ensures ∙ ap (λ n. limit_where (nat_lt MOST_CHANGES n) Changes None) (sym c.growth_of_client.ensures) ∙ no-limit _ Clients (limit_where (nat_lt MOST_CHANGES (listed_count (after_entry (said c.args.holdings.now) (MakeClient c.args.client.now)))) Changes None) (not-above MOST_CLIENTS _ (omega (arith, count, pushed, room)))
