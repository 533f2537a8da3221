use Rattle.std.proofs.Common.{sym, get_or}
use Rattle.pc_account_history.specs.Step.{touched}
use Rattle.pc_tables.proofs.Places.{set-found, lookup-found, nowhere}
use Rattle.pc_mailbox.proofs.Admitted.{err-holds, set-same}
use Rattle.pc_mailbox.proofs.update_lists.touch_for.Goals as goal

pub returns-in_default-clause-ok : goal.returns-in_default-clause-ok
returns-in_default-clause-ok c = sym (nowhere c.args.client.now c.args.lists.now _ c.in_default.ensures).1

pub returns-clause-ok : goal.returns-clause-ok
returns-clause-ok c =
    let found = lookup-found c.args.client.now c.args.lists.now c.index-lists-index.result c.in-Some.index c.in-Some.ensures in
    let here = get_or c.args.lists.now c.in-Some.index c.index-lists-index.result in
    rw (c.in_ok-touch_whole.ensures.ok, found) (sym (set-found c.args.client.now c.args.lists.now (touched c.args.at c.args.uids.now here.1) c.index-lists-index.result c.in-Some.index c.in-Some.ensures))

pub returns-in_err-touch_whole-clause-err : goal.returns-in_err-touch_whole-clause-err
returns-in_err-touch_whole-clause-err c = err-holds c.from_residual.result _ (rw c.in_err-touch_whole.ensures.err (set-same c.args.lists.now c.in-Some.index c.index-lists-index.result))
