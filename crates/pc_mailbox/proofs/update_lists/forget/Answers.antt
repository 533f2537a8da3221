use Rattle.std.proofs.Common.{sym, get_or}
use Rattle.pc_account_history.specs.Step.{without}
use Rattle.pc_tables.proofs.Places.{set-found, lookup-found, nowhere}
use Rattle.pc_mailbox.proofs.update_lists.forget.Goals as goal

pub returns-in-Some : goal.returns-in-Some
returns-in-Some c =
    let found = lookup-found c.args.client.now c.args.lists.now c.index-lists-index.result c.in-Some.index c.in-Some.ensures in
    let here = get_or c.args.lists.now c.in-Some.index c.index-lists-index.result in
    rw (c.take_all_off.ensures, found) (sym (set-found c.args.client.now c.args.lists.now (without c.args.uids.now here.1) c.index-lists-index.result c.in-Some.index c.in-Some.ensures))

pub returns-in_default : goal.returns-in_default
returns-in_default c = sym (nowhere c.args.client.now c.args.lists.now _ c.in_default.ensures).1
