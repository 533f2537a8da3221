use Rattle.std.proofs.Common.{[]}
use Rattle.pc_account_spelling.specs.RecordFormat.{mailboxes_from}
use Rattle.pc_account_records.proofs.ReadMailboxes.{mailboxes_more, mailboxes_halt, mailboxes_last}
use Rattle.pc_account_records.proofs.loading.mailboxes.read_each_mailbox.Goals as goal

pub returns-in_err-next : goal.returns-in_err-next
returns-in_err-next c =
    let clients = c.args.clients.now.entries in
    mailboxes_halt clients c.args.count c.loop-taken._taken c.loop-taken.live c.loop-taken.dropped (mailboxes_from clients c.args.count [] []) c.args.cursor.now c.loop-taken.cursor c.loop-taken-test.true c.loop-taken.invariant.follows c.read_next.new.cursor c.in_err-next.field-0.0 c.from_residual.result c.in_err-next.ensures.read c.from_residual.ensures

pub loop-taken-preserved : goal.loop-taken-preserved
loop-taken-preserved c =
    let clients = c.args.clients.now.entries in
    rw (c.in_ok-put.ensures.live, c.in_ok-put.ensures.dropped) (record {
      follows = mailboxes_more clients c.args.count c.loop-taken._taken c.loop-taken.live c.loop-taken.dropped (mailboxes_from clients c.args.count [] []) c.args.cursor.now c.loop-taken.cursor c.loop-taken-test.true c.loop-taken.invariant.follows c.read_next.new.cursor c.in_ok-next.next c.in_ok-next.ensures.read;
      within = c.in_ok-next.ensures.within;
    })

pub returns : goal.returns
returns c =
    let clients = c.args.clients.now.entries in
    mailboxes_last clients c.args.count c.loop-taken._taken c.loop-taken.live c.loop-taken.dropped (mailboxes_from clients c.args.count [] []) c.args.cursor.now c.loop-taken.cursor c.loop-taken-test.false c.loop-taken.invariant.follows
