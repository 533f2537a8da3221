use Rattle.std.proofs.Common.{◌-◌, []}
use Rattle.pc_account_spelling.specs.RecordFormat.{mailboxes_from}
use Rattle.pc_fields.proofs.Follows.{Follows}
use Rattle.pc_account_records.specs.Loading.{AreWithin}
use Rattle.pc_account_records.proofs.loading.mailboxes.read_each_mailbox.Given as goal

abbrev pub invariant-loop-taken : goal.invariant-loop-taken
invariant-loop-taken l = record {
  follows : Follows (mailboxes_from l.clients.entries l.count [] []) (mailboxes_from l.clients.entries (l.count - l._taken) l.live l.dropped) l.fn.cursor l.cursor;
  within : AreWithin l.live l.dropped;
}
