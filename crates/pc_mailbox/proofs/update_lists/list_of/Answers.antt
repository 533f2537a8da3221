use Rattle.std.proofs.Common.{refl, sym, []}
use Rattle.pc_tables.proofs.Places.{lookup-found, nowhere}
use Rattle.pc_mailbox.proofs.update_lists.list_of.Goals as goal

pub returns-in_err-index : goal.returns-in_err-index
returns-in_err-index c = rw (c.from_residual.ensures, (nowhere c.args.client.now c.args.lists.now [] c.in_err-index.ensures).0) refl

pub returns : goal.returns
returns c = sym (lookup-found c.args.client.now c.args.lists.now c.index-lists-index.result c.in_ok-index.index c.in_ok-index.ensures)
