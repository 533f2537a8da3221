use Rattle.std.proofs.Common.{◌≡◌, take}
use Rattle.pc_account_holdings.specs.Mailboxes.{empty_for}
use Rattle.pc_account_holdings.proofs.holdings.mailbox_for.Given as goal

abbrev pub invariant-loop-client : goal.invariant-loop-client
invariant-loop-client l = l.mailbox ≡ empty_for (take l.client-index l.clients)
