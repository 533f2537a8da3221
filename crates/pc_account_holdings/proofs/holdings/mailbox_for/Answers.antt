use Rattle.std.proofs.Common.{ap, ◌∙◌}
use Rattle.pc_account_history.specs.Record.{MailboxRecord}
use Rattle.pc_account_history.specs.Step.{with_client}
use Rattle.pc_account_holdings.proofs.Names.{client-next}
use Rattle.pc_account_holdings.proofs.holdings.mailbox_for.Goals as goal

pub loop-client-preserved : goal.loop-client-preserved
loop-client-preserved c = c.in_ok-add_client.ensures.mailbox ∙ ap (λ (box : MailboxRecord). with_client 0 c.client-item.result box) c.loop-client.invariant ∙ client-next c.args.clients.now c.loop-client.client-index c.client-item.result c.requires c.loop-client-test.true c.client-item.is
