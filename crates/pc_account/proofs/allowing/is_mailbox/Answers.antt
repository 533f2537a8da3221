use Rattle.std.proofs.Common.{◌∙◌, sym}
use Rattle.pc_tables.proofs.Table.{is_among-keys}
use Rattle.pc_account.proofs.allowing.is_mailbox.Goals as goal

pub returns : goal.returns
returns c = c.is_live.ensures ∙ sym (is_among-keys c.args.mailbox.now c.args.holdings.now.held.live)
