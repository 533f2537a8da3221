use Rattle.std.proofs.Common.{◌∙◌, ap}
use Rattle.pc_account_history.specs.Record.{MailboxRecord}
use Rattle.pc_mailbox.proofs.Histories.{highest-known}
use Rattle.pc_mailbox.proofs.mailbox.Mailbox.highest.Goals as goal

pub returns-clause-history : goal.returns-clause-history
returns-clause-history c = λ h name s. ap (λ (box : MailboxRecord). box.highest) c.self.view_is ∙ highest-known h name c.args.self.now s
