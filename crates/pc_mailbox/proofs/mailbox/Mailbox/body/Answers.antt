use Rattle.std.proofs.Common.{◌≡◌, rules, ◌∙◌, Some, option_copied}
use Rattle.pc_mailbox.specs.Mailbox.{message_at}
use Rattle.pc_mailbox.proofs.Histories.{message-known}
use Rattle.pc_mailbox.proofs.mailbox.Mailbox.body.Goals as goal

pub find-requires : goal.find-requires
find-requires c = rw c.deref.ensures.value c.self.invariant.0.rising.rising

pub returns-in_err-kept-clause-history : goal.returns-in_err-kept-clause-history
returns-in_err-kept-clause-history c =
    let told : option_copied c.from_residual.result ≡ message_at c.args.uid c.args.self.now = search rules in
    λ h name s. told ∙ message-known h name c.args.self.now s c.args.uid

pub returns-clause-history : goal.returns-clause-history
returns-clause-history c =
    let told : Some c.in_ok-kept.kept.now.message ≡ message_at c.args.uid c.args.self.now = search rules in
    λ h name s. told ∙ message-known h name c.args.self.now s c.args.uid
