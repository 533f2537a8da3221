use Rattle.std.proofs.Common.{◌≡◌, ◌∙◌, ap}
use Rattle.pc_mailbox.specs.Mailbox.{weight_of_all}
use Rattle.pc_mailbox.proofs.Histories.{messages-known}
use Rattle.pc_mailbox.proofs.mailbox.Mailbox.weight.Goals as goal

pub returns-clause-history : goal.returns-clause-history
returns-clause-history c =
    let told : c.self.inside.weight ≡ weight_of_all c.args.self.now.messages = rw (← c.self.view_is) c.self.invariant.0.weighed in
    λ h name s. told ∙ ap weight_of_all (messages-known h name c.args.self.now s)
