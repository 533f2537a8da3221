use Rattle.std.proofs.Common.{◌≡◌, rules, ◌∙◌}
use Rattle.pc_mailbox.specs.UpdateList.{takers_of}
use Rattle.pc_mailbox.proofs.Histories.{takers-known}
use Rattle.pc_mailbox.proofs.mailbox.Mailbox.takers.Goals as goal

pub returns-clause-history : goal.returns-clause-history
returns-clause-history c =
    let told : c.count_takers.result ≡ takers_of c.args.uid c.args.self.now.lists = search rules in
    λ h name s. told ∙ takers-known h name c.args.self.now s c.args.uid
