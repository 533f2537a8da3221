use Rattle.std.proofs.Common.{◌≡◌, rules, ◌∙◌, length, ap}
use Rattle.pc_account_history.specs.declared.kept.Kept.{Kept}
use Rattle.std.proofs.Common.{List}
use Rattle.pc_mailbox.proofs.Histories.{messages-known}
use Rattle.pc_mailbox.proofs.mailbox.Mailbox.count.Goals as goal

pub returns-clause-history : goal.returns-clause-history
returns-clause-history c =
    let told : c.len.result ≡ length c.args.self.now.messages = search rules in
    λ h name s. told ∙ ap (λ (l : List Kept). length l) (messages-known h name c.args.self.now s)
