use Rattle.std.proofs.Common.{◌≡◌, rules, ◌∙◌, length, ap, List}
use Rattle.pc_account_history.specs.declared.kept.Listed.{Listed}
use Rattle.pc_account_history.specs.Record.{list_of}
use Rattle.pc_mailbox.proofs.Histories.{changes-known}
use Rattle.pc_mailbox.proofs.mailbox.Mailbox.listed_of.Goals as goal

pub returns-in-Some-clause-history : goal.returns-in-Some-clause-history
returns-in-Some-clause-history c =
    let told : c.count.result ≡ length (list_of c.args.self.now c.args.client) = search rules in
    λ h name s. told ∙ ap (λ (l : List Listed). length l) (changes-known h name c.args.self.now s c.args.client)

pub returns-in-None-clause-history : goal.returns-in-None-clause-history
returns-in-None-clause-history c =
    let told : 0 ≡ length (list_of c.args.self.now c.args.client) = search rules in
    λ h name s. told ∙ ap (λ (l : List Listed). length l) (changes-known h name c.args.self.now s c.args.client)
