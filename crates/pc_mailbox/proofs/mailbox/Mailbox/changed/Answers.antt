use Rattle.std.proofs.Common.{◌≡◌, rules, ◌∙◌, subst, ap, IfOk, List, take}
use Rattle.pc_account_history.specs.declared.kept.Listed.{Listed}
use Rattle.pc_account_history.specs.Record.{list_of}
use Rattle.pc_mailbox.proofs.Histories.{changes-known}
use Rattle.pc_mailbox.proofs.mailbox.Mailbox.changed.Goals as goal

pub returns-in-Some-clause-history : goal.returns-in-Some-clause-history
returns-in-Some-clause-history c =
    let told : IfOk c.first.result (λ shown. shown ≡ take c.args.count (list_of c.args.self.now c.args.client)) = search rules in
    λ h name s. subst (λ (known : List Listed). IfOk c.first.result (λ shown. shown ≡ take c.args.count known)) (changes-known h name c.args.self.now s c.args.client) told

pub returns-in-None-clause-history : goal.returns-in-None-clause-history
returns-in-None-clause-history c =
    let told : c.new.result ≡ take c.args.count (list_of c.args.self.now c.args.client) = search rules in
    λ h name s. told ∙ ap (take c.args.count) (changes-known h name c.args.self.now s c.args.client)
