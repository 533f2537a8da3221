use Rattle.std.proofs.Common.{◌≡◌, rules, ◌∙◌}
use Rattle.pc_account_history.specs.Record.{list_of, stamp_at}
use Rattle.pc_mailbox.proofs.Histories.{stamp-known}
use Rattle.pc_mailbox.proofs.mailbox.Mailbox.is_listed.Goals as goal

pub returns-in_err-list-clause-history : goal.returns-in_err-list-clause-history
returns-in_err-list-clause-history c =
    let told : c.from_residual.result ≡ stamp_at c.args.uid (list_of c.args.self.now c.args.client) = search rules in
    λ h name s. told ∙ stamp-known h name c.args.self.now s c.args.client c.args.uid

pub returns-clause-history : goal.returns-clause-history
returns-clause-history c =
    let told : c.stamp.result ≡ stamp_at c.args.uid (list_of c.args.self.now c.args.client) = search rules in
    λ h name s. told ∙ stamp-known h name c.args.self.now s c.args.client c.args.uid
