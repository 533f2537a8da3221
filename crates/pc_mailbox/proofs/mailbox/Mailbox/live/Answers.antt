use Rattle.std.proofs.Common.{◌≡◌, rules, ◌∙◌, Some}
use Rattle.pc_mailbox.specs.Mailbox.{flags_at}
use Rattle.pc_mailbox.proofs.Histories.{flags-known}
use Rattle.pc_mailbox.proofs.mailbox.Mailbox.live.Goals as goal

pub find-requires : goal.find-requires
find-requires c = rw c.deref.ensures.value c.self.invariant.0.rising.rising

pub returns-in_err-kept-clause-history : goal.returns-in_err-kept-clause-history
returns-in_err-kept-clause-history c =
    let told : c.from_residual.result ≡ flags_at c.args.uid c.args.self.now = search rules in
    λ h name s. told ∙ flags-known h name c.args.self.now s c.args.uid

pub returns-clause-history : goal.returns-clause-history
returns-clause-history c =
    let told : Some c.in_ok-kept.kept.now.flags ≡ flags_at c.args.uid c.args.self.now = search rules in
    λ h name s. told ∙ flags-known h name c.args.self.now s c.args.uid
