use Rattle.std.proofs.Common.{◌≡◌, rules, subst, IfOk, List}
use Rattle.pc_message.specs.declared.descriptor.Change.{Change}
use Rattle.pc_mailbox.specs.Mailbox.{described}
use Rattle.pc_mailbox.proofs.Histories.{described-known}
use Rattle.pc_mailbox.proofs.mailbox.Mailbox.descriptors.Goals as goal

pub describe_all-requires : goal.describe_all-requires
describe_all-requires c = rw c.deref.ensures.value c.self.invariant.0.rising.rising

pub returns-clause-history : goal.returns-clause-history
returns-clause-history c =
    let told : IfOk c.describe_all.result (λ changes. changes ≡ described c.args.low c.args.high c.args.self.now.messages) = search rules in
    λ h name s. subst (λ (known : List Change). IfOk c.describe_all.result (λ changes. changes ≡ known)) (described-known h name c.args.self.now s c.args.low c.args.high) told
