use Rattle.std.proofs.Common.{◌≡◌, ◌∙◌, ap}
use Rattle.std.specs.List.{list_any}
use Rattle.pc_mailbox.specs.Mailbox.{is_deleted}
use Rattle.pc_mailbox.proofs.Histories.{messages-known}
use Rattle.pc_mailbox.proofs.mailbox.Mailbox.deletes.Goals as goal

pub returns-clause-history : goal.returns-clause-history
returns-clause-history c =
    let told : c.any_deleted.result ≡ list_any is_deleted c.args.self.now.messages = rw (← c.self.view_is, ← c.deref.ensures.value) c.any_deleted.ensures in
    λ h name s. told ∙ ap (list_any is_deleted) (messages-known h name c.args.self.now s)
