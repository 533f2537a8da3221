use Rattle.std.proofs.Common.{◌≡◌, length}
use Rattle.pc_account_holdings.specs.Mailboxes.{front_changed, changed_for}
use Rattle.pc_account_holdings.proofs.mailboxes.Mailboxes.change_for_client.Given as goal

abbrev pub invariant-loop-index : goal.invariant-loop-index
invariant-loop-index l = (l.self ≡ front_changed (changed_for l.change l.at l.client) l.index l.initial.self) × (length l.self ≡ length l.initial.self)
