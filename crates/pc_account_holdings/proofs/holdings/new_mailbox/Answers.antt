use Rattle.std.proofs.Common.{List, ℕ, ap, ◌∙◌}
use Rattle.pc_base.proofs.Results.{if-ok}
use Rattle.pc_account_holdings.specs.Mailboxes.{empty_for}
use Rattle.pc_account_holdings.proofs.Names.{new-for}
use Rattle.pc_account_holdings.proofs.holdings.new_mailbox.Goals as goal

pub returns : goal.returns
returns c = if-ok c.mailbox_for.result (λ mailbox e. e ∙ ap (λ (names : List (List ℕ)). empty_for names) (c.as_slice.ensures ∙ c.keys-names.ensures.rest) ∙ new-for c.args.clients.now.entries) c.mailbox_for.ensures
