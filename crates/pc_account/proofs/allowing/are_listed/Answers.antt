use Rattle.std.proofs.Common.{◌∙◌, sym, ap, is_some}
use Rattle.std.specs.List.{list_all}
use Rattle.pc_account_history.specs.Record.{MailboxRecord, list_of, stamp_at}
use Rattle.pc_account.proofs.Found.{live-found, not-dead}
use Rattle.pc_account.proofs.allowing.are_listed.Goals as goal

pub returns-in-Some : goal.returns-in-Some
returns-in-Some c = c.are_listed_in.ensures ∙ sym (ap (λ (box : MailboxRecord). list_all (λ uid. is_some (stamp_at uid (list_of box c.args.client.now))) c.args.uids.now) (live-found c.args.holdings.now.held c.args.mailbox.now c.in-Some.holder.now c.in-Some.ensures))

pub returns-in-None : goal.returns-in-None
returns-in-None c = absurd (not-dead c.args.holdings.now.held c.args.mailbox.now c.requires (sym c.in-None.ensures))
