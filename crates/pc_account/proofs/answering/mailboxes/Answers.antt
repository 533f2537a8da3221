use Rattle.std.proofs.Common.{◌∙◌, sym, ap}
use Rattle.pc_account.specs.declared.answer.Answer.TheVariants.{Mailboxes}
use Rattle.pc_account.proofs.Told.{rows-there}
use Rattle.pc_account.proofs.answering.mailboxes.Goals as goal

pub returns-clause-told : goal.returns-clause-told
returns-clause-told c = ap Mailboxes (c.in_ok-rows.ensures ∙ sym (rows-there c.args.holdings.now.held c.args.holdings.now.next c.requires.well_formed))
