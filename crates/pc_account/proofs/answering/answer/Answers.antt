use Rattle.std.proofs.Common.{sym, subst}
use Rattle.pc_base.specs.AskFault.{Tells}
use Rattle.pc_account_holdings.specs.State.{said}
use Rattle.pc_account.specs.Answers.{answered}
use Rattle.pc_account.specs.declared.answer.Question.{Question}
use Rattle.pc_account.proofs.answering.answer.Goals as goal

pub returns-in-Changed-clause-told : goal.returns-in-Changed-clause-told
returns-in-Changed-clause-told c = subst (λ (asked : Question). Tells (answered (said c.args.holdings.now) asked) c.changed.result) (sym c.in-Changed.is) c.changed.ensures.told
