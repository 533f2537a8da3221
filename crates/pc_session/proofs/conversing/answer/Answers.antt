use Rattle.std.proofs.Common.{sym, ◌∙◌}
use Rattle.pc_session.proofs.Heard.{failed_line, left_line, stayed_line}
use Rattle.pc_session.proofs.conversing.answer.Goals as goal

pub returns-then-is_err-clause-line : goal.returns-then-is_err-clause-line
returns-then-is_err-clause-line g c line asks = failed_line _ _ _ line _ _ c.reply_to-reply.result _ _ _ _ (c.reply_to-reply.ensures.line line asks) c.write.result c.write.ensures.content c.leaves-is_last.result (c.leaves-is_last.ensures line asks) (sym c.is_err.ensures.value ∙ c.if-is_err.true)

pub returns-then-is_last-clause-line : goal.returns-then-is_last-clause-line
returns-then-is_last-clause-line g c line asks = left_line _ _ _ line _ _ c.reply_to-reply.result _ _ _ _ (c.reply_to-reply.ensures.line line asks) c.write.result c.write.ensures.content c.leaves-is_last.result (c.leaves-is_last.ensures line asks) (sym c.is_err.ensures.value ∙ c.if-is_err.false) c.if-is_last.true

pub returns-clause-line : goal.returns-clause-line
returns-clause-line g c line asks = stayed_line _ _ _ line _ _ c.reply_to-reply.result _ _ _ _ (c.reply_to-reply.ensures.line line asks) c.write.result c.write.ensures.content c.leaves-is_last.result (c.leaves-is_last.ensures line asks) (sym c.is_err.ensures.value ∙ c.if-is_err.false) c.if-is_last.false
