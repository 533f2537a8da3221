use Rattle.std.proofs.Common.{Result, refl, subst}
use Rattle.pc_base.specs.declared.refusal.Refusal.{Refusal}
use Rattle.pc_request.specs.declared.request.Request.{Request}
use Rattle.pc_session.specs.Conversation.{refused}
use Rattle.pc_session.specs.Talking.{AsksFor}
use Rattle.pc_session.proofs.Heard.{asked_exchange}
use Rattle.pc_session.proofs.conversing.reply_to.Goals as goal

-- src/conversing.rt:213:1
pub returns-in-Ok-clause-line : goal.returns-in-Ok-clause-line
returns-in-Ok-clause-line g c line asks = asked_exchange _ _ _ line _ _ _ _ _ c.in-Ok.request (subst (λ (r : Result Request Refusal). AsksFor line r) c.in-Ok.is asks) c.ask.ensures.asked c.ask.ensures.told

-- src/conversing.rt:213:1
pub returns-in-Err-clause-line : goal.returns-in-Err-clause-line
returns-in-Err-clause-line g c line asks = refused {why = c.in-Err.why} (subst (λ (r : Result Request Refusal). AsksFor line r) c.in-Err.is asks) c.plain_reply.ensures refl refl
