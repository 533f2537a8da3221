use Rattle.std.proofs.Common.{◌≡◌, ◌∙◌, ap, sym}
use Rattle.std.specs.Option.{unwrap_or}
use Rattle.pc_base.specs.declared.refusal.Refusal.{Refusal}
use Rattle.pc_base.specs.declared.refusal.Refusal.TheVariants.{UnknownOperation}
use Rattle.pc_reply.specs.declared.head.Head.TheVariants as head
use Rattle.pc_session.specs.Repository.{plain}
use Rattle.pc_session.specs.States.{needs_of, refusal_by}
use Rattle.pc_session.proofs.Alone.{refused-alone}
use Rattle.pc_session.proofs.answering.alone.Goals as goal

pub returns-in_default : goal.returns-in_default
returns-in_default c =
    let s = c.args.state.now in
    let why : c.unwrap_or.result ≡ unwrap_or (refusal_by (needs_of c.args.request.now) s) UnknownOperation = cc in
    refused-alone s c.args.request.now (λ version is. c.in_default.not-SendVersion version is) c.in_default.not-Help c.in_default.not-Logout ∙ ap (λ (told : Refusal). plain (head.Refused told)) (sym why)
