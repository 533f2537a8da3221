use Rattle.std.proofs.Common.{Result, subst}
use Rattle.pc_base.specs.declared.refusal.Refusal.{Refusal}
use Rattle.pc_request.specs.declared.request.Request.{Request}
use Rattle.pc_session.specs.Talking.{AsksFor}
use Rattle.pc_session.proofs.Heard.{leaves_by}
use Rattle.pc_session.proofs.conversing.leaves.Goals as goal

pub returns-in-Ok : goal.returns-in-Ok
returns-in-Ok c line asks = leaves_by line c.in-Ok.request c.is_logout.result (subst (λ (r : Result Request Refusal). AsksFor line r) c.in-Ok.is asks) c.is_logout.ensures
