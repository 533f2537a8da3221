use Rattle.pc_world.proofs.OfForm.{has_run, not_refused}
use Rattle.pc_world.proofs.laws.forms_have_runs.Goals as goal

pub returns-clause-run : goal.returns-clause-run
returns-clause-run c = has_run

pub returns-clause-no_refusal : goal.returns-clause-no_refusal
returns-clause-no_refusal c = not_refused
