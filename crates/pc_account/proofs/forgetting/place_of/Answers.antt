use Rattle.std.proofs.Common.{◌∙◌}
use Rattle.pc_account.proofs.Taken.{place-found}
use Rattle.pc_account.proofs.forgetting.place_of.Goals as goal

pub returns-clause-place : goal.returns-clause-place
returns-clause-place c = c.unwrap_or.ensures ∙ place-found c.args.uid c.args.uids.now c.first_from.result c.first_from.ensures.place
