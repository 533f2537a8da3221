use Rattle.std.proofs.Common.{subst}
use Rattle.pc_account_holdings.specs.State.{said}
use Rattle.pc_session.specs.declared.task.Task.{Task}
use Rattle.pc_session.specs.Tasks.{WishesRightly}
use Rattle.pc_session.proofs.answering.carry_out.Goals as goal

pub change-requires-clause-wish : goal.change-requires-clause-wish
change-requires-clause-wish g c = subst (λ (task : Task). WishesRightly task) c.in-Change.is c.requires.wish (said (g.K.DeskAccess.told c.args.desk.now).state)
