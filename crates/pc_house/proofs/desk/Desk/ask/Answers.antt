use Rattle.std.proofs.Common.{subst}
use Rattle.pc_session.specs.declared.state.Reach.{Reach}
use Rattle.pc_house.specs.Asking.{AsksDesk}
use Rattle.pc_house.proofs.desk.Desk.ask.Goals as goal

pub returns-in-Account-clause-asked : goal.returns-in-Account-clause-asked
returns-in-Account-clause-asked g c = subst (λ (r : Reach). AsksDesk g.D.Disk.tells g.D.Disk.faults r c.args.request.now c.args.self.now c.args.session.now c.with_account.result c.with_account.new.desk c.with_account.new.self) c.in-Account.ensures (c.with_account.ensures.turn, c.with_account.ensures.faults)
