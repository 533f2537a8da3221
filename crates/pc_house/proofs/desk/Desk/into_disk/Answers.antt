use Rattle.std.proofs.Common.{subst}
use Rattle.pc_store.specs.Store.{OpensInDoubt}
use Rattle.pc_account.specs.contracts.machine.AccountMachine.TheImpl.{ghosts as machine}
use Rattle.pc_house.specs.Desk.{DeskValue}
use Rattle.pc_house.proofs.desk.Desk.into_disk.Goals as goal

pub returns-clause-leaves : goal.returns-clause-leaves
returns-clause-leaves g c told left may = subst (λ (d : DeskValue _). OpensInDoubt machine d.store left) c.self.view_is (c.into_disk.ensures.leaves told left may)
