use Rattle.std.proofs.Common.{subst}
use Rattle.pc_store.specs.Store.{OpensInDoubt, StoreState}
use Rattle.pc_store.proofs.store.Store.into_disk.Goals as goal

pub returns-clause-leaves : goal.returns-clause-leaves
returns-clause-leaves g c told left may = subst (λ (s : StoreState _ _ _). OpensInDoubt g.M.Machine s left) c.self.view_is (c.self.invariant.leaves told left may)
