use Rattle.std.proofs.Common.{◌∙◌, ◌+◌, ◌≤◌, sym, ap, subst}
use Rattle.pc_disk.specs.Outcomes.{SameDue}
use Rattle.pc_log.specs.Making.{NoneDue}
use Rattle.pc_store.specs.Store.{StoreState}
use Rattle.pc_store.proofs.store.Store.create.Goals as goal

pub returns-clause-seen : goal.returns-clause-seen
returns-clause-seen g c told = ap (λ (s : StoreState _ _ _). g.D.Disk.seen s.disk) c.of.ensures ∙ c.in-Ok.ensures.seen told

pub returns-clause-calls : goal.returns-clause-calls
returns-clause-calls g c told = ap (λ (s : StoreState _ _ _). g.D.Disk.moment s.disk) c.of.ensures ∙ c.in-Ok.ensures.calls told

pub returns-clause-due : goal.returns-clause-due
returns-clause-due g c told =
    subst (λ (s : StoreState _ _ _). NoneDue (g.D.Disk.moment c.args.disk) (g.D.Disk.moment s.disk) (g.D.Disk.due c.args.disk)) (sym c.of.ensures) (c.in-Ok.ensures.due told)

pub returns-clause-ahead : goal.returns-clause-ahead
returns-clause-ahead g c told =
    subst (λ (s : StoreState _ _ _). SameDue (g.D.Disk.moment s.disk) (g.D.Disk.due c.args.disk) (g.D.Disk.due s.disk)) (sym c.of.ensures) (c.make.ensures.ahead told)

pub returns-clause-taken : goal.returns-clause-taken
returns-clause-taken g c =
    subst (λ (s : StoreState _ _ _). g.D.Disk.taken s.disk ≤ g.D.Disk.taken c.args.disk + 1) (sym c.of.ensures) c.make.ensures.taken
