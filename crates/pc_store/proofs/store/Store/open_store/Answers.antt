use Rattle.std.proofs.Common.{◌≡◌, ◌∙◌, ℕ, ◌+◌, ◌^◌, ◌≤◌, List, length, sym, ap, subst, arith}
use Rattle.pc_disk.specs.Images.{Images}
use Rattle.pc_disk.specs.Outcomes.{LeavesOnly, SameDue}
use Rattle.pc_log.specs.Area.{front}
use Rattle.pc_store.specs.History.{IsReplay, written_of}
use Rattle.pc_store.specs.Current.{OpensIn}
use Rattle.pc_store.specs.Reading.{head_of_history}
use Rattle.pc_store.specs.Store.{Acknowledges, StoreState}
use Rattle.pc_store.proofs.OpenedLemmas.{held_acknowledged, held_opens}
use Rattle.pc_store.proofs.store.Store.open_store.Goals as goal

pub returns-clause-found : goal.returns-clause-found
returns-clause-found g c told =
    let machine = g.M.Machine in
    let held = held_opens machine g.D.Disk.tells (g.D.Disk.seen c.read_settled.new.disk) c.in-Ok.history told c.in-Ok.ensures.found.holds in
    let there = subst (λ (i : Images). OpensIn machine c.in-Ok.history.log.area (head_of_history machine c.in-Ok.history) c.in-Ok.history.trail.items i) (c.read_settled.ensures.seen told) held in
    subst (λ (s : StoreState _ _ _). OpensIn machine s.area s.head s.trail (g.D.Disk.seen c.args.disk)) (sym c.of.ensures) there

pub returns-clause-replay : goal.returns-clause-replay
returns-clause-replay g c = subst (λ (s : StoreState _ _ _). IsReplay g.M.Machine s.head s.trail s.state) (sym c.of.ensures) c.in-Ok.ensures.replay

pub returns-clause-acknowledged : goal.returns-clause-acknowledged
returns-clause-acknowledged g c told =
    subst (λ (s : StoreState _ _ _). Acknowledges g.M.Machine g.D.Disk.seen g.D.Disk.may_leave s) (sym c.of.ensures)
    (held_acknowledged g.M.Machine g.D.Disk.tells g.D.Disk.seen g.D.Disk.may_leave c.read_settled.new.disk c.in-Ok.history told c.in-Ok.ensures.found)

pub returns-clause-only : goal.returns-clause-only
returns-clause-only g c told index head trail opens =
    let found = c.in-Ok.ensures.only told index head trail opens in (
      ap (λ (s : StoreState _ _ _). s.area) c.of.ensures ∙ found.0,
      ap (λ (s : StoreState _ _ _). s.head) c.of.ensures ∙ found.1,
      ap (λ (s : StoreState _ _ _). s.trail) c.of.ensures ∙ found.2,
    )

pub returns-clause-faults : goal.returns-clause-faults
returns-clause-faults g c = subst (λ (s : StoreState _ _ _). g.D.Disk.faults c.args.disk ≤ g.D.Disk.faults s.disk) (sym c.of.ensures) c.read_settled.ensures.faults

pub returns-clause-seen : goal.returns-clause-seen
returns-clause-seen g c told = ap (λ (s : StoreState _ _ _). g.D.Disk.seen s.disk) c.of.ensures ∙ c.read_settled.ensures.seen told

pub returns-clause-any_moment : goal.returns-clause-any_moment
returns-clause-any_moment g c told =
    subst (λ (s : StoreState _ _ _). LeavesOnly g.D.Disk.moment g.D.Disk.left_since c.args.disk s.disk (g.D.Disk.may_leave c.args.disk)) (sym c.of.ensures) (c.read_settled.ensures.any_moment told)

pub returns-clause-calls : goal.returns-clause-calls
returns-clause-calls g c = ap (λ (s : StoreState _ _ _). g.D.Disk.moment s.disk) c.of.ensures ∙ c.in-Ok.ensures.calls

pub returns-clause-ahead : goal.returns-clause-ahead
returns-clause-ahead g c told =
    subst (λ (s : StoreState _ _ _). SameDue (g.D.Disk.moment s.disk) (g.D.Disk.due c.args.disk) (g.D.Disk.due s.disk)) (sym c.of.ensures) (c.read_settled.ensures.ahead told)

pub returns-clause-taken : goal.returns-clause-taken
returns-clause-taken g c =
    let head = head_of_history g.M.Machine c.in-Ok.history in
    let gate : c.in-Ok.history.log.gate ≡ length (front head (written_of g.M.Machine c.in-Ok.history.trail.items)) = c.in-Ok.ensures.found.holds.holds.gate in
    let most : g.D.Disk.taken c.read_settled.new.disk ≤ g.D.Disk.taken c.args.disk + length (front head (written_of g.M.Machine c.in-Ok.history.trail.items)) + 65 = omega (arith, gate, c.in-Ok.ensures.taken) in
    subst (λ (s : StoreState _ _ _). g.D.Disk.taken s.disk ≤ g.D.Disk.taken c.args.disk + length (front s.head (written_of g.M.Machine s.trail)) + 65) (sym c.of.ensures) most

pub returns-clause-most_taken : goal.returns-clause-most_taken
returns-clause-most_taken g c =
    subst (λ (s : StoreState _ _ _). g.D.Disk.taken s.disk ≤ g.D.Disk.taken c.args.disk + 2 ^ 31) (sym c.of.ensures) c.read_settled.ensures.most_taken
