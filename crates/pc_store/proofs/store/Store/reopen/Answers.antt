use Rattle.std.proofs.Common.{◌≡◌, ℕ, ◌+◌, ◌≤◌, length, arith}
use Rattle.std.proofs.lemmas.Result.{err_from_is_err_and}
use Rattle.pc_log.specs.Area.{front}
use Rattle.pc_store.specs.History.{written_of}
use Rattle.pc_store.specs.Reading.{head_of_history}
use Rattle.pc_store.proofs.OpenedLemmas.{held_acknowledged, held_sound, outside_again, same_again, sound_still}
use Rattle.pc_store.proofs.store.Store.reopen.Goals as goal

pub invariant_of-self : goal.invariant_of-self
invariant_of-self g c =
    sound_still g.M.Machine g.D.Disk.tells g.D.Disk.seen g.D.Disk.may_leave _ c.read_settled.new.disk _ _ c.read_settled.ensures.seen c.read_settled.ensures.keeps c.self.invariant

pub invariant_of-self-2 : goal.invariant_of-self-2
invariant_of-self-2 g c =
    held_sound g.M.Machine g.D.Disk.tells g.D.Disk.seen g.D.Disk.may_leave c.read_settled.new.disk c.in_ok-history.history c.in_ok-history.ensures.found

pub returns-in_err-history-clause-outside : goal.returns-in_err-history-clause-outside
returns-in_err-history-clause-outside g c told =
    let p = err_from_is_err_and c.from_residual.result c.from_residual.ensures.1 in
    let now = g.D.Disk.seen c.self.inside.disk in
    rw (p.1, p.2) (outside_again g.M.Machine _ _ _ _ _ now c.in_err-history.field-0.0 (λ index head trail opens. c.in_err-history.ensures.only told index head trail opens)
    (c.self.invariant.leaves told now (g.met.D.Disk.present told c.self.inside.disk)))

pub returns-clause-same : goal.returns-clause-same
returns-clause-same g c told =
    let now = g.D.Disk.seen c.self.inside.disk in
    rw (← c.self.view_is) (same_again g.M.Machine _ _ now (λ index head trail opens. c.in_ok-history.ensures.only told index head trail opens) (c.self.invariant.leaves told now (g.met.D.Disk.present told c.self.inside.disk)))

pub returns-clause-acknowledged : goal.returns-clause-acknowledged
returns-clause-acknowledged g c told = held_acknowledged g.M.Machine g.D.Disk.tells g.D.Disk.seen g.D.Disk.may_leave c.read_settled.new.disk c.in_ok-history.history told c.in_ok-history.ensures.found

pub returns-clause-taken : goal.returns-clause-taken
returns-clause-taken g c =
    let history = c.in_ok-history.history in
    let size : ℕ = length (front (head_of_history g.M.Machine history) (written_of g.M.Machine history.trail.items)) in
    let gate : history.log.gate ≡ size = c.in_ok-history.ensures.found.holds.holds.gate in
    let most : g.D.Disk.taken c.read_settled.new.disk ≤ g.D.Disk.taken c.self.inside.disk + size + 65 = omega (arith, gate, c.in_ok-history.ensures.taken) in
    rw (← c.self.view_is) most
