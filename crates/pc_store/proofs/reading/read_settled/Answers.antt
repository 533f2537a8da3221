use Rattle.std.proofs.Common.{◌∙◌, ℕ, ◌+◌, ◌^◌, ◌≤◌, List, sym, ap, subst, arith, inr}
use Rattle.std.proofs.lemmas.Result.{err_from_is_err_and}
use Rattle.std.specs.Prelude.{IfOk, IfErr}
use Rattle.pc_disk.specs.Images.{Images}
use Rattle.pc_disk.specs.Outcomes.{SameDue}
use Rattle.pc_store.specs.declared.reading.History.{History}
use Rattle.pc_store.specs.Opening.{IsFaultOf}
use Rattle.pc_store.specs.Reading.{HoldsCurrent}
use Rattle.pc_store.proofs.SameLemmas.{Lawful}
use Rattle.pc_store.proofs.FaultLemmas.{refuses_fault, refuses_unmade}
use Rattle.pc_store.proofs.OpenedLemmas.{finds_history, replays}
use Rattle.pc_store.proofs.DueLemmas.{due_at_sync, due_before, not_due, once, same_due_again}
use Rattle.pc_store.proofs.reading.read_settled.Given.{Over}
use Rattle.pc_store.proofs.reading.read_settled.Goals as goal

laws : (g : Over) → Lawful g.M.Machine
laws g = record {
  fits = g.met.M.Machine.allowed_fits;
  one = g.met.M.Machine.one_entry;
  keeps = g.met.M.Machine.step_is_legal;
  counts = g.met.M.Machine.step_next;
  begins = g.met.M.Machine.numbered_is_legal;
  numbered = g.met.M.Machine.numbered_next;
  saved = g.met.M.Machine.numbered_saved;
  entry_is_read = g.met.M.Machine.entry_is_read;
  one_entry_fault = g.met.M.Machine.one_entry_fault;
  one_record_fault = g.met.M.Machine.one_record_fault;
  record_is_read = g.met.M.Machine.record_is_read;
  one_record = g.met.M.Machine.one_record;
}

pub returns-clause-only : goal.returns-clause-only
returns-clause-only g c told =
    let same = c.settle.ensures.seen told in
    finds_history g.M.Machine (laws g) g.D.Disk.tells (g.D.Disk.seen c.args.disk.now) c.read_current.result told
    (subst (λ (i : Images). IfOk c.read_current.result (HoldsCurrent g.M.Machine g.D.Disk.tells i)) same c.read_current.ensures.found)
    (subst (λ (i : Images). IfErr c.read_current.result (IsFaultOf g.M.Machine i)) same (c.read_current.ensures.fault told))

pub returns-clause-unmade : goal.returns-clause-unmade
returns-clause-unmade g c told =
    let same = c.settle.ensures.seen told in
    refuses_unmade g.M.Machine (laws g) g.D.Disk.tells (g.D.Disk.seen c.args.disk.now) c.read_current.result told
    (subst (λ (i : Images). IfOk c.read_current.result (HoldsCurrent g.M.Machine g.D.Disk.tells i)) same c.read_current.ensures.found)
    (subst (λ (i : Images). IfErr c.read_current.result (IsFaultOf g.M.Machine i)) same (c.read_current.ensures.fault told))

pub returns-clause-first : goal.returns-clause-first
returns-clause-first g c told =
    let same = c.settle.ensures.seen told in
    refuses_fault g.M.Machine (laws g) g.D.Disk.tells (g.D.Disk.seen c.args.disk.now) c.read_current.result told
    (subst (λ (i : Images). IfOk c.read_current.result (HoldsCurrent g.M.Machine g.D.Disk.tells i)) same c.read_current.ensures.found)
    (subst (λ (i : Images). IfErr c.read_current.result (IsFaultOf g.M.Machine i)) same (c.read_current.ensures.fault told))

pub returns-in_err-settle-clause-unmade : goal.returns-in_err-settle-clause-unmade
returns-in_err-settle-clause-unmade g c told not =
    let p = err_from_is_err_and c.from_residual.result c.from_residual.ensures.1 in
    rw (p.1, p.2) (inr c.in_err-settle.ensures.outside)

pub returns-in_err-settle-clause-first : goal.returns-in_err-settle-clause-first
returns-in_err-settle-clause-first g c told index place fault =
    let p = err_from_is_err_and c.from_residual.result c.from_residual.ensures.1 in
    rw (p.1, p.2) (inr c.in_err-settle.ensures.outside)

pub returns-clause-replay : goal.returns-clause-replay
returns-clause-replay g c =
    replays g.M.Machine (laws g) g.D.Disk.tells (g.D.Disk.seen c.settle.new.disk) c.read_current.result c.read_current.ensures.found

pub returns-in_err-settle-clause-due : goal.returns-in_err-settle-clause-due
returns-in_err-settle-clause-due g c told =
    let p = err_from_is_err_and c.from_residual.result c.from_residual.ensures.1 in
    rw (p.1, p.2) (due_at_sync ℕ ℕ c.in_err-settle.field-0.0 _ _ (c.in_err-settle.ensures.due told))

pub returns-clause-calls : goal.returns-clause-calls
returns-clause-calls g c =
    once c.read_current.result (g.D.Disk.moment c.args.disk.now) (g.D.Disk.moment c.read_current.new.disk) (c.read_current.ensures.untouched.same_moment ∙ c.in_ok-settle.ensures.calls)

pub returns-clause-due : goal.returns-clause-due
returns-clause-due g c told =
    let old = c.args.disk.now in
    let mid = c.settle.new.disk in
    let same = subst (λ (n : ℕ). SameDue n (g.D.Disk.due old) (g.D.Disk.due mid)) c.in_ok-settle.ensures.calls (c.settle.ensures.ahead told) in
    not_due c.read_current.result (g.D.Disk.due old (g.D.Disk.moment old)) _ _ (c.in_ok-settle.ensures.due told)
    (due_before (g.D.Disk.due old) (g.D.Disk.due mid) (g.D.Disk.moment old + 1) (g.D.Disk.moment mid) (g.D.Disk.taken old) (g.D.Disk.taken mid) (2 ^ 31) (2 ^ 31) c.in_ok-settle.ensures.calls same (omega (arith, c.settle.ensures.taken)))
    (c.read_current.ensures.due told)

pub returns-clause-ahead : goal.returns-clause-ahead
returns-clause-ahead g c told =
    let old = g.D.Disk.due c.args.disk.now in
    let mid = g.D.Disk.due c.settle.new.disk in
    let new = g.D.Disk.due c.read_current.new.disk in
    let same = subst (λ (n : ℕ). SameDue n mid new) (sym c.read_current.ensures.untouched.same_moment) (c.read_current.ensures.untouched.ahead told) in
    same_due_again (g.D.Disk.moment c.settle.new.disk) (g.D.Disk.moment c.read_current.new.disk) old mid new (omega (arith, c.read_current.ensures.untouched.same_moment)) (c.settle.ensures.ahead told) same

pub returns-clause-taken : goal.returns-clause-taken
returns-clause-taken g c =
    subst (λ (n : ℕ). IfOk c.read_current.result (λ (history : History _ _). g.D.Disk.taken c.read_current.new.disk ≤ n + history.log.gate + 65)) c.settle.ensures.taken c.read_current.ensures.taken
