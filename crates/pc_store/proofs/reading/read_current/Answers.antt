use Rattle.std.proofs.Common.{ℕ, Err, Ok, subst}
use Rattle.std.specs.Prelude.{IfErr}
use Rattle.std.proofs.lemmas.Result.{err_from_is_err_and}
use Rattle.pc_disk.specs.Images.{Images, area_of}
use Rattle.pc_store.specs.Reading.{Counts, IsFaultAt}
use Rattle.pc_store.proofs.FoundLemmas.{current_held}
use Rattle.pc_store.proofs.FaultLemmas.{current_fault, none_in}
use Rattle.pc_store.proofs.reading.read_current.Goals as goal

pub returns-in_err-area-clause-fault : goal.returns-in_err-area-clause-fault
returns-in_err-area-clause-fault g c told =
    let p = err_from_is_err_and c.from_residual.result c.from_residual.ensures.1 in
    let seen = g.D.Disk.seen c.args.disk.now in
    rw (p.1, p.2) (none_in g.M.Machine seen c.in_err-area.field-0.0 (subst (λ (k : ℕ). Counts k seen (Err c.in_err-area.field-0.0)) c.KIND.ensures (c.in_err-area.ensures.counts told)))

pub returns-clause-found : goal.returns-clause-found
returns-clause-found g c =
    let seen = g.D.Disk.seen c.args.disk.now in
    current_held g.M.Machine g.D.Disk.tells seen (g.D.Disk.seen c.current.new.disk) c.in_ok-area.area c.read_history.result (λ told. (c.in_ok-area.ensures.untouched.still told).seen) c.in_ok-area.ensures.within
    (λ told. subst (λ (k : ℕ). Counts k seen (Ok c.in_ok-area.area)) c.KIND.ensures (c.in_ok-area.ensures.counts told)) c.read_history.ensures.found

pub returns-clause-fault : goal.returns-clause-fault
returns-clause-fault g c told =
    let seen = g.D.Disk.seen c.args.disk.now in
    let current = subst (λ (k : ℕ). Counts k seen (Ok c.in_ok-area.area)) c.KIND.ensures (c.in_ok-area.ensures.counts told) in
    current_fault g.M.Machine seen c.in_ok-area.area c.read_history.result current
    (subst (λ (i : Images). IfErr c.read_history.result (IsFaultAt g.M.Machine c.in_ok-area.area (area_of c.in_ok-area.area i))) (c.in_ok-area.ensures.untouched.still told).seen (c.read_history.ensures.fault told))
