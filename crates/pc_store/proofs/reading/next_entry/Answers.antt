use Rattle.std.proofs.Common.{◌≡◌, ℕ, List, Option, Ok, Err, sym, subst, arith}
use Rattle.pc_disk.specs.Images.{area_of}
use Rattle.pc_log.specs.declared.found.PlacedEntry.{PlacedEntry}
use Rattle.pc_log.specs.Reading.{next_of}
use Rattle.pc_log.specs.Opening.{Gives, bytes_of_next}
use Rattle.std.proofs.lemmas.Result.{err_from_is_err_and}
use Rattle.pc_store.specs.Reading.{MakesEntry}
use Rattle.pc_store.proofs.ReadingLemmas.{next_refused, next_past_last, next_unmade}
use Rattle.pc_store.proofs.reading.next_entry.Goals as goal

pub returns-in-Err-clause-next : goal.returns-in-Err-clause-next
returns-in-Err-clause-next g c =
    let area = area_of c.args.area (g.D.Disk.seen c.args.disk.now) in
    let gives = subst (λ (n : ℕ). g.D.Disk.tells → Gives {X = Option PlacedEntry} {Y = Option (List ℕ)} bytes_of_next (Err c.in-Err.fault) (next_of c.args.opening.now.reached (area_of n (g.D.Disk.seen c.args.disk.now)))) c.requires.area c.in-Err.ensures.exact in
    next_refused g.M.Machine g.D.Disk.tells area c.args.opening.now c.next.new.self c.args.state.now c.args.area c.args.number c.args.gate c.in-Err.fault c.limited.result c.requires.area c.requires.gate gives c.limited.ensures

pub returns-then-number-gt-LAST_NUMBER-clause-next : goal.returns-then-number-gt-LAST_NUMBER-clause-next
returns-then-number-gt-LAST_NUMBER-clause-next g c =
    let area = area_of c.args.area (g.D.Disk.seen c.args.disk.now) in
    let gives = subst (λ (n : ℕ). g.D.Disk.tells → next_of c.args.opening.now.reached (area_of n (g.D.Disk.seen c.args.disk.now)) ≡ Ok (bytes_of_next c.in-Ok.next)) c.requires.area c.in-Ok.ensures.exact in
    (sym c.requires.area, next_past_last g.M.Machine g.D.Disk.tells area c.args.opening.now c.next.new.self c.args.state.now c.args.number c.in-Ok.next c.in-Some.field-0 c.in-Some.is c.in-Ok.ensures.state gives (omega arith))

pub returns-in_err-entry-clause-next : goal.returns-in_err-entry-clause-next
returns-in_err-entry-clause-next g c =
    let area = area_of c.args.area (g.D.Disk.seen c.args.disk.now) in
    let gives = subst (λ (n : ℕ). g.D.Disk.tells → next_of c.args.opening.now.reached (area_of n (g.D.Disk.seen c.args.disk.now)) ≡ Ok (bytes_of_next c.in-Ok.next)) c.requires.area c.in-Ok.ensures.exact in
    let made = subst (λ (xs : List ℕ). MakesEntry g.M.Machine c.args.area xs c.in-Some.field-0.place c.args.state.now c.make_entry.new.state (Err c.in_err-entry.field-0.0)) c.as_slice.ensures c.in_err-entry.ensures in
    let p = err_from_is_err_and c.from_residual.result c.from_residual.ensures.1 in
    rw (p.1, p.2) (next_unmade g.M.Machine g.D.Disk.tells area c.args.opening.now c.next.new.self c.args.state.now c.make_entry.new.state c.args.area c.args.number c.in-Ok.next c.in-Some.field-0 c.in_err-entry.field-0.0 c.requires.area c.in-Some.is c.in-Ok.ensures.state gives (omega arith) made)
