use Rattle.std.proofs.Common.{◌+◌, ◌≤◌, Ok, Err, Option, IfSome, refl, ap, subst, arith}
use Rattle.std.proofs.lemmas.Result.{err_from_is_err_and}
use Rattle.pc_disk.specs.Images.{area_of}
use Rattle.pc_log.proofs.Untouched.{untouched-again}
use Rattle.pc_store.proofs.EntriesLemmas.{next_in, reading_more, entries_refused}
use Rattle.pc_store.specs.declared.reading.ReadEntry.{ReadEntry}
use Rattle.pc_store.proofs.DueLemmas.{due_before, if_device}
use Rattle.pc_store.proofs.reading.read_entries.Goals as goal

pub returns-in_err-entry-clause-entries : goal.returns-in_err-entry-clause-entries
returns-in_err-entry-clause-entries g c =
    let area = area_of c.args.area (g.D.Disk.seen c.args.disk.now) in
    let mid = c.loop-trail in
    let same = λ (told : g.D.Disk.tells). ap (area_of c.args.area) (c.loop-trail.invariant.untouched.still told).seen in
    let next = next_in g.M.Machine g.D.Disk.tells area (area_of c.args.area (g.D.Disk.seen c.loop-trail.disk)) c.loop-trail.opening c.next_entry.new.opening c.loop-trail.state c.next_entry.new.state c.loop-trail.number (Err c.in_err-entry.field-0.0) same c.in_err-entry.ensures.next in
    let p = err_from_is_err_and c.from_residual.result c.from_residual.ensures.1 in
    rw (p.1, p.2) (entries_refused g.M.Machine g.D.Disk.tells area c.args.opening.now c.loop-trail.opening c.next_entry.new.opening c.args.state.now c.loop-trail.state c.next_entry.new.state c.args.first c.loop-trail.gate c.loop-trail.number c.loop-trail.bytes c.loop-trail.trail.items c.in_err-entry.field-0.0 c.loop-trail.invariant.reading next)

pub returns-in_err-entry-clause-due : goal.returns-in_err-entry-clause-due
returns-in_err-entry-clause-due g c told =
    let old = c.args.disk.now in
    let mid = c.loop-trail.disk in
    let taken = c.loop-trail.invariant.reading.taken in
    let most : g.D.Disk.taken mid + 8388613 ≤ g.D.Disk.taken old + 33554432 = omega (arith, c.loop-trail.invariant.taken, taken.gate, taken.entries, taken.bytes, taken.most_entries, taken.most_bytes) in
    let p = err_from_is_err_and c.from_residual.result c.from_residual.ensures.1 in
    rw (p.1, p.2) (if_device c.in_err-entry.field-0.0 _ _
    (due_before (g.D.Disk.due old) (g.D.Disk.due mid) (g.D.Disk.moment old) (g.D.Disk.moment mid) (g.D.Disk.taken old) (g.D.Disk.taken mid) 33554432 8388613 c.loop-trail.invariant.untouched.same_moment (c.loop-trail.invariant.untouched.ahead told) most)
    (c.in_err-entry.ensures.due told))

pub loop-trail-preserved : goal.loop-trail-preserved
loop-trail-preserved g c =
    let area = area_of c.args.area (g.D.Disk.seen c.args.disk.now) in
    let same = λ (told : g.D.Disk.tells). ap (area_of c.args.area) (c.loop-trail.invariant.untouched.still told).seen in
    let next = next_in g.M.Machine g.D.Disk.tells area (area_of c.args.area (g.D.Disk.seen c.loop-trail.disk)) c.loop-trail.opening c.next_entry.new.opening c.loop-trail.state c.next_entry.new.state c.loop-trail.number (Ok c.in_ok-entry.field-0) same c.in_ok-entry.ensures.next in
    let more = subst (λ (n : Option (ReadEntry _)). IfSome n (λ _. g.D.Disk.taken c.next_entry.new.disk + c.loop-trail.opening.reached.gate ≤ g.D.Disk.taken c.loop-trail.disk + c.next_entry.new.opening.reached.gate)) c.in-Some.is c.in_ok-entry.ensures.taken in
    record {
      reading = reading_more g.M.Machine g.D.Disk.tells area c.args.opening.now c.loop-trail.opening c.next_entry.new.opening c.args.state.now c.loop-trail.state c.next_entry.new.state c.args.first c.loop-trail.gate c.loop-trail.number c.loop-trail.bytes c.in-Some.field-0.size c.from.result c.loop-trail.trail.items c.push.new.self.items c.in_ok-entry.field-0 c.in-Some.field-0
          g.met.M.Machine.step_is_legal g.met.M.Machine.step_next c.loop-trail.invariant.reading c.in-Some.is next c.in_ok-push.ensures.items refl c.from.ensures;
      untouched = untouched-again g.D.Disk c.args.disk.now c.loop-trail.disk c.next_entry.new.disk c.loop-trail.invariant.untouched c.next_entry.ensures.untouched;
      taken = omega (arith, c.loop-trail.invariant.taken, more);
    }

pub returns-in_err-entry-clause-most_taken : goal.returns-in_err-entry-clause-most_taken
returns-in_err-entry-clause-most_taken g c =
    let taken = c.loop-trail.invariant.reading.taken in
    omega (arith, c.loop-trail.invariant.taken, taken.gate, taken.entries, taken.bytes, taken.most_entries, taken.most_bytes, c.requires.fresh, c.requires.none, c.next_entry.ensures.most_taken)

pub returns-clause-most_taken : goal.returns-clause-most_taken
returns-clause-most_taken g c =
    let taken = c.loop-trail.invariant.reading.taken in
    omega (arith, c.loop-trail.invariant.taken, taken.gate, taken.entries, taken.bytes, taken.most_entries, taken.most_bytes, c.requires.fresh, c.requires.none, c.next_entry.ensures.most_taken)
