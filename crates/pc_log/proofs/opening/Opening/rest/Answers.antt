use Rattle.std.proofs.Common.{◌≡◌, ◌∙◌, ℕ, List, ◌++◌, ◌+◌, ◌*◌, ◌≤◌, drop, length, Option, Result, Ok, sym, ap, subst, arith}
use Rattle.pc_disk.specs.Images.{Images, area_of}
use Rattle.pc_log.specs.declared.fault.LogFault.{LogFault}
use Rattle.pc_log.specs.declared.found.PlacedEntry.{PlacedEntry}
use Rattle.pc_log.specs.Area.{entry_bytes}
use Rattle.pc_log.specs.Reading.{OpeningState, next_of}
use Rattle.pc_log.specs.Opening.{IfEntry, Passes, ReadsSoFar, bytes_of_next}
use Rattle.pc_log.proofs.Untouched.{untouched-again}
use Rattle.pc_log.proofs.Trails.{room_of, so_far_more}
use Rattle.pc_log.proofs.opening.Opening.rest.Goals as goal

abbrev answer : Option PlacedEntry → Result (Option PlacedEntry) LogFault
answer o = Ok o

pub loop-entries-preserved : goal.loop-entries-preserved
loop-entries-preserved g c =
    let disk = g.D.Disk in
    let before = c.loop-entries.invariant in
    let from = c.args.self.now in
    let state = subst (λ (o : Option PlacedEntry). Passes c.loop-entries.self c.next.new.self (answer o)) c.in-Some.is c.in_ok-entry.ensures.state in
    let taken = subst (λ (o : Option PlacedEntry). IfEntry (answer o) (λ entry. disk.taken c.next.new.disk + c.loop-entries.self.reached.gate ≤ disk.taken c.loop-entries.disk + c.next.new.self.reached.gate)) c.in-Some.is c.in_ok-entry.ensures.taken in
    let entries = ap (λ (s : OpeningState). s.reached.entries) state.reached in
    let bytes = ap (λ (s : OpeningState). s.reached.bytes) state.reached in
    let to = c.next.new.self.reached in
    let gate : to.gate + 5 * from.reached.entries + from.reached.bytes ≤ from.reached.gate + 5 * to.entries + to.bytes = omega (arith, before.gate, ap (λ (s : OpeningState). s.reached.gate) state.reached, entries, bytes) in
    record {
      same_area = ap (λ (s : OpeningState). s.area) state.reached ∙ before.same_area;
      trail = λ told.
          let is = ap (λ (a : ℕ). area_of a (disk.seen c.loop-entries.disk)) before.same_area ∙ ap (λ (images : Images). area_of from.area images) (before.untouched.still told).seen in
          let next = ap (next_of c.loop-entries.self.reached) (sym is) ∙ c.in_ok-entry.ensures.exact told ∙ ap (λ (o : Option PlacedEntry). let r : Result (Option (List ℕ)) ℕ = Ok (bytes_of_next o) in r) c.in-Some.is in
          let found = subst (λ (o : Option PlacedEntry). IfEntry (answer o) (λ entry. drop c.loop-entries.self.reached.gate (area_of c.loop-entries.self.area (disk.seen c.loop-entries.disk)) ≡ entry_bytes entry.bytes ++ drop c.next.new.self.reached.gate (area_of c.loop-entries.self.area (disk.seen c.loop-entries.disk)))) c.in-Some.is (c.in_ok-entry.ensures.found told) in
          let stands = subst (λ (area : List ℕ). drop c.loop-entries.self.reached.gate area ≡ entry_bytes c.in-Some.entry.bytes ++ drop c.next.new.self.reached.gate area) is found in
          let more = so_far_more (area_of from.area (disk.seen c.args.disk.now)) from.reached c.loop-entries.self.reached c.loop-entries.entries.items c.in-Some.entry c.next.new.self.reached
          (before.trail told) state.place next stands (ap (λ (s : OpeningState). s.reached) state.reached) in
          subst (λ (items : List PlacedEntry). ReadsSoFar (area_of from.area (disk.seen c.args.disk.now)) from.reached c.next.new.self.reached items) (sym c.in_ok-push.ensures.items) more;
      untouched = untouched-again disk c.args.disk.now c.loop-entries.disk c.next.new.disk before.untouched c.next.ensures.untouched;
      gate = gate;
      most = omega (arith, gate, room_of c.loop-entries.self.reached (length c.in-Some.entry.bytes) state.room, entries, bytes);
      taken = omega (arith, before.taken, taken);
    }

pub returns-in_err-entry-clause-most_taken : goal.returns-in_err-entry-clause-most_taken
returns-in_err-entry-clause-most_taken g c =
    omega (arith, c.loop-entries.invariant.taken, c.loop-entries.invariant.most, c.next.ensures.most_taken)

pub returns-clause-most_taken : goal.returns-clause-most_taken
returns-clause-most_taken g c =
    omega (arith, c.loop-entries.invariant.taken, c.loop-entries.invariant.most, c.next.ensures.most_taken)
