-- Reading the entries of an area one after another.
use Rattle.std.proofs.Common.{◌≡◌, ℕ, ◌+◌, ◌^◌, ◌<◌, ◌≤◌, true, List, [], ◌∷◌, ◌++◌, length, Option, None, Some, Result, Ok, Err, IfSome, refl, sym, ap, ◌∙◌, subst, arith, length-append, append_assoc, append-nil, drop}
use Rattle.std.proofs.lemmas.Grind.{flat_map-append}
use Rattle.std.specs.List.{flat_map}
use Rattle.std.proofs.lemmas.Bool.Decides.{nat_tests}
use Rattle.pc_base.specs.declared.machine.Machine.{Ghosts}
use Rattle.pc_base.specs.Machine.{IsNumbered}
use Rattle.pc_log.specs.Area.{IsEntry, bytes_of, entry_bytes}
use Rattle.pc_log.specs.Reading.{OpeningState, Reached, has_room, next_of}
use Rattle.pc_log.specs.Opening.{Reads}
use Rattle.pc_base.specs.declared.store_fault.StoreFault.{StoreFault}
use Rattle.pc_base.specs.declared.store_fault.StoreFault.TheVariants.{NotMade, Device, Malformed, Memory}
use Rattle.pc_log.proofs.Trails.{room_of}
use Rattle.pc_store.specs.declared.reading.ReadEntry.{ReadEntry}
use Rattle.pc_store.specs.History.{after, written_of}
use Rattle.pc_store.specs.Opening.{FaultBehind}
use Rattle.pc_store.specs.Reading.{NextIs, TakesEntry, TakesEntries, EntriesAre}
use Rattle.pc_store.proofs.HistoryLemmas.{after-push, AreAllowed-push, written_of-push, all-push, bytes_of-push, Reads-push}

-- the area may be named by what is read before or after
pub next_in : {M E : Type 0} (machine : Ghosts M E) (tells : Type 0) (area area' : List ℕ) (old new : OpeningState) (state state' : M) (number : ℕ) (result : Result (Option (ReadEntry E)) StoreFault)
    → (tells → area' ≡ area) → NextIs machine tells area' old new state state' number result → NextIs machine tells area old new state state' number result
next_in machine tells area area' old new state state' number (Ok None) same next =
    (next.0, next.1, λ told. subst (λ (xs : List ℕ). next_of old.reached xs ≡ Ok None) (same told) (next.2 told))
next_in machine tells area area' old new state state' number (Ok (Some found)) same next = (
  record {
    reads = λ told. subst (λ (xs : List ℕ). next_of old.reached xs ≡ Ok (Some (machine.written found.entry))) (same told) (next.0.reads told);
    spelled = λ told. subst (λ (xs : List ℕ). drop old.reached.gate xs ≡ entry_bytes (machine.written found.entry) ++ drop new.reached.gate xs) (same told) (next.0.spelled told);
    size = next.0.size;
    room = next.0.room;
    reached = next.0.reached;
    numbered = next.0.numbered;
    fits = next.0.fits;
    allowed = next.0.allowed;
    stepped = next.0.stepped;
  },
  next.1,
)
next_in machine tells area area' old new state state' number (Err NotMade) same next = absurd next
next_in machine tells area area' old new state state' number (Err Device) same next = tt
next_in machine tells area area' old new state state' number (Err (Malformed place_area place)) same next =
    (next.0, λ told. subst (λ (xs : List ℕ). FaultBehind machine xs state number old.reached place) (same told) (next.1 told))
next_in machine tells area area' old new state state' number (Err Memory) same next = tt

-- how far the entries were read, with what the loop counts
pub record IsReading {M E : Type 0} (machine : Ghosts M E) (tells : Type 0) (area : List ℕ) (old new : OpeningState) (state state' : M) (first : ℕ) (trail : List E) (gate number bytes : ℕ) : Type 0 where
  pub taken : TakesEntries machine tells area old new state state' first trail
  pub gate_is : gate ≡ new.reached.gate
  pub number_is : number ≡ first + length trail
  pub bytes_are : bytes ≡ bytes_of (written_of machine trail)
  pub legal : machine.is_legal state'
  pub numbered : IsNumbered (machine.next state') number

pub takes_none : {M E : Type 0} (machine : Ghosts M E) (tells : Type 0) (area : List ℕ) (old : OpeningState) (state : M) (first : ℕ)
    → old.reached.entries ≡ 0 → old.reached.bytes ≡ 0 → first ≤ 2 ^ 63 → TakesEntries machine tells area old old state state first []
takes_none machine tells area old state first entries bytes most = record {
  reads = λ told. refl;
  spelled = λ told. refl;
  in_area = refl;
  gate = omega arith;
  entries = omega arith;
  bytes = omega arith;
  sizes = tt;
  most_entries = omega arith;
  most_bytes = omega arith;
  numbers = omega arith;
  fits = tt;
  allowed = tt;
  leads = refl;
}

pub takes_more : {M E : Type 0} (machine : Ghosts M E) (tells : Type 0) (area : List ℕ) (old mid new : OpeningState) (state state' state'' : M) (first number : ℕ) (trail : List E) (entry : E)
    → TakesEntries machine tells area old mid state state' first trail → number ≡ first + length trail → TakesEntry machine tells area mid new state' state'' number entry
    → TakesEntries machine tells area old new state state'' first (trail ++ entry ∷ [])
takes_more machine tells area old mid new state state' state'' first number trail entry so_far is next =
    let written = written_of-push machine trail entry in
    let count : bytes_of (written_of machine (trail ++ entry ∷ [])) ≡ bytes_of (written_of machine trail) + length (machine.written entry) =
    ap bytes_of written ∙ bytes_of-push (written_of machine trail) (machine.written entry) in
    let long : length (trail ++ entry ∷ []) ≡ length trail + 1 = simp length-append (omega arith) in
    let room : (mid.reached.entries < 65536) × (mid.reached.bytes + length (machine.written entry) ≤ 16777216) = room_of mid.reached (length (machine.written entry)) next.room in
    let gate : new.reached.gate ≡ mid.reached.gate + 5 + length (machine.written entry) = ap (λ (o : OpeningState). o.reached.gate) next.reached in
    let entries : new.reached.entries ≡ mid.reached.entries + 1 = ap (λ (o : OpeningState). o.reached.entries) next.reached in
    let bytes : new.reached.bytes ≡ mid.reached.bytes + length (machine.written entry) = ap (λ (o : OpeningState). o.reached.bytes) next.reached in
    record {
      reads = λ told.
          let more = Reads-push area old.reached mid.reached (written_of machine trail) (machine.written entry) (so_far.reads told) (next.reads told) in
          let there = subst (λ (r : Reached). Reads area old.reached (written_of machine trail ++ machine.written entry ∷ []) r) (sym (ap (λ (o : OpeningState). o.reached) next.reached)) more in
          subst (λ (es : List (List ℕ)). Reads area old.reached es new.reached) (sym written) there;
      spelled = λ told.
          let joined : flat_map entry_bytes (written_of machine trail ++ machine.written entry ∷ []) ≡ flat_map entry_bytes (written_of machine trail) ++ entry_bytes (machine.written entry) =
          flat_map-append entry_bytes (written_of machine trail) (machine.written entry ∷ []) ∙ ap (λ (xs : List ℕ). flat_map entry_bytes (written_of machine trail) ++ xs) (append-nil (entry_bytes (machine.written entry))) in
          so_far.spelled told ∙ ap (λ (xs : List ℕ). flat_map entry_bytes (written_of machine trail) ++ xs) (next.spelled told)
          ∙ sym (append_assoc (flat_map entry_bytes (written_of machine trail)) (entry_bytes (machine.written entry)) (drop new.reached.gate area))
          ∙ ap (λ (xs : List ℕ). xs ++ drop new.reached.gate area) (sym (ap (flat_map entry_bytes) written ∙ joined));
      in_area = ap (λ (o : OpeningState). o.area) next.reached ∙ so_far.in_area;
      gate = omega (arith, gate, so_far.gate, long, count);
      entries = omega (arith, entries, so_far.entries, long);
      bytes = omega (arith, bytes, so_far.bytes, count);
      sizes = rw written (all-push IsEntry (written_of machine trail) (machine.written entry) so_far.sizes next.size);
      most_entries = omega (arith, entries, room);
      most_bytes = omega (arith, bytes, room);
      numbers = omega (arith, next.numbered, is, long);
      fits = all-push machine.fits trail entry so_far.fits next.fits;
      allowed = AreAllowed-push machine state trail entry so_far.allowed (ap (λ (s : _). machine.can s entry) (sym so_far.leads) ∙ next.allowed);
      leads = next.stepped ∙ ap (λ (s : _). machine.step s entry) so_far.leads ∙ sym (after-push machine state trail entry);
    }

pub within : (kept : Option ℕ) (number : ℕ) → IsNumbered kept number → number < 2 ^ 63 → IfSome kept (λ n. n < 2 ^ 63)
within None number is less = tt
within (Some n) number is less = rw is less

pub reading_begins : {M E : Type 0} (machine : Ghosts M E) (tells : Type 0) (area : List ℕ) (old : OpeningState) (state : M) (first gate : ℕ)
    → gate ≡ old.reached.gate → old.reached.entries ≡ 0 → old.reached.bytes ≡ 0 → first ≤ 2 ^ 63 → machine.is_legal state → IsNumbered (machine.next state) first
    → IsReading machine tells area old old state state first [] gate first 0
reading_begins machine tells area old state first gate at entries bytes most legal numbered = record {
  taken = takes_none machine tells area old state first entries bytes most;
  gate_is = at;
  number_is = omega arith;
  bytes_are = refl;
  legal = legal;
  numbered = numbered;
}

pub reading_more : {M E : Type 0} (machine : Ghosts M E) (tells : Type 0) (area : List ℕ) (old mid new : OpeningState) (state state' state'' : M) (first gate number bytes size wide : ℕ) (trail items : List E) (next : Option (ReadEntry E)) (found : ReadEntry E)
    → ((s : M) (e : E) → machine.is_legal s → machine.can s e ≡ true → IfSome (machine.next s) (λ n. n < 2 ^ 63) → machine.is_legal (machine.step s e))
    → ((s : M) (e : E) (n : ℕ) → machine.is_legal s → machine.can s e ≡ true → IsNumbered (machine.next s) n → IsNumbered (machine.next (machine.step s e)) (n + 1))
    → IsReading machine tells area old mid state state' first trail gate number bytes → next ≡ Some found → NextIs machine tells area mid new state' state'' number (Ok next)
    → items ≡ trail ++ found.entry ∷ [] → size ≡ found.size → wide ≡ size
    → IsReading machine tells area old new state state'' first items (gate + (5 + wide)) (number + 1) (bytes + size)
reading_more {M = M} machine tells area old mid new state state' state'' first gate number bytes size wide trail items next found keeps counts reading is given pushed sized widened =
    let entry = found.entry in
    let takes = subst (λ (n : Option (ReadEntry _)). NextIs machine tells area mid new state' state'' number (Ok n)) is given in
    let one = takes.0 in
    let taken = takes_more machine tells area old mid new state state' state'' first number trail entry reading.taken reading.number_is one in
    let long : size ≡ length (machine.written entry) = sized ∙ takes.1 in
    let at : new.reached.gate ≡ mid.reached.gate + 5 + length (machine.written entry) = ap (λ (o : OpeningState). o.reached.gate) one.reached in
    let count : bytes_of (written_of machine (trail ++ entry ∷ [])) ≡ bytes_of (written_of machine trail) + length (machine.written entry) =
    ap bytes_of (written_of-push machine trail entry) ∙ bytes_of-push (written_of machine trail) (machine.written entry) in
    let more : length (trail ++ entry ∷ []) ≡ length trail + 1 = simp length-append (omega arith) in
    let P : M → Type 0 = λ s. machine.is_legal s in
    let Q : M → Type 0 = λ s. IsNumbered (machine.next s) (number + 1) in
    let all : IsReading machine tells area old new state state'' first (trail ++ entry ∷ []) (gate + (5 + wide)) (number + 1) (bytes + size) = record {
      taken = taken;
      gate_is = omega (arith, reading.gate_is, at, long, widened);
      number_is = omega (arith, reading.number_is, more);
      bytes_are = omega (arith, reading.bytes_are, count, long);
      legal = subst P (sym one.stepped) (keeps state' entry reading.legal one.allowed (within (machine.next state') number reading.numbered one.numbered));
      numbered = subst Q (sym one.stepped) (counts state' entry number reading.legal one.allowed reading.numbered);
    } in
    subst (λ (es : List _). IsReading machine tells area old new state state'' first es (gate + (5 + wide)) (number + 1) (bytes + size)) (sym pushed) all

pub entries_refused : {M E : Type 0} (machine : Ghosts M E) (tells : Type 0) (area : List ℕ) (old mid new : OpeningState) (state state' state'' : M) (first gate number bytes : ℕ) (trail : List E) (fault : StoreFault)
    → IsReading machine tells area old mid state state' first trail gate number bytes → NextIs machine tells area mid new state' state'' number (Err fault)
    → EntriesAre machine tells area old new state state'' first (Err fault)
entries_refused machine tells area old mid new state state' state'' first gate number bytes trail NotMade reading next = absurd next
entries_refused machine tells area old mid new state state' state'' first gate number bytes trail Device reading next = tt
entries_refused machine tells area old mid new state state' state'' first gate number bytes trail (Malformed place_area place) reading next = (
  next.0 ∙ reading.taken.in_area,
  λ told. record {
    trail = trail;
    to = mid.reached;
    reads = reading.taken.reads told;
    fits = reading.taken.fits;
    allowed = reading.taken.allowed;
    numbers = reading.taken.numbers;
    fault = subst (λ (n : ℕ). FaultBehind machine area (after machine state trail) n mid.reached place) reading.number_is
        (subst (λ (s : _). FaultBehind machine area s number mid.reached place) reading.taken.leads (next.1 told));
  },
)
entries_refused machine tells area old mid new state state' state'' first gate number bytes trail Memory reading next = tt
