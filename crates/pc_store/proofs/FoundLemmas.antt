-- What was read of an area, put together.
use Rattle.std.proofs.Common.{◌≡◌, ℕ, ◌+◌, ◌*◌, ◌<◌, true, List, [], ◌∷◌, ◌++◌, length, drop, None, Result, Ok, Err, refl, sym, ap, ◌∙◌, subst, arith, ⊎_elim, length-append}
use Rattle.std.specs.List.{flat_map}
use Rattle.std.proofs.lemmas.List.{length-map}
use Rattle.std.specs.Prelude.{IfOk}
use Rattle.pc_base.specs.declared.machine.Machine.{Ghosts}
use Rattle.pc_disk.specs.Images.{Images, area_of, other_of}
use Rattle.pc_log.specs.Area.{Head, IsHead, Spelled, bytes_of, entry_bytes, front, is_made}
use Rattle.pc_log.specs.declared.head.Numbers.{Numbers}
use Rattle.pc_log.specs.Logs.{LogState}
use Rattle.pc_log.specs.Opening.{BeginsWith, Reads}
use Rattle.pc_log.specs.Reading.{OpeningState, Reached, behind_head, head_of, next_of}
use Rattle.pc_log.proofs.Entries.{length-entry_bytes, closed_takes}
use Rattle.pc_log.proofs.Trails.{area_read, length-front}
use Rattle.pc_base.specs.declared.store_fault.StoreFault.{StoreFault}
use Rattle.pc_base.specs.declared.store_fault.StoreFault.TheVariants.{NotMade, Device, Malformed, Memory}
use Rattle.pc_store.specs.declared.reading.Entries.{Entries}
use Rattle.pc_store.specs.declared.reading.History.{History}
use Rattle.pc_store.specs.History.{AreAllowed, StandsFor, after, written_of}
use Rattle.pc_store.specs.Current.{IsCurrent, IsOlder}
use Rattle.pc_store.specs.Opening.{FaultBehind}
use Rattle.pc_store.specs.Opening.FirstFault.{in_base, in_number, in_entry}
use Rattle.pc_store.specs.Reading.{BaseFault, EntriesAre, HoldsCurrent, IsFaultAt, IsHeldIn, LoadsBase, head_of_history}
use Rattle.pc_store.proofs.CurrentLemmas.{stands_numbers}

-- a head of these parts
abbrev head_with : ℕ → ℕ → ℕ → List ℕ → Head
head_with kind generation first base = record { kind = kind; generation = generation; first = first; base = base }

length-entries : (entries : List (List ℕ)) → length (flat_map entry_bytes entries) ≡ 5 * length entries + bytes_of entries
length-entries [] = refl
length-entries (entry ∷ entries) =
    omega (arith, length-append (entry_bytes entry) (flat_map entry_bytes entries), length-entry_bytes entry, length-entries entries)

pub base_refused : {M E : Type 0} (machine : Ghosts M E) (index : ℕ) (area : List ℕ) (generation first : ℕ) (base : List ℕ) (fault : StoreFault)
    → is_made area ≡ true → head_of machine.KIND area ≡ Ok (head_with machine.KIND generation first base) → BaseFault machine index base first fault → IsFaultAt machine index area fault
base_refused machine index area generation first base NotMade made head bad = absurd bad
base_refused machine index area generation first base Device made head bad = tt
base_refused machine index area generation first base (Malformed place_area place) made head bad = (
  bad.0,
  ⊎_elim (λ unread. in_base (head_with machine.KIND generation first base) unread.0 made head unread.1 unread.2)
      (λ unsuited. in_number (head_with machine.KIND generation first base) unsuited.0 made head unsuited.1 unsuited.2 unsuited.3 unsuited.4) bad.1,
)
base_refused machine index area generation first base Memory made head bad = tt

pub entries_refused_in : {M E : Type 0} (machine : Ghosts M E) (tells : Type 0) (index : ℕ) (area : List ℕ) (generation first : ℕ) (base : List ℕ) (old new : OpeningState) (state state' : M) (fault : StoreFault)
    → is_made area ≡ true → head_of machine.KIND area ≡ Ok (head_with machine.KIND generation first base) → old.area ≡ index → old.reached ≡ behind_head base → LoadsBase machine base first state
    → EntriesAre machine tells area old new state state' first (Err fault) → tells → IsFaultAt machine index area fault
entries_refused_in machine tells index area generation first base old new state state' NotMade made head same begun loads bad told = absurd bad
entries_refused_in machine tells index area generation first base old new state state' Device made head same begun loads bad told = tt
entries_refused_in machine tells index area generation first base old new state state' (Malformed place_area place) made head same begun loads bad told =
    let stopped = bad.1 told in (
      bad.0 ∙ same,
      in_entry (head_with machine.KIND generation first base) loads.loaded stopped.trail stopped.to made head
          (record {
            is_base = record { canonical = loads.canonical; saved = loads.saved; suits = loads.suits };
            allowed = subst (λ (s : _). AreAllowed machine s stopped.trail) loads.numbered stopped.allowed;
            fits = stopped.fits;
            reads = subst (λ (r : Reached). Reads area r (written_of machine stopped.trail) stopped.to) begun stopped.reads;
            numbers = stopped.numbers;
          })
          (subst (λ (s : _). FaultBehind machine area (after machine s stopped.trail) (first + length stopped.trail) stopped.to place) loads.numbered stopped.fault),
    )
entries_refused_in machine tells index area generation first base old new state state' Memory made head same begun loads bad told = tt

pub history_held : {M E : Type 0} (machine : Ghosts M E) (tells : Type 0) (index : ℕ) (area : List ℕ) (generation first : ℕ) (base : List ℕ) (old new : OpeningState) (state state' : M) (found : Entries E) (log : LogState)
    → IsHead (head_with machine.KIND generation first base) → (tells → BeginsWith (head_with machine.KIND generation first base) area)
    → old ≡ record { area = index; reached = behind_head base } → LoadsBase machine base first state
    → EntriesAre machine tells area old new state state' first (Ok found) → log ≡ record { area = new.area; gate = new.reached.gate }
    → IsHeldIn machine tells index area (record { log = log; generation = generation; first = first; base = base; trail = found.trail; bytes = found.bytes; state = state' })
history_held machine tells index area generation first base old new state state' found log right begins begun loads are is =
    let head = head_with machine.KIND generation first base in
    let taken = are.0 in
    let entries = written_of machine found.trail.items in
    let same_length : length entries ≡ length found.trail.items = length-map found.trail.items machine.written in
    let old_gate : old.reached.gate ≡ 30 + length base = ap (λ (o : OpeningState). o.reached.gate) begun in
    let old_entries : old.reached.entries ≡ 0 = ap (λ (o : OpeningState). o.reached.entries) begun in
    let old_bytes : old.reached.bytes ≡ 0 = ap (λ (o : OpeningState). o.reached.bytes) begun in
    let in_area : new.area ≡ index = taken.in_area ∙ ap (λ (o : OpeningState). o.area) begun in
    let gate : new.reached.gate ≡ length (front head entries) = omega (arith, taken.gate, old_gate, length-front head entries, length-entries entries, same_length) in (
      ap (λ (l : LogState). l.area) is ∙ in_area,
      record {
        right = right;
        trail = record {
          each = taken.sizes;
          count = omega (arith, taken.most_entries, taken.entries, same_length);
          bytes = omega (arith, taken.most_bytes, taken.bytes);
        };
        bytes = are.1;
        history_is = record {
          base = loads.loaded;
          is_base = record { canonical = loads.canonical; saved = loads.saved; suits = loads.suits };
          allowed = subst (λ (s : _). AreAllowed machine s found.trail.items) loads.numbered taken.allowed;
          leads = taken.leads ∙ ap (λ (s : _). after machine s found.trail.items) loads.numbered;
          numbers = taken.numbers;
        };
        gate = ap (λ (l : LogState). l.gate) is ∙ gate;
        spelled = λ told.
            area_read head entries area (drop new.reached.gate area) (begins told)
            (subst (λ (k : ℕ). drop k area ≡ flat_map entry_bytes entries ++ drop new.reached.gate area) old_gate (taken.spelled told)) (closed_takes new.reached area (are.2 told));
      },
    )

-- the area may be named by what is read before or after
pub entries_in : {M E : Type 0} (machine : Ghosts M E) (tells : Type 0) (area area' : List ℕ) (old new : OpeningState) (state state' : M) (first : ℕ) (found : Entries E)
    → (tells → area' ≡ area) → EntriesAre machine tells area' old new state state' first (Ok found) → EntriesAre machine tells area old new state state' first (Ok found)
entries_in machine tells area area' old new state state' first found same are =
    let taken = are.0 in (
      record {
        reads = λ told. subst (λ (a : List ℕ). Reads a old.reached (written_of machine found.trail.items) new.reached) (same told) (taken.reads told);
        spelled = λ told. subst (λ (a : List ℕ). drop old.reached.gate a ≡ flat_map entry_bytes (written_of machine found.trail.items) ++ drop new.reached.gate a) (same told) (taken.spelled told);
        in_area = taken.in_area;
        gate = taken.gate;
        entries = taken.entries;
        bytes = taken.bytes;
        sizes = taken.sizes;
        most_entries = taken.most_entries;
        most_bytes = taken.most_bytes;
        numbers = taken.numbers;
        fits = taken.fits;
        allowed = taken.allowed;
        leads = taken.leads;
      },
      are.1,
      λ told. subst (λ (a : List ℕ). next_of new.reached a ≡ Ok None) (same told) (are.2 told),
    )

abbrev numbers_generation : Result Numbers ℕ → ℕ
numbers_generation (Ok numbers) = numbers.generation
numbers_generation (Err place) = 0

-- what the area that counts holds
pub current_held : {M E : Type 0} (machine : Ghosts M E) (tells : Type 0) (images images' : Images) (index : ℕ) (result : Result (History M E) StoreFault)
    → (tells → images' ≡ images) → index < 2 → (tells → IsCurrent machine.KIND index images) → IfOk result (IsHeldIn machine tells index (area_of index images')) → IfOk result (HoldsCurrent machine tells images)
current_held machine tells images images' index (Ok history) same less current held =
    let head = head_of_history machine history in
    let entries = written_of machine history.trail.items in
    let spelled = λ (told : tells). subst (λ (i : Images). Spelled head entries (area_of index i)) (same told) (held.1.spelled told) in
    record {
      within = omega (arith, held.0, less);
      holds = record {
        right = held.1.right;
        trail = held.1.trail;
        bytes = held.1.bytes;
        history_is = held.1.history_is;
        gate = held.1.gate;
        spelled = λ told. subst (λ (i : ℕ). Spelled head entries (area_of i images)) (sym held.0) (spelled told);
      };
      older = λ told.
          let counts = current told in
          let stands : StandsFor machine head history.trail.items (area_of index images) = record { state = history.state; history = held.1.history_is; area_of = record { of_kind = refl; right = held.1.right; trail = held.1.trail; spelled = spelled told } } in
          let has = stands_numbers machine head history.trail.items (area_of index images) stands in
          let one : counts.numbers.generation ≡ history.generation = ap numbers_generation (sym counts.has.read ∙ has.has.read) ∙ has.same in
          subst (λ (i : ℕ). IsOlder machine.KIND history.generation (other_of i images)) (sym held.0) (subst (λ (n : ℕ). IsOlder machine.KIND n (other_of index images)) one counts.older);
    }
current_held machine tells images images' index (Err fault) same less current held = tt
