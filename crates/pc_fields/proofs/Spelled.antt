-- The laws, and what reading says, of whatever a format spells.
use Rattle.std.proofs.Common.{◌≡◌, ℕ, zero, suc, ◌-◌, ◌<◌, ◌≤◌, List, [], ◌∷◌, ◌++◌, length, Result, Ok, Err, IfOk, MatchResult, refl, sym, ap, subst, ◌∙◌, append_assoc, arith}
use Rattle.std.specs.List.{concat}
use Rattle.std.proofs.lemmas.List.{append-nil, length-append, nil_from_length}
use Rattle.pc_base.specs.declared.failure.ReadFault.{ReadFault}
use Rattle.pc_fields.specs.Format.{Took, Stuck, Reads, ReadsAs}
use Rattle.pc_fields.specs.Ending.{IsWithin, ended}
use Rattle.pc_fields.specs.Spelled.{Spelling, Spells, spelled, IsOne, IsFault, OneValue, IsRead, OneFault, IsReadOf}
use Rattle.pc_fields.specs.declared.cursor.Halt.{Halt}
use Rattle.pc_fields.specs.declared.cursor.Halt.TheVariants.{NoField, Memory}
use Rattle.pc_fields.proofs.Formats.{Whole, took_fields, stuck_stops, ends_there, one_value, no_fault, one_fault, same_faults}
use Rattle.pc_fields.proofs.Good.{Good, good_open, good_reads}

-- so it is where what is read is good
pub good_spells : {X : Type 0} (s : Spelling X) (Q : List (List ℕ) → X → Type 0) → Good Q s.format [] → ((fields : List (List ℕ)) (x : X) → Q fields x → s.fits x × (fields ≡ s.fields x)) → ((x : X) → s.fits x → ReadsAs s.format (s.fields x) x) → Spells s
good_spells s Q good is reads = record {
  reads = reads;
  back = λ fields x read. is fields x (good_reads Q s.format [] fields x good read);
  goes_on = good_open Q s.format [] good;
}

module _ {X : Type 0} (s : Spelling X) (r : Spells s) where
  to_one : (fields : List (List ℕ)) → Whole s.format fields → IsOne s fields
  to_one fields whole = let is = r.back fields whole.0 whole.1 in (whole.0, is.0, is.1)

  from_one : (fields : List (List ℕ)) → IsOne s fields → Whole s.format fields
  from_one fields is = (is.0, subst (λ (f : List (List ℕ)). ReadsAs s.format f is.0) (sym is.2) (r.reads is.0 is.1))

  place_is : (old front new : List ℕ) → old ≡ front ++ new → length old - length new ≡ length front
  place_is old front new split = omega (arith, ap length split, length-append front new)

  -- where no field goes on is the first fault
  is_stuck : (old new : List ℕ) → Stuck s.format old new → IsFault s old (length old - length new)
  is_stuck old new stuck =
      let stops = stuck_stops s.format old new r.goes_on stuck in
      record {
        fields = stops.fields;
        left = new;
        read = stops.split;
        after = place_is old (concat stops.fields) new stops.split;
        goes_on = (stops.goes_on.0, to_one (stops.fields ++ stops.goes_on.0) stops.goes_on.1);
        unfinished = λ none is. stops.unfinished (from_one stops.fields is);
        stuck = λ field rest e on. stops.stuck field rest e (on.0, from_one (stops.fields ++ field ∷ [] ++ on.0) on.1);
      }

  -- bytes that are left behind a value are a fault at their place
  trails : (old new : List ℕ) (x : X) → Took s.format old x new → 0 < length new → IsFault s old (length old - length new)
  trails old new x took more =
      let read = took_fields s.format old new x took in
      record {
        fields = read.fields;
        left = new;
        read = read.split;
        after = place_is old (concat read.fields) new read.split;
        goes_on = ([], subst (IsOne s) (sym (append-nil read.fields)) (to_one read.fields (x, read.reads)));
        unfinished = λ none is. omega (arith, ap length none);
        stuck = λ field rest e on.
            let longer = from_one (read.fields ++ field ∷ [] ++ on.0) on.1 in
            let moved = subst (λ (f : List (List ℕ)). Whole s.format f) (append_assoc read.fields (field ∷ []) on.0) longer in
            let none : field ∷ on.0 ≡ [] = ends_there s.format read.fields (field ∷ on.0) x read.reads moved in
            absurd cc;
      }

  -- where nothing is left they are those of the value
  found : (old new : List ℕ) (x : X) → Took s.format old x new → length new ≤ 0 → s.fits x × (spelled s x ≡ old)
  found old new x took none =
      let read = took_fields s.format old new x took in
      let is = r.back read.fields x read.reads in
      let nothing : new ≡ [] = nil_from_length new (omega arith) in
      (is.0, ap concat (sym is.1) ∙ sym (append-nil (concat read.fields)) ∙ ap (λ (t : List ℕ). concat read.fields ++ t) (sym nothing) ∙ sym read.split)

  left_of : (old new : List ℕ) (x : X) → Took s.format old x new → length new ≤ length old
  left_of old new x took = let read = took_fields s.format old new x took in omega (arith, ap length read.split, length-append (concat read.fields) new)

  left_of_stuck : (old new : List ℕ) → Stuck s.format old new → length new ≤ length old
  left_of_stuck old new stuck = let stops = stuck_stops s.format old new r.goes_on stuck in omega (arith, ap length stops.split, length-append (concat stops.fields) new)

  -- ---- the laws

  pub one-value : OneValue s
  one-value x other fits other_fits e = one_value s.format (s.fields x) (s.fields other) x other (r.reads x fits) (r.reads other other_fits) e

  pub is-read : IsRead s
  is-read x place fits fault = no_fault s.format (s.fields x) place (x, r.reads x fits) (same_faults (IsOne s) (Whole s.format) from_one to_one (spelled s x) place fault)

  pub one-fault : OneFault s
  one-fault bytes place other fault second = one_fault s.format bytes place other (same_faults (IsOne s) (Whole s.format) from_one to_one bytes place fault) (same_faults (IsOne s) (Whole s.format) from_one to_one bytes other second)

  -- ---- the end of reading

  module _ {Y : Type 0} (view : Y → X) where
    -- what was made, seen as a value, is read
    abbrev pub ReadsSeen : List ℕ → List ℕ → Result Y Halt → Type 0
    ReadsSeen old new read = MatchResult read (λ made. Reads s.format old new (Ok (view made))) (λ halt. Reads s.format old new (Err halt))

    within-all : (old new : List ℕ) (read : Result Y Halt) → ReadsSeen old new read → IsWithin read (length old) (length new)
    within-all old new (Ok made) reads = left_of old new (view made) reads.told
    within-all old new (Err NoField) reads = left_of_stuck old new reads.told
    within-all old new (Err Memory) reads = tt

    ends-at : (old new : List ℕ) (read : Result Y Halt) (left : ℕ) → length new ≡ left → ReadsSeen old new read → IsReadOf s view old (ended read (length old) left)
    ends-at old new (Ok made) zero is reads = record { found = found old new (view made) reads.told (omega (arith, is)); fault = tt; within = tt }
    ends-at old new (Ok made) (suc left) is reads = record {
      found = tt;
      fault = subst (λ (n : ℕ). IsFault s old (length old - n)) is (trails old new (view made) reads.told (omega (arith, is)));
      within = omega arith;
    }
    ends-at old new (Err NoField) left is reads = record { found = tt; fault = subst (λ (n : ℕ). IsFault s old (length old - n)) is (is_stuck old new reads.told); within = omega arith }
    ends-at old new (Err Memory) left is reads = record { found = tt; fault = tt; within = tt }

    same_reading : (start old new left : List ℕ) (read : Result Y Halt) → start ≡ old → left ≡ new → ReadsSeen start new read → ReadsSeen old left read
    same_reading start old new left read from to reads = subst (λ (b : List ℕ). ReadsSeen b left read) from (subst (λ (l : List ℕ). ReadsSeen start l read) (sym to) reads)

    pub is_within : {start old new left : List ℕ} (read : Result Y Halt) → start ≡ old → left ≡ new → ReadsSeen start new read → IsWithin read (length old) (length left)
    is_within {start} {old} {new} {left} read from to reads = within-all old left read (same_reading start old new left read from to reads)

    pub is_read_of : {start old new left : List ℕ} (read : Result Y Halt) {result : Result Y ReadFault} → start ≡ old → left ≡ new → ReadsSeen start new read → result ≡ ended read (length old) (length left) → IsReadOf s view old result
    is_read_of {start} {old} {new} {left} read {result} from to reads is =
        subst (IsReadOf s view old) (sym is) (ends-at old left read (length left) refl (same_reading start old new left read from to reads))

  -- ---- the same where what was made is the value itself

  reads_itself : (old new : List ℕ) (read : Result X Halt) → Reads s.format old new read → ReadsSeen (λ x. x) old new read
  reads_itself old new (Ok made) reads = reads
  reads_itself old new (Err halt) reads = reads

  pub value_within : {start old new left : List ℕ} {read : Result X Halt} → start ≡ old → left ≡ new → Reads s.format start new read → IsWithin read (length old) (length left)
  value_within {start} {old} {new} {left} {read} from to reads = is_within (λ x. x) read from to (reads_itself start new read reads)

  pub value_read_of : {start old new left : List ℕ} {read : Result X Halt} {result : Result X ReadFault} → start ≡ old → left ≡ new → Reads s.format start new read → result ≡ ended read (length old) (length left) → IsReadOf s (λ x. x) old result
  value_read_of {start} {old} {new} {left} {read} {result} from to reads is = is_read_of (λ x. x) read from to (reads_itself start new read reads) is

-- what holds of whatever was read holds at the end
pub if_ended : {X : Type 0} (P : X → Type 0) (read : Result X Halt) (size left : ℕ) (result : Result X ReadFault) → result ≡ ended read size left → IfOk read P → IfOk result P
if_ended {X} P read size left result is holds = subst (λ r. IfOk r P) (sym is) (at-end read left holds)
  where
    at-end : (read : Result X Halt) (left : ℕ) → IfOk read P → IfOk (ended read size left) P
    at-end (Ok value) zero holds = holds
    at-end (Ok value) (suc left) holds = tt
    at-end (Err NoField) left holds = tt
    at-end (Err Memory) left holds = tt

pub if_both : {X E : Type 0} (P Q R : X → Type 0) (result : Result X E) → IfOk result P → IfOk result Q → ((x : X) → P x → Q x → R x) → IfOk result R
if_both P Q R (Ok x) p q both = both x p q
if_both P Q R (Err e) p q both = tt
