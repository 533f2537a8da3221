-- An area holds one history, and then no fault.
use Rattle.std.proofs.Common.{◌≡◌, ℕ, ◌+◌, ◌^◌, ◌<◌, ◌≤◌, true, false, List, [], ◌∷◌, length, Option, None, Some, Result, Ok, Err, IfSome, refl, sym, ap, ◌∙◌, subst, arith}
use Rattle.std.specs.List.{AllByRecursion}
use Rattle.pc_base.specs.declared.machine.Machine.{Ghosts}
use Rattle.pc_base.specs.Machine.{IsNumbered}
use Rattle.pc_log.specs.Area.{Head}
use Rattle.pc_log.specs.Reading.{Reached, behind, behind_head, head_of, next_of}
use Rattle.pc_log.specs.Opening.{Reads}
use Rattle.pc_log.proofs.Trails.{area_again, same_trail}
use Rattle.pc_store.specs.History.{AreAllowed, IsBase, IsHistory, StandsFor, after, written_of}
use Rattle.pc_store.specs.Opening.{FaultBehind, FirstFault, ReadsTo}
use Rattle.pc_store.specs.Opening.FaultBehind.{cut_off, past_last, unread, not_allowed}
use Rattle.pc_store.specs.Opening.FirstFault.{in_head, in_base, in_number, in_entry}
use Rattle.pc_store.proofs.EntriesLemmas.{within}

-- what is proved of each machine, as far as it is wanted here
pub record Lawful {M E : Type 0} (machine : Ghosts M E) : Type 0 where
  pub fits : (s : M) (e : E) → machine.is_legal s → machine.can s e ≡ true → machine.fits e
  pub one : (e other : E) → machine.fits e → machine.fits other → machine.written e ≡ machine.written other → e ≡ other
  pub keeps : (s : M) (e : E) → machine.is_legal s → machine.can s e ≡ true → IfSome (machine.next s) (λ n. n < 2 ^ 63) → machine.is_legal (machine.step s e)
  pub counts : (s : M) (e : E) (n : ℕ) → machine.is_legal s → machine.can s e ≡ true → IsNumbered (machine.next s) n → IsNumbered (machine.next (machine.step s e)) (n + 1)
  pub begins : (s : M) (first : ℕ) → machine.is_canonical s → machine.suits s first ≡ true → machine.is_legal (machine.numbered s first)
  pub numbered : (s : M) (first : ℕ) → IsNumbered (machine.next (machine.numbered s first)) first
  pub saved : (s : M) (first : ℕ) → machine.saved (machine.numbered s first) ≡ machine.saved s
  pub entry_is_read : (e : E) (place : ℕ) → machine.fits e → machine.entry_fault (machine.written e) place → ⊥
  pub one_entry_fault : (bytes : List ℕ) (place other : ℕ) → machine.entry_fault bytes place → machine.entry_fault bytes other → place ≡ other
  pub one_record_fault : (bytes : List ℕ) (place other : ℕ) → machine.record_fault bytes place → machine.record_fault bytes other → place ≡ other
  pub record_is_read : (s : M) (place : ℕ) → machine.is_canonical s → machine.record_fault (machine.saved s) place → ⊥
  pub one_record : (s loaded : M) (number : ℕ) → machine.is_legal s → IsNumbered (machine.next s) number → machine.is_canonical loaded → machine.saved loaded ≡ machine.saved s → (machine.suits loaded number ≡ true) × (machine.numbered loaded number ≡ s)

-- allowed entries fit
pub all_fit : {M E : Type 0} (machine : Ghosts M E) → Lawful machine → (state : M) (number : ℕ) (trail : List E) → machine.is_legal state → IsNumbered (machine.next state) number → number + length trail ≤ 2 ^ 63
    → AreAllowed machine state trail → AllByRecursion machine.fits trail
all_fit machine laws state number [] legal at most allowed = tt
all_fit machine laws state number (entry ∷ trail) legal at most allowed =
    let less : number < 2 ^ 63 = omega arith in (
      laws.fits state entry legal allowed.0,
      all_fit machine laws (machine.step state entry) (number + 1) trail (laws.keeps state entry legal allowed.0 (within (machine.next state) number at less)) (laws.counts state entry number legal allowed.0 at) (omega arith) allowed.1,
    )

-- entries that are written in one way are the same
pub same_entries : {M E : Type 0} (machine : Ghosts M E) → Lawful machine → (trail trail' : List E) → AllByRecursion machine.fits trail → AllByRecursion machine.fits trail' → written_of machine trail ≡ written_of machine trail' → trail ≡ trail'
same_entries machine laws [] [] fits fits' same = refl
same_entries machine laws [] (entry' ∷ trail') fits fits' same = cc
same_entries machine laws (entry ∷ trail) [] fits fits' same = cc
same_entries machine laws (entry ∷ trail) (entry' ∷ trail') fits fits' same =
    let first : machine.written entry ≡ machine.written entry' = cc in
    let rest : written_of machine trail ≡ written_of machine trail' = cc in
    let one = laws.one entry entry' fits.0 fits'.0 first in
    let others = same_entries machine laws trail trail' fits.1 fits'.1 rest in
    cc

pub history_fits : {M E : Type 0} (machine : Ghosts M E) → Lawful machine → (head : Head) (trail : List E) (state : M) → IsHistory machine head trail state → AllByRecursion machine.fits trail
history_fits machine laws head trail state history =
    all_fit machine laws (machine.numbered history.base head.first) head.first trail (laws.begins history.base head.first history.is_base.canonical history.is_base.suits) (laws.numbered history.base head.first) history.numbers history.allowed

pub record IsSame {E : Type 0} (head head' : Head) (trail trail' : List E) : Type 0 where
  pub heads : head ≡ head'
  pub trails : trail ≡ trail'

pub same_history : {M E : Type 0} (machine : Ghosts M E) → Lawful machine → (area : List ℕ) (head head' : Head) (trail trail' : List E) → StandsFor machine head trail area → StandsFor machine head' trail' area → IsSame head head' trail trail'
same_history machine laws area head head' trail trail' stands stands' =
    let read = area_again machine.KIND head (written_of machine trail) area stands.area_of in
    let read' = area_again machine.KIND head' (written_of machine trail') area stands'.area_of in
    let heads : (let r : Result Head ℕ = Ok head in r) ≡ Ok head' = sym read.head_is ∙ read'.head_is in
    let one : head ≡ head' = cc in
    let reads = subst (λ (h : Head). Reads area (behind_head h.base) (written_of machine trail) read.trail.to) one read.trail.reads in
    let entries = same_trail area (behind_head head'.base) (written_of machine trail) read.trail.to (written_of machine trail') read'.trail.to reads read.trail.closed read'.trail.reads read'.trail.closed in
    let fits = history_fits machine laws head trail stands.state stands.history in
    let fits' = history_fits machine laws head' trail' stands'.state stands'.history in
    record { heads = one; trails = same_entries machine laws trail trail' fits fits' entries }

-- ---- no fault

abbrev nothing_next : Result (Option (List ℕ)) ℕ
nothing_next = Ok None

abbrev pub next_is : List ℕ → Result (Option (List ℕ)) ℕ
next_is entry = Ok (Some entry)

pub same_next : (entry entry' : List ℕ) → next_is entry ≡ next_is entry' → entry ≡ entry'
same_next entry entry' e = cc

-- at the closed gate there is none
no_fault_at_end : {M E : Type 0} (machine : Ghosts M E) (area : List ℕ) (state : M) (number : ℕ) (reached : Reached) (place : ℕ) → next_of reached area ≡ Ok None → FaultBehind machine area state number reached place → ⊥
no_fault_at_end machine area state number reached place end (cut_off fault next at) = let e : nothing_next ≡ Err fault = sym end ∙ next in cc
no_fault_at_end machine area state number reached place end (past_last bytes next past at) = let e : nothing_next ≡ next_is bytes = sym end ∙ next in cc
no_fault_at_end machine area state number reached place end (unread bytes fault next within bad at) = let e : nothing_next ≡ next_is bytes = sym end ∙ next in cc
no_fault_at_end machine area state number reached place end (not_allowed entry next within fits not at) = let e : nothing_next ≡ next_is (machine.written entry) = sym end ∙ next in cc

-- nor before an allowed entry
pub no_fault_before : {M E : Type 0} (machine : Ghosts M E) → Lawful machine → (area : List ℕ) (state : M) (number : ℕ) (reached : Reached) (place : ℕ) (entry : E)
    → next_of reached area ≡ Ok (Some (machine.written entry)) → number < 2 ^ 63 → machine.fits entry → machine.can state entry ≡ true → FaultBehind machine area state number reached place → ⊥
no_fault_before machine laws area state number reached place entry stands less fits can (cut_off fault next at) = let e : next_is (machine.written entry) ≡ Err fault = sym stands ∙ next in cc
no_fault_before machine laws area state number reached place entry stands less fits can (past_last bytes next past at) = omega arith
no_fault_before machine laws area state number reached place entry stands less fits can (unread bytes fault next within bad at) =
    let same : machine.written entry ≡ bytes = same_next (machine.written entry) bytes (sym stands ∙ next) in
    laws.entry_is_read entry fault fits (subst (λ (xs : List ℕ). machine.entry_fault xs fault) (sym same) bad)
no_fault_before machine laws area state number reached place entry stands less fits can (not_allowed other next within fits' not at) =
    let same : machine.written entry ≡ machine.written other = same_next (machine.written entry) (machine.written other) (sym stands ∙ next) in
    let one : entry ≡ other = laws.one entry other fits fits' same in
    let e : true ≡ false = sym can ∙ ap (machine.can state) one ∙ not in
    cc

-- nor behind any entries that are read on the way
no_fault_behind : {M E : Type 0} (machine : Ghosts M E) → Lawful machine → (area : List ℕ) (state : M) (number : ℕ) (from to to' : Reached) (trail trail' : List E) (place : ℕ)
    → machine.is_legal state → IsNumbered (machine.next state) number → number + length trail ≤ 2 ^ 63 → AreAllowed machine state trail
    → Reads area from (written_of machine trail) to → next_of to area ≡ Ok None → AllByRecursion machine.fits trail' → Reads area from (written_of machine trail') to'
    → FaultBehind machine area (after machine state trail') (number + length trail') to' place → ⊥
no_fault_behind machine laws area state number from to to' [] [] place legal at most allowed reads closed fits' reads' fault =
    no_fault_at_end machine area state (number + 0) to' place (ap (λ (r : Reached). next_of r area) (reads' ∙ sym reads) ∙ closed) fault
no_fault_behind machine laws area state number from to to' [] (entry' ∷ trail') place legal at most allowed reads closed fits' reads' fault =
    let e : nothing_next ≡ next_is (machine.written entry') = sym closed ∙ ap (λ (r : Reached). next_of r area) reads ∙ reads'.0 in cc
no_fault_behind machine laws area state number from to to' (entry ∷ trail) [] place legal at most allowed reads closed fits' reads' fault =
    no_fault_before machine laws area state (number + 0) to' place entry (ap (λ (r : Reached). next_of r area) reads' ∙ reads.0) (omega arith) (laws.fits state entry legal allowed.0) allowed.0 fault
no_fault_behind machine laws area state number from to to' (entry ∷ trail) (entry' ∷ trail') place legal at most allowed reads closed fits' reads' fault =
    let less : number < 2 ^ 63 = omega arith in
    let same : machine.written entry ≡ machine.written entry' = same_next (machine.written entry) (machine.written entry') (sym reads.0 ∙ reads'.0) in
    let one : entry ≡ entry' = laws.one entry entry' (laws.fits state entry legal allowed.0) fits'.0 same in
    let rest = subst (λ (xs : List ℕ). Reads area (behind (length xs) from) (written_of machine trail') to') (sym same) reads'.1 in
    let there = subst (λ (s : _). FaultBehind machine area (after machine s trail') (number + length (entry' ∷ trail')) to' place) (ap (machine.step state) (sym one)) fault in
    let count : number + length (entry' ∷ trail') ≡ number + 1 + length trail' = omega arith in
    let here = subst (λ (n : ℕ). FaultBehind machine area (after machine (machine.step state entry) trail') n to' place) count there in
    no_fault_behind machine laws area (machine.step state entry) (number + 1) (behind (length (machine.written entry)) from) to to' trail trail' place
    (laws.keeps state entry legal allowed.0 (within (machine.next state) number at less)) (laws.counts state entry number legal allowed.0 at) (omega arith) allowed.1 reads.1 closed fits'.1 rest here

-- what is read as this base has its number
pub one_base : {M E : Type 0} (machine : Ghosts M E) → Lawful machine → (head : Head) (base loaded : M) → IsBase machine head base → machine.is_canonical loaded → machine.saved loaded ≡ head.base
    → (machine.suits loaded head.first ≡ true) × (machine.numbered loaded head.first ≡ machine.numbered base head.first)
one_base machine laws head base loaded is canonical saved =
    laws.one_record (machine.numbered base head.first) loaded head.first (laws.begins base head.first is.canonical is.suits) (laws.numbered base head.first) canonical (saved ∙ sym is.saved ∙ sym (laws.saved base head.first))

pub one_head : (head head' : Head) (kind : ℕ) (area : List ℕ) → head_of kind area ≡ Ok head → head_of kind area ≡ Ok head' → head ≡ head'
one_head head head' kind area is is' = let e : (let r : Result Head ℕ = Ok head in r) ≡ Ok head' = sym is ∙ is' in cc

-- an area that stands has no fault
pub no_first_fault : {M E : Type 0} (machine : Ghosts M E) → Lawful machine → (head : Head) (trail : List E) (area : List ℕ) (place : ℕ) → StandsFor machine head trail area → FirstFault machine area place → ⊥
no_first_fault machine laws head trail area place stands (in_head made is) =
    let read = area_again machine.KIND head (written_of machine trail) area stands.area_of in
    let e : (let r : Result Head ℕ = Ok head in r) ≡ Err place = sym read.head_is ∙ is in cc
no_first_fault machine laws head trail area place stands (in_base head' fault made is bad at) =
    let read = area_again machine.KIND head (written_of machine trail) area stands.area_of in
    let base = stands.history.is_base in
    let same : head'.base ≡ machine.saved stands.history.base = ap (λ (h : Head). h.base) (one_head head' head machine.KIND area is read.head_is) ∙ sym base.saved in
    laws.record_is_read stands.history.base fault base.canonical (subst (λ (xs : List ℕ). machine.record_fault xs fault) same bad)
no_first_fault machine laws head trail area place stands (in_number head' loaded made is canonical saved not at) =
    let read = area_again machine.KIND head (written_of machine trail) area stands.area_of in
    let same = one_head head' head machine.KIND area is read.head_is in
    let fits = one_base machine laws head stands.history.base loaded stands.history.is_base canonical (saved ∙ ap (λ (h : Head). h.base) same) in
    let e : true ≡ false = sym fits.0 ∙ ap (λ (h : Head). machine.suits loaded h.first) (sym same) ∙ not in cc
no_first_fault machine laws head trail area place stands (in_entry head' loaded trail' reached made is reads fault) =
    let read = area_again machine.KIND head (written_of machine trail) area stands.area_of in
    let same = one_head head' head machine.KIND area is read.head_is in
    let history = stands.history in
    let there = subst (λ (h : Head). ReadsTo machine area h loaded trail' reached) same reads in
    let here = subst (λ (h : Head). FaultBehind machine area (after machine (machine.numbered loaded h.first) trail') (h.first + length trail') reached place) same fault in
    let fits = one_base machine laws head history.base loaded history.is_base there.is_base.canonical there.is_base.saved in
    let from = subst (λ (s : _). FaultBehind machine area (after machine s trail') (head.first + length trail') reached place) fits.1 here in
    no_fault_behind machine laws area (machine.numbered history.base head.first) head.first (behind_head head.base) read.trail.to reached trail trail' place
    (laws.begins history.base head.first history.is_base.canonical history.is_base.suits) (laws.numbered history.base head.first) history.numbers history.allowed read.trail.reads read.trail.closed there.fits there.reads from
