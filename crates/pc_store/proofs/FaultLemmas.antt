-- An area has one first fault.
use Rattle.std.proofs.Common.{◌≡◌, ◌∙◌, ℕ, ◌+◌, ◌^◌, ◌≤◌, Bool, true, false, List, [], ◌∷◌, length, Option, Result, Ok, Err, refl, sym, ap, subst, arith, inl, inr}
use Rattle.std.specs.List.{AllByRecursion}
use Rattle.std.specs.Prelude.{IfOk, IfErr}
use Rattle.pc_base.specs.declared.machine.Machine.{Ghosts}
use Rattle.pc_disk.specs.Images.{Images, area_of}
use Rattle.pc_log.specs.Area.{Head, is_made}
use Rattle.pc_log.specs.Reading.{Reached, behind, behind_head, head_of, next_of}
use Rattle.pc_log.specs.Opening.{Reads}
use Rattle.pc_base.specs.declared.store_fault.StoreFault.{StoreFault}
use Rattle.pc_base.specs.declared.store_fault.StoreFault.TheVariants.{NotMade, Device, Malformed, Memory}
use Rattle.pc_store.specs.declared.reading.History.{History}
use Rattle.pc_store.specs.History.{AreAllowed, IsBase, after, written_of}
use Rattle.pc_store.specs.Opening.{FaultBehind, FirstFault, FirstFaultIn, IsFaultOf, ReadsTo, RefusesAs, limited}
use Rattle.pc_store.specs.Opening.FirstFaultIn.{in_none, in_current}
use Rattle.pc_store.specs.Current.{IsCurrent, NoneMade}
use Rattle.pc_store.specs.Opening.FaultBehind.{cut_off, past_last, unread, not_allowed}
use Rattle.pc_store.specs.Opening.FirstFault.{in_head, in_base, in_number, in_entry}
use Rattle.pc_store.specs.Reading.{Counts, HoldsCurrent, IsFaultAt, head_of_history}
use Rattle.pc_store.proofs.SameLemmas.{Lawful, next_is, no_fault_before, no_first_fault, one_base, one_head, same_next}
use Rattle.pc_store.proofs.OpenedLemmas.{held_opens, no_fault_in}
use Rattle.pc_store.proofs.CurrentLemmas.{faultless, made_beside, none_beside, one_current, one_none_counts, opens_current}

abbrev faulty_next : ℕ → Result (Option (List ℕ)) ℕ
faulty_next place = Err place

same_place : (place place' : ℕ) → faulty_next place ≡ faulty_next place' → place ≡ place'
same_place place place' e = cc

-- behind the same gate it is the same
one_fault_at : {M E : Type 0} (machine : Ghosts M E) → Lawful machine → (area : List ℕ) (state : M) (number : ℕ) (reached : Reached) (place place' : ℕ)
    → FaultBehind machine area state number reached place → FaultBehind machine area state number reached place' → place ≡ place'
one_fault_at machine laws area state number reached place place' (cut_off fault next at) (cut_off fault' next' at') =
    at ∙ ap (λ (f : ℕ). limited number reached.gate f) (same_place fault fault' (sym next ∙ next')) ∙ sym at'
one_fault_at machine laws area state number reached place place' (cut_off fault next at) (past_last bytes' next' past' at') = let e : faulty_next fault ≡ next_is bytes' = sym next ∙ next' in cc
one_fault_at machine laws area state number reached place place' (cut_off fault next at) (unread bytes' fault' next' within' bad' at') = let e : faulty_next fault ≡ next_is bytes' = sym next ∙ next' in cc
one_fault_at machine laws area state number reached place place' (cut_off fault next at) (not_allowed entry' next' within' fits' not' at') = let e : faulty_next fault ≡ next_is (machine.written entry') = sym next ∙ next' in cc
one_fault_at machine laws area state number reached place place' (past_last bytes next past at) (cut_off fault' next' at') = let e : next_is bytes ≡ faulty_next fault' = sym next ∙ next' in cc
one_fault_at machine laws area state number reached place place' (past_last bytes next past at) (past_last bytes' next' past' at') = at ∙ sym at'
one_fault_at machine laws area state number reached place place' (past_last bytes next past at) (unread bytes' fault' next' within' bad' at') = absurd (omega arith)
one_fault_at machine laws area state number reached place place' (past_last bytes next past at) (not_allowed entry' next' within' fits' not' at') = absurd (omega arith)
one_fault_at machine laws area state number reached place place' (unread bytes fault next within bad at) (cut_off fault' next' at') = let e : next_is bytes ≡ faulty_next fault' = sym next ∙ next' in cc
one_fault_at machine laws area state number reached place place' (unread bytes fault next within bad at) (past_last bytes' next' past' at') = absurd (omega arith)
one_fault_at machine laws area state number reached place place' (unread bytes fault next within bad at) (unread bytes' fault' next' within' bad' at') =
    let same : bytes' ≡ bytes = same_next bytes' bytes (sym next' ∙ next) in
    let one = laws.one_entry_fault bytes fault fault' bad (subst (λ (xs : List ℕ). machine.entry_fault xs fault') same bad') in
    at ∙ ap (λ (f : ℕ). reached.gate + 5 + f) one ∙ sym at'
one_fault_at machine laws area state number reached place place' (unread bytes fault next within bad at) (not_allowed entry' next' within' fits' not' at') =
    let same : bytes ≡ machine.written entry' = same_next bytes (machine.written entry') (sym next ∙ next') in
    absurd (laws.entry_is_read entry' fault fits' (subst (λ (xs : List ℕ). machine.entry_fault xs fault) same bad))
one_fault_at machine laws area state number reached place place' (not_allowed entry next within fits not at) (cut_off fault' next' at') = let e : next_is (machine.written entry) ≡ faulty_next fault' = sym next ∙ next' in cc
one_fault_at machine laws area state number reached place place' (not_allowed entry next within fits not at) (past_last bytes' next' past' at') = absurd (omega arith)
one_fault_at machine laws area state number reached place place' (not_allowed entry next within fits not at) (unread bytes' fault' next' within' bad' at') =
    let same : bytes' ≡ machine.written entry = same_next bytes' (machine.written entry) (sym next' ∙ next) in
    absurd (laws.entry_is_read entry fault' fits (subst (λ (xs : List ℕ). machine.entry_fault xs fault') same bad'))
one_fault_at machine laws area state number reached place place' (not_allowed entry next within fits not at) (not_allowed entry' next' within' fits' not' at') = at ∙ sym at'

-- behind entries that are read from the same gate on it is the same
one_fault_behind : {M E : Type 0} (machine : Ghosts M E) → Lawful machine → (area : List ℕ) (state : M) (number : ℕ) (from to to' : Reached) (trail trail' : List E) (place place' : ℕ)
    → number + length trail ≤ 2 ^ 63 → number + length trail' ≤ 2 ^ 63 → AreAllowed machine state trail → AreAllowed machine state trail' → AllByRecursion machine.fits trail → AllByRecursion machine.fits trail'
    → Reads area from (written_of machine trail) to → Reads area from (written_of machine trail') to'
    → FaultBehind machine area (after machine state trail) (number + length trail) to place → FaultBehind machine area (after machine state trail') (number + length trail') to' place' → place ≡ place'
one_fault_behind machine laws area state number from to to' [] [] place place' most most' allowed allowed' fits fits' reads reads' fault fault' =
    one_fault_at machine laws area state (number + 0) to place place' fault (subst (λ (r : Reached). FaultBehind machine area state (number + 0) r place') (reads' ∙ sym reads) fault')
one_fault_behind machine laws area state number from to to' [] (entry' ∷ trail') place place' most most' allowed allowed' fits fits' reads reads' fault fault' =
    absurd (no_fault_before machine laws area state (number + 0) to place entry' (ap (λ (r : Reached). next_of r area) reads ∙ reads'.0) (omega arith) fits'.0 allowed'.0 fault)
one_fault_behind machine laws area state number from to to' (entry ∷ trail) [] place place' most most' allowed allowed' fits fits' reads reads' fault fault' =
    absurd (no_fault_before machine laws area state (number + 0) to' place' entry (ap (λ (r : Reached). next_of r area) reads' ∙ reads.0) (omega arith) fits.0 allowed.0 fault')
one_fault_behind machine laws area state number from to to' (entry ∷ trail) (entry' ∷ trail') place place' most most' allowed allowed' fits fits' reads reads' fault fault' =
    let same : machine.written entry' ≡ machine.written entry = same_next (machine.written entry') (machine.written entry) (sym reads'.0 ∙ reads.0) in
    let one : entry' ≡ entry = laws.one entry' entry fits'.0 fits.0 same in
    let next = ap (machine.step state) one in
    let count : number + length (entry ∷ trail) ≡ number + 1 + length trail = omega arith in
    let count' : number + length (entry' ∷ trail') ≡ number + 1 + length trail' = omega arith in
    one_fault_behind machine laws area (machine.step state entry) (number + 1) (behind (length (machine.written entry)) from) to to' trail trail' place place' (omega arith) (omega arith)
    allowed.1 (subst (λ (s : _). AreAllowed machine s trail') next allowed'.1) fits.1 fits'.1 reads.1
    (subst (λ (xs : List ℕ). Reads area (behind (length xs) from) (written_of machine trail') to') same reads'.1)
    (subst (λ (n : ℕ). FaultBehind machine area (after machine (machine.step state entry) trail) n to place) count fault)
    (subst (λ (n : ℕ). FaultBehind machine area (after machine (machine.step state entry) trail') n to' place') count' (subst (λ (s : _). FaultBehind machine area (after machine s trail') (number + length (entry' ∷ trail')) to' place') next fault'))

abbrev head_is : Head → Result Head ℕ
head_is head = Ok head

abbrev head_fault : ℕ → Result Head ℕ
head_fault place = Err place

same_head_fault : (place place' : ℕ) → head_fault place ≡ head_fault place' → place ≡ place'
same_head_fault place place' e = cc

no_head_fault : (head : Head) (place kind : ℕ) (area : List ℕ) → head_of kind area ≡ Ok head → head_of kind area ≡ Err place → ⊥
no_head_fault head place kind area is bad = let e : head_is head ≡ head_fault place = sym is ∙ bad in cc

-- what is read as a record isn't refused
base_read : {M E : Type 0} (machine : Ghosts M E) → Lawful machine → (head head' : Head) (loaded : M) (fault : ℕ) → head ≡ head' → machine.record_fault head.base fault → machine.is_canonical loaded → machine.saved loaded ≡ head'.base → ⊥
base_read machine laws head head' loaded fault same bad canonical saved =
    laws.record_is_read loaded fault canonical (subst (λ (xs : List ℕ). machine.record_fault xs fault) (ap (λ (h : Head). h.base) same ∙ sym saved) bad)

-- a number that one base suits is suited by what is read from the same bytes
base_suits : {M E : Type 0} (machine : Ghosts M E) → Lawful machine → (head head' : Head) (loaded base : M) → head ≡ head' → machine.is_canonical loaded → machine.saved loaded ≡ head.base → machine.suits loaded head.first ≡ false → IsBase machine head' base → ⊥
base_suits machine laws head head' loaded base same canonical saved not is =
    let fits = one_base machine laws head' base loaded is canonical (saved ∙ ap (λ (h : Head). h.base) same) in
    let e : true ≡ false = sym fits.0 ∙ ap (λ (h : Head). machine.suits loaded h.first) (sym same) ∙ not in
    cc

one_entry_place : {M E : Type 0} (machine : Ghosts M E) → Lawful machine → (area : List ℕ) (head head' : Head) (base base' : M) (trail trail' : List E) (reached reached' : Reached) (place place' : ℕ) → head' ≡ head
    → ReadsTo machine area head base trail reached → ReadsTo machine area head' base' trail' reached'
    → FaultBehind machine area (after machine (machine.numbered base head.first) trail) (head.first + length trail) reached place
    → FaultBehind machine area (after machine (machine.numbered base' head'.first) trail') (head'.first + length trail') reached' place' → place ≡ place'
one_entry_place machine laws area head head' base base' trail trail' reached reached' place place' same reads reads' fault fault' =
    let there = subst (λ (h : Head). ReadsTo machine area h base' trail' reached') same reads' in
    let here = subst (λ (h : Head). FaultBehind machine area (after machine (machine.numbered base' h.first) trail') (h.first + length trail') reached' place') same fault' in
    let fits = one_base machine laws head base base' reads.is_base there.is_base.canonical there.is_base.saved in
    one_fault_behind machine laws area (machine.numbered base head.first) head.first (behind_head head.base) reached reached' trail trail' place place' reads.numbers there.numbers
    reads.allowed (subst (λ (s : _). AreAllowed machine s trail') fits.1 there.allowed) reads.fits there.fits reads.reads there.reads fault
    (subst (λ (s : _). FaultBehind machine area (after machine s trail') (head.first + length trail') reached' place') fits.1 here)

pub one_first_fault : {M E : Type 0} (machine : Ghosts M E) → Lawful machine → (area : List ℕ) (place place' : ℕ) → FirstFault machine area place → FirstFault machine area place' → place ≡ place'
one_first_fault machine laws area place place' (in_head made is) (in_head made' is') = same_head_fault place place' (sym is ∙ is')
one_first_fault machine laws area place place' (in_head made is) (in_base head' fault' made' is' bad' at') = absurd (no_head_fault head' place machine.KIND area is' is)
one_first_fault machine laws area place place' (in_head made is) (in_number head' base' made' is' canonical' saved' not' at') = absurd (no_head_fault head' place machine.KIND area is' is)
one_first_fault machine laws area place place' (in_head made is) (in_entry head' base' trail' reached' made' is' reads' fault') = absurd (no_head_fault head' place machine.KIND area is' is)
one_first_fault machine laws area place place' (in_base head fault made is bad at) (in_head made' is') = absurd (no_head_fault head place' machine.KIND area is is')
one_first_fault machine laws area place place' (in_base head fault made is bad at) (in_base head' fault' made' is' bad' at') =
    let same = ap (λ (h : Head). h.base) (one_head head' head machine.KIND area is' is) in
    let one = laws.one_record_fault head.base fault fault' bad (subst (λ (xs : List ℕ). machine.record_fault xs fault') same bad') in
    at ∙ ap (λ (f : ℕ). 30 + f) one ∙ sym at'
one_first_fault machine laws area place place' (in_base head fault made is bad at) (in_number head' base' made' is' canonical' saved' not' at') = absurd (base_read machine laws head head' base' fault (one_head head head' machine.KIND area is is') bad canonical' saved')
one_first_fault machine laws area place place' (in_base head fault made is bad at) (in_entry head' base' trail' reached' made' is' reads' fault') = absurd (base_read machine laws head head' base' fault (one_head head head' machine.KIND area is is') bad reads'.is_base.canonical reads'.is_base.saved)
one_first_fault machine laws area place place' (in_number head base made is canonical saved not at) (in_head made' is') = absurd (no_head_fault head place' machine.KIND area is is')
one_first_fault machine laws area place place' (in_number head base made is canonical saved not at) (in_base head' fault' made' is' bad' at') = absurd (base_read machine laws head' head base fault' (one_head head' head machine.KIND area is' is) bad' canonical saved)
one_first_fault machine laws area place place' (in_number head base made is canonical saved not at) (in_number head' base' made' is' canonical' saved' not' at') = at ∙ sym at'
one_first_fault machine laws area place place' (in_number head base made is canonical saved not at) (in_entry head' base' trail' reached' made' is' reads' fault') = absurd (base_suits machine laws head head' base base' (one_head head head' machine.KIND area is is') canonical saved not reads'.is_base)
one_first_fault machine laws area place place' (in_entry head base trail reached made is reads fault) (in_head made' is') = absurd (no_head_fault head place' machine.KIND area is is')
one_first_fault machine laws area place place' (in_entry head base trail reached made is reads fault) (in_base head' fault' made' is' bad' at') = absurd (base_read machine laws head' head base fault' (one_head head' head machine.KIND area is' is) bad' reads.is_base.canonical reads.is_base.saved)
one_first_fault machine laws area place place' (in_entry head base trail reached made is reads fault) (in_number head' base' made' is' canonical' saved' not' at') = absurd (base_suits machine laws head' head base' base (one_head head' head machine.KIND area is' is) canonical' saved' not' reads.is_base)
one_first_fault machine laws area place place' (in_entry head base trail reached made is reads fault) (in_entry head' base' trail' reached' made' is' reads' fault') =
    one_entry_place machine laws area head head' base base' trail trail' reached reached' place place' (one_head head' head machine.KIND area is' is) reads reads' fault fault'

not_both : (b : Bool) → b ≡ true → b ≡ false → ⊥
not_both b made not = let e : true ≡ false = sym made ∙ not in cc

-- so have two
one_fault_in : {M E : Type 0} (machine : Ghosts M E) → Lawful machine → (images : Images) (index place index' place' : ℕ) → FirstFaultIn machine images index place → FirstFaultIn machine images index' place' → (index ≡ index') × (place ≡ place')
one_fault_in machine laws images index place index' place' (in_none none) (in_none none') = one_none_counts machine.KIND images index place index' place' none none'
one_fault_in machine laws images index place index' place' (in_none none) (in_current current' fault') = absurd (none_beside machine.KIND index' images index place current' none)
one_fault_in machine laws images index place index' place' (in_current current fault) (in_none none') = absurd (none_beside machine.KIND index images index' place' current none')
one_fault_in machine laws images index place index' place' (in_current current fault) (in_current current' fault') =
    let here : index' ≡ index = one_current machine.KIND index' index images current' current in
    (sym here, one_first_fault machine laws (area_of index images) place place' fault (subst (λ (i : ℕ). FirstFault machine (area_of i images) place') here fault'))

none_faultless : {M E : Type 0} (machine : Ghosts M E) (images : Images) (index place : ℕ) → NoneMade images → FirstFaultIn machine images index place → ⊥
none_faultless machine images index place none (in_none fault) = faultless machine.KIND images index place none fault
none_faultless machine images index place none (in_current current fault) = made_beside machine.KIND index images current none

-- the fault of the area that counts is the fault of both
fault_in : {M E : Type 0} (machine : Ghosts M E) (images : Images) (index : ℕ) (fault : StoreFault) → IsCurrent machine.KIND index images → IsFaultAt machine index (area_of index images) fault → IsFaultOf machine images fault
fault_in machine images index NotMade current bad = absurd (not_both (is_made (area_of index images)) current.has.made bad)
fault_in machine images index Device current bad = tt
fault_in machine images index (Malformed place_area place) current bad = subst (λ (i : ℕ). FirstFaultIn machine images i place) (sym bad.0) (in_current current bad.1)
fault_in machine images index Memory current bad = tt

pub current_fault : {M E : Type 0} (machine : Ghosts M E) (images : Images) (index : ℕ) (result : Result (History M E) StoreFault) → IsCurrent machine.KIND index images → IfErr result (IsFaultAt machine index (area_of index images)) → IfErr result (IsFaultOf machine images)
current_fault machine images index (Ok history) current bad = tt
current_fault machine images index (Err fault) current bad = fault_in machine images index fault current bad

-- and so is that none counts
pub none_in : {M E : Type 0} (machine : Ghosts M E) (images : Images) (fault : StoreFault) → Counts machine.KIND images (Err fault) → IsFaultOf machine images fault
none_in machine images NotMade bad = bad
none_in machine images Device bad = tt
none_in machine images (Malformed index place) bad = in_none bad
none_in machine images Memory bad = absurd bad

-- what isn't made is refused as that
pub refuses_unmade : {M E : Type 0} (machine : Ghosts M E) → Lawful machine → (tells : Type 0) (images : Images) (result : Result (History M E) StoreFault) → tells
    → IfOk result (HoldsCurrent machine tells images) → IfErr result (IsFaultOf machine images) → NoneMade images → RefusesAs result NotMade
refuses_unmade machine laws tells images (Ok history) told holds bad none =
    let opens = held_opens machine tells images history told holds in
    made_beside machine.KIND history.log.area images (opens_current machine history.log.area (head_of_history machine history) history.trail.items images opens) none
refuses_unmade machine laws tells images (Err NotMade) told holds bad none = inl refl
refuses_unmade machine laws tells images (Err Device) told holds bad none = inr tt
refuses_unmade machine laws tells images (Err (Malformed index place)) told holds bad none = absurd (none_faultless machine images index place none bad)
refuses_unmade machine laws tells images (Err Memory) told holds bad none = inr tt

-- what has a fault is refused at its first
pub refuses_fault : {M E : Type 0} (machine : Ghosts M E) → Lawful machine → (tells : Type 0) (images : Images) (result : Result (History M E) StoreFault) → tells
    → IfOk result (HoldsCurrent machine tells images) → IfErr result (IsFaultOf machine images) → (index place : ℕ) → FirstFaultIn machine images index place → RefusesAs result (Malformed index place)
refuses_fault machine laws tells images (Ok history) told holds bad index place fault =
    no_fault_in machine laws history.log.area (head_of_history machine history) history.trail.items images index place (held_opens machine tells images history told holds) fault
refuses_fault machine laws tells images (Err NotMade) told holds bad index place fault = absurd (none_faultless machine images index place bad fault)
refuses_fault machine laws tells images (Err Device) told holds bad index place fault = inr tt
refuses_fault machine laws tells images (Err (Malformed other_index other)) told holds bad index place fault =
    let one = one_fault_in machine laws images other_index other index place bad fault in
    inl (ap (λ (i : ℕ). Malformed i other) one.0 ∙ ap (λ (p : ℕ). Malformed index p) one.1)
refuses_fault machine laws tells images (Err Memory) told holds bad index place fault = inr tt
