-- Of two areas one counts, or none.
use Rattle.std.proofs.Common.{◌≡◌, ◌⊎◌, ◌∙◌, ℕ, ◌<◌, ◌≤◌, nat_lt, if◌then◌else◌, Bool, true, false, List, drop, take, Option, None, Some, Result, Ok, Err, sym, ap, subst, arith, ⊎_elim, inl, inr}
use Rattle.std.proofs.lemmas.Bool.{cases_lt, lt-ltb, le-ltb, cond-true, cond-false}
use Rattle.pc_base.specs.declared.machine.Machine.{Ghosts}
use Rattle.pc_disk.specs.Images.{Images, area_of, other_of}
use Rattle.pc_log.specs.declared.head.Numbers.{Numbers}
use Rattle.pc_log.specs.Area.{Head, is_made}
use Rattle.pc_log.specs.Reading.{◌>>=◌, bytes_at, head_of, numbers_of}
use Rattle.pc_log.proofs.Fields.{bind_ok}
use Rattle.pc_log.proofs.Trails.{area_again}
use Rattle.pc_store.specs.History.{StandsFor, written_of}
use Rattle.pc_store.specs.Current.{HasFault, HasNumbers, IsCurrent, IsOlder, IsPassed, NoneCounts, NoneMade, OpensIn}
use Rattle.pc_store.specs.Current.NoneCounts.{in_first, in_second, of_one_generation}

-- there are two
pub of_two : (P : ℕ → Type 0) (index : ℕ) → index < 2 → P 0 → P 1 → P index
of_two P index less zeroth first =
    ⊎_elim (λ (low : index < 1). let e : 0 ≡ index = omega arith in subst P e zeroth) (λ (high : 1 ≤ index). let e : 1 ≡ index = omega arith in subst P e first) (cases_lt index 1)

-- ---- what a head tells

abbrev Told : Type 0
Told = Result (Option Numbers) ℕ

abbrev lifted : Result Numbers ℕ → Told
lifted (Ok numbers) = Ok (Some numbers)
lifted (Err place) = Err place

abbrev told_when : Bool → Result Numbers ℕ → Told
told_when true read = lifted read
told_when false read = Ok None

abbrev told : ℕ → List ℕ → Told
told kind area = told_when (is_made area) (numbers_of kind (take 29 (drop 1 area)))

abbrev tells_none : Told
tells_none = Ok None

abbrev tells_numbers : Numbers → Told
tells_numbers numbers = Ok (Some numbers)

abbrev tells_fault : ℕ → Told
tells_fault place = Err place

told_none : (kind : ℕ) (area : List ℕ) → is_made area ≡ false → told kind area ≡ tells_none
told_none kind area not = ap (λ (b : Bool). told_when b (numbers_of kind (take 29 (drop 1 area)))) not

told_numbers : (kind : ℕ) (area : List ℕ) (numbers : Numbers) → HasNumbers kind area numbers → told kind area ≡ tells_numbers numbers
told_numbers kind area numbers has = ap (λ (b : Bool). told_when b (numbers_of kind (take 29 (drop 1 area)))) has.made ∙ ap lifted has.read

told_fault : (kind : ℕ) (area : List ℕ) (place : ℕ) → HasFault kind area place → told kind area ≡ tells_fault place
told_fault kind area place has = ap (λ (b : Bool). told_when b (numbers_of kind (take 29 (drop 1 area)))) has.made ∙ ap lifted has.fault

-- ---- which area counts, by what both heads tell

abbrev Choice : Type 0
Choice = Result (Option ℕ) (ℕ × ℕ)

abbrev area_is : ℕ → Choice
area_is index = Ok (Some index)

abbrev none_is : Choice
none_is = Ok None

abbrev fault_is : ℕ → ℕ → Choice
fault_is index place = Err (index, place)

abbrev by_generation : ℕ → ℕ → Choice
by_generation first second = if nat_lt second first then area_is 0 else (if nat_lt first second then area_is 1 else fault_is 1 10)

abbrev chosen : Told → Told → Choice
chosen (Err place) second = fault_is 0 place
chosen (Ok first) (Err place) = fault_is 1 place
chosen (Ok None) (Ok None) = none_is
chosen (Ok None) (Ok (Some second)) = area_is 1
chosen (Ok (Some first)) (Ok None) = area_is 0
chosen (Ok (Some first)) (Ok (Some second)) = by_generation first.generation second.generation

abbrev choice_of : ℕ → Images → Choice
choice_of kind images = chosen (told kind (area_of 0 images)) (told kind (area_of 1 images))

both : (first second first' second' : Told) → first ≡ first' → second ≡ second' → chosen first second ≡ chosen first' second'
both first second first' second' one two = ap (λ (t : Told). chosen t second) one ∙ ap (chosen first') two

first_greater : (first second : ℕ) → second < first → by_generation first second ≡ area_is 0
first_greater first second less = cond-true (nat_lt second first) (area_is 0) (if nat_lt first second then area_is 1 else fault_is 1 10) (lt-ltb second first less)

second_greater : (first second : ℕ) → first < second → by_generation first second ≡ area_is 1
second_greater first second less =
    cond-false (nat_lt second first) (area_is 0) (if nat_lt first second then area_is 1 else fault_is 1 10) (le-ltb second first (omega arith)) ∙ cond-true (nat_lt first second) (area_is 1) (fault_is 1 10) (lt-ltb first second less)

neither_greater : (first second : ℕ) → first ≡ second → by_generation first second ≡ fault_is 1 10
neither_greater first second same =
    cond-false (nat_lt second first) (area_is 0) (if nat_lt first second then area_is 1 else fault_is 1 10) (le-ltb second first (omega arith)) ∙ cond-false (nat_lt first second) (area_is 1) (fault_is 1 10) (le-ltb first second (omega arith))

zeroth_chosen : (kind : ℕ) (images : Images) → IsCurrent kind 0 images → choice_of kind images ≡ area_is 0
zeroth_chosen kind images current =
    let first = told_numbers kind (area_of 0 images) current.numbers current.has in
    ⊎_elim (λ unmade. both _ _ _ _ first (told_none kind (area_of 1 images) unmade))
    (λ older. both _ _ _ _ first (told_numbers kind (area_of 1 images) older.0 older.1) ∙ first_greater current.numbers.generation older.0.generation older.2) current.older

first_chosen : (kind : ℕ) (images : Images) → IsCurrent kind 1 images → choice_of kind images ≡ area_is 1
first_chosen kind images current =
    let second = told_numbers kind (area_of 1 images) current.numbers current.has in
    ⊎_elim (λ unmade. both _ _ _ _ (told_none kind (area_of 0 images) unmade) second)
    (λ older. both _ _ _ _ (told_numbers kind (area_of 0 images) older.0 older.1) second ∙ second_greater older.0.generation current.numbers.generation older.2) current.older

current_chosen : (kind index : ℕ) (images : Images) → IsCurrent kind index images → choice_of kind images ≡ area_is index
current_chosen kind index images current =
    of_two (λ (i : ℕ). IsCurrent kind i images → choice_of kind images ≡ area_is i) index current.within (zeroth_chosen kind images) (first_chosen kind images) current

none_chosen : (kind : ℕ) (images : Images) → NoneMade images → choice_of kind images ≡ none_is
none_chosen kind images none = both _ _ _ _ (told_none kind (area_of 0 images) none.0) (told_none kind (area_of 1 images) none.1)

faults_chosen : (index place given : ℕ) → given ≡ index → fault_is index place ≡ fault_is given place
faults_chosen index place given is = ap (λ (i : ℕ). fault_is i place) (sym is)

fault_chosen : (kind : ℕ) (images : Images) (index place : ℕ) → NoneCounts kind images index place → choice_of kind images ≡ fault_is index place
fault_chosen kind images index place (in_first has is) =
    ap (λ (t : Told). chosen t (told kind (area_of 1 images))) (told_fault kind (area_of 0 images) place has) ∙ faults_chosen 0 place index is
fault_chosen kind images index place (in_second passed has is) =
    let second = told_fault kind (area_of 1 images) place has in
    ⊎_elim (λ unmade. both _ _ _ _ (told_none kind (area_of 0 images) unmade) second) (λ read. both _ _ _ _ (told_numbers kind (area_of 0 images) read.0 read.1) second) passed ∙ faults_chosen 1 place index is
fault_chosen kind images index place (of_one_generation first second has has' same is at) =
    both _ _ _ _ (told_numbers kind (area_of 0 images) first has) (told_numbers kind (area_of 1 images) second has') ∙ neither_greater first.generation second.generation same
    ∙ ap (λ (p : ℕ). fault_is 1 p) (sym at) ∙ faults_chosen 1 place index is

same_area : (index index' : ℕ) → area_is index ≡ area_is index' → index ≡ index'
same_area index index' e = cc

abbrev fault_of : Choice → ℕ × ℕ
fault_of (Ok area) = (0, 0)
fault_of (Err fault) = fault

pub one_current : (kind index index' : ℕ) (images : Images) → IsCurrent kind index images → IsCurrent kind index' images → index ≡ index'
one_current kind index index' images current current' = same_area index index' (sym (current_chosen kind index images current) ∙ current_chosen kind index' images current')

pub one_none_counts : (kind : ℕ) (images : Images) (index place index' place' : ℕ) → NoneCounts kind images index place → NoneCounts kind images index' place' → (index ≡ index') × (place ≡ place')
one_none_counts kind images index place index' place' fault fault' =
    let e = ap fault_of (sym (fault_chosen kind images index place fault) ∙ fault_chosen kind images index' place' fault') in
    (ap (λ (f : ℕ × ℕ). f.0) e, ap (λ (f : ℕ × ℕ). f.1) e)

pub none_beside : (kind index : ℕ) (images : Images) (index' place : ℕ) → IsCurrent kind index images → NoneCounts kind images index' place → ⊥
none_beside kind index images index' place current fault = let e : area_is index ≡ fault_is index' place = sym (current_chosen kind index images current) ∙ fault_chosen kind images index' place fault in cc

pub made_beside : (kind index : ℕ) (images : Images) → IsCurrent kind index images → NoneMade images → ⊥
made_beside kind index images current none = let e : area_is index ≡ none_is = sym (current_chosen kind index images current) ∙ none_chosen kind images none in cc

pub faultless : (kind : ℕ) (images : Images) (index place : ℕ) → NoneMade images → NoneCounts kind images index place → ⊥
faultless kind images index place none fault = let e : none_is ≡ fault_is index place = sym (none_chosen kind images none) ∙ fault_chosen kind images index place fault in cc

-- ---- what stands has its head's generation

pub record HasGeneration (kind : ℕ) (area : List ℕ) (generation : ℕ) : Type 0 where
  pub numbers : Numbers
  pub has : HasNumbers kind area numbers
  pub same : numbers.generation ≡ generation

abbrev made_of : ℕ → Numbers → List ℕ → Result Head ℕ
made_of kind numbers base = Ok (record { kind = kind; generation = numbers.generation; first = numbers.first; base = base })

abbrev generation_of : Result Head ℕ → ℕ
generation_of (Ok head) = head.generation
generation_of (Err place) = 0

head_numbers : (kind : ℕ) (area : List ℕ) (head : Head) → is_made area ≡ true → head_of kind area ≡ Ok head → HasGeneration kind area head.generation
unfolding head_of
head_numbers kind area head made is =
    let read = bind_ok (numbers_of kind (take 29 (drop 1 area))) (λ numbers. bytes_at 30 numbers.size area >>= λ base. made_of kind numbers base) head is in
    let based = bind_ok (bytes_at 30 read.0.size area) (λ base. made_of kind read.0 base) head read.2 in
    record { numbers = read.0; has = record { made = made; read = read.1 }; same = ap generation_of based.2 }

pub stands_numbers : {M E : Type 0} (machine : Ghosts M E) (head : Head) (trail : List E) (area : List ℕ) → StandsFor machine head trail area → HasGeneration machine.KIND area head.generation
stands_numbers machine head trail area stands =
    let read = area_again machine.KIND head (written_of machine trail) area stands.area_of in
    head_numbers machine.KIND area head read.made read.head_is

pub opens_current : {M E : Type 0} (machine : Ghosts M E) (index : ℕ) (head : Head) (trail : List E) (images : Images) → OpensIn machine index head trail images → IsCurrent machine.KIND index images
opens_current machine index head trail images opens =
    let has = stands_numbers machine head trail (area_of index images) opens.stands in
    record {
      within = opens.within;
      numbers = has.numbers;
      has = has.has;
      older = subst (λ (n : ℕ). IsOlder machine.KIND n (other_of index images)) (sym has.same) opens.older;
    }
