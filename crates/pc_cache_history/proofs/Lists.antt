-- Lists of descriptors by rising uid: what stands under a uid, when two are the same, and how long they are after changes.
use Rattle.std.proofs.Common.{◌≡◌, ℕ, ◌+◌, ◌<◌, ◌==◌, Bool, true, false, cond, not, ◌&&◌, nat_lt, List, [], ◌∷◌, length, map, filter, None, Some, is_some, refl, sym, ◌∙◌, ap, subst, inl, inr, arith, eq-eqb, ne_eqb, lt-ltb, le-ltb, length-append}
use Rattle.std.specs.List.{AllByRecursion as Every, list_any}
use Rattle.std.proofs.lemmas.Bool.{cases_order, and_parts, not-true, eqb-true}
use Rattle.pc_message.specs.declared.descriptor.Descriptor.{Descriptor}
use Rattle.pc_message.specs.declared.descriptor.Change.{Change}
use Rattle.pc_message.specs.declared.descriptor.Change.TheVariants.{Present, Expunged}
use Rattle.pc_tables.proofs.Lists.{Every-weaker, filter-agree}
use Rattle.pc_tables.proofs.Order.{Ordered-filter}
use Rattle.pc_cache_history.specs.Entry.{uid_of, shown_by}
use Rattle.pc_cache_history.specs.Record.{descriptor_at}
use Rattle.pc_cache_history.specs.Effect.{other_descriptors, with_change, with_changes}
use Rattle.pc_cache_history.specs.Allowed.{are_different}
use Rattle.pc_cache_history.specs.Legal.{AreRising}
use Rattle.pc_cache_history.specs.Laws.{takes_away, brings}
use Rattle.pc_cache_history.proofs.Descriptors.{descriptor_at-change, rising-placed, differ}

-- ---- what stands under a uid

absent-below : (uid : ℕ) (descriptors : List Descriptor) → Every (λ (later : Descriptor). uid < later.uid) descriptors → descriptor_at uid descriptors ≡ None
absent-below uid [] h = refl
absent-below uid (descriptor ∷ descriptors) h = rw (ne_eqb descriptor.uid uid (λ e. absurd (omega (arith, h.0)))) (absent-below uid descriptors h.1)

-- what stands under a uid has it, and is as all are
pub found-own : (P : Descriptor → Type 0) (uid : ℕ) (found : Descriptor) (descriptors : List Descriptor) → Every P descriptors → descriptor_at uid descriptors ≡ Some found → (found.uid ≡ uid) × P found
found-own P uid found [] all h = cc
found-own P uid found (descriptor ∷ descriptors) all h = elim (descriptor.uid == uid) as (λ b. (descriptor.uid == uid) ≡ b → cond b (Some descriptor) (descriptor_at uid descriptors) ≡ Some found → (found.uid ≡ uid) × P found) [
  | true ↦ λ e g. let same : descriptor ≡ found = cc in subst (λ (d : Descriptor). (d.uid ≡ uid) × P d) same (eqb-true descriptor.uid uid e, all.0)
  | false ↦ λ e g. found-own P uid found descriptors all.1 g
] refl h

-- ---- when two lists are the same

here : (descriptor : Descriptor) (descriptors : List Descriptor) → descriptor_at descriptor.uid (descriptor ∷ descriptors) ≡ Some descriptor
here descriptor descriptors = rw (eq-eqb descriptor.uid descriptor.uid refl) refl

-- no list begins with a lower uid than one that has the same under each uid
not-lower : (one two : Descriptor) (ones twos : List Descriptor) → AreRising (two ∷ twos) → descriptor_at one.uid (one ∷ ones) ≡ descriptor_at one.uid (two ∷ twos) → one.uid < two.uid → ⊥
not-lower one two ones twos rising alike lower =
    let none : descriptor_at one.uid (two ∷ twos) ≡ None = absent-below one.uid (two ∷ twos) (lower, Every-weaker (λ (later : Descriptor). two.uid < later.uid) (λ (later : Descriptor). one.uid < later.uid) (λ later g. omega arith) twos rising.0) in
    let found : descriptor_at one.uid (one ∷ ones) ≡ Some one = here one ones in
    cc

-- behind the same first one the same stands under each uid
alike-behind : (one : Descriptor) (ones twos : List Descriptor) → AreRising (one ∷ ones) → AreRising (one ∷ twos) → (uid : ℕ) → descriptor_at uid (one ∷ ones) ≡ descriptor_at uid (one ∷ twos) → descriptor_at uid ones ≡ descriptor_at uid twos
alike-behind one ones twos rising rising_two uid alike = elim (one.uid == uid) as (λ b. (one.uid == uid) ≡ b → cond b (Some one) (descriptor_at uid ones) ≡ cond b (Some one) (descriptor_at uid twos) → descriptor_at uid ones ≡ descriptor_at uid twos) [
  | true ↦ λ e g. none ones rising.0 (eqb-true one.uid uid e) ∙ sym (none twos rising_two.0 (eqb-true one.uid uid e))
  | false ↦ λ e g. g
] refl alike
  where
    none : (rest : List Descriptor) → Every (λ (later : Descriptor). one.uid < later.uid) rest → one.uid ≡ uid → descriptor_at uid rest ≡ None
    none rest h e = absent-below uid rest (Every-weaker (λ (later : Descriptor). one.uid < later.uid) (λ (later : Descriptor). uid < later.uid) (λ later g. omega arith) rest h)

pub same-lists : (ones twos : List Descriptor) → AreRising ones → AreRising twos → ((uid : ℕ) → descriptor_at uid ones ≡ descriptor_at uid twos) → ones ≡ twos
same-lists [] [] rising rising_two alike = refl
same-lists [] (two ∷ twos) rising rising_two alike = let e : descriptor_at two.uid [] ≡ Some two = alike two.uid ∙ here two twos in cc
same-lists (one ∷ ones) [] rising rising_two alike = let e : Some one ≡ descriptor_at one.uid [] = sym (here one ones) ∙ alike one.uid in cc
same-lists (one ∷ ones) (two ∷ twos) rising rising_two alike = elim (cases_order one.uid two.uid) as (λ _. one ∷ ones ≡ two ∷ twos) [
  | inl e ↦
      let first : Some one ≡ Some two = sym (here one ones) ∙ alike one.uid ∙ ap (λ uid. descriptor_at uid (two ∷ twos)) e ∙ here two twos in
      let same : two ≡ one = cc in
      let rising_one : AreRising (one ∷ twos) = subst (λ (d : Descriptor). AreRising (d ∷ twos)) same rising_two in
      let alike_one : (uid : ℕ) → descriptor_at uid (one ∷ ones) ≡ descriptor_at uid (one ∷ twos) = subst (λ (d : Descriptor). (uid : ℕ) → descriptor_at uid (one ∷ ones) ≡ descriptor_at uid (d ∷ twos)) same alike in
      let rest : ones ≡ twos = same-lists ones twos rising.1 rising_two.1 (λ uid. alike-behind one ones twos rising rising_one uid (alike_one uid)) in
      cc
  | inr o ↦ elim o as (λ _. one ∷ ones ≡ two ∷ twos) [
    | inl lower ↦ absurd (not-lower one two ones twos rising_two (alike one.uid) lower)
    | inr higher ↦ absurd (not-lower two one twos ones rising (sym (alike two.uid)) higher)
  ]
]

-- ---- how many there are

abbrev one_if : Bool → ℕ
one_if b = cond b 1 0

length-filter-cons : {X : Type 0} (p : X → Bool) (x : X) (xs : List X) → length (filter p (x ∷ xs)) ≡ one_if (p x) + length (filter p xs)
length-filter-cons p x xs = elim (p x) as (λ b. length (cond b (x ∷ filter p xs) (filter p xs)) ≡ cond b 1 0 + length (filter p xs)) [ true ↦ omega arith | false ↦ omega arith ]

abbrev below : ℕ → List Descriptor → List Descriptor
below uid descriptors = filter (λ descriptor. nat_lt descriptor.uid uid) descriptors

abbrev above : ℕ → List Descriptor → List Descriptor
above uid descriptors = filter (λ descriptor. nat_lt uid descriptor.uid) descriptors

-- those with lower uids, those with higher ones, and the one with this uid
three-parts : (uid : ℕ) (descriptors : List Descriptor) → AreRising descriptors → length (below uid descriptors) + length (above uid descriptors) + one_if (is_some (descriptor_at uid descriptors)) ≡ length descriptors
three-parts uid [] h = omega arith
three-parts uid (descriptor ∷ descriptors) h = elim (cases_order descriptor.uid uid) [
  | inl e ↦
      let none : is_some (descriptor_at uid descriptors) ≡ false = ap (λ found. is_some found) (absent-below uid descriptors (Every-weaker (λ (later : Descriptor). descriptor.uid < later.uid) (λ (later : Descriptor). uid < later.uid) (λ later g. omega arith) descriptors h.0)) in
      let counted : one_if (is_some (descriptor_at uid descriptors)) ≡ 0 = ap one_if none in
      rw (eq-eqb descriptor.uid uid e, le-ltb uid descriptor.uid (omega arith), le-ltb descriptor.uid uid (omega arith)) (omega (arith, counted, three-parts uid descriptors h.1))
  | inr o ↦ elim o [
    | inl over ↦ rw (ne_eqb descriptor.uid uid (λ e. absurd (omega arith)), lt-ltb descriptor.uid uid over, le-ltb uid descriptor.uid (omega arith)) (omega (arith, three-parts uid descriptors h.1))
    | inr under ↦ rw (ne_eqb descriptor.uid uid (λ e. absurd (omega arith)), lt-ltb uid descriptor.uid under, le-ltb descriptor.uid uid (omega arith)) (omega (arith, three-parts uid descriptors h.1))
  ]
]

two-parts : (uid : ℕ) (descriptors : List Descriptor) → length (other_descriptors uid descriptors) ≡ length (below uid descriptors) + length (above uid descriptors)
two-parts uid [] = omega arith
two-parts uid (descriptor ∷ descriptors) = elim (cases_order descriptor.uid uid) [
  | inl e ↦ rw (eq-eqb descriptor.uid uid e, le-ltb uid descriptor.uid (omega arith), le-ltb descriptor.uid uid (omega arith)) (two-parts uid descriptors)
  | inr o ↦ elim o [
    | inl over ↦ rw (ne_eqb descriptor.uid uid (λ e. absurd (omega arith)), lt-ltb descriptor.uid uid over, le-ltb uid descriptor.uid (omega arith)) (omega (arith, two-parts uid descriptors))
    | inr under ↦ rw (ne_eqb descriptor.uid uid (λ e. absurd (omega arith)), lt-ltb uid descriptor.uid under, le-ltb descriptor.uid uid (omega arith)) (omega (arith, two-parts uid descriptors))
  ]
]

-- one change
change-counted : (change : Change) (descriptors : List Descriptor) → AreRising descriptors → length (with_change change descriptors) + one_if (takes_away descriptors change) ≡ length descriptors + one_if (brings descriptors change)
change-counted (Present new) descriptors h =
    step (is_some (descriptor_at new.uid descriptors)) (length (below new.uid descriptors)) (length (above new.uid descriptors)) (length descriptors) (length (with_change (Present new) descriptors)) (three-parts new.uid descriptors h) (omega (arith, length-append (below new.uid descriptors) (new ∷ above new.uid descriptors)))
  where
    step : (b : Bool) (low high all new_all : ℕ) → low + high + one_if b ≡ all → new_all ≡ low + 1 + high → new_all + 0 ≡ all + one_if (not b)
    step true low high all new_all e g = omega arith
    step false low high all new_all e g = omega arith
change-counted (Expunged uid) descriptors h = omega (arith, two-parts uid descriptors, three-parts uid descriptors h)

rising-change : (change : Change) (descriptors : List Descriptor) → AreRising descriptors → AreRising (with_change change descriptors)
rising-change (Present new) descriptors h = rising-placed new descriptors h
rising-change (Expunged uid) descriptors h = Ordered-filter (λ (descriptor later : Descriptor). descriptor.uid < later.uid) (λ descriptor. not (descriptor.uid == uid)) descriptors h

-- other uids have what they had
found-as-before : (change other : Change) (descriptors : List Descriptor) → (uid_of change == uid_of other) ≡ false → is_some (descriptor_at (uid_of other) (with_change change descriptors)) ≡ is_some (descriptor_at (uid_of other) descriptors)
found-as-before change other descriptors e = ap (λ found. is_some found) (descriptor_at-change (uid_of other) change descriptors ∙ ap (λ b. cond b (shown_by change) (descriptor_at (uid_of other) descriptors)) e)

pub changes-counted : (changes : List Change) (descriptors : List Descriptor) → AreRising descriptors → are_different ◌==◌ (map uid_of changes) ≡ true → length (with_changes changes descriptors) + length (filter (takes_away descriptors) changes) ≡ length descriptors + length (filter (brings descriptors) changes)
changes-counted [] descriptors h different = omega arith
changes-counted (change ∷ changes) descriptors h different =
    let parts = and_parts (not (list_any (λ other. uid_of change == other) (map uid_of changes))) (are_different ◌==◌ (map uid_of changes)) different in
    let differs = differ (uid_of change) changes (not-true (list_any (λ other. uid_of change == other) (map uid_of changes)) parts.0) in
    let now = with_change change descriptors in
    let gone : length (filter (takes_away now) changes) ≡ length (filter (takes_away descriptors) changes) = ap length (filter-agree (takes_away now) (takes_away descriptors) changes (Every-weaker (λ (other : Change). (uid_of change == uid_of other) ≡ false) (λ (other : Change). takes_away now other ≡ takes_away descriptors other) (λ other e. ap (λ b. not (is_some (shown_by other)) && b) (found-as-before change other descriptors e)) changes differs)) in
    let added : length (filter (brings now) changes) ≡ length (filter (brings descriptors) changes) = ap length (filter-agree (brings now) (brings descriptors) changes (Every-weaker (λ (other : Change). (uid_of change == uid_of other) ≡ false) (λ (other : Change). brings now other ≡ brings descriptors other) (λ other e. ap (λ b. is_some (shown_by other) && not b) (found-as-before change other descriptors e)) changes differs)) in
    omega (arith, gone, added, changes-counted changes now (rising-change change descriptors h) parts.1, change-counted change descriptors h, length-filter-cons (takes_away descriptors) change changes, length-filter-cons (brings descriptors) change changes)
