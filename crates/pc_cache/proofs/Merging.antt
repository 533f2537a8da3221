-- What changes of different uids make of descriptors: those that no change names, with those that the changes show, by rising uid.
use Rattle.std.proofs.Common.{◌≡◌, ℕ, ◌+◌, ◌<◌, ◌≤◌, ◌==◌, true, false, cond, not, ◌||◌, List, [], ◌∷◌, ◌++◌, length, map, find, take, get_or, Option, None, Some, refl, sym, ap, ◌∙◌, subst, arith, ne_eqb, eqb-true}
use Rattle.std.specs.Prelude.{IsPermutation}
use Rattle.std.specs.Option.{option_or, option_map_or}
use Rattle.std.specs.Map.{lookup, keys_of}
use Rattle.std.specs.List.{AllByRecursion as Every, filter_map, cons_option, list_any}
use Rattle.std.specs.List.Sorted.{IsNonDecreasingBy}
use Rattle.std.proofs.lemmas.Bool.{and_parts, or_parts, not-true, eqb-false}
use Rattle.std.proofs.lemmas.Cmp.{nat_eq_equiv}
use Rattle.std.proofs.lemmas.List.{take_more}
use Rattle.std.proofs.lemmas.List.Elements.{filter_map-append}
use Rattle.std.proofs.lemmas.List.Sorted.{IsPermutation-map}
use Rattle.indexmap.proofs.MapLemmas.{lookup_permutation}
use Rattle.pc_message.specs.declared.descriptor.Descriptor.{Descriptor}
use Rattle.pc_message.specs.declared.descriptor.Change.{Change}
use Rattle.pc_message.specs.declared.descriptor.Change.TheVariants.{Present, Expunged}
use Rattle.pc_tables.specs.Order.{Ordered}
use Rattle.pc_tables.proofs.Lists.{Every-weaker, Every-passes}
use Rattle.pc_tables.proofs.Order.{Ordered-filter}
use Rattle.pc_cache_history.specs.Entry.{uid_of, shown_by}
use Rattle.pc_cache_history.specs.Record.{descriptor_at}
use Rattle.pc_cache_history.specs.Effect.{with_change, with_changes, shown}
use Rattle.pc_cache_history.specs.Allowed.{are_different}
use Rattle.pc_cache_history.specs.Legal.{AreRising}
use Rattle.pc_cache_history.specs.Laws.{is_named}
use Rattle.pc_cache_history.proofs.Descriptors.{eqb-sym, descriptor_at-filter, descriptor_at-changes, rising-placed}
use Rattle.pc_cache_history.proofs.Lists.{same-lists}
use Rattle.pc_cache.specs.Places.{unnamed}
use Rattle.pc_cache.proofs.Rises.{ordered-at, differ-moved, distinct-different}

-- the uid of a descriptor, and those of descriptors
abbrev own : Descriptor → ℕ
own descriptor = descriptor.uid

abbrev uids : List Descriptor → List ℕ
uids descriptors = map own descriptors

rising-changes : (changes : List Change) (descriptors : List Descriptor) → AreRising descriptors → AreRising (with_changes changes descriptors)
rising-changes [] descriptors h = h
rising-changes (Present new ∷ changes) descriptors h = rising-changes changes (with_change (Present new) descriptors) (rising-placed new descriptors h)
rising-changes (Expunged uid ∷ changes) descriptors h = rising-changes changes (with_change (Expunged uid) descriptors) (Ordered-filter (λ (descriptor later : Descriptor). descriptor.uid < later.uid) (λ descriptor. not (descriptor.uid == uid)) descriptors h)

-- what one change more shows
pub shown-more : (changes : List Change) (i : ℕ) (change : Change) → i < length changes → get_or changes i change ≡ change → filter_map shown_by (take (i + 1) changes) ≡ filter_map shown_by (take i changes) ++ cons_option (shown_by change) []
shown-more changes i change lt is =
    ap (filter_map shown_by) (take_more changes i change lt ∙ ap (λ (one : Change). take i changes ++ one ∷ []) is)
    ∙ filter_map-append shown_by (take i changes) (change ∷ [])

-- ---- uids that differ

apart-above : (uid : ℕ) (descriptors : List Descriptor) → Every (λ (later : Descriptor). uid < later.uid) descriptors → list_any (λ other. uid == other) (uids descriptors) ≡ false
apart-above uid [] h = refl
apart-above uid (first ∷ descriptors) h = let above : uid < first.uid = h.0 in rw (ne_eqb uid first.uid (λ e. absurd (omega (arith, above, e)))) (apart-above uid descriptors h.1)

rising-different : (descriptors : List Descriptor) → AreRising descriptors → are_different ◌==◌ (uids descriptors) ≡ true
rising-different [] h = refl
rising-different (first ∷ descriptors) h = rw (apart-above first.uid descriptors h.0) (rising-different descriptors h.1)

-- a uid that no change names, no change shows
shows-named : (uid : ℕ) (changes : List Change) → list_any (λ other. uid == other) (map uid_of changes) ≡ false → list_any (λ other. uid == other) (uids (filter_map shown_by changes)) ≡ false
shows-named uid [] h = refl
shows-named uid (Present new ∷ changes) h = let parts = or_parts (uid == new.uid) (list_any (λ other. uid == other) (map uid_of changes)) h in rw parts.0 (shows-named uid changes parts.1)
shows-named uid (Expunged gone ∷ changes) h = shows-named uid changes (or_parts (uid == gone) (list_any (λ other. uid == other) (map uid_of changes)) h).1

shown-different : (changes : List Change) → are_different ◌==◌ (map uid_of changes) ≡ true → are_different ◌==◌ (uids (filter_map shown_by changes)) ≡ true
shown-different [] h = refl
shown-different (Present new ∷ changes) h =
    let parts = and_parts (not (list_any (λ other. new.uid == other) (map uid_of changes))) (are_different ◌==◌ (map uid_of changes)) h in
    rw (shows-named new.uid changes (not-true (list_any (λ other. new.uid == other) (map uid_of changes)) parts.0)) (shown-different changes parts.1)
shown-different (Expunged gone ∷ changes) h = shown-different changes (and_parts (not (list_any (λ other. gone == other) (map uid_of changes))) (are_different ◌==◌ (map uid_of changes)) h).1

any-append : (uid : ℕ) (ones twos : List Descriptor) → list_any (λ other. uid == other) (uids ones) ≡ false → list_any (λ other. uid == other) (uids twos) ≡ false → list_any (λ other. uid == other) (uids (ones ++ twos)) ≡ false
any-append uid [] twos h g = g
any-append uid (one ∷ ones) twos h g = let parts = or_parts (uid == one.uid) (list_any (λ other. uid == other) (uids ones)) h in rw parts.0 (any-append uid ones twos parts.1 g)

different-append : (ones twos : List Descriptor) → are_different ◌==◌ (uids ones) ≡ true → are_different ◌==◌ (uids twos) ≡ true → Every (λ (one : Descriptor). list_any (λ other. one.uid == other) (uids twos) ≡ false) ones → are_different ◌==◌ (uids (ones ++ twos)) ≡ true
different-append [] twos h g f = g
different-append (one ∷ ones) twos h g f =
    let parts = and_parts (not (list_any (λ other. one.uid == other) (uids ones))) (are_different ◌==◌ (uids ones)) h in
    rw (any-append one.uid ones twos (not-true (list_any (λ other. one.uid == other) (uids ones)) parts.0) f.0) (different-append ones twos parts.1 g f.1)

named-of : (uid : ℕ) (changes : List Change) → is_named uid changes ≡ list_any (λ other. uid == other) (map uid_of changes)
named-of uid [] = refl
named-of uid (change ∷ changes) = λ i. eqb-sym (uid_of change) uid i || named-of uid changes i

-- ---- what stands under a uid

found-append : (uid : ℕ) (ones twos : List Descriptor) → descriptor_at uid (ones ++ twos) ≡ option_or (descriptor_at uid ones) (descriptor_at uid twos)
found-append uid [] twos = refl
found-append uid (one ∷ ones) twos = elim (one.uid == uid) as (λ b. cond b (Some one) (descriptor_at uid (ones ++ twos)) ≡ option_or (cond b (Some one) (descriptor_at uid ones)) (descriptor_at uid twos)) [ true ↦ refl | false ↦ found-append uid ones twos ]

none-shown : (uid : ℕ) (changes : List Change) → is_named uid changes ≡ false → ◌≡◌ {A = Option Descriptor} (descriptor_at uid (filter_map shown_by changes)) None
none-shown uid [] h = refl
none-shown uid (Present new ∷ changes) h = let parts = or_parts (new.uid == uid) (is_named uid changes) h in rw parts.0 (none-shown uid changes parts.1)
none-shown uid (Expunged gone ∷ changes) h = none-shown uid changes (or_parts (gone == uid) (is_named uid changes) h).1

-- what is left of the others and what the changes show is what is shown
found-both : (uid : ℕ) (changes : List Change) (before : Option Descriptor) → are_different ◌==◌ (map uid_of changes) ≡ true → option_or (cond (not (is_named uid changes)) before None) (descriptor_at uid (filter_map shown_by changes)) ≡ shown changes uid before
found-both uid [] before h = or-none before
  where
    or-none : (o : Option Descriptor) → option_or o None ≡ o
    or-none None = refl
    or-none (Some d) = refl
found-both uid (change ∷ changes) before h =
    let parts = and_parts (not (list_any (λ other. uid_of change == other) (map uid_of changes))) (are_different ◌==◌ (map uid_of changes)) h in
    let others = not-true (list_any (λ other. uid_of change == other) (map uid_of changes)) parts.0 in
    step change others (found-both uid changes before parts.1)
  where
    step : (one : Change) → list_any (λ other. uid_of one == other) (map uid_of changes) ≡ false → option_or (cond (not (is_named uid changes)) before None) (descriptor_at uid (filter_map shown_by changes)) ≡ shown changes uid before → option_or (cond (not (is_named uid (one ∷ changes))) before None) (descriptor_at uid (filter_map shown_by (one ∷ changes))) ≡ shown (one ∷ changes) uid before
    step (Present new) others rest = elim (new.uid == uid) as (λ b. option_or (cond (not (b || is_named uid changes)) before None) (cond b (Some new) (descriptor_at uid (filter_map shown_by changes))) ≡ option_map_or shown_by (cond b (Some (Present new)) (find (λ change. uid_of change == uid) changes)) before) [ true ↦ refl | false ↦ rest ]
    step (Expunged gone) others rest = elim (gone == uid) as (λ b. (gone == uid) ≡ b → option_or (cond (not (b || is_named uid changes)) before None) (descriptor_at uid (filter_map shown_by changes)) ≡ option_map_or shown_by (cond b (Some (Expunged gone)) (find (λ change. uid_of change == uid) changes)) before) [
      | true ↦ λ e. none-shown uid changes (named-of uid changes ∙ ap (λ n. list_any (λ other. n == other) (map uid_of changes)) (sym (eqb-true gone uid e)) ∙ others)
      | false ↦ λ e. rest
    ] refl

-- ---- descriptors in another order

abbrev keyed : Descriptor → ℕ × Descriptor
keyed descriptor = (descriptor.uid, descriptor)

keys-keyed : (descriptors : List Descriptor) → keys_of (map keyed descriptors) ≡ uids descriptors
keys-keyed [] = refl
keys-keyed (first ∷ descriptors) = ap (λ (l : List ℕ). first.uid ∷ l) (keys-keyed descriptors)

found-keyed : (uid : ℕ) (descriptors : List Descriptor) → lookup (λ key. key == uid) (map keyed descriptors) ≡ descriptor_at uid descriptors
found-keyed uid [] = refl
found-keyed uid (first ∷ descriptors) = ap (λ (o : Option Descriptor). cond (first.uid == uid) (Some first) o) (found-keyed uid descriptors)

found-moved : (uid : ℕ) (ones twos : List Descriptor) → IsPermutation ones twos → are_different ◌==◌ (uids twos) ≡ true → descriptor_at uid twos ≡ descriptor_at uid ones
found-moved uid ones twos moves differ =
    let distinct = subst (λ (keys : List ℕ). are_different ◌==◌ keys ≡ true) (sym (keys-keyed twos)) differ in
    sym (found-keyed uid twos)
    ∙ lookup_permutation nat_eq_equiv (map keyed ones) (map keyed twos) (IsPermutation-map keyed ones twos moves) (distinct-different nat_eq_equiv (keys_of (map keyed twos)) distinct) (λ key. key == uid) (λ x y e. ap (λ n. y == n) (sym (eqb-true x uid e)) ∙ eqb-sym y x)
    ∙ found-keyed uid ones

strictly-above : (uid : ℕ) (descriptors : List Descriptor) → Every (λ (later : Descriptor). uid ≤ later.uid) descriptors → list_any (λ other. uid == other) (uids descriptors) ≡ false → Every (λ (later : Descriptor). uid < later.uid) descriptors
strictly-above uid [] h g = tt
strictly-above uid (first ∷ descriptors) h g =
    let parts = or_parts (uid == first.uid) (list_any (λ other. uid == other) (uids descriptors)) g in
    let le : uid ≤ first.uid = h.0 in
    let ne : uid ≡ first.uid → ⊥ = eqb-false uid first.uid parts.0 in
    (omega (arith, le, ne), strictly-above uid descriptors h.1 parts.1)

strictly : (descriptors : List Descriptor) → Ordered (λ (one later : Descriptor). one.uid ≤ later.uid) descriptors → are_different ◌==◌ (uids descriptors) ≡ true → AreRising descriptors
strictly [] h g = tt
strictly (first ∷ descriptors) h g =
    let parts = and_parts (not (list_any (λ other. first.uid == other) (uids descriptors))) (are_different ◌==◌ (uids descriptors)) g in
    (strictly-above first.uid descriptors h.0 (not-true (list_any (λ other. first.uid == other) (uids descriptors)) parts.0), strictly descriptors h.1 parts.1)

-- ---- all together

module _ (changes : List Change) (descriptors : List Descriptor) (rise : AreRising descriptors) (differ : are_different ◌==◌ (map uid_of changes) ≡ true) where
  abbrev both : List Descriptor
  both = unnamed changes descriptors ++ filter_map shown_by changes

  left-rising : AreRising (unnamed changes descriptors)
  left-rising = Ordered-filter (λ (descriptor later : Descriptor). descriptor.uid < later.uid) (λ descriptor. not (is_named descriptor.uid changes)) descriptors rise

  both-different : are_different ◌==◌ (uids both) ≡ true
  both-different = different-append (unnamed changes descriptors) (filter_map shown_by changes) (rising-different (unnamed changes descriptors) left-rising) (shown-different changes differ)
      (Every-weaker (λ (descriptor : Descriptor). not (is_named descriptor.uid changes) ≡ true) (λ (descriptor : Descriptor). list_any (λ other. descriptor.uid == other) (uids (filter_map shown_by changes)) ≡ false)
      (λ descriptor h. shows-named descriptor.uid changes (sym (named-of descriptor.uid changes) ∙ not-true (is_named descriptor.uid changes) h))
      (unnamed changes descriptors) (Every-passes (λ (descriptor : Descriptor). not (is_named descriptor.uid changes)) descriptors))

  found-in-both : (uid : ℕ) → descriptor_at uid both ≡ descriptor_at uid (with_changes changes descriptors)
  found-in-both uid =
      found-append uid (unnamed changes descriptors) (filter_map shown_by changes)
      ∙ ap (λ (o : Option Descriptor). option_or o (descriptor_at uid (filter_map shown_by changes))) (descriptor_at-filter (λ n. not (is_named n changes)) uid descriptors)
      ∙ found-both uid changes (descriptor_at uid descriptors) differ
      ∙ sym (descriptor_at-changes uid changes descriptors differ)

  module _ (sorted : List Descriptor) (moves : IsPermutation both sorted) (up : IsNonDecreasingBy (λ (descriptor : Descriptor). descriptor.uid) sorted) where
    sorted-different : are_different ◌==◌ (uids sorted) ≡ true
    sorted-different = sym (differ-moved nat_eq_equiv (uids both) (uids sorted) (IsPermutation-map own both sorted moves)) ∙ both-different

    pub merged-rising : AreRising sorted
    merged-rising = strictly sorted (ordered-at (λ (one later : Descriptor). one.uid ≤ later.uid) sorted up) sorted-different

    pub merged : sorted ≡ with_changes changes descriptors
    merged = same-lists sorted (with_changes changes descriptors) merged-rising (rising-changes changes descriptors rise) (λ uid. found-moved uid both sorted moves sorted-different ∙ found-in-both uid)
