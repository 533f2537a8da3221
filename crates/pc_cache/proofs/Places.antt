-- Descriptors by rising uid: what a search by halves finds, and what is done at the place that it finds.
use Rattle.std.proofs.Common.{◌≡◌, ℕ, zero, suc, ◌<◌, ◌≤◌, ◌==◌, Bool, true, false, not, cond, nat_lt, List, [], ◌∷◌, take, drop, insert, slice_get, Some, is_some, refl, sym, ap, subst, arith, lt-ltb, le-ltb, ne_eqb, true≢false}
use Rattle.std.proofs.Math.ListN.{set}
use Rattle.std.specs.List.{filter, remove, AllByRecursion as Every}
use Rattle.std.specs.Option.{option_map_or}
use Rattle.std.proofs.lemmas.Bool.{eqb-true, eqb-false}
use Rattle.pc_message.specs.declared.descriptor.Descriptor.{Descriptor}
use Rattle.pc_tables.proofs.Lists.{Every-weaker}
use Rattle.pc_cache_history.specs.Record.{descriptor_at}
use Rattle.pc_cache_history.specs.Effect.{with_descriptor, other_descriptors}
use Rattle.pc_cache_history.specs.Legal.{AreRising}
use Rattle.pc_cache.specs.Places.{is_below}
use Rattle.pc_tables.proofs.Halves.{filter-below, filter-from}

-- ---- the place of a uid: those before it have lower uids, and those from it on don't

pub record IsPlace (uid place : ℕ) (descriptors : List Descriptor) : Type 0 where
  pub before : Every (λ (descriptor : Descriptor). descriptor.uid < uid) (take place descriptors)
  pub behind : Every (λ (descriptor : Descriptor). uid ≤ descriptor.uid) (drop place descriptors)

place-parted : (uid place : ℕ) (descriptors : List Descriptor) → take place descriptors ≡ filter (is_below uid) descriptors → drop place descriptors ≡ filter (λ (descriptor : Descriptor). not (is_below uid descriptor)) descriptors → IsPlace uid place descriptors
place-parted uid place descriptors front back = record {
  before = rw front (filter-below (λ (descriptor : Descriptor). descriptor.uid) uid descriptors);
  behind = rw back (filter-from (λ (descriptor : Descriptor). descriptor.uid) uid descriptors);
}

-- the same of the list in which it was looked for
pub place-found : (uid place : ℕ) (searched descriptors : List Descriptor) → searched ≡ descriptors → take place searched ≡ filter (is_below uid) searched → drop place searched ≡ filter (λ (descriptor : Descriptor). not (is_below uid descriptor)) searched → IsPlace uid place descriptors
place-found uid place searched descriptors is front back = subst (IsPlace uid place) is (place-parted uid place searched front back)

-- the descriptor at the place has the uid
abbrev pub has_at : ℕ → ℕ → List Descriptor → Bool
has_at uid place descriptors = option_map_or (λ (descriptor : Descriptor). descriptor.uid == uid) (slice_get descriptors place) false

-- ---- lists behind a uid

none-below : (uid : ℕ) (descriptors : List Descriptor) → Every (λ (later : Descriptor). uid < later.uid) descriptors → filter (λ (descriptor : Descriptor). nat_lt descriptor.uid uid) descriptors ≡ []
none-below uid [] h = refl
none-below uid (first ∷ descriptors) h = let above : uid < first.uid = h.0 in rw (le-ltb first.uid uid (omega (arith, above))) (none-below uid descriptors h.1)

all-above : (uid : ℕ) (descriptors : List Descriptor) → Every (λ (later : Descriptor). uid < later.uid) descriptors → filter (λ (descriptor : Descriptor). nat_lt uid descriptor.uid) descriptors ≡ descriptors
all-above uid [] h = refl
all-above uid (first ∷ descriptors) h = let above : uid < first.uid = h.0 in rw (lt-ltb uid first.uid above) (ap (λ (l : List Descriptor). first ∷ l) (all-above uid descriptors h.1))

all-others : (uid : ℕ) (descriptors : List Descriptor) → Every (λ (later : Descriptor). uid < later.uid) descriptors → other_descriptors uid descriptors ≡ descriptors
all-others uid [] h = refl
all-others uid (first ∷ descriptors) h = let above : uid < first.uid = h.0 in rw (ne_eqb first.uid uid (λ e. absurd (omega (arith, above, e)))) (ap (λ (l : List Descriptor). first ∷ l) (all-others uid descriptors h.1))

none-there : (uid : ℕ) (descriptors : List Descriptor) → Every (λ (later : Descriptor). uid < later.uid) descriptors → is_some (descriptor_at uid descriptors) ≡ false
none-there uid [] h = refl
none-there uid (first ∷ descriptors) h = let above : uid < first.uid = h.0 in rw (ne_eqb first.uid uid (λ e. absurd (omega (arith, above, e)))) (none-there uid descriptors h.1)

-- behind one that isn't below the uid, all are past it
past : (uid : ℕ) (first : Descriptor) (descriptors : List Descriptor) → uid ≤ first.uid → Every (λ (later : Descriptor). first.uid < later.uid) descriptors → Every (λ (later : Descriptor). uid < later.uid) descriptors
past uid first descriptors le h = Every-weaker (λ (later : Descriptor). first.uid < later.uid) (λ (later : Descriptor). uid < later.uid) (λ later lt. omega (arith, le, lt)) descriptors h

-- where the first has another uid, all are past it
pub all-past : (uid : ℕ) (descriptors : List Descriptor) → AreRising descriptors → Every (λ (descriptor : Descriptor). uid ≤ descriptor.uid) descriptors → has_at uid 0 descriptors ≡ false → Every (λ (later : Descriptor). uid < later.uid) descriptors
all-past uid [] rise h other = tt
all-past uid (first ∷ descriptors) rise h other = let le : uid ≤ first.uid = h.0 in let ne : first.uid ≡ uid → ⊥ = eqb-false first.uid uid other in (omega (arith, le, ne), past uid first descriptors le rise.0)

-- ---- whether it is there

pub has-at : (uid place : ℕ) (descriptors : List Descriptor) → AreRising descriptors → IsPlace uid place descriptors → has_at uid place descriptors ≡ is_some (descriptor_at uid descriptors)
has-at uid zero [] rise h = refl
has-at uid (suc place) [] rise h = refl
has-at uid zero (first ∷ descriptors) rise h = elim (first.uid == uid) as (λ b. b ≡ is_some (cond b (Some first) (descriptor_at uid descriptors))) [ true ↦ refl | false ↦ sym (none-there uid descriptors (past uid first descriptors h.behind.0 rise.0)) ]
has-at uid (suc place) (first ∷ descriptors) rise h =
    let below : first.uid < uid = h.before.0 in
    rw (ne_eqb first.uid uid (λ e. absurd (omega (arith, below, e)))) (has-at uid place descriptors rise.1 (record { before = h.before.1; behind = h.behind }))

-- ---- what is done there

module _ (new : Descriptor) where
  pub set-there : (place : ℕ) (descriptors : List Descriptor) → AreRising descriptors → IsPlace new.uid place descriptors → has_at new.uid place descriptors ≡ true → set descriptors place new ≡ with_descriptor new descriptors
  set-there zero [] rise h there = absurd (true≢false (sym there))
  set-there (suc place) [] rise h there = absurd (true≢false (sym there))
  set-there zero (first ∷ descriptors) rise h there =
      let e : first.uid ≡ new.uid = eqb-true first.uid new.uid there in
      let above = past new.uid first descriptors h.behind.0 rise.0 in
      rw (le-ltb first.uid new.uid (omega (arith, e)), le-ltb new.uid first.uid (omega (arith, e)), none-below new.uid descriptors above, all-above new.uid descriptors above) refl
  set-there (suc place) (first ∷ descriptors) rise h there =
      let below : first.uid < new.uid = h.before.0 in
      rw (lt-ltb first.uid new.uid below, le-ltb new.uid first.uid (omega (arith, below))) (ap (λ (l : List Descriptor). first ∷ l) (set-there place descriptors rise.1 (record { before = h.before.1; behind = h.behind }) there))

  put-before : (descriptors : List Descriptor) → Every (λ (later : Descriptor). new.uid < later.uid) descriptors → new ∷ descriptors ≡ with_descriptor new descriptors
  put-before descriptors above = rw (none-below new.uid descriptors above, all-above new.uid descriptors above) refl

  pub insert-there : (place : ℕ) (descriptors : List Descriptor) → AreRising descriptors → IsPlace new.uid place descriptors → has_at new.uid place descriptors ≡ false → insert descriptors place new ≡ with_descriptor new descriptors
  insert-there zero descriptors rise h other = put-before descriptors (all-past new.uid descriptors rise h.behind other)
  insert-there (suc place) [] rise h other = refl
  insert-there (suc place) (first ∷ descriptors) rise h other =
      let below : first.uid < new.uid = h.before.0 in
      rw (lt-ltb first.uid new.uid below, le-ltb new.uid first.uid (omega (arith, below))) (ap (λ (l : List Descriptor). first ∷ l) (insert-there place descriptors rise.1 (record { before = h.before.1; behind = h.behind }) other))

pub remove-there : (uid place : ℕ) (descriptors : List Descriptor) → AreRising descriptors → IsPlace uid place descriptors → has_at uid place descriptors ≡ true → remove descriptors place ≡ other_descriptors uid descriptors
remove-there uid zero [] rise h there = absurd (true≢false (sym there))
remove-there uid (suc place) [] rise h there = absurd (true≢false (sym there))
remove-there uid zero (first ∷ descriptors) rise h there = rw there (sym (all-others uid descriptors (past uid first descriptors h.behind.0 rise.0)))
remove-there uid (suc place) (first ∷ descriptors) rise h there =
    let below : first.uid < uid = h.before.0 in
    rw (ne_eqb first.uid uid (λ e. absurd (omega (arith, below, e)))) (ap (λ (l : List Descriptor). first ∷ l) (remove-there uid place descriptors rise.1 (record { before = h.before.1; behind = h.behind }) there))

pub none-there-to-remove : (uid place : ℕ) (descriptors : List Descriptor) → AreRising descriptors → IsPlace uid place descriptors → has_at uid place descriptors ≡ false → descriptors ≡ other_descriptors uid descriptors
none-there-to-remove uid zero descriptors rise h other = sym (all-others uid descriptors (all-past uid descriptors rise h.behind other))
none-there-to-remove uid (suc place) [] rise h other = refl
none-there-to-remove uid (suc place) (first ∷ descriptors) rise h other =
    let below : first.uid < uid = h.before.0 in
    rw (ne_eqb first.uid uid (λ e. absurd (omega (arith, below, e)))) (ap (λ (l : List Descriptor). first ∷ l) (none-there-to-remove uid place descriptors rise.1 (record { before = h.before.1; behind = h.behind }) other))
