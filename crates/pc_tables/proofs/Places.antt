-- The first entry of a table under a name, by its place.
use Rattle.std.proofs.Common.{◌≡◌, ℕ, suc, ◌+◌, ◌<◌, ◌≤◌, nat_lt, Bool, true, false, not, cond, List, [], ◌∷◌, length, get_or, Option, Some, None, refl, ap, arith, position}
use Rattle.std.proofs.Math.ListN.{set}
use Rattle.std.specs.List.{position_or_len}
use Rattle.std.specs.Map.{lookup, set_value}
use Rattle.std.proofs.lemmas.Bool.{ltb-false}
use borrow.Author.Tests.{ltb-true}
use Rattle.pc_tables.specs.Table.{same}

some-place : (b : Bool) (index n : ℕ) → Some index ≡ cond b (Some n) None → (b ≡ true) × (index ≡ n)
some-place true index n h = (refl, cc)
some-place false index n h = cc

abbrev pub no_place : Option ℕ
no_place = None

none-place : (b : Bool) (n : ℕ) → no_place ≡ cond b (Some n) None → b ≡ false
none-place true n h = cc
none-place false n h = refl

module _ {X : Type 0} (client : List ℕ) where
  abbrev place : List (List ℕ × X) → ℕ
  place table = position_or_len (λ (entry : List ℕ × X). same client entry.0) table

  set-step : (b : Bool) (e : List ℕ × X) (es rest : List (List ℕ × X)) (v : X) (d : List ℕ × X) (n : ℕ) → (n < length es → rest ≡ set es n ((get_or es n d).0, v)) → cond (not b) (1 + n) 0 < length (e ∷ es) → cond b ((e.0, v) ∷ es) (e ∷ rest) ≡ set (e ∷ es) (cond (not b) (1 + n) 0) ((get_or (e ∷ es) (cond (not b) (1 + n) 0) d).0, v)
  set-step true e es rest v d n h lt = refl
  set-step false e es rest v d n h lt = let one : 1 + n ≡ suc n = omega arith in rw one (ap (λ (l : List (List ℕ × X)). e ∷ l) (h (omega (arith, lt))))

  set-placed : (es : List (List ℕ × X)) (v : X) (d : List ℕ × X) → place es < length es → set_value (same client) es v ≡ set es (place es) ((get_or es (place es) d).0, v)
  set-placed [] v d lt = absurd (omega (arith, lt))
  set-placed (e ∷ es) v d lt = set-step (same client e.0) e es (set_value (same client) es v) v d (place es) (set-placed es v d) lt

  lookup-step : (b : Bool) (e : List ℕ × X) (es : List (List ℕ × X)) (found : Option X) (d : List ℕ × X) (n : ℕ) → (n < length es → found ≡ Some (get_or es n d).1) → cond (not b) (1 + n) 0 < length (e ∷ es) → cond b (Some e.1) found ≡ Some (get_or (e ∷ es) (cond (not b) (1 + n) 0) d).1
  lookup-step true e es found d n h lt = refl
  lookup-step false e es found d n h lt = let one : 1 + n ≡ suc n = omega arith in rw one (h (omega (arith, lt)))

  lookup-placed : (es : List (List ℕ × X)) (d : List ℕ × X) → place es < length es → lookup (same client) es ≡ Some (get_or es (place es) d).1
  lookup-placed [] d lt = absurd (omega (arith, lt))
  lookup-placed (e ∷ es) d lt = lookup-step (same client e.0) e es (lookup (same client) es) d (place es) (lookup-placed es d) lt

  none-step : (b : Bool) (e : List ℕ × X) (es rest : List (List ℕ × X)) (found : Option X) (v : X) (n : ℕ) → (length es ≤ n → (found ≡ None) × (rest ≡ es)) → length (e ∷ es) ≤ cond (not b) (1 + n) 0 → (cond b (Some e.1) found ≡ None) × (cond b ((e.0, v) ∷ es) (e ∷ rest) ≡ e ∷ es)
  none-step true e es rest found v n h le = absurd (omega (arith, le))
  none-step false e es rest found v n h le = let parts = h (omega (arith, le)) in (parts.0, ap (λ (l : List (List ℕ × X)). e ∷ l) parts.1)

  none-placed : (es : List (List ℕ × X)) (v : X) → length es ≤ place es → (lookup (same client) es ≡ None) × (set_value (same client) es v ≡ es)
  none-placed [] v le = (refl, refl)
  none-placed (e ∷ es) v le = none-step (same client e.0) e es (set_value (same client) es v) (lookup (same client) es) v (place es) (none-placed es v) le

  -- the entry is there, at this place
  pub set-found : (es : List (List ℕ × X)) (v : X) (d : List ℕ × X) (index : ℕ) → Some index ≡ position (λ (entry : List ℕ × X). same client entry.0) es → set_value (same client) es v ≡ set es index ((get_or es index d).0, v)
  set-found es v d index h = let parts = some-place (nat_lt (place es) (length es)) index (place es) h in rw parts.1 (set-placed es v d (ltb-true (place es) (length es) parts.0))

  pub lookup-found : (es : List (List ℕ × X)) (d : List ℕ × X) (index : ℕ) → Some index ≡ position (λ (entry : List ℕ × X). same client entry.0) es → lookup (same client) es ≡ Some (get_or es index d).1
  lookup-found es d index h = let parts = some-place (nat_lt (place es) (length es)) index (place es) h in rw parts.1 (lookup-placed es d (ltb-true (place es) (length es) parts.0))

  -- there is none
  pub nowhere : (es : List (List ℕ × X)) (v : X) → no_place ≡ position (λ (entry : List ℕ × X). same client entry.0) es → (lookup (same client) es ≡ None) × (set_value (same client) es v ≡ es)
  nowhere es v h = none-placed es v (ltb-false (place es) (length es) (none-place (nat_lt (place es) (length es)) (place es) h))
