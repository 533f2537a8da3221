-- One item more behind fields, and numbers in a range.
use Rattle.std.proofs.Common.{◌≡◌, ℕ, suc, ◌≤◌, nat_le, Bool, true, false, List, [], ◌∷◌, ◌++◌, length, refl, sym, ap, ◌∙◌, append_assoc}
use Rattle.std.specs.List.{list_all, flat_map, AllByRecursion as Every}
use Rattle.std.specs.Map.{keys_of}
use Rattle.std.proofs.lemmas.Bool.{leb-true, le-leb, and_parts, and_from, or_parts, not-true}
use Rattle.std.proofs.lemmas.List.{append-nil}
use Rattle.pc_tables.specs.Table.{same, is_among}
use Rattle.pc_tables.specs.Order.{AreDistinct}
use Rattle.pc_tables.proofs.Table.{keys-append, same-sym}
use Rattle.pc_tables.proofs.Order.{Ordered-push}
use Rattle.pc_fields.specs.Fields.{within, is_new}

pub fields-push : {X : Type 0} (f : X → List (List ℕ)) (front : List (List ℕ)) (xs : List X) (x : X) → (front ++ flat_map f xs) ++ f x ≡ front ++ flat_map f (xs ++ x ∷ [])
fields-push f front [] x = ap (λ (t : List (List ℕ)). t ++ f x) (append-nil front) ∙ ap (λ (t : List (List ℕ)). front ++ t) (sym (append-nil (f x)))
fields-push f front (y ∷ xs) x = ap (λ (t : List (List ℕ)). t ++ f x) (sym (append_assoc front (f y) (flat_map f xs))) ∙ fields-push f (front ++ f y) xs x ∙ append_assoc front (f y) (flat_map f (xs ++ x ∷ []))

-- ---- ranges

pub within-parts : (low high n : ℕ) → within low high n ≡ true → (low ≤ n) × (n ≤ high)
within-parts low high n e = let parts = and_parts (nat_le low n) (nat_le n high) e in (leb-true low n parts.0, leb-true n high parts.1)

pub is-within : (low high n : ℕ) → low ≤ n → n ≤ high → within low high n ≡ true
is-within low high n le ge = and_from (nat_le low n) (nat_le n high) (le-leb low n le) (le-leb n high ge)
