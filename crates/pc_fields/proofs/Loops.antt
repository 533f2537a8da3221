-- Writing a list item by item.
use Rattle.std.proofs.Common.{◌≡◌, ℕ, ◌+◌, ◌<◌, ◌≤◌, List, [], ◌∷◌, ◌++◌, length, map, get_or, drop, refl, sym, ap, subst, ◌∙◌, append_assoc}
use Rattle.std.specs.List.{flat_map, concat}
use Rattle.std.proofs.lemmas.List.{drop_more, drop_all, append-nil}

pub concat-append : (xs ys : List (List ℕ)) → concat (xs ++ ys) ≡ concat xs ++ concat ys
concat-append [] ys = refl
concat-append (x ∷ xs) ys = ap (λ (t : List ℕ). x ++ t) (concat-append xs ys) ∙ sym (append_assoc x (concat xs) (concat ys))

-- the item at an index stands in front of those behind it
drop_item : {X : Type 0} (xs : List X) (i : ℕ) (x : X) → i < length xs → x ≡ get_or xs i x → drop i xs ≡ x ∷ drop (i + 1) xs
drop_item xs i x lt is = drop_more xs i x lt ∙ ap (λ y. y ∷ drop (i + 1) xs) (sym is)

-- one item of one field more is written
pub field_more : {X : Type 0} (f : X → List ℕ) (xs : List X) (i : ℕ) (x : X) (out now total : List ℕ) → i < length xs → x ≡ get_or xs i x → now ≡ out ++ f x
    → out ++ concat (map f (drop i xs)) ≡ total → now ++ concat (map f (drop (i + 1) xs)) ≡ total
field_more {X} f xs i x out now total lt is written before =
    let rest = concat (map f (drop (i + 1) xs)) in
    let here : out ++ (f x ++ rest) ≡ total = subst (λ (ys : List X). out ++ concat (map f ys) ≡ total) (drop_item xs i x lt is) before in
    ap (λ (t : List ℕ). t ++ rest) written ∙ append_assoc out (f x) rest ∙ here

-- one item of several fields more is written
pub fields_more : {X : Type 0} (f : X → List (List ℕ)) (xs : List X) (i : ℕ) (x : X) (out now total : List ℕ) → i < length xs → x ≡ get_or xs i x → now ≡ out ++ concat (f x)
    → out ++ concat (flat_map f (drop i xs)) ≡ total → now ++ concat (flat_map f (drop (i + 1) xs)) ≡ total
fields_more {X} f xs i x out now total lt is written before =
    let rest = flat_map f (drop (i + 1) xs) in
    let here : out ++ concat (f x ++ rest) ≡ total = subst (λ (ys : List X). out ++ concat (flat_map f ys) ≡ total) (drop_item xs i x lt is) before in
    ap (λ (t : List ℕ). t ++ concat rest) written ∙ append_assoc out (concat (f x)) (concat rest) ∙ ap (λ (t : List ℕ). out ++ t) (sym (concat-append (f x) rest)) ∙ here

-- all items are written
pub field_all : {X : Type 0} (f : X → List ℕ) (xs : List X) (i : ℕ) (out total : List ℕ) → length xs ≤ i → out ++ concat (map f (drop i xs)) ≡ total → out ≡ total
field_all {X} f xs i out total le before =
    sym (append-nil out) ∙ subst (λ (ys : List X). out ++ concat (map f ys) ≡ total) (drop_all i xs le) before

pub fields_all : {X : Type 0} (f : X → List (List ℕ)) (xs : List X) (i : ℕ) (out total : List ℕ) → length xs ≤ i → out ++ concat (flat_map f (drop i xs)) ≡ total → out ≡ total
fields_all {X} f xs i out total le before =
    sym (append-nil out) ∙ subst (λ (ys : List X). out ++ concat (flat_map f ys) ≡ total) (drop_all i xs le) before

-- ---- the same, where an iterator has what is left

pub fields_next : {X : Type 0} (f : X → List (List ℕ)) (x : X) (xs : List X) (out now total : List ℕ) → now ≡ out ++ concat (f x) → out ++ concat (flat_map f (x ∷ xs)) ≡ total → now ++ concat (flat_map f xs) ≡ total
fields_next {X} f x xs out now total written before =
    ap (λ (t : List ℕ). t ++ concat (flat_map f xs)) written ∙ append_assoc out (concat (f x)) (concat (flat_map f xs)) ∙ ap (λ (t : List ℕ). out ++ t) (sym (concat-append (f x) (flat_map f xs))) ∙ before
