-- Facts of each item of a list, and filters.
use Rattle.std.proofs.Common.{◌≡◌, Bool, true, false, cond, List, [], ◌∷◌, ◌++◌, Option, None, Some, refl, sym, ap, suc, ◌≤◌, length, filter, ◌∙◌, arith, le_refl, find, true≢false}
use Rattle.std.specs.List.{list_all, list_any, filter_map, cons_option, AllByRecursion as Every}
use Rattle.std.proofs.lemmas.Bool.{and_parts, and_from, or_parts}
use Rattle.pc_tables.proofs.Options.{some-none, some-same}

module _ {X : Type 0} where
  pub Every-weaker : (P Q : X → Type 0) → ((x : X) → P x → Q x) → (xs : List X) → Every P xs → Every Q xs
  Every-weaker P Q f [] h = h
  Every-weaker P Q f (x ∷ xs) h = (f x h.0, Every-weaker P Q f xs h.1)

  pub Every-from : (P : X → Type 0) → ((x : X) → P x) → (xs : List X) → Every P xs
  Every-from P f [] = tt
  Every-from P f (x ∷ xs) = (f x, Every-from P f xs)

  pub Every-zip : (P Q R : X → Type 0) → ((x : X) → P x → Q x → R x) → (xs : List X) → Every P xs → Every Q xs → Every R xs
  Every-zip P Q R f [] h g = h
  Every-zip P Q R f (x ∷ xs) h g = (f x h.0 g.0, Every-zip P Q R f xs h.1 g.1)

  pub Every-append : (P : X → Type 0) (xs ys : List X) → Every P xs → Every P ys → Every P (xs ++ ys)
  Every-append P [] ys h g = g
  Every-append P (x ∷ xs) ys h g = (h.0, Every-append P xs ys h.1 g)

  pub Every-filter : (P : X → Type 0) (p : X → Bool) (xs : List X) → Every P xs → Every P (filter p xs)
  Every-filter P p [] h = h
  Every-filter P p (x ∷ xs) h = elim (p x) as (λ b. Every P (cond b (x ∷ filter p xs) (filter p xs))) [ true ↦ (h.0, Every-filter P p xs h.1) | false ↦ Every-filter P p xs h.1 ]

  pub filter-agree : (p q : X → Bool) (xs : List X) → Every (λ x. p x ≡ q x) xs → filter p xs ≡ filter q xs
  filter-agree p q [] h = refl
  filter-agree p q (x ∷ xs) h = λ i. cond (h.0 i) (x ∷ filter-agree p q xs h.1 i) (filter-agree p q xs h.1 i)

  pub filter-true : (xs : List X) → filter (λ _. true) xs ≡ xs
  filter-true [] = refl
  filter-true (x ∷ xs) = ap (λ ys. x ∷ ys) (filter-true xs)

  pub filter-false : (xs : List X) → filter (λ _. false) xs ≡ []
  filter-false [] = refl
  filter-false (x ∷ xs) = filter-false xs

pub length-filter-le : {X : Type 0} (p : X → Bool) (xs : List X) → length (filter p xs) ≤ length xs
length-filter-le p [] = le_refl 0
length-filter-le p (x ∷ xs) = elim (p x) as (λ b. length (cond b (x ∷ filter p xs) (filter p xs)) ≤ suc (length xs)) [ true ↦ omega (arith, length-filter-le p xs) | false ↦ omega (arith, length-filter-le p xs) ]

pub list_all-append : {X : Type 0} (p : X → Bool) (xs ys : List X) → list_all p xs ≡ true → list_all p ys ≡ true → list_all p (xs ++ ys) ≡ true
list_all-append p [] ys h g = g
list_all-append p (x ∷ xs) ys h g = let parts = and_parts (p x) (list_all p xs) h in and_from (p x) (list_all p (xs ++ ys)) parts.0 (list_all-append p xs ys parts.1 g)

pub list_all-split : {X : Type 0} (p : X → Bool) (xs ys : List X) → list_all p (xs ++ ys) ≡ true → (list_all p xs ≡ true) × (list_all p ys ≡ true)
list_all-split p [] ys h = (refl, h)
list_all-split p (x ∷ xs) ys h = let parts = and_parts (p x) (list_all p (xs ++ ys)) h in let rest = list_all-split p xs ys parts.1 in (and_from (p x) (list_all p xs) parts.0 rest.0, rest.1)

pub list_all-filter : {X : Type 0} (p q : X → Bool) (xs : List X) → list_all p xs ≡ true → list_all p (filter q xs) ≡ true
list_all-filter p q [] h = h
list_all-filter p q (x ∷ xs) h = let parts = and_parts (p x) (list_all p xs) h in elim (q x) as (λ b. list_all p (cond b (x ∷ filter q xs) (filter q xs)) ≡ true) [ true ↦ and_from (p x) (list_all p (filter q xs)) parts.0 (list_all-filter p q xs parts.1) | false ↦ list_all-filter p q xs parts.1 ]

pub list_all-weaker : {X : Type 0} (p q : X → Bool) (xs : List X) → ((x : X) → p x ≡ true → q x ≡ true) → list_all p xs ≡ true → list_all q xs ≡ true
list_all-weaker p q [] f h = h
list_all-weaker p q (x ∷ xs) f h = let parts = and_parts (p x) (list_all p xs) h in and_from (q x) (list_all q xs) (f x parts.0) (list_all-weaker p q xs f parts.1)

pub filter_map-agree : {X Y : Type 0} (f g : X → Option Y) (xs : List X) → Every (λ x. f x ≡ g x) xs → filter_map f xs ≡ filter_map g xs
filter_map-agree f g [] h = refl
filter_map-agree f g (x ∷ xs) h = λ i. cons_option (h.0 i) (filter_map-agree f g xs h.1 i)

pub filter_map-none : {X Y : Type 0} (f : X → Option Y) (xs : List X) → Every (λ x. f x ≡ None) xs → filter_map f xs ≡ []
filter_map-none f [] h = refl
filter_map-none f (x ∷ xs) h = (λ i. cons_option (h.0 i) (filter_map f xs)) ∙ filter_map-none f xs h.1

pub Every-insert : {X : Type 0} (P : X → Type 0) (xs ys : List X) (y : X) → Every P (xs ++ ys) → P y → Every P ((xs ++ y ∷ []) ++ ys)
Every-insert P [] ys y h g = (g, h)
Every-insert P (x ∷ xs) ys y h g = (h.0, Every-insert P xs ys y h.1 g)

pub Every-passes : {X : Type 0} (p : X → Bool) (xs : List X) → Every (λ x. p x ≡ true) (filter p xs)
Every-passes p [] = tt
Every-passes p (x ∷ xs) = elim (p x) as (λ b. p x ≡ b → Every (λ y. p y ≡ true) (cond b (x ∷ filter p xs) (filter p xs))) [ true ↦ λ h. (h, Every-passes p xs) | false ↦ λ h. Every-passes p xs ] refl

pub Every-split : {X : Type 0} (P : X → Type 0) (xs ys : List X) → Every P (xs ++ ys) → Every P xs × Every P ys
Every-split P [] ys h = (tt, h)
Every-split P (x ∷ xs) ys h = let rest = Every-split P xs ys h.1 in ((h.0, rest.0), rest.1)

-- where a test that tells an item finds none in a list, the item isn't there
pub Every-unlisted : {X : Type 0} (same : X → X → Bool) (x : X) (A : Type 0) → same x x ≡ true → (xs : List X) → list_any (λ y. same y x) xs ≡ false → Every (λ y. y ≡ x → A) xs
Every-unlisted same x A told [] h = tt
Every-unlisted same x A told (y ∷ xs) h =
    let parts = or_parts (same y x) (list_any (λ z. same z x) xs) h in
    (λ is. absurd (true≢false (sym (ap (λ z. same z x) is ∙ told) ∙ parts.0)), Every-unlisted same x A told xs parts.1)

-- what fails one test is no loss for another that it fails too
pub find-filter : {X : Type 0} (p q : X → Bool) (xs : List X) → ((x : X) → q x ≡ false → p x ≡ false) → find p (filter q xs) ≡ find p xs
find-filter p q [] f = refl
find-filter p q (x ∷ xs) f = elim (q x) as (λ b. q x ≡ b → find p (cond b (x ∷ filter q xs) (filter q xs)) ≡ cond (p x) (Some x) (find p xs)) [
  | true ↦ λ _. ap (λ found. cond (p x) (Some x) found) (find-filter p q xs f)
  | false ↦ λ e. rw (f x e) (find-filter p q xs f)
] refl

pub none-found : {X : Type 0} (p : X → Bool) (xs : List X) → find p xs ≡ None → Every (λ x. p x ≡ false) xs
none-found p [] h = tt
none-found {X} p (x ∷ xs) h = elim (p x) as (λ b. ◌≡◌ {A = Option X} (cond b (Some x) (find p xs)) None → (b ≡ false) × Every (λ y. p y ≡ false) xs) [ true ↦ λ g. absurd (some-none x g) | false ↦ λ g. (refl, none-found p xs g) ] h

pub found-passes : {X : Type 0} (p : X → Bool) (xs : List X) (found : X) → find p xs ≡ Some found → p found ≡ true
found-passes p [] found h = absurd (some-none found (sym h))
found-passes {X} p (x ∷ xs) found h = elim (p x) as (λ b. p x ≡ b → ◌≡◌ {A = Option X} (cond b (Some x) (find p xs)) (Some found) → p found ≡ true) [
  | true ↦ λ e g. ap p (sym (some-same x found g)) ∙ e
  | false ↦ λ e g. found-passes p xs found g
] refl h

pub all-push : {X : Type 0} (test : X → Bool) (xs : List X) (x : X) → list_all test xs ≡ true → test x ≡ true → list_all test (xs ++ x ∷ []) ≡ true
all-push test [] x all here = and_from (test x) true here refl
all-push test (y ∷ xs) x all here = let parts = and_parts (test y) (list_all test xs) all in and_from (test y) (list_all test (xs ++ x ∷ [])) parts.0 (all-push test xs x parts.1 here)
