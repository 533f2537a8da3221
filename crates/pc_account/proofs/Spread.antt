-- Sums and tests over mailbox names, and over what goes to them.
use Rattle.std.proofs.Common.{◌≡◌, ℕ, ◌+◌, ◌*◌, Bool, true, false, cond, not, ◌&&◌, ◌||◌, List, [], ◌∷◌, map, length, refl, sym, ◌∙◌, ap, arith, true≢false}
use Rattle.std.specs.List.{filter, list_all, AllByRecursion as Every}
use Rattle.std.proofs.lemmas.Bool.{and_parts, and_from}
use Rattle.pc_tables.specs.Table.{same, is_among, total}
use Rattle.pc_tables.specs.Order.{AreDistinct}
use Rattle.pc_tables.proofs.Table.{list_all-among, same-true}

pub total-alike : {X : Type 0} (f g : X → ℕ) (xs : List X) → ((x : X) → f x ≡ g x) → total f xs ≡ total g xs
total-alike f g [] h = refl
total-alike f g (x ∷ xs) h = let one = h x in let rest = total-alike f g xs h in omega (arith, one, rest)

pub total-sum : {X : Type 0} (f g : X → ℕ) (xs : List X) → total (λ x. f x + g x) xs ≡ total f xs + total g xs
total-sum f g [] = refl
total-sum f g (x ∷ xs) = let rest = total-sum f g xs in omega (arith, rest)

total-zero : {X : Type 0} (xs : List X) → total (λ (_ : X). 0) xs ≡ 0
total-zero [] = refl
total-zero (x ∷ xs) = let rest = total-zero xs in omega (arith, rest)

pub total-times : {X : Type 0} (f : X → ℕ) (c : ℕ) (xs : List X) → total (λ x. f x * c) xs ≡ total f xs * c
total-times f c [] = grind arith
total-times f c (x ∷ xs) = ap (λ n. f x * c + n) (total-times f c xs) ∙ times-step (f x) (total f xs) c
  where
    times-step : (a b d : ℕ) → a * d + b * d ≡ (a + b) * d
    times-step a b d = grind arith

pub total-ones : {X : Type 0} (xs : List X) → total (λ (_ : X). 1) xs ≡ length xs
total-ones [] = refl
total-ones (x ∷ xs) = let rest = total-ones xs in omega (arith, rest)

-- a number under one of several names
none-there : (name : List ℕ) (c : ℕ) (names : List (List ℕ)) → Every (λ (other : List ℕ). same name other ≡ false) names → total (λ (m : List ℕ). cond (same name m) c 0) names ≡ 0
none-there name c [] h = refl
none-there name c (x ∷ names) h = let rest = none-there name c names h.1 in rw h.0 (omega (arith, rest))

once : (name : List ℕ) (c : ℕ) (names : List (List ℕ)) → AreDistinct names → is_among name names ≡ true → total (λ (m : List ℕ). cond (same name m) c 0) names ≡ c
once name c [] d h = absurd (true≢false (sym h))
once name c (x ∷ names) d h = elim (same name x) as (λ b. same name x ≡ b → (b || is_among name names) ≡ true → cond b c 0 + total (λ (m : List ℕ). cond (same name m) c 0) names ≡ c) [
  | true ↦ λ e g. let here = same-true name x e in let rest : total (λ (m : List ℕ). cond (same name m) c 0) names ≡ 0 = rw here (none-there x c names d.0) in omega (arith, rest)
  | false ↦ λ e g. let rest = once name c names d.1 g in omega (arith, rest)
] refl h

module _ {X : Type 0} (name : X → List ℕ) where
  abbrev pub going_to : List ℕ → List X → List X
  going_to m xs = filter (λ x. same (name x) m) xs

  first-apart : (g : X → ℕ) (x : X) (xs : List X) (b : Bool) → total g (cond b (x ∷ xs) xs) ≡ cond b (g x) 0 + total g xs
  first-apart g x xs true = refl
  first-apart g x xs false = omega arith

  -- what goes to distinct names, name by name, is all that goes
  pub spread : (g : X → ℕ) (names : List (List ℕ)) (xs : List X) → AreDistinct names → list_all (λ x. is_among (name x) names) xs ≡ true → total (λ m. total g (going_to m xs)) names ≡ total g xs
  spread g names [] d h = total-zero names
  spread g names (x ∷ xs) d h =
      let parts = and_parts (is_among (name x) names) (list_all (λ y. is_among (name y) names) xs) h in
      total-alike (λ m. total g (going_to m (x ∷ xs))) (λ m. cond (same (name x) m) (g x) 0 + total g (going_to m xs)) names (λ m. first-apart g x (going_to m xs) (same (name x) m))
      ∙ total-sum (λ m. cond (same (name x) m) (g x) 0) (λ m. total g (going_to m xs)) names
      ∙ (λ i. once (name x) (g x) names d parts.0 i + spread g names xs d parts.1 i)

  -- ---- tests of names, and of what goes to them

  goes-nowhere : (m : List ℕ) (xs : List X) → list_all (λ x. not (same (name x) m)) xs ≡ true → going_to m xs ≡ []
  goes-nowhere m [] h = refl
  goes-nowhere m (x ∷ xs) h = elim (same (name x) m) as (λ b. (not b && list_all (λ y. not (same (name y) m)) xs) ≡ true → cond b (x ∷ going_to m xs) (going_to m xs) ≡ []) [
    | true ↦ λ g. absurd (true≢false (sym g))
    | false ↦ λ g. goes-nowhere m xs g
  ] h

  -- a test that all that goes there passes, or else nothing goes there
  passes-or-none : (p : List ℕ → Bool) (m : List ℕ) (xs : List X) → list_all (λ x. p (name x)) xs ≡ true → p m ≡ false → list_all (λ x. not (same (name x) m)) xs ≡ true
  passes-or-none p m [] h g = refl
  passes-or-none p m (x ∷ xs) h g =
      let parts = and_parts (p (name x)) (list_all (λ y. p (name y)) xs) h in
      elim (same (name x) m) as (λ b. same (name x) m ≡ b → (not b && list_all (λ y. not (same (name y) m)) xs) ≡ true) [
        | true ↦ λ e. absurd (true≢false (sym parts.0 ∙ ap p (same-true (name x) m e) ∙ g))
        | false ↦ λ e. passes-or-none p m xs parts.1 g
      ] refl

  name-passes : (p : List ℕ → Bool) (m : List ℕ) (xs : List X) → (going_to m xs ≡ [] → p m ≡ true) → list_all (λ x. p (name x)) xs ≡ true → (b : Bool) → p m ≡ b → p m ≡ true
  name-passes p m xs idle h true e = e
  name-passes p m xs idle h false e = idle (goes-nowhere m xs (passes-or-none p m xs h e))

  all-names : (p : List ℕ → Bool) (names : List (List ℕ)) (xs : List X) → Every (λ m. going_to m xs ≡ [] → p m ≡ true) names → list_all (λ x. p (name x)) xs ≡ true → list_all p names ≡ true
  all-names p [] xs idle h = refl
  all-names p (m ∷ names) xs idle h = and_from (p m) (list_all p names) (name-passes p m xs idle.0 h (p m) refl) (all-names p names xs idle.1 h)

  all-going : (p : List ℕ → Bool) (names : List (List ℕ)) (xs : List X) → list_all p names ≡ true → list_all (λ x. is_among (name x) names) xs ≡ true → list_all (λ x. p (name x)) xs ≡ true
  all-going p names [] h g = refl
  all-going p names (x ∷ xs) h g =
      let parts = and_parts (is_among (name x) names) (list_all (λ y. is_among (name y) names) xs) g in
      and_from (p (name x)) (list_all (λ y. p (name y)) xs) (among-passes p (name x) names h parts.0) (all-going p names xs h parts.1)
    where
      among-passes : (p' : List ℕ → Bool) (n : List ℕ) (all : List (List ℕ)) → list_all p' all ≡ true → is_among n all ≡ true → p' n ≡ true
      among-passes p' n all k j = list_all-among p' n all k j

  both-ways : (a b : Bool) → (a ≡ true → b ≡ true) → (b ≡ true → a ≡ true) → a ≡ b
  both-ways true b f g = sym (f refl)
  both-ways false true f g = g refl
  both-ways false false f g = refl

  -- the names pass a test, which those pass anyway to which nothing goes, exactly where the names pass it to which something goes
  pub names-pass : (p : List ℕ → Bool) (names : List (List ℕ)) (xs : List X) → list_all (λ x. is_among (name x) names) xs ≡ true → Every (λ m. going_to m xs ≡ [] → p m ≡ true) names → list_all p names ≡ list_all (λ x. p (name x)) xs
  names-pass p names xs among idle = both-ways (list_all p names) (list_all (λ x. p (name x)) xs) (λ h. all-going p names xs h among) (λ h. all-names p names xs idle h)

pub list_all-map : {X Y : Type 0} (p : Y → Bool) (f : X → Y) (xs : List X) → list_all p (map f xs) ≡ list_all (λ x. p (f x)) xs
list_all-map p f [] = refl
list_all-map p f (x ∷ xs) = ap (λ b. p (f x) && b) (list_all-map p f xs)

pub total-map : {X Y : Type 0} (g : Y → ℕ) (f : X → Y) (xs : List X) → total g (map f xs) ≡ total (λ x. g (f x)) xs
total-map g f [] = refl
total-map g f (x ∷ xs) = ap (λ n. g (f x) + n) (total-map g f xs)
