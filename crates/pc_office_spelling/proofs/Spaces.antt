-- For how many mails more there is space.
use Rattle.std.proofs.Common.{◌≡◌, ℕ, zero, suc, ◌+◌, ◌-◌, ◌<◌, ◌≤◌, Bool, true, false, cond, ◌&&◌, ◌||◌, ◌==◌, nat_lt, nat_le, List, [], ◌∷◌, Some, MatchOption, refl, sym, ap, subst, ◌∙◌, arith, ◌⊎◌, inl, inr, true≢false}
use Rattle.std.specs.List.{list_all, list_any, AllByRecursion as Every}
use Rattle.std.specs.Map.{lookup, keys_of}
use Rattle.std.proofs.lemmas.Bool.{leb-true, le-leb, leb-false, ltb-true, lt-ltb, ltb-false, eqb-true, eqb-false, or_parts, and_parts, and_from}
use Rattle.pc_tables.specs.Table.{same}
use Rattle.pc_tables.specs.Order.{AreDistinct}
use Rattle.pc_tables.proofs.Table.{same-true, same-sym}
use Rattle.pc_tables.proofs.Lists.{Every-from}
use Rattle.pc_office_spelling.specs.Spaces.{space_upto, can_follow, greatest}

-- one of two tests passes
or-split : (a b : Bool) → (a || b) ≡ true → (a ≡ true) ⊎ (b ≡ true)
or-split true b h = inl refl
or-split false b h = inr h

-- ---- sums over the users of whom less is noted

cond-le : (b : Bool) (m n : ℕ) → m ≤ n → cond b m 0 ≤ cond b n 0
cond-le true m n le = le
cond-le false m n le = omega arith

pub cond-none : (b : Bool) → ◌≡◌ {A = ℕ} (cond b 0 0) 0
cond-none true = refl
cond-none false = refl

pub cond-one : (b : Bool) → cond b 1 0 ≤ 1
cond-one true = omega arith
cond-one false = omega arith

cond-sum : (b : Bool) (m n : ℕ) → cond b (m + n) 0 ≡ cond b m 0 + cond b n 0
cond-sum true m n = refl
cond-sum false m n = omega arith

module _ (number : ℕ) where
  pub upto-le : (f g : List ℕ → ℕ) (users : List (List ℕ × ℕ)) → Every (λ (user : List ℕ × ℕ). f user.0 ≤ g user.0) users → space_upto f users number ≤ space_upto g users number
  upto-le f g [] le = omega arith
  upto-le f g (user ∷ users) le =
      let here = cond-le (nat_lt user.1 number) (f user.0) (g user.0) le.0 in
      let rest = upto-le f g users le.1 in
      omega (arith, here, rest)

  pub upto-sum : (f g : List ℕ → ℕ) (users : List (List ℕ × ℕ)) → space_upto (λ user. f user + g user) users number ≡ space_upto f users number + space_upto g users number
  upto-sum f g [] = refl
  upto-sum f g (user ∷ users) =
      let here = cond-sum (nat_lt user.1 number) (f user.0) (g user.0) in
      let rest = upto-sum f g users in
      omega (arith, here, rest)

  -- more for one of the users of whom less is noted
  pub upto-more : (f g : List ℕ → ℕ) (more : ℕ) (one : List ℕ) (users : List (List ℕ × ℕ)) → MatchOption (lookup (same one) users) ⊥ (λ noted. noted < number) → ((name : List ℕ) → f name ≤ g name) → f one + more ≤ g one
      → space_upto f users number + more ≤ space_upto g users number
  upto-more f g more one [] found le here = absurd found
  upto-more f g more one (user ∷ users) found le here =
      elim (same one user.0) as (λ b. same one user.0 ≡ b → MatchOption (cond b (Some user.1) (lookup (same one) users)) ⊥ (λ noted. noted < number) → space_upto f (user ∷ users) number + more ≤ space_upto g (user ∷ users) number) [
        | true ↦ λ e low.
            let name = same-true one user.0 e in
            let mine : f user.0 + more ≤ g user.0 = subst (λ (n : List ℕ). f n + more ≤ g n) name here in
            let counted = lt-ltb user.1 number low in
            let rest = upto-le f g users (Every-from (λ (other : List ℕ × ℕ). f other.0 ≤ g other.0) (λ other. le other.0) users) in
            rw counted (omega (arith, mine, rest))
        | false ↦ λ e low.
            let first = cond-le (nat_lt user.1 number) (f user.0) (g user.0) (le user.0) in
            let rest = upto-more f g more one users low le here in
            omega (arith, first, rest)
      ] refl found

  -- nothing for names that are others
  none-upto : (name : List ℕ) (users : List (List ℕ × ℕ)) → Every (λ (other : List ℕ). same name other ≡ false) (keys_of users) → space_upto (λ user. cond (same user name) 1 0) users number ≡ 0
  none-upto name [] others = refl
  none-upto name (user ∷ users) others =
      let here : same user.0 name ≡ false = same-sym user.0 name ∙ others.0 in
      let rest = none-upto name users others.1 in
      let first : ◌≡◌ {A = ℕ} (cond (nat_lt user.1 number) (cond (same user.0 name) 1 0) 0) 0 = rw here (cond-none (nat_lt user.1 number)) in
      omega (arith, first, rest)

  -- a name is counted once
  pub once-upto : (name : List ℕ) (users : List (List ℕ × ℕ)) → AreDistinct (keys_of users) → space_upto (λ user. cond (same user name) 1 0) users number ≤ 1
  once-upto name [] distinct = omega arith
  once-upto name (user ∷ users) distinct =
      elim (same user.0 name) as (λ b. same user.0 name ≡ b → cond (nat_lt user.1 number) (cond b 1 0) 0 + space_upto (λ (other : List ℕ). cond (same other name) 1 0) users number ≤ 1) [
        | true ↦ λ e.
            let is = same-true user.0 name e in
            let none = none-upto name users (subst (λ (n : List ℕ). Every (λ (other : List ℕ). same n other ≡ false) (keys_of users)) is distinct.0) in
            let one = cond-one (nat_lt user.1 number) in
            omega (arith, none, one)
        | false ↦ λ e.
            let rest = once-upto name users distinct.1 in
            let none = cond-none (nat_lt user.1 number) in
            omega (arith, rest, none)
      ] refl

-- ---- the test at each number

-- for mails with the last numbers there is space up to each number
abbrev pub Enough : (List ℕ → ℕ) → List (List ℕ × ℕ) → ℕ → ℕ → ℕ → Type 0
Enough space users accepted count taken = (number : ℕ) → number ≤ accepted → accepted < number + count → number + count + taken ≤ accepted + space_upto space users number

-- the test of what is noted of a user
is-noted : (p : ℕ → Bool) (number : ℕ) (users : List (List ℕ × ℕ)) → list_all (λ (user : List ℕ × ℕ). p user.1) users ≡ true → list_any (λ (user : List ℕ × ℕ). user.1 == number) users ≡ true → p number ≡ true
is-noted p number [] all any = absurd (true≢false (sym any))
is-noted p number (user ∷ users) all any =
    elim (or-split (user.1 == number) (list_any (λ (other : List ℕ × ℕ). other.1 == number) users) any) [
      | inl here ↦ subst (λ (n : ℕ). p n ≡ true) (eqb-true user.1 number here) (and_parts (p user.1) (list_all (λ (other : List ℕ × ℕ). p other.1) users) all).0
      | inr there ↦ is-noted p number users (and_parts (p user.1) (list_all (λ (other : List ℕ × ℕ). p other.1) users) all).1 there
    ]

-- where it is noted of nobody, there is as much space up to the next number
next-space : (space : List ℕ → ℕ) (number : ℕ) (users : List (List ℕ × ℕ)) → list_any (λ (user : List ℕ × ℕ). user.1 == number) users ≡ false → space_upto space users (suc number) ≡ space_upto space users number
next-space space number [] none = refl
next-space space number (user ∷ users) none =
    let parts = or_parts (user.1 == number) (list_any (λ (other : List ℕ × ℕ). other.1 == number) users) none in
    let differs : user.1 ≡ number → ⊥ = eqb-false user.1 number parts.0 in
    let rest = next-space space number users parts.1 in
    let here : nat_lt user.1 (suc number) ≡ nat_lt user.1 number = same-order (nat_lt user.1 (suc number)) (nat_lt user.1 number) refl refl differs in
    rw here (ap (λ (n : ℕ). cond (nat_lt user.1 number) (space user.0) 0 + n) rest)
  where
    same-order : (a b : Bool) → nat_lt user.1 (suc number) ≡ a → nat_lt user.1 number ≡ b → (user.1 ≡ number → ⊥) → a ≡ b
    same-order true true f g differs = refl
    same-order true false f g differs = absurd (let low = ltb-true user.1 (suc number) f in let high = ltb-false user.1 number g in differs (omega arith))
    same-order false true f g differs = absurd (let high = ltb-false user.1 (suc number) f in let low = ltb-true user.1 number g in omega arith)
    same-order false false f g differs = refl

module _ (space : List ℕ → ℕ) (users : List (List ℕ × ℕ)) (accepted count taken : ℕ) where
  abbrev Holds : ℕ → Bool
  Holds number = nat_le (number + count) accepted || nat_le (number + count + taken) (accepted + space_upto space users number)

  enough-down : nat_le (count + taken) (space_upto space users accepted) ≡ true → list_all (λ (user : List ℕ × ℕ). Holds user.1) users ≡ true
      → (left number : ℕ) → left + number ≡ accepted → accepted < number + count → number + count + taken ≤ accepted + space_upto space users number
  enough-down last all zero number is past =
      let same : accepted ≡ number = omega (arith, is) in
      let most = leb-true (count + taken) (space_upto space users accepted) last in
      let there : count + taken ≤ space_upto space users number = subst (λ (n : ℕ). count + taken ≤ space_upto space users n) same most in
      omega (arith, there, same)
  enough-down last all (suc left) number is past =
      elim (list_any (λ (user : List ℕ × ℕ). user.1 == number) users) as (λ b. list_any (λ (user : List ℕ × ℕ). user.1 == number) users ≡ b → number + count + taken ≤ accepted + space_upto space users number) [
        | true ↦ λ any.
            elim (or-split (nat_le (number + count) accepted) (nat_le (number + count + taken) (accepted + space_upto space users number)) (is-noted Holds number users all any)) [
              | inl low ↦ absurd (let le = leb-true (number + count) accepted low in omega (arith, le, past))
              | inr enough ↦ leb-true (number + count + taken) (accepted + space_upto space users number) enough
            ]
        | false ↦ λ none.
            let above = enough-down last all left (suc number) (omega (arith, is)) (omega (arith, past)) in
            let same = next-space space number users none in
            omega (arith, above, same)
      ] refl

  pub enough_from : can_follow space users accepted count taken ≡ true → Enough space users accepted count taken
  enough_from passes number upto past =
      elim (or-split (count == 0) (nat_le (count + taken) (space_upto space users accepted) && list_all (λ (user : List ℕ × ℕ). Holds user.1) users) passes) [
        | inl none ↦ absurd (let is = eqb-true count 0 none in omega (arith, is, upto, past))
        | inr rest ↦
            let parts = and_parts (nat_le (count + taken) (space_upto space users accepted)) (list_all (λ (user : List ℕ × ℕ). Holds user.1) users) rest in
            enough-down parts.0 parts.1 (accepted - number) number (omega (arith, upto)) past
      ]

  all-hold : ((number : ℕ) → number ≤ accepted → Holds number ≡ true) → (some : List (List ℕ × ℕ)) → Every (λ (user : List ℕ × ℕ). user.1 ≤ accepted) some → list_all (λ (user : List ℕ × ℕ). Holds user.1) some ≡ true
  all-hold hold [] noted = refl
  all-hold hold (user ∷ some) noted = and_from (Holds user.1) (list_all (λ (other : List ℕ × ℕ). Holds other.1) some) (hold user.1 noted.0) (all-hold hold some noted.1)

  pub follow_from : Every (λ (user : List ℕ × ℕ). user.1 ≤ accepted) users → Enough space users accepted count taken → can_follow space users accepted count taken ≡ true
  follow_from noted enough =
      elim (count == 0) as (λ b. (count == 0) ≡ b → (b || (nat_le (count + taken) (space_upto space users accepted) && list_all (λ (user : List ℕ × ℕ). Holds user.1) users)) ≡ true) [
        | true ↦ λ e. refl
        | false ↦ λ e.
            let some : count ≡ 0 → ⊥ = eqb-false count 0 e in
            let last = enough accepted (omega arith) (omega (arith, some)) in
            and_from (nat_le (count + taken) (space_upto space users accepted)) (list_all (λ (user : List ℕ × ℕ). Holds user.1) users) (le-leb (count + taken) (space_upto space users accepted) (omega (arith, last))) (all-hold hold users noted)
      ] refl
    where
      hold : (number : ℕ) → number ≤ accepted → Holds number ≡ true
      hold number upto =
          elim (nat_le (number + count) accepted) as (λ b. nat_le (number + count) accepted ≡ b → (b || nat_le (number + count + taken) (accepted + space_upto space users number)) ≡ true) [
            | true ↦ λ e. refl
            | false ↦ λ e. let past = leb-false (number + count) accepted e in le-leb (number + count + taken) (accepted + space_upto space users number) (enough number upto (omega (arith, past)))
          ] refl

-- ---- the greatest number that passes a test

pub greatest-most : (test : ℕ → Bool) (most : ℕ) → greatest test most ≤ most
unfolding greatest
greatest-most test zero = omega arith
greatest-most test (suc most) = elim (test (suc most)) as (λ b. cond b (suc most) (greatest test most) ≤ suc most) [ true ↦ omega arith | false ↦ let rest = greatest-most test most in omega (arith, rest) ]

pub greatest-passes : (test : ℕ → Bool) (most : ℕ) → test 0 ≡ true → test (greatest test most) ≡ true
unfolding greatest
greatest-passes test zero least = least
greatest-passes test (suc most) least = elim (test (suc most)) as (λ b. test (suc most) ≡ b → test (cond b (suc most) (greatest test most)) ≡ true) [ true ↦ λ e. e | false ↦ λ e. greatest-passes test most least ] refl

pub greatest-least : (test : ℕ → Bool) (most number : ℕ) → number ≤ most → test number ≡ true → number ≤ greatest test most
unfolding greatest
greatest-least test zero number le passes = omega (arith, le)
greatest-least test (suc most) number le passes =
    elim (test (suc most)) as (λ b. test (suc most) ≡ b → number ≤ cond b (suc most) (greatest test most)) [
      | true ↦ λ e. le
      | false ↦ λ e. greatest-least test most number (below (nat_le number most) refl e) passes
    ] refl
  where
    below : (b : Bool) → nat_le number most ≡ b → test (suc most) ≡ false → number ≤ most
    below true e f = leb-true number most e
    below false e f =
        let past = leb-false number most e in
        let is : number ≡ suc most = omega (arith, past, le) in
        absurd (true≢false (sym passes ∙ ap test is ∙ f))
