-- A uid that isn't listed.
use Rattle.std.proofs.Common.{◌≡◌, ℕ, zero, suc, ◌+◌, ◌<◌, ◌≤◌, ◌||◌, ◌==◌, nat_lt, Bool, true, false, cond, List, [], ◌∷◌, length, refl, sym, subst, arith, true≢false}
use Rattle.std.specs.List.{filter}
use Rattle.std.proofs.lemmas.Bool.{ltb-true, lt-ltb, eqb-true}
use Rattle.pc_account_history.specs.declared.kept.Listed.{Listed}
use Rattle.pc_account_spelling.specs.RecordFormat.{above, is_listed}

less-than : (a b : ℕ) → nat_lt (suc a) b ≡ true → nat_lt a b ≡ true
less-than a b e = let h = ltb-true (suc a) b e in lt-ltb a b (omega arith)

le-step : (b c : Bool) (x : Listed) (xs ys : List Listed) → (c ≡ true → b ≡ true) → length ys ≤ length xs → length (cond c (x ∷ ys) ys) ≤ length (cond b (x ∷ xs) xs)
le-step true true x xs ys h le = omega arith
le-step true false x xs ys h le = omega arith
le-step false true x xs ys h le = absurd (true≢false (sym (h refl)))
le-step false false x xs ys h le = le

-- no more uids are above a higher one
pub above-less : (uid : ℕ) (list : List Listed) → above (suc uid) list ≤ above uid list
above-less uid [] = omega arith
above-less uid (listed ∷ list) = le-step (nat_lt uid listed.uid) (nat_lt (suc uid) listed.uid) listed (filter (λ (l : Listed). nat_lt uid l.uid) list) (filter (λ (l : Listed). nat_lt (suc uid) l.uid) list) (less-than uid listed.uid) (above-less uid list)

fewer-step : (b c d e : Bool) (x : Listed) (xs ys : List Listed) → (c ≡ true → b ≡ true) → (d ≡ true → (b ≡ true) × (c ≡ false)) → length ys ≤ length xs → (e ≡ true → suc (length ys) ≤ length xs) → (d || e) ≡ true → suc (length (cond c (x ∷ ys) ys)) ≤ length (cond b (x ∷ xs) xs)
fewer-step true true true e x xs ys up here le less found = absurd (true≢false (here refl).1)
fewer-step true true false e x xs ys up here le less found = let more = less found in omega (arith, more)
fewer-step true false d e x xs ys up here le less found = omega arith
fewer-step false true d e x xs ys up here le less found = absurd (true≢false (sym (up refl)))
fewer-step false false true e x xs ys up here le less found = absurd (true≢false (sym (here refl).0))
fewer-step false false false e x xs ys up here le less found = less found

-- where the next uid is listed, one less is above it
pub above-fewer : (uid : ℕ) (list : List Listed) → is_listed (suc uid) list ≡ true → suc (above (suc uid) list) ≤ above uid list
above-fewer uid [] e = absurd (true≢false (sym e))
above-fewer uid (listed ∷ list) e =
    fewer-step (nat_lt uid listed.uid) (nat_lt (suc uid) listed.uid) (listed.uid == suc uid) (is_listed (suc uid) list) listed (filter (λ (l : Listed). nat_lt uid l.uid) list) (filter (λ (l : Listed). nat_lt (suc uid) l.uid) list)
    (less-than uid listed.uid) (here listed.uid) (above-less uid list) (above-fewer uid list) e
  where
    not-less : (a : ℕ) (b : Bool) → nat_lt a a ≡ b → b ≡ false
    not-less a true e = absurd (let h = ltb-true a a e in omega (arith, h))
    not-less a false e = refl

    here : (at : ℕ) → (at == suc uid) ≡ true → (nat_lt uid at ≡ true) × (nat_lt (suc uid) at ≡ false)
    here at g =
        let is = eqb-true at (suc uid) g in
        (lt-ltb uid at (omega (arith, is)), subst (λ (n : ℕ). nat_lt (suc uid) n ≡ false) (sym is) (not-less (suc uid) (nat_lt (suc uid) (suc uid)) refl))

-- a uid behind this one that isn't listed, with the uids up to it all listed
pub record FreeUid (low : ℕ) (list : List Listed) : Type 0 where
  pub uid : ℕ
  pub behind : low < uid
  pub free : is_listed uid list ≡ false
  pub near : uid + above uid list ≤ suc low + above low list

free-step : (n low : ℕ) (list : List Listed) (b : Bool) → is_listed (suc low) list ≡ b → (b ≡ true → suc (above (suc low) list) ≤ above low list) → above low list ≤ n → ((m : ℕ) → suc m ≡ n → above (suc low) list ≤ m → FreeUid (suc low) list) → FreeUid low list
free-step n low list false e fewer le rest = let less = above-less low list in record { uid = suc low; behind = omega arith; free = e; near = omega (arith, less) }
free-step zero low list true e fewer le rest = let h = fewer refl in absurd (omega (arith, h))
free-step (suc m) low list true e fewer le rest =
    let h = fewer refl in
    let found = rest m refl (omega (arith, h)) in
    record { uid = found.uid; behind = omega (arith, found.behind); free = found.free; near = omega (arith, found.near, h) }

free-within : (n low : ℕ) (list : List Listed) → above low list ≤ n → FreeUid low list
free-within zero low list le = free-step zero low list (is_listed (suc low) list) refl (above-fewer low list) le (λ m e g. let bad : suc m ≡ 0 = e in absurd (omega (arith, bad)))
free-within (suc n) low list le = free-step (suc n) low list (is_listed (suc low) list) refl (above-fewer low list) le (λ m e g. free-within n (suc low) list (let same : suc m ≡ suc n = e in omega (arith, same, g)))

pub free_uid : (low : ℕ) (list : List Listed) → FreeUid low list
free_uid low list = free-within (above low list) low list (omega arith)
