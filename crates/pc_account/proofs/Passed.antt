-- Limits that are passed, and limits that aren't.
use Rattle.std.proofs.Common.{◌≡◌, ℕ, suc, ◌+◌, ◌<◌, ◌≤◌, Bool, true, false, nat_lt, List, [], ◌∷◌, ◌++◌, length, is_some, Option, Some, refl, sym, ◌∙◌, ap, arith, length-append, lt-ltb, true≢false}
use Rattle.std.specs.Map.{lookup, keys_of}
use Rattle.pc_base.specs.declared.refusal.LimitWord.{LimitWord}
use Rattle.pc_tables.specs.Table.{same, is_among, other_names, others}
use Rattle.pc_tables.specs.Order.{AreDistinct}
use Rattle.pc_tables.proofs.Table.{is_among-keys, length-keys}
use Rattle.pc_account.specs.Limits.{limit_where}
use Rattle.pc_tables.proofs.Order.{Ordered-back}
use Rattle.pc_tables.proofs.Distinct.{others-as-before, others-fewer}

pub some-limit : (passed : Bool) (limit : LimitWord) (others : Option LimitWord) → passed ≡ true → Some limit ≡ limit_where passed limit others
some-limit true limit others h = refl
some-limit false limit others h = absurd (true≢false (sym h))

pub no-limit : (passed : Bool) (limit : LimitWord) (others : Option LimitWord) → passed ≡ false → others ≡ limit_where passed limit others
no-limit true limit others h = absurd (true≢false h)
no-limit false limit others h = refl

pub above : (most count : ℕ) → most < count → nat_lt most count ≡ true
above most count h = lt-ltb most count h

pub not-above : (most count : ℕ) → count ≤ most → nat_lt most count ≡ false
not-above most count h = grind (arith, h)

-- ---- names

pub names-length : (name : List ℕ) (live dropped : List (List ℕ)) → length ((other_names name live ++ name ∷ []) ++ other_names name dropped) ≡ suc (length (other_names name live)) + length (other_names name dropped)
names-length name live dropped = length-append (other_names name live ++ name ∷ []) (other_names name dropped) ∙ ap (λ n. n + length (other_names name dropped)) (length-append (other_names name live) (name ∷ []) ∙ omega arith)

-- a mailbox that is made again is no name more
pub names-again : {X : Type 0} (name : List ℕ) (live dropped : List (List ℕ × X)) → AreDistinct (keys_of live ++ keys_of dropped) → is_among name (keys_of live) ≡ false → is_some (lookup (same name) dropped) ≡ true → length ((other_names name (keys_of live) ++ name ∷ []) ++ other_names name (keys_of dropped)) ≡ length live + length dropped
names-again name live dropped d dead made =
    let all = names-length name (keys_of live) (keys_of dropped) in
    let front = others-as-before name (keys_of live) dead in
    let back = others-fewer name (keys_of dropped) (Ordered-back (λ (a b : List ℕ). same a b ≡ false) (keys_of live) (keys_of dropped) d) (is_among-keys name dropped ∙ made) in
    let a = length-keys live in
    let b = length-keys dropped in
    omega (arith, all, front, back, a, b)

pub names-more : {X : Type 0} (name : List ℕ) (live dropped : List (List ℕ × X)) → is_among name (keys_of live) ≡ false → is_some (lookup (same name) dropped) ≡ false → length ((other_names name (keys_of live) ++ name ∷ []) ++ other_names name (keys_of dropped)) ≡ suc (length live + length dropped)
names-more name live dropped dead new =
    let all = names-length name (keys_of live) (keys_of dropped) in
    let front = others-as-before name (keys_of live) dead in
    let back = others-as-before name (keys_of dropped) (is_among-keys name dropped ∙ new) in
    let a = length-keys live in
    let b = length-keys dropped in
    omega (arith, all, front, back, a, b)

pub within-names : {X : Type 0} (most : ℕ) (live dropped : List (List ℕ × X)) → nat_lt most (length (keys_of live ++ keys_of dropped)) ≡ false → length live + length dropped ≤ most
within-names most live dropped h =
    let all = length-append (keys_of live) (keys_of dropped) in
    let a = length-keys live in
    let b = length-keys dropped in
    let few : length (keys_of live ++ keys_of dropped) ≤ most = not-below most (length (keys_of live ++ keys_of dropped)) h in
    omega (arith, all, a, b, few)
  where
    not-below : (m n : ℕ) → nat_lt m n ≡ false → n ≤ m
    not-below m n g = grind (arith, g)
