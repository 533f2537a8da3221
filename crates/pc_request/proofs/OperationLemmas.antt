-- The operation that a word names.
use Rattle.std.proofs.Common.{◌≡◌, ◌==◌, ℕ, suc, ◌↔◌, cond, ◌+◌, ◌<◌, Bool, true, false, IsTrue, List, length, drop, get_or, map, Option, Some, refl, sym, ap, ◌∙◌, add-one, drop-cons}
use Rattle.std.proofs.lemmas.Bool.{false≢true}
use Rattle.std.proofs.lemmas.Slice.Eq.{bytes_eq-Decides}
use Rattle.std.specs.Char.{to_ascii_lowercase}
use Rattle.std.specs.Cmp.Lexicographic.{pointwise}
use Rattle.std.specs.List.{find}
use Rattle.pc_request.specs.Operation.{word_of, operations, IsNamed, is_named, operation_named}
use Rattle.pc_request.specs.declared.operation.Operation.{Operation}
use Rattle.pc_request.specs.declared.operation.Operation.TheVariants as operation

-- the operation whose word is this in small letters
abbrev operation_in_small : List ℕ → Option Operation
operation_in_small small = find (λ operation. pointwise ◌==◌ small (map to_ascii_lowercase (word_of operation))) operations

-- each operation is found by its own word
operation_in_small-word_of : (which : Operation) → operation_in_small (map to_ascii_lowercase (word_of which)) ≡ Some which
unfolding word_of operations
operation_in_small-word_of operation.SendVersion = refl
operation_in_small-word_of _ = refl

pub operation_named-is : (which : Operation) (word : List ℕ) → IsNamed which word → operation_named word ≡ Some which
operation_named-is which word named = ap operation_in_small named ∙ operation_in_small-word_of which

-- a search goes on behind an element that doesn't pass
pub find_more : (test : Operation → Bool) (xs : List Operation) (i : ℕ) (otherwise : Operation) → i < length xs → test (get_or xs i otherwise) ≡ false → find test (drop (i + 1) xs) ≡ find test (drop i xs)
find_more test xs i otherwise within fails =
    rw add-one (sym (ap (find test) (drop-cons xs i otherwise within) ∙ ap (λ passes. cond passes (Some (get_or xs i otherwise)) (find test (drop (suc i) xs))) fails))

-- or ends at one that does
pub find_here : (test : Operation → Bool) (xs : List Operation) (i : ℕ) (otherwise : Operation) → i < length xs → test (get_or xs i otherwise) ≡ true → find test (drop i xs) ≡ Some (get_or xs i otherwise)
find_here test xs i otherwise within passes =
    ap (find test) (drop-cons xs i otherwise within) ∙ ap (λ passed. cond passed (Some (get_or xs i otherwise)) (find test (drop (suc i) xs))) passes

unequal : (xs ys : List ℕ) → (xs ≡ ys → ⊥) → pointwise ◌==◌ xs ys ≡ false
unequal xs ys differ = by_test (pointwise ◌==◌ xs ys) (λ same. differ ((bytes_eq-Decides xs ys).0 same))
  where
    by_test : (b : Bool) → (b ≡ true → ⊥) → b ≡ false
    by_test true h = absurd (h refl)
    by_test false h = refl

-- a comparison without regard to case gives what the test gives
pub is_named-is : (which : Operation) (word shown : List ℕ) (same : Bool) → shown ≡ word_of which → (IsTrue same ↔ (map to_ascii_lowercase word ≡ map to_ascii_lowercase shown)) → is_named which word ≡ same
is_named-is which word shown true is compared =
    (bytes_eq-Decides (map to_ascii_lowercase word) (map to_ascii_lowercase (word_of which))).1 (compared.0 refl ∙ ap (map to_ascii_lowercase) is)
is_named-is which word shown false is compared =
    unequal (map to_ascii_lowercase word) (map to_ascii_lowercase (word_of which)) (λ e. false≢true (compared.1 (e ∙ ap (map to_ascii_lowercase) (sym is))))

pub one_operation_named : (one other : Operation) (word : List ℕ) → IsNamed one word → IsNamed other word → one ≡ other
one_operation_named one other word named named' =
    let found = operation_named-is one word named in
    let found' = operation_named-is other word named' in
    cc
