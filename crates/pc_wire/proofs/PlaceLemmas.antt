-- Places of bytes.
use Rattle.std.proofs.Common.{◌≡◌, ℕ, ◌≤◌, ◌==◌, Bool, true, false, cond, not, ltb, Option, Some, None, List, length, refl, sym, arith}
use Rattle.std.specs.Prelude.{unwrap_or}
use Rattle.std.specs.List.{position_or_len, position}
use Rattle.std.proofs.lemmas.Bool.{ltb-false}
use Rattle.std.proofs.lemmas.List.Sums.{prefix_len-le-length, position_or_len_is}
use Rattle.memchr.specs.Find.{IsFirstByte, is_byte}

pub place-within : (test : ℕ → Bool) (bytes : List ℕ) → position_or_len test bytes ≤ length bytes
place-within test bytes = prefix_len-le-length (λ x. not (test x)) bytes

-- a place that is looked for, or the length
pub place_or_length : (test : ℕ → Bool) (bytes : List ℕ) (found : Option ℕ) → found ≡ position test bytes → unwrap_or found (length bytes) ≡ position_or_len test bytes
place_or_length test bytes found e =
    rw e (by_test (ltb (position_or_len test bytes) (length bytes)) refl)
  where
    by_test : (t : Bool) → ltb (position_or_len test bytes) (length bytes) ≡ t → unwrap_or (cond t (Some (position_or_len test bytes)) None) (length bytes) ≡ position_or_len test bytes
    by_test true h = refl
    by_test false h =
        omega (arith, ltb-false (position_or_len test bytes) (length bytes) h, place-within test bytes)

fails : (test : Bool) → ¬ (test ≡ true) → test ≡ false
fails true h = absurd (h refl)
fails false h = refl

-- the first place where a byte stands, or the length
pub first_or_length : (wanted : ℕ) (bytes : List ℕ) (found : Option ℕ) → IsFirstByte (is_byte wanted) bytes found → unwrap_or found (length bytes) ≡ position_or_len (λ byte. byte == wanted) bytes
first_or_length wanted bytes None none =
    sym (position_or_len_is (λ byte. byte == wanted) bytes (length bytes) 0 (omega arith) (λ k h. fails _ (none k (omega arith) h)) (λ h. absurd (omega arith)))
first_or_length wanted bytes (Some place) found =
    sym (position_or_len_is (λ byte. byte == wanted) bytes place 0 (omega (arith, found.0.high)) (λ k h. fails _ (found.0.before k (omega arith) h)) (λ h. found.1))
