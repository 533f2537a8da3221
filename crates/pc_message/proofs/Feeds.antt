-- Texts made of lines have no LF.
use Rattle.std.proofs.Common.{◌≡◌, ℕ, false, zero, suc, List, [], ◌∷◌, ◌++◌, take, drop, IsTrue, refl, ◌==◌, length, ◌≤◌, ◌-◌, sym, subst, arith}
use Rattle.std.proofs.lemmas.List.{length-take}
use Rattle.std.proofs.lemmas.Bool.Decides.{nat_tests}
use Rattle.std.proofs.lemmas.Bool.{or_from, or_parts}
use Rattle.pc_base.specs.Line.{has_feed, is_line}
use Rattle.pc_message.specs.Header.{is_blank, trimmed}
use Rattle.std.specs.List.{prefix_len, suffix_len}

pub has_feed-append : (front back : List ℕ) → has_feed front ≡ false → has_feed back ≡ false → has_feed (front ++ back) ≡ false
has_feed-append [] back f b = b
has_feed-append (byte ∷ front) back f b =
    let parts = or_parts (byte == 10) (has_feed front) f in
    or_from (byte == 10) (has_feed (front ++ back)) parts.0 (has_feed-append front back parts.1 b)

pub has_feed-drop : (n : ℕ) (bytes : List ℕ) → has_feed bytes ≡ false → has_feed (drop n bytes) ≡ false
has_feed-drop zero bytes f = f
has_feed-drop (suc n) [] f = refl
has_feed-drop (suc n) (byte ∷ bytes) f = has_feed-drop n bytes (or_parts (byte == 10) (has_feed bytes) f).1

pub has_feed-take : (n : ℕ) (bytes : List ℕ) → has_feed bytes ≡ false → has_feed (take n bytes) ≡ false
has_feed-take zero bytes f = refl
has_feed-take (suc n) [] f = refl
has_feed-take (suc n) (byte ∷ bytes) f =
    let parts = or_parts (byte == 10) (has_feed bytes) f in
    or_from (byte == 10) (has_feed (take n bytes)) parts.0 (has_feed-take n bytes parts.1)

pub has_feed-line : (line : List ℕ) → IsTrue (is_line line) → has_feed line ≡ false
has_feed-line line fits = grind arith

has_feed-trimmed : (text : List ℕ) → has_feed text ≡ false → has_feed (trimmed text) ≡ false
has_feed-trimmed text f =
    let front = drop (prefix_len is_blank text) text in
    has_feed-take (length front - suffix_len is_blank front) front (has_feed-drop (prefix_len is_blank text) text f)

-- a front of a text without the blanks at its ends is a line where it is short
pub is_line-cut : (whole text : List ℕ) (n : ℕ) → has_feed whole ≡ false → text ≡ trimmed whole → n ≤ 1000 → IsTrue (is_line (take n text))
is_line-cut whole text n f same few =
    let short : length (take n text) ≤ 1000 = omega (arith, length-take n text) in
    let feedless : has_feed (take n text) ≡ false = has_feed-take n text (subst (λ (bytes : List ℕ). has_feed bytes ≡ false) (sym same) (has_feed-trimmed whole f)) in
    rw feedless (grind (arith, nat_tests))
