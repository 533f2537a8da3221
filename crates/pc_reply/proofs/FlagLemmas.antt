-- Flags as characters: written one by one, and read again.
use Rattle.std.proofs.Common.{◌≡◌, ℕ, zero, suc, ◌+◌, ◌-◌, ◌*◌, ◌/◌, ◌%◌, ◌^◌, ◌<◌, ◌≤◌, ◌==◌, false, cond, List, [], ◌∷◌, ◌++◌, length, refl, sym, ap, ◌∙◌, arith, append_assoc, append-nil}
use Rattle.std.proofs.Math.Nat.{pow-suc}
use Rattle.std.proofs.lemmas.Bool.Decides.{nat_tests}
use Rattle.std.specs.List.{list_any}
use Rattle.pc_wire.specs.Lines.{is_feed, has_feed}
use Rattle.pc_wire.specs.Words.{is_space}
use Rattle.pc_reply.specs.Items.{flag_digits}
use Rattle.pc_reply.specs.FirstLine.{flags_shown}

flag_digits-suc : (count flags : ℕ) → flag_digits (suc count) flags ≡ (48 + flags % 2) ∷ flag_digits count (flags / 2)
unfolding flag_digits
flag_digits-suc count flags = refl

-- one character more is written
pub flag_digits-step : (digits : List ℕ) (i flags : ℕ) → i < 16 → (digits ++ (48 + flags % 2) ∷ []) ++ flag_digits (16 - (i + 1)) (flags / 2) ≡ digits ++ flag_digits (16 - i) flags
flag_digits-step digits i flags below =
    let next : 16 - i ≡ suc (16 - (i + 1)) = omega arith in
    append_assoc digits ((48 + flags % 2) ∷ []) (flag_digits (16 - (i + 1)) (flags / 2)) ∙ ap (λ more. digits ++ more) (sym (flag_digits-suc (16 - (i + 1)) flags) ∙ ap (λ count. flag_digits count flags) (sym next))

-- all are written
pub flag_digits-done : (digits : List ℕ) (i flags : ℕ) → 16 ≤ i → digits ++ flag_digits (16 - i) flags ≡ digits
unfolding flag_digits
flag_digits-done digits i flags done =
    let none : 16 - i ≡ 0 = omega arith in
    ap (λ count. digits ++ flag_digits count flags) none ∙ append-nil digits

bit_shown : (flags : ℕ) → cond (48 + flags % 2 == 49) 1 0 + 2 * (flags / 2) ≡ flags
bit_shown flags = grind (arith, nat_tests)

-- what is written is read again
pub flags_shown-digits : (count flags : ℕ) → flags < 2 ^ count → flags_shown (flag_digits count flags) ≡ flags
unfolding flag_digits
flags_shown-digits zero flags fits = omega arith
flags_shown-digits (suc count) flags fits =
    let half : flags / 2 < 2 ^ count = omega (arith, pow-suc 2 count) in
    ap (λ rest. cond (48 + flags % 2 == 49) 1 0 + 2 * rest) (flags_shown-digits count (flags / 2) half) ∙ bit_shown flags

pub length-flag_digits : (count flags : ℕ) → length (flag_digits count flags) ≡ count
unfolding flag_digits
length-flag_digits zero flags = refl
length-flag_digits (suc count) flags = ap suc (length-flag_digits count (flags / 2))

digit_open : (flags : ℕ) → is_feed (48 + flags % 2) ≡ false
digit_open flags = grind (arith, nat_tests)

digit_solid : (flags : ℕ) → is_space (48 + flags % 2) ≡ false
digit_solid flags = grind (arith, nat_tests)

-- flags are no LF and no space
pub open-flag_digits : (count flags : ℕ) → has_feed (flag_digits count flags) ≡ false
unfolding flag_digits
open-flag_digits zero flags = refl
open-flag_digits (suc count) flags = rw (digit_open flags, open-flag_digits count (flags / 2)) refl

pub solid-flag_digits : (count flags : ℕ) → list_any is_space (flag_digits count flags) ≡ false
unfolding flag_digits
solid-flag_digits zero flags = refl
solid-flag_digits (suc count) flags = rw (digit_solid flags, solid-flag_digits count (flags / 2)) refl
