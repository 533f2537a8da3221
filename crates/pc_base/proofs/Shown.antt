-- What is shown of an address has printed bytes alone.
use Rattle.std.proofs.Common.{◌≡◌, ℕ, ◌<◌, Bool, true, false, cond, List, [], ◌∷◌, length, map, take, IsTrue, min, ◌==◌, refl, ◌∙◌, arith}
use Rattle.std.specs.List.{list_all}
use Rattle.std.proofs.lemmas.List.{length-map, length-take}
use Rattle.std.proofs.lemmas.Bool.Decides.{nat_tests}
use Rattle.pc_base.specs.Name.{is_printed}
use Rattle.pc_base.specs.Recipient.{shown_byte, shown_of, is_shown}

printed : (byte : ℕ) → is_printed (shown_byte byte) ≡ true
printed byte = elim (is_printed byte) as (λ (b : Bool). is_printed byte ≡ b → is_printed (cond b byte 63) ≡ true) [ true ↦ λ e. e | false ↦ λ _. refl ] refl

all_printed : (bytes : List ℕ) → list_all is_printed (map shown_byte bytes) ≡ true
all_printed [] = refl
all_printed (byte ∷ bytes) = rw (printed byte, all_printed bytes)

pub is_shown-map : (address : List ℕ) → 0 < length address → IsTrue (is_shown (map shown_byte (take 64 address)))
is_shown-map address some =
    let many : length (map shown_byte (take 64 address)) ≡ min 64 (length address) = length-map (take 64 address) shown_byte ∙ length-take 64 address in
    rw (all_printed (take 64 address), many) (grind (arith, nat_tests))

pub shown_of-some : (address : List ℕ) → (length address == 0) ≡ false → shown_of address ≡ map shown_byte (take 64 address)
shown_of-some address some = rw some
