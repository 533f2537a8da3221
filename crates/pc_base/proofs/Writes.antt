-- A write of many bytes in several calls.
use Rattle.std.proofs.Common.{◌≡◌, ℕ, List, [], ◌++◌, Option, None, Some, length, take, drop, refl, sym, ap, ◌∙◌, subst, append-nil, append_assoc, take-append-drop}
use Rattle.std.proofs.lemmas.List.{take_at}
use Rattle.std.specs.Io.KnownBytes.{Appends, Keeps}
use Rattle.std.proofs.KnownBytes.{Appends-trans, Appends-nil}
use Rattle.pc_base.specs.Stream.{AppendsFront}

-- the bytes before the rest are written
pub record IsPartWritten (before now : Option (List ℕ)) (bytes rest : List ℕ) : Type 0 where
  pub front : List ℕ
  pub spelled : bytes ≡ front ++ rest
  pub written : Appends before now front

pub IsPartWritten-none : (before : Option (List ℕ)) (bytes : List ℕ) → IsPartWritten before before bytes bytes
IsPartWritten-none before bytes = record { front = []; spelled = refl; written = Appends-nil before }

pub IsPartWritten-more : (before now after : Option (List ℕ)) (bytes rest : List ℕ) (count : ℕ) → IsPartWritten before now bytes rest → Appends now after (take count rest) → IsPartWritten before after bytes (drop count rest)
IsPartWritten-more before now after bytes rest count part more = record {
  front = part.front ++ take count rest;
  spelled = part.spelled ∙ ap (λ xs. part.front ++ xs) (sym (take-append-drop count rest)) ∙ sym (append_assoc part.front (take count rest) (drop count rest));
  written = Appends-trans before now after part.front (take count rest) part.written more;
}

pub Appends-all : (before now : Option (List ℕ)) (bytes rest : List ℕ) → IsPartWritten before now bytes rest → rest ≡ [] → Appends before now bytes
Appends-all before now bytes rest part done =
    let whole : part.front ≡ bytes = sym (part.spelled ∙ ap (λ xs. part.front ++ xs) done ∙ append-nil part.front) in
    subst (λ (xs : List ℕ). Appends before now xs) whole part.written

Appends-kept : (before now after : Option (List ℕ)) (bytes : List ℕ) → Appends before now bytes → Keeps now after → Appends before after bytes
Appends-kept None now after bytes p q = tt
Appends-kept (Some x) None after bytes p q = absurd p
Appends-kept (Some x) (Some y) None bytes p q = absurd q
Appends-kept (Some x) (Some y) (Some z) bytes p q = q ∙ p

pub AppendsFront-kept : (before now after : Option (List ℕ)) (bytes rest : List ℕ) → IsPartWritten before now bytes rest → Keeps now after → AppendsFront before after bytes
AppendsFront-kept before now after bytes rest part kept =
    let front : take (length part.front) bytes ≡ part.front = ap (take (length part.front)) part.spelled ∙ take_at part.front rest (length part.front) refl in
    (length part.front, subst (λ (xs : List ℕ). Appends before after xs) (sym front) (Appends-kept before now after part.front part.written kept))
