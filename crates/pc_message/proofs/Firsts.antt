-- The first text of each name, as the fields are read one after another.
use Rattle.std.proofs.Common.{◌≡◌, ◌*◌, ◌≤◌, ℕ, Bool, true, false, cond, List, [], ◌∷◌, length, take, get_or, codes, Option, Some, None, unwrap_or, MatchOption, refl, sym, ap, ◌∙◌, arith}
use Rattle.std.specs.Char.{to_ascii_lowercase}
use Rattle.pc_message.specs.Descriptor.{descriptor_of, first_text, first_kept}
use Rattle.pc_message.specs.declared.descriptor.Descriptor.{Descriptor}
use Rattle.pc_message.specs.Header.{IsField, IsHeaderEnd, header_of, is_blank, has_name, field_text, texts_of}
use Rattle.pc_message.specs.Message.{size_of}
use Rattle.pc_message.proofs.Texts.{header_of-end, texts_of-next, has_name-folded}

-- the first text of this name is kept, or is that of the rest
pub record IsKept (name : List ℕ) (message : List (List ℕ)) (kept : Option (List ℕ)) (rest : List (List ℕ)) : Type 0 where
  pub same : first_text name message ≡ unwrap_or kept (first_text name rest)

pub IsKept-none : (name : List ℕ) (message : List (List ℕ)) → IsKept name message None message
IsKept-none name message = record { same = refl }

pub IsKept-next : (first : ℕ) (name : List ℕ) (message : List (List ℕ)) (kept new : Option (List ℕ)) (rest : List (List ℕ)) (line : List ℕ) (folded after : List (List ℕ)) → is_blank (to_ascii_lowercase first) ≡ false → IsKept (first ∷ name) message kept rest → IsField rest line folded after → new ≡ first_kept kept (has_name (first ∷ name) line) (take 128 (field_text line folded)) → IsKept (first ∷ name) message new after
IsKept-next first name message (Some text) new rest line folded after sharp was field step =
    record { same = was.same ∙ ap (λ kept. unwrap_or kept (first_text (first ∷ name) after)) (sym step) }
IsKept-next first name message None new rest line folded after sharp was field step =
    let named = has_name (first ∷ name) line in
    let others = texts_of (has_name (first ∷ name)) (header_of after) in
    let next : first_text (first ∷ name) rest ≡ take 128 (get_or (cond named (field_text line folded ∷ others) others) 0 []) = ap (λ texts. take 128 (get_or texts 0 [])) (texts_of-next (has_name (first ∷ name)) rest line folded after (has_name-folded first name sharp) field) in
    let here : take 128 (get_or (cond named (field_text line folded ∷ others) others) 0 []) ≡ unwrap_or (first_kept None named (take 128 (field_text line folded))) (first_text (first ∷ name) after) = elim named as (λ (b : Bool). take 128 (get_or (cond b (field_text line folded ∷ others) others) 0 []) ≡ unwrap_or (first_kept None b (take 128 (field_text line folded))) (first_text (first ∷ name) after)) [ true ↦ refl | false ↦ refl ] in
    record { same = was.same ∙ next ∙ here ∙ ap (λ kept. unwrap_or kept (first_text (first ∷ name) after)) (sym step) }

first_text-end : (name : List ℕ) (rest : List (List ℕ)) → IsHeaderEnd rest → first_text name rest ≡ []
unfolding texts_of
first_text-end name rest end = ap (λ header. take 128 (get_or (texts_of (has_name name) header) 0 [])) (header_of-end rest end)

pub IsKept-end : (name : List ℕ) (message : List (List ℕ)) (kept : Option (List ℕ)) (rest : List (List ℕ)) (line : List ℕ) → IsKept name message kept rest → IsHeaderEnd rest → MatchOption kept (line ≡ []) (λ first. line ≡ first) → line ≡ first_text name message
IsKept-end name message None rest line was end told = told ∙ sym (was.same ∙ first_text-end name rest end)
IsKept-end name message (Some text) rest line was end told = told ∙ sym was.same

-- the first texts of the four names
pub record AreKept (message : List (List ℕ)) (date from to subject : Option (List ℕ)) (rest : List (List ℕ)) : Type 0 where
  pub date_kept : IsKept (codes "date:") message date rest
  pub from_kept : IsKept (codes "from:") message from rest
  pub to_kept : IsKept (codes "to:") message to rest
  pub subject_kept : IsKept (codes "subject:") message subject rest

-- each line takes two bytes at least
pub length-le-size_of : (lines : List (List ℕ)) → 2 * length lines ≤ size_of lines
length-le-size_of [] = omega arith
length-le-size_of (line ∷ lines) = omega (arith, length-le-size_of lines)

pub descriptor_of-built : (message lines : List (List ℕ)) (uid flags bytes : ℕ) (date from to subject : List ℕ) → lines ≡ message → bytes ≡ size_of message → date ≡ first_text (codes "date:") lines → from ≡ first_text (codes "from:") lines → to ≡ first_text (codes "to:") lines → subject ≡ first_text (codes "subject:") lines → ◌≡◌ {A = Descriptor} (record { uid = uid; flags = flags; bytes = bytes; lines = length lines; date = date; from = from; to = to; subject = subject }) (descriptor_of message uid flags)
unfolding descriptor_of
descriptor_of-built message lines uid flags bytes date from to subject same size d f t s = rw (d, f, t, s, size, same) refl
