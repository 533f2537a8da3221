-- The addresses of a message, one field on.
use Rattle.std.proofs.Common.{◌≡◌, ℕ, Bool, true, false, cond, List, [], ◌∷◌, ◌++◌, codes, refl, sym, ap, ◌∙◌}
use Rattle.std.proofs.lemmas.Bool.{or_from}
use Rattle.std.specs.List.{flat_map}
use Rattle.pc_message.specs.Collecting.{field_addresses}
use Rattle.pc_message.specs.Header.{IsField, IsHeaderEnd, header_of, is_folded, has_name, field_text, texts_of}
use Rattle.pc_message.specs.Recipients.{addresses_of, is_recipient_field, text_addresses}
use Rattle.pc_message.proofs.Collected.{StartWith}
use Rattle.pc_message.proofs.Texts.{header_of-end, texts_of-next, has_name-folded}

recipient-folded : (line : List ℕ) → is_folded line ≡ true → is_recipient_field line ≡ false
recipient-folded line folded = or_from (has_name (codes "to:") line) (has_name (codes "cc:") line) (has_name-folded 116 (codes "o:") refl line folded) (has_name-folded 99 (codes "c:") refl line folded)

pub addresses_of-next : (lines : List (List ℕ)) (line : List ℕ) (folded rest : List (List ℕ)) → IsField lines line folded rest → StartWith (addresses_of lines) (field_addresses line folded) (addresses_of rest)
unfolding addresses_of
addresses_of-next lines line folded rest field =
    let others = texts_of is_recipient_field (header_of rest) in
    let parts : flat_map text_addresses (cond (is_recipient_field line) (field_text line folded ∷ others) others) ≡ field_addresses line folded ++ addresses_of rest = elim (is_recipient_field line) as (λ (b : Bool). flat_map text_addresses (cond b (field_text line folded ∷ others) others) ≡ cond b (text_addresses (field_text line folded)) [] ++ addresses_of rest) [ true ↦ refl | false ↦ refl ] in
    record { spelled = ap (flat_map text_addresses) (texts_of-next is_recipient_field lines line folded rest recipient-folded field) ∙ parts }

pub addresses_of-end : (lines : List (List ℕ)) → IsHeaderEnd lines → addresses_of lines ≡ []
unfolding texts_of addresses_of
addresses_of-end lines end = ap (λ header. flat_map text_addresses (texts_of is_recipient_field header)) (header_of-end lines end)

pub field_addresses-text : (line text : List ℕ) (folded : List (List ℕ)) → is_recipient_field line ≡ true → text ≡ field_text line folded → text_addresses text ≡ field_addresses line folded
field_addresses-text line text folded named same = ap text_addresses same ∙ ap (λ here. cond here (text_addresses (field_text line folded)) []) (sym named)
