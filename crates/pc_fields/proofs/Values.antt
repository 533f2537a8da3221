-- A field at the front of bytes holds one value.
use Rattle.std.proofs.Common.{◌≡◌, ℕ, ◌≤◌, nat_le, Bool, true, false, List, ◌++◌, length, IsTrue, refl, sym, ap, ◌∙◌, append_assoc, arith}
use Rattle.std.specs.Int.{w16, to_be_bytes}
use Rattle.std.proofs.lemmas.Bool.{ltb-true, leb-true, eqb-true, and_parts}
use Rattle.std.proofs.lemmas.List.{append_cancel_left}
use Rattle.pc_fields.specs.FieldBytes.{u16_field, u32_field, u64_field}
use Rattle.pc_fields.specs.Fields.{Kind, name_kind, u8_kind, u16_kind, u32_kind, u64_kind, bool_kind, digest_kind, line_kind, Held, fits, field_of}
use Rattle.pc_fields.proofs.Fields.{wide16, wide32, wide64, same_number, same_front}

same_bool : (v w : Bool) (a b : List ℕ) → field_of bool_kind v ++ a ≡ field_of bool_kind w ++ b → v ≡ w
same_bool true true a b e = refl
same_bool false false a b e = refl
same_bool true false a b e = let one : ◌≡◌ {A = ℕ} 1 0 = cc in absurd (omega arith)
same_bool false true a b e = let one : ◌≡◌ {A = ℕ} 0 1 = cc in absurd (omega arith)

pub same_value : (kind : Kind) (v w : Held kind) (a b : List ℕ) → IsTrue (fits kind v) → IsTrue (fits kind w) → field_of kind v ++ a ≡ field_of kind w ++ b → v ≡ w
unfolding u16_field u32_field u64_field
same_value name_kind v w a b f g e =
    let size : length v ≡ length w = cc in
    let text : v ++ a ≡ w ++ b = cc in
    same_front v w a b size text
same_value u8_kind v w a b f g e = cc
same_value u16_kind v w a b f g e = same_number _ wide16 v w a b (ltb-true _ _ f) (ltb-true _ _ g) e
same_value u32_kind v w a b f g e = same_number _ wide32 v w a b (ltb-true _ _ f) (ltb-true _ _ g) e
same_value u64_kind v w a b f g e = same_number _ wide64 v w a b (ltb-true _ _ f) (ltb-true _ _ g) e
same_value bool_kind v w a b f g e = same_bool v w a b e
same_value digest_kind v w a b f g e = same_front v w a b (eqb-true _ _ f ∙ sym (eqb-true _ _ g)) e
same_value line_kind v w a b f g e =
    let flat : to_be_bytes w16 (length v) ++ (v ++ a) ≡ to_be_bytes w16 (length w) ++ (w ++ b) = sym (append_assoc (to_be_bytes w16 (length v)) v a) ∙ e ∙ append_assoc (to_be_bytes w16 (length w)) w b in
    let v-short : length v ≤ 1000 = leb-true _ _ (and_parts (nat_le (length v) 1000) _ f).0 in
    let w-short : length w ≤ 1000 = leb-true _ _ (and_parts (nat_le (length w) 1000) _ g).0 in
    let size : length v ≡ length w = same_number _ wide16 (length v) (length w) (v ++ a) (w ++ b) (omega arith) (omega arith) flat in
    let heads : to_be_bytes w16 (length v) ≡ to_be_bytes w16 (length w) = ap (to_be_bytes w16) size in
    same_front v w a b size (append_cancel_left (to_be_bytes w16 (length v)) _ _ (flat ∙ ap (λ (h : List ℕ). h ++ (w ++ b)) (sym heads)))
