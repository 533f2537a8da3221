-- How many bytes fields take.
use Rattle.std.proofs.Common.{◌≡◌, ℕ, ◌+◌, ◌≤◌, ◌&&◌, nat_lt, true, List, [], ◌∷◌, ◌++◌, length, map, refl, ap, ◌∙◌, arith, length-append}
use Rattle.std.specs.List.{list_all, concat}
use Rattle.std.proofs.lemmas.Bool.{ltb-true, and_parts}
use Rattle.pc_base.specs.Name.{is_name, is_letter, is_name_byte}
use Rattle.pc_message.specs.Message.{size_of}
use Rattle.pc_fields.specs.FieldBytes.{u16_field, u32_field, u64_field, name_field, line_field, message_fields}
use Rattle.pc_fields.proofs.Loops.{concat-append}

pub name-short : (name : List ℕ) → is_name name ≡ true → length name ≤ 32
name-short [] e = omega arith
name-short (first ∷ others) e =
    let parts = and_parts (is_letter first && list_all is_name_byte others) (nat_lt (length others) 32) e in
    let few = ltb-true (length others) 32 parts.1 in
    omega (arith, few)

pub u16-long : (n : ℕ) → length (u16_field n) ≡ 2
unfolding u16_field
u16-long n = refl

pub u32-long : (n : ℕ) → length (u32_field n) ≡ 4
unfolding u32_field
u32-long n = refl

pub u64-long : (n : ℕ) → length (u64_field n) ≡ 8
unfolding u64_field
u64-long n = refl

pub lines-long : (lines : List (List ℕ)) → length (concat (map line_field lines)) ≡ size_of lines
lines-long [] = refl
lines-long (line ∷ lines) =
    omega (arith, length-append (line_field line) (concat (map line_field lines)), length-append (u16_field (length line)) line, u16-long (length line), lines-long lines)

pub message-long : (message : List (List ℕ)) → length (concat (message_fields message)) ≡ 4 + size_of message
message-long message = omega (arith, length-append (u32_field (length message)) (concat (map line_field message)), u32-long (length message), lines-long message)

-- ---- lists of fields
abbrev pub bytes : List (List ℕ) → ℕ
bytes fields = length (concat fields)

pub bytes-more : (field : List ℕ) (fields : List (List ℕ)) → bytes (field ∷ fields) ≡ length field + bytes fields
bytes-more field fields = length-append field (concat fields)

pub bytes-both : (xs ys : List (List ℕ)) → bytes (xs ++ ys) ≡ bytes xs + bytes ys
bytes-both xs ys = ap length (concat-append xs ys) ∙ length-append (concat xs) (concat ys)

pub bytes-name : (name : List ℕ) (fields : List (List ℕ)) → is_name name ≡ true → bytes (name_field name ∷ fields) ≤ 33 + bytes fields
bytes-name name fields is =
    let more = bytes-more (name_field name) fields in
    let short = name-short name is in
    omega (arith, more, short)
