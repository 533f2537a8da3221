-- What stands at the front of bytes.
use Rattle.std.proofs.Common.{◌≡◌, ℕ, ◌+◌, ◌-◌, ◌<◌, ◌≤◌, not, Bool, true, false, cond, ltb, nat_le, List, ◌++◌, length, get_or, take, drop, Option, Some, None, IsTrue, refl, sym, ap, subst, ◌∙◌, append_assoc, arith, inl, inr}
use Rattle.std.specs.Int.{Width, w16, w32, w64, byte_len, from_be_bytes, to_be_bytes}
use Rattle.std.proofs.lemmas.Bool.{both_ways, not-true, eq-eqb, cases_lt, ltb-true, ltb-false, lt-ltb, leb-true, and_parts}
use Rattle.std.proofs.lemmas.List.{take_rest, drop-drop, length-drop, take_at, drop_at, take-append-drop, length-append, length-take, get_or-take, get_or_past}
use Rattle.std.proofs.lemmas.Nat.{be_bytes_2, be_bytes_4, be_bytes_8, from_be_bytes-to_be_bytes_2, from_be_bytes-to_be_bytes_4, from_be_bytes-to_be_bytes_8}
use Rattle.pc_base.specs.Line.{is_line, has_feed}
use Rattle.pc_fields.specs.FieldBytes.{u16_field, u32_field, u64_field, line_field}
use Rattle.pc_fields.specs.Fields.{u16_kind, u32_kind, u64_kind, line_kind, digest_kind, any, has_room, Takes, NoneIsAt, number_at}

abbrev pub IsBytes : List ℕ → Type 0
IsBytes bytes = (i : ℕ) → get_or bytes i 0 < 256

IsBytes-take : (n : ℕ) (bytes : List ℕ) → IsBytes bytes → IsBytes (take n bytes)
IsBytes-take n bytes h i =
    elim (cases_lt i n) [
      | inl lt ↦ rw (get_or-take n bytes i 0 lt) (h i)
      | inr le ↦ rw (get_or_past (take n bytes) i 0 (omega (arith, length-take n bytes))) (omega arith)
    ]

-- numbers of a width
pub record IsWide (w : Width) (limit : ℕ) : Type 0 where
  pub len : (n : ℕ) → length (to_be_bytes w n) ≡ byte_len w
  pub back : (bytes : List ℕ) → length bytes ≡ byte_len w → IsBytes bytes → to_be_bytes w (from_be_bytes w bytes) ≡ bytes
  pub again : (n : ℕ) → n < limit → from_be_bytes w (to_be_bytes w n) ≡ n

pub wide16 : IsWide w16 65536
wide16 = record {
  len = λ n. refl;
  back = λ bytes len fits. be_bytes_2 bytes _ len fits refl;
  again = λ n lt. from_be_bytes-to_be_bytes_2 n lt;
}

pub wide32 : IsWide w32 4294967296
wide32 = record {
  len = λ n. refl;
  back = λ bytes len fits. be_bytes_4 bytes _ len fits refl;
  again = λ n lt. from_be_bytes-to_be_bytes_4 n lt;
}

pub wide64 : IsWide w64 18446744073709551616
wide64 = record {
  len = λ n. refl;
  back = λ bytes len fits. be_bytes_8 bytes _ len fits refl;
  again = λ n lt. from_be_bytes-to_be_bytes_8 n lt;
}

-- two fronts of one length are one
pub same_front : (a b x y : List ℕ) → length a ≡ length b → a ++ x ≡ b ++ y → a ≡ b
same_front a b x y len e = sym (take_at a x (length b) len) ∙ ap (take (length b)) e ∙ take_at b y (length b) refl

-- a number at the front of bytes is one
pub same_number : {w : Width} (limit : ℕ) → IsWide w limit → (m n : ℕ) (x y : List ℕ) → m < limit → n < limit → to_be_bytes w m ++ x ≡ to_be_bytes w n ++ y → m ≡ n
same_number {w} limit wide m n x y mfits nfits e =
    let same = same_front (to_be_bytes w m) (to_be_bytes w n) x y (wide.len m ∙ sym (wide.len n)) e in
    sym (wide.again m mfits) ∙ ap (from_be_bytes w) same ∙ wide.again n nfits

guard_some : (b : Bool) (x n : ℕ) → ◌≡◌ {A = Option ℕ} (Some n) (cond b None (Some x)) → (b ≡ false) × (n ≡ x)
guard_some true x n e = absurd cc
guard_some false x n e = (refl, cc)

guard_none : (b : Bool) (x : ℕ) → ◌≡◌ {A = Option ℕ} None (cond b None (Some x)) → b ≡ true
guard_none true x e = refl
guard_none false x e = absurd cc

pub record FrontNumber (w : Width) (bytes : List ℕ) (n : ℕ) : Type 0 where
  pub long : byte_len w ≤ length bytes
  pub split : bytes ≡ to_be_bytes w n ++ drop (byte_len w) bytes

-- the number that is found stands at the front
pub front_number : {w : Width} (limit : ℕ) → IsWide w limit → (bytes : List ℕ) (n : ℕ) → IsBytes bytes → ◌≡◌ {A = Option ℕ} (Some n) (number_at w bytes) → FrontNumber w bytes n
front_number {w} limit wide bytes n fits e =
    let g = guard_some (ltb (length bytes) (byte_len w)) (from_be_bytes w (take (byte_len w) bytes)) n e in
    let enough : byte_len w ≤ length bytes = ltb-false _ _ g.0 in
    let size : length (take (byte_len w) bytes) ≡ byte_len w = omega (arith, length-take (byte_len w) bytes) in
    let front : to_be_bytes w n ≡ take (byte_len w) bytes = ap (to_be_bytes w) g.1 ∙ wide.back (take (byte_len w) bytes) size (IsBytes-take (byte_len w) bytes fits) in
    record { long = enough; split = sym (take-append-drop (byte_len w) bytes) ∙ ap (λ (t : List ℕ). t ++ drop (byte_len w) bytes) (sym front) }

-- where none is found none stands
pub no_number : {w : Width} (limit : ℕ) → IsWide w limit → (bytes : List ℕ) (n : ℕ) (x : List ℕ) → ◌≡◌ {A = Option ℕ} None (number_at w bytes) → bytes ≡ to_be_bytes w n ++ x → ⊥
no_number {w} limit wide bytes n x e split =
    let short : length bytes < byte_len w = ltb-true _ _ (guard_none (ltb (length bytes) (byte_len w)) (from_be_bytes w (take (byte_len w) bytes)) e) in
    omega (arith, ap length split, length-append (to_be_bytes w n) x, wide.len n)

pub none_16 : (test : ℕ → Bool) (bytes : List ℕ) → ◌≡◌ {A = Option ℕ} None (number_at w16 bytes) → NoneIsAt u16_kind test bytes
unfolding u16_field
none_16 test bytes e = λ value rest t. no_number _ wide16 bytes value rest e t.split

pub none_32 : (test : ℕ → Bool) (bytes : List ℕ) → ◌≡◌ {A = Option ℕ} None (number_at w32 bytes) → NoneIsAt u32_kind test bytes
unfolding u32_field
none_32 test bytes e = λ value rest t. no_number _ wide32 bytes value rest e t.split

pub none_64 : (test : ℕ → Bool) (bytes : List ℕ) → ◌≡◌ {A = Option ℕ} None (number_at w64 bytes) → NoneIsAt u64_kind test bytes
unfolding u64_field
none_64 test bytes e = λ value rest t. no_number _ wide64 bytes value rest e t.split

-- the number passes the test
pub some_16 : (test : ℕ → Bool) (bytes : List ℕ) (n : ℕ) → IsBytes bytes → n < 65536 → ◌≡◌ {A = Option ℕ} (Some n) (number_at w16 bytes) → test n ≡ true → Takes u16_kind test bytes n (drop 2 bytes) × (2 ≤ length bytes)
unfolding u16_field
some_16 test bytes n fits lt e passes =
    let front = front_number _ wide16 bytes n fits e in
    (record { fit = lt-ltb _ _ lt; passed = passes; split = front.split }, front.long)

pub some_32 : (test : ℕ → Bool) (bytes : List ℕ) (n : ℕ) → IsBytes bytes → n < 4294967296 → ◌≡◌ {A = Option ℕ} (Some n) (number_at w32 bytes) → test n ≡ true → Takes u32_kind test bytes n (drop 4 bytes) × (4 ≤ length bytes)
unfolding u32_field
some_32 test bytes n fits lt e passes =
    let front = front_number _ wide32 bytes n fits e in
    (record { fit = lt-ltb _ _ lt; passed = passes; split = front.split }, front.long)

pub some_64 : (test : ℕ → Bool) (bytes : List ℕ) (n : ℕ) → IsBytes bytes → n < 18446744073709551616 → ◌≡◌ {A = Option ℕ} (Some n) (number_at w64 bytes) → test n ≡ true → Takes u64_kind test bytes n (drop 8 bytes) × (8 ≤ length bytes)
unfolding u64_field
some_64 test bytes n fits lt e passes =
    let front = front_number _ wide64 bytes n fits e in
    (record { fit = lt-ltb _ _ lt; passed = passes; split = front.split }, front.long)

-- it doesn't pass
pub other_16 : (test : ℕ → Bool) (bytes : List ℕ) (n : ℕ) → IsBytes bytes → n < 65536 → ◌≡◌ {A = Option ℕ} (Some n) (number_at w16 bytes) → test n ≡ false → NoneIsAt u16_kind test bytes
unfolding u16_field
other_16 test bytes n fits lt e fails = λ value rest t.
    let same : value ≡ n = same_number _ wide16 value n rest (drop 2 bytes) (ltb-true _ _ t.fit) lt (sym t.split ∙ (front_number _ wide16 bytes n fits e).split) in
    let clash : test n ≡ true = subst (λ (k : ℕ). test k ≡ true) same t.passed in
    absurd cc

pub other_32 : (test : ℕ → Bool) (bytes : List ℕ) (n : ℕ) → IsBytes bytes → n < 4294967296 → ◌≡◌ {A = Option ℕ} (Some n) (number_at w32 bytes) → test n ≡ false → NoneIsAt u32_kind test bytes
unfolding u32_field
other_32 test bytes n fits lt e fails = λ value rest t.
    let same : value ≡ n = same_number _ wide32 value n rest (drop 4 bytes) (ltb-true _ _ t.fit) lt (sym t.split ∙ (front_number _ wide32 bytes n fits e).split) in
    let clash : test n ≡ true = subst (λ (k : ℕ). test k ≡ true) same t.passed in
    absurd cc

pub other_64 : (test : ℕ → Bool) (bytes : List ℕ) (n : ℕ) → IsBytes bytes → n < 18446744073709551616 → ◌≡◌ {A = Option ℕ} (Some n) (number_at w64 bytes) → test n ≡ false → NoneIsAt u64_kind test bytes
unfolding u64_field
other_64 test bytes n fits lt e fails = λ value rest t.
    let same : value ≡ n = same_number _ wide64 value n rest (drop 8 bytes) (ltb-true _ _ t.fit) lt (sym t.split ∙ (front_number _ wide64 bytes n fits e).split) in
    let clash : test n ≡ true = subst (λ (k : ℕ). test k ≡ true) same t.passed in
    absurd cc

-- what a line's field says of the bytes
line_split : (bytes value rest : List ℕ) → bytes ≡ line_field value ++ rest → bytes ≡ to_be_bytes w16 (length value) ++ (value ++ rest)
unfolding u16_field
line_split bytes value rest split = split ∙ append_assoc (to_be_bytes w16 (length value)) value rest

short_line : (line : List ℕ) → IsTrue (is_line line) → length line ≤ 1000
short_line line is = leb-true _ _ (and_parts (nat_le (length line) 1000) _ is).0

pub no_line : (test : List ℕ → Bool) (bytes : List ℕ) → ◌≡◌ {A = Option ℕ} None (number_at w16 bytes) → NoneIsAt line_kind test bytes
no_line test bytes e = λ value rest t. no_number _ wide16 bytes (length value) (value ++ rest) e (line_split bytes value rest t.split)

pub record IsLineAt (bytes : List ℕ) (n : ℕ) (value rest : List ℕ) : Type 0 where
  pub size : length value ≡ n
  pub text : drop 2 bytes ≡ value ++ rest

line_at : (test : List ℕ → Bool) (bytes : List ℕ) (n : ℕ) → IsBytes bytes → n < 65536 → ◌≡◌ {A = Option ℕ} (Some n) (number_at w16 bytes) → (value rest : List ℕ) → Takes line_kind test bytes value rest → IsLineAt bytes n value rest
line_at test bytes n fits lt e value rest t =
    let front = front_number _ wide16 bytes n fits e in
    let split = line_split bytes value rest t.split in
    let few : length value < 65536 = omega (arith, short_line value t.fit) in
    let same : length value ≡ n = same_number _ wide16 (length value) n (value ++ rest) (drop 2 bytes) few lt (sym split ∙ front.split) in
    record { size = same; text = ap (drop 2) split ∙ drop_at (to_be_bytes w16 (length value)) (value ++ rest) 2 (wide16.len (length value)) }

pub crowded : (room : ℕ) (bytes : List ℕ) (n : ℕ) → IsBytes bytes → n < 65536 → ◌≡◌ {A = Option ℕ} (Some n) (number_at w16 bytes) → room < n → NoneIsAt line_kind (has_room room) bytes
crowded room bytes n fits lt e more = λ value rest t.
    let at = line_at (has_room room) bytes n fits lt e value rest t in
    omega (arith, at.size, leb-true _ _ t.passed)

pub cut_line : (test : List ℕ → Bool) (bytes : List ℕ) (n : ℕ) → IsBytes bytes → n < 65536 → ◌≡◌ {A = Option ℕ} (Some n) (number_at w16 bytes) → length (drop 2 bytes) < n → NoneIsAt line_kind test bytes
cut_line test bytes n fits lt e short = λ value rest t.
    let at = line_at test bytes n fits lt e value rest t in
    omega (arith, at.size, ap length at.text, length-append value rest)

pub other_line : (test : List ℕ → Bool) (bytes : List ℕ) (n : ℕ) → IsBytes bytes → n < 65536 → ◌≡◌ {A = Option ℕ} (Some n) (number_at w16 bytes) → (found : List ℕ) → found ≡ take n (drop 2 bytes) → (IsTrue (is_line found) → ⊥) → NoneIsAt line_kind test bytes
other_line test bytes n fits lt e found is other = λ value rest t.
    let at = line_at test bytes n fits lt e value rest t in
    let text : found ≡ value = is ∙ ap (take n) at.text ∙ take_at value rest n at.size in
    other (subst (λ (line : List ℕ). IsTrue (is_line line)) (sym text) t.fit)

-- such bytes are no line
pub long_text : (text : List ℕ) → 1000 < length text → IsTrue (is_line text) → ⊥
long_text text long is = omega (arith, short_line text is)

pub fed_text : (text : List ℕ) → IsTrue (has_feed text) → IsTrue (is_line text) → ⊥
fed_text text fed is = both_ways (has_feed text) (not-true _ (and_parts (nat_le (length text) 1000) (not (has_feed text)) is).1) fed

-- the text behind the two bytes of its length
pub text_is : (bytes : List ℕ) (n : ℕ) → take n (take (length bytes - 2) (drop 2 bytes)) ≡ take n (drop 2 bytes)
text_is bytes n = ap (take n) (take_rest bytes 2)

pub a_line : (test : List ℕ → Bool) (bytes : List ℕ) (n : ℕ) → IsBytes bytes → ◌≡◌ {A = Option ℕ} (Some n) (number_at w16 bytes) → n ≤ length (drop 2 bytes) → (line : List ℕ) → line ≡ take n (drop 2 bytes) → IsTrue (is_line line) → test line ≡ true → Takes line_kind test bytes line (drop (length line + 2) bytes) × (length line + 2 ≤ length bytes)
unfolding u16_field
a_line test bytes n fits e long line is fit passes =
    let front = front_number _ wide16 bytes n fits e in
    let size : length line ≡ n = omega (arith, ap length is, length-take n (drop 2 bytes)) in
    let whole : line ++ drop (length line + 2) bytes ≡ drop 2 bytes = ap (λ (k : ℕ). line ++ drop k bytes) (let k : length line + 2 ≡ 2 + n = omega arith in k) ∙ ap (λ (t : List ℕ). line ++ t) (sym (drop-drop n 2 bytes)) ∙ ap (λ (t : List ℕ). t ++ drop n (drop 2 bytes)) is ∙ take-append-drop n (drop 2 bytes) in
    let split : bytes ≡ (to_be_bytes w16 (length line) ++ line) ++ drop (length line + 2) bytes = front.split ∙ ap (λ (t : List ℕ). to_be_bytes w16 n ++ t) (sym whole) ∙ ap (λ (k : ℕ). to_be_bytes w16 k ++ (line ++ drop (length line + 2) bytes)) (sym size) ∙ sym (append_assoc (to_be_bytes w16 (length line)) line (drop (length line + 2) bytes)) in
    (record { fit = fit; passed = passes; split = split }, omega (arith, length-drop 2 bytes, front.long))

-- the first bytes are a digest
pub a_digest : (bytes digest : List ℕ) → length digest ≡ 32 → digest ≡ take 32 bytes → Takes digest_kind any bytes digest (drop 32 bytes)
a_digest bytes digest size is = record {
  fit = eq-eqb _ _ size;
  passed = refl;
  split = sym (take-append-drop 32 bytes) ∙ ap (λ (t : List ℕ). t ++ drop 32 bytes) (sym is);
}
