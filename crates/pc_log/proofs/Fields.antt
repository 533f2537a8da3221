-- A number that is read is the number that was written, and what was written is read again.
use Rattle.std.proofs.Common.{◌≡◌, ℕ, ◌+◌, ◌^◌, ◌<◌, ◌≤◌, Bool, true, false, cond, ltb, leb, ◌&&◌, List, [], ◌∷◌, ◌++◌, length, get_or, take, drop, Result, Ok, Err, refl, sym, ap, subst, ◌∙◌, append_assoc, arith, inl, inr}
use Rattle.std.specs.Int.{Width, w8, w32, w64, byte_len, from_be_bytes, to_be_bytes}
use Rattle.std.proofs.lemmas.Bool.{cases_lt, ltb-false, le-ltb, leb-true, le-leb, and_parts, and_from}
use Rattle.std.proofs.lemmas.List.{take_at, drop_at, take-append-drop, length-append, length-take, get_or-drop, get_or-take, get_or_past}
use Rattle.std.proofs.lemmas.Nat.{be_bytes_4, be_bytes_8, from_be_bytes-to_be_bytes_4, from_be_bytes-to_be_bytes_8}
use Rattle.pc_log.specs.Reading.{◌>>=◌, number_at}

-- each is a byte
abbrev pub IsBytes : List ℕ → Type 0
IsBytes bytes = (i : ℕ) → get_or bytes i 0 < 256

pub IsBytes-drop : (n : ℕ) (bytes : List ℕ) → IsBytes bytes → IsBytes (drop n bytes)
IsBytes-drop n bytes h i = rw get_or-drop (h (n + i))

pub IsBytes-take : (n : ℕ) (bytes : List ℕ) → IsBytes bytes → IsBytes (take n bytes)
IsBytes-take n bytes h i =
    elim (cases_lt i n) [
      | inl lt ↦ rw (get_or-take n bytes i 0 lt) (h i)
      | inr le ↦ rw (get_or_past (take n bytes) i 0 (omega (arith, length-take n bytes))) (omega arith)
    ]

-- the value of a step that met no fault
pub bind_ok : {A B : Type 0} (r : Result A ℕ) (f : A → Result B ℕ) (y : B) → (r >>= f) ≡ Ok y → (x : A) × (r ≡ Ok x) × (f x ≡ Ok y)
bind_ok (Ok x) f y e = (x, refl, e)
bind_ok (Err p) f y e = absurd cc

-- a test that was passed
pub guard_not : {A : Type 0} (b : Bool) (p : ℕ) (r : Result A ℕ) (y : A) → cond b (Err p) r ≡ Ok y → (b ≡ false) × (r ≡ Ok y)
guard_not true p r y e = absurd cc
guard_not false p r y e = (refl, e)

pub guard_ok : {A : Type 0} (b : Bool) (p : ℕ) (x y : A) → cond b (Ok x) (Err p) ≡ Ok y → (b ≡ true) × (x ≡ y)
guard_ok true p x y e = (refl, cc)
guard_ok false p x y e = absurd cc

-- what was taken from the front
pub record Takes (bytes text rest : List ℕ) : Type 0 where
  pub parts : bytes ≡ text ++ rest
  pub rest_fits : IsBytes rest

pub Takes-then : (a x b y c : List ℕ) → Takes a x b → Takes b y c → Takes a (x ++ y) c
Takes-then a x b y c p q = record { parts = p.parts ∙ ap (λ (t : List ℕ). x ++ t) q.parts ∙ sym (append_assoc x y c); rest_fits = q.rest_fits }

-- numbers of a width
pub record IsWide (w : Width) (limit : ℕ) : Type 0 where
  pub len : (n : ℕ) → length (to_be_bytes w n) ≡ byte_len w
  pub back : (bytes : List ℕ) → length bytes ≡ byte_len w → IsBytes bytes → to_be_bytes w (from_be_bytes w bytes) ≡ bytes
  pub again : (n : ℕ) → n < limit → from_be_bytes w (to_be_bytes w n) ≡ n

one_byte : (bytes : List ℕ) → length bytes ≡ 1 → IsBytes bytes → to_be_bytes w8 (from_be_bytes w8 bytes) ≡ bytes
one_byte [] len fits = absurd (omega arith)
one_byte (b ∷ []) len fits = ap (λ n. n ∷ []) (omega (arith, fits 0))
one_byte (b ∷ c ∷ bytes) len fits = absurd (omega arith)

pub wide8 : IsWide w8 (2 ^ 8)
wide8 = record {
  len = λ n. refl;
  back = one_byte;
  again = λ n lt. omega arith;
}

pub wide32 : IsWide w32 (2 ^ 32)
wide32 = record {
  len = λ n. refl;
  back = λ bytes len fits. be_bytes_4 bytes _ len fits refl;
  again = λ n lt. from_be_bytes-to_be_bytes_4 n lt;
}

pub wide64 : IsWide w64 (2 ^ 64)
wide64 = record {
  len = λ n. refl;
  back = λ bytes len fits. be_bytes_8 bytes _ len fits refl;
  again = λ n lt. from_be_bytes-to_be_bytes_8 n lt;
}

-- a number that was read stands there, and lies in its range
pub record TakesNumber (w : Width) (least most : ℕ) (bytes : List ℕ) (x : ℕ × List ℕ) : Type 0 where
  pub takes : Takes bytes (to_be_bytes w x.0) x.1
  pub low : least ≤ x.0
  pub high : x.0 ≤ most

pub number_takes : (w : Width) (limit : ℕ) (wide : IsWide w limit) (place least most : ℕ) (bytes : List ℕ) (x : ℕ × List ℕ) → IsBytes bytes → number_at w place least most bytes ≡ Ok x → TakesNumber w least most bytes x
number_takes w limit wide place least most bytes x fits e =
    let n : ℕ = from_be_bytes w (take (byte_len w) bytes) in
    let a = guard_not (ltb (length bytes) (byte_len w)) place (cond (leb least n && leb n most) (Ok (n, drop (byte_len w) bytes)) (Err place)) x e in
    let long : byte_len w ≤ length bytes = ltb-false _ _ a.0 in
    let b = guard_ok (leb least n && leb n most) place (n, drop (byte_len w) bytes) x a.1 in
    let within = and_parts (leb least n) (leb n most) b.0 in
    let front : to_be_bytes w n ≡ take (byte_len w) bytes = wide.back (take (byte_len w) bytes) (omega (arith, length-take (byte_len w) bytes)) (IsBytes-take (byte_len w) bytes fits) in
    let read : TakesNumber w least most bytes (n, drop (byte_len w) bytes) = record {
      takes = record { parts = rw front (sym (take-append-drop (byte_len w) bytes)); rest_fits = IsBytes-drop (byte_len w) bytes fits };
      low = leb-true _ _ within.0;
      high = leb-true _ _ within.1;
    } in
    subst (λ (y : ℕ × List ℕ). TakesNumber w least most bytes y) b.1 read

pub number_again : (w : Width) (limit : ℕ) (wide : IsWide w limit) (place least most n : ℕ) (rest : List ℕ) → n < limit → least ≤ n → n ≤ most → number_at w place least most (to_be_bytes w n ++ rest) ≡ Ok (n, rest)
number_again w limit wide place least most n rest lt low high =
    let len = wide.len n in
    let long : ltb (length (to_be_bytes w n ++ rest)) (byte_len w) ≡ false = le-ltb _ _ (omega (arith, length-append (to_be_bytes w n) rest)) in
    let within : (leb least n && leb n most) ≡ true = and_from _ _ (le-leb _ _ low) (le-leb _ _ high) in
    rw (long, take_at (to_be_bytes w n) rest (byte_len w) len, drop_at (to_be_bytes w n) rest (byte_len w) len, wide.again n lt, within) refl
