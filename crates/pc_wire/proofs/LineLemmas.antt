-- Lines: where they end, and how they are spelled.
use Rattle.std.proofs.Common.{◌≡◌, ℕ, ◌+◌, ◌-◌, ◌<◌, Bool, true, false, cond, eqb, ◌&&◌, ◌||◌, ◌⊎◌, inl, inr, List, [], ◌∷◌, ◌++◌, length, take, sym, refl, ap, ◌∙◌, arith, append_assoc, length-append, get_or}
use Rattle.std.specs.List.{onto_first}
use Rattle.std.proofs.lemmas.Bool.{or_parts, and_right, cases_Bool, eqb-true}
use Rattle.std.proofs.lemmas.List.{take_all, take_more, get_or_push}
use Rattle.pc_wire.specs.Lines.{is_feed, has_feed, with_byte, lines_of, before_feed, without_return, IsSpelling, AreSpellings}

-- a byte that is no LF, and no CR before one, belongs to the first line
with_byte-other : (byte : ℕ) (at_feed : Bool) (lines : List (List ℕ)) → is_feed byte ≡ false → at_feed ≡ false → with_byte byte at_feed lines ≡ onto_first byte lines
with_byte-other byte at_feed lines p q = rw (p, q, and_right (eqb byte 13) false refl)

-- before an LF the byte is the first line, unless it's a CR
with_byte-last : (byte : ℕ) (lines : List (List ℕ)) → is_feed byte ≡ false → with_byte byte true ([] ∷ lines) ≡ without_return (byte ∷ []) ∷ lines
with_byte-last byte lines p = rw p (by_test (eqb byte 13))
  where
    by_test : (t : Bool) → cond (t && true) ([] ∷ lines) ((byte ∷ []) ∷ lines) ≡ cond t [] (byte ∷ []) ∷ lines
    by_test true = refl
    by_test false = refl

-- a line is what stands before its LF, without one CR at its end
pub lines_of-feed : (front rest : List ℕ) → has_feed front ≡ false → lines_of (front ++ 10 ∷ rest) ≡ without_return front ∷ lines_of rest
lines_of-feed [] rest h = refl
lines_of-feed (b ∷ []) rest h = with_byte-last b (lines_of rest) (or_parts (is_feed b) false h).0
lines_of-feed (b ∷ c ∷ cs) rest h =
    let p = or_parts (is_feed b) (has_feed (c ∷ cs)) h in
    let q = or_parts (is_feed c) (has_feed cs) p.1 in
    with_byte-other b (is_feed c) (lines_of (c ∷ cs ++ 10 ∷ rest)) p.0 q.0 ∙ ap (onto_first b) (lines_of-feed (c ∷ cs) rest p.1)

-- bytes without LF are a line
pub lines_of-last : (rest : List ℕ) → has_feed rest ≡ false → 0 < length rest → lines_of rest ≡ rest ∷ []
lines_of-last [] h some = absurd (omega arith)
lines_of-last (b ∷ []) h some = with_byte-other b false [] (or_parts (is_feed b) false h).0 refl
lines_of-last (b ∷ c ∷ cs) h some =
    let p = or_parts (is_feed b) (has_feed (c ∷ cs)) h in
    let q = or_parts (is_feed c) (has_feed cs) p.1 in
    with_byte-other b (is_feed c) (lines_of (c ∷ cs)) p.0 q.0 ∙ ap (onto_first b) (lines_of-last (c ∷ cs) p.1 (omega arith))

pub has_feed-append : (front rest : List ℕ) → has_feed (front ++ rest) ≡ (has_feed front || has_feed rest)
has_feed-append [] rest = refl
has_feed-append (b ∷ bs) rest = rw (has_feed-append bs rest) (by_test (is_feed b))
  where
    by_test : (t : Bool) → (t || (has_feed bs || has_feed rest)) ≡ ((t || has_feed bs) || has_feed rest)
    by_test true = refl
    by_test false = refl

pub open-append : (front rest : List ℕ) → has_feed front ≡ false → has_feed rest ≡ false → has_feed (front ++ rest) ≡ false
open-append front rest p q = rw (has_feed-append, p) q

pub without_return-push : (line : List ℕ) → without_return (line ++ 13 ∷ []) ≡ line
without_return-push [] = refl
without_return-push (b ∷ []) = refl
without_return-push (b ∷ c ∷ cs) = ap (λ bytes. b ∷ bytes) (without_return-push (c ∷ cs))

-- either one CR is taken off, or there is none at the end
pub return_or_none : (bytes : List ℕ) → (bytes ≡ without_return bytes ++ 13 ∷ []) ⊎ (without_return bytes ≡ bytes)
return_or_none [] = inr refl
return_or_none (b ∷ []) = elim (cases_Bool (eqb b 13)) [ inl e ↦ inl (returned e) | inr e ↦ inr (rw e) ]
  where
    returned : eqb b 13 ≡ true → (b ∷ []) ≡ without_return (b ∷ []) ++ 13 ∷ []
    returned e = rw e (ap (λ byte. byte ∷ []) (eqb-true b 13 e))
return_or_none (b ∷ c ∷ cs) =
    elim (return_or_none (c ∷ cs)) [ inl e ↦ inl (ap (λ bytes. b ∷ bytes) e) | inr e ↦ inr (ap (λ bytes. b ∷ bytes) e) ]

pub open-without_return : (bytes : List ℕ) → has_feed bytes ≡ false → has_feed (without_return bytes) ≡ false
open-without_return bytes h = elim (return_or_none bytes) [
  | inl e ↦ (or_parts (has_feed (without_return bytes)) (has_feed (13 ∷ [])) (sym (has_feed-append (without_return bytes) (13 ∷ [])) ∙ sym (ap has_feed e) ∙ h)).0
  | inr e ↦ rw e h
]

-- what is spelled is a front without LF, and an LF
pub spelled : (spelling line : List ℕ) → IsSpelling spelling line → (front : List ℕ) × (has_feed front ≡ false) × (spelling ≡ front ++ 10 ∷ []) × (without_return front ≡ line)
spelled spelling line (h, inl e) =
    (line ++ 13 ∷ [], open-append line (13 ∷ []) h refl, e ∙ sym (append_assoc line (13 ∷ []) (10 ∷ [])), without_return-push line)
spelled spelling line (h, inr e) = (line, h, e.0, e.1)

pub IsSpelling-front : (front : List ℕ) → has_feed front ≡ false → IsSpelling (front ++ 10 ∷ []) (without_return front)
IsSpelling-front front h = elim (return_or_none front) [
  | inl e ↦ (open-without_return front h, inl (ap (λ bytes. bytes ++ 10 ∷ []) e ∙ append_assoc (without_return front) (13 ∷ []) (10 ∷ [])))
  | inr e ↦ (open-without_return front h, inr (ap (λ bytes. bytes ++ 10 ∷ []) (sym e), ap without_return e))
]

pub lines_of-spelling : (spelling line rest : List ℕ) → IsSpelling spelling line → lines_of (spelling ++ rest) ≡ line ∷ lines_of rest
lines_of-spelling spelling line rest h =
    let s = spelled spelling line h in
    ap (λ bytes. lines_of (bytes ++ rest)) s.2 ∙ ap lines_of (append_assoc s.0 (10 ∷ []) rest) ∙ lines_of-feed s.0 rest s.1 ∙ ap (λ l. l ∷ lines_of rest) s.3

pub lines_of-spellings : (bytes : List ℕ) (lines : List (List ℕ)) (rest : List ℕ) → AreSpellings bytes lines → lines_of (bytes ++ rest) ≡ lines ++ lines_of rest
lines_of-spellings bytes [] rest h = ap (λ all. lines_of (all ++ rest)) h
lines_of-spellings bytes (line ∷ lines) rest (spelling, (others, h)) =
    ap (λ all. lines_of (all ++ rest)) h.0 ∙ ap lines_of (append_assoc spelling others rest) ∙ lines_of-spelling spelling line (others ++ rest) h.1 ∙ ap (λ all. line ∷ all) (lines_of-spellings others lines rest h.2)

pub before_feed-feed : (front rest : List ℕ) → has_feed front ≡ false → before_feed (front ++ 10 ∷ rest) ≡ front
before_feed-feed [] rest h = refl
before_feed-feed (b ∷ bs) rest h =
    let p = or_parts (is_feed b) (has_feed bs) h in rw p.0 (ap (λ bytes. b ∷ bytes) (before_feed-feed bs rest p.1))

pub spellings_differ : (first second more other line another : List ℕ) → IsSpelling first line → IsSpelling second another → first ++ more ≡ second ++ other → (first ≡ second) × (line ≡ another)
spellings_differ first second more other line another h k e =
    let s = spelled first line h in
    let t = spelled second another k in
    let same : s.0 ≡ t.0 = sym (before_feed-feed s.0 more s.1) ∙ ap before_feed (sym (append_assoc s.0 (10 ∷ []) more)) ∙ ap (λ bytes. before_feed (bytes ++ more)) (sym s.2) ∙ ap before_feed e ∙ ap (λ bytes. before_feed (bytes ++ other)) t.2 ∙ ap before_feed (append_assoc t.0 (10 ∷ []) other) ∙ before_feed-feed t.0 other t.1 in
    (s.2 ∙ ap (λ bytes. bytes ++ 10 ∷ []) same ∙ sym t.2, sym s.3 ∙ ap without_return same ∙ t.3)

-- the last byte tells whether one is taken off
pub without_return-returned : (bytes : List ℕ) → 0 < length bytes → get_or bytes (length bytes - 1) 0 ≡ 13 → take (length bytes - 1) bytes ≡ without_return bytes
without_return-returned bytes some is =
    let front = take (length bytes - 1) bytes in
    let more : length bytes - 1 + 1 ≡ length bytes = omega arith in
    let parts : bytes ≡ front ++ 13 ∷ [] = sym (take_all (length bytes) bytes (omega arith)) ∙ ap (λ n. take n bytes) (sym more) ∙ take_more bytes (length bytes - 1) 0 (omega arith) ∙ ap (λ byte. front ++ byte ∷ []) is in
    sym (ap without_return parts ∙ without_return-push front)

pub without_return-other : (bytes : List ℕ) → (get_or bytes (length bytes - 1) 0 ≡ 13 → ⊥) → bytes ≡ without_return bytes
without_return-other bytes other = elim (return_or_none bytes) [
  | inl e ↦ absurd (other (ap (λ all. get_or all (length bytes - 1) 0) e ∙ get_or_push (without_return bytes) 13 0 (length bytes - 1) (omega (arith, ap length e, length-append (without_return bytes) (13 ∷ [])))))
  | inr e ↦ sym e
]
