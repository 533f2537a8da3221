-- Replies as bytes: spellings of lines, one after another.
use Rattle.std.proofs.Common.{◌≡◌, ℕ, ◌<◌, ◌⊎◌, inl, inr, List, [], ◌∷◌, ◌++◌, length, refl, sym, ap, subst, ◌∙◌, arith, append_assoc, append-nil, length-append}
use Rattle.std.proofs.lemmas.List.{append_cancel_left}
use Rattle.pc_wire.specs.Lines.{lines_of, IsSpelling, AreSpellings}
use Rattle.pc_wire.proofs.LineLemmas.{spelled, spellings_differ, lines_of-spellings}
use Rattle.pc_reply.specs.declared.reply.Reply.{Reply}
use Rattle.pc_reply.specs.Reply.{IsSentAs, IsReply}
use Rattle.pc_reply.proofs.SentLemmas.{one_reply}

-- a spelling ends in LF
some_spelling : (spelling line : List ℕ) → IsSpelling spelling line → 0 < length spelling
some_spelling spelling line is =
    let s = spelled spelling line is in omega (arith, ap length s.2, length-append s.0 (10 ∷ []))

pub AreSpellings-append : (front rest : List ℕ) (lines more : List (List ℕ)) → AreSpellings front lines → AreSpellings rest more → AreSpellings (front ++ rest) (lines ++ more)
AreSpellings-append front rest [] more are also =
    subst (λ (bytes : List ℕ). AreSpellings (bytes ++ rest) more) (sym are) also
AreSpellings-append front rest (line ∷ lines) more (spelling, (others, are)) also =
    (spelling, (others ++ rest, (ap (λ bytes. bytes ++ rest) are.0 ∙ append_assoc spelling others rest, are.1, AreSpellings-append others rest lines more are.2 also)))

pub one_spelling : (spelling line : List ℕ) → IsSpelling spelling line → AreSpellings spelling (line ∷ [])
one_spelling spelling line is = (spelling, ([], (sym (append-nil spelling), is, refl)))

-- what follows the first lines spells the others
pub peel : (front rest : List ℕ) (lines all : List (List ℕ)) → AreSpellings front lines → AreSpellings (front ++ rest) all → (others : List (List ℕ)) × ((all ≡ lines ++ others) × AreSpellings rest others)
peel front rest [] all are also =
    (all, (refl, subst (λ (bytes : List ℕ). AreSpellings (bytes ++ rest) all) are also))
peel front rest (line ∷ lines) [] (spelling, (others, are)) also =
    absurd (omega (arith, ap length also, length-append front rest, ap length are.0, length-append spelling others, some_spelling spelling line are.1))
peel front rest (line ∷ lines) (first ∷ all) (spelling, (others, are)) (spelling', (others', also)) =
    let joined : spelling ++ (others ++ rest) ≡ spelling' ++ others' = sym (append_assoc spelling others rest) ∙ ap (λ bytes. bytes ++ rest) (sym are.0) ∙ also.0 in
    let same = spellings_differ spelling spelling' (others ++ rest) others' line first are.1 also.1 joined in
    let tails : others ++ rest ≡ others' = append_cancel_left spelling (others ++ rest) others' (joined ∙ ap (λ bytes. bytes ++ others') (sym same.0)) in
    let more = peel others rest lines all are.2 (subst (λ (bytes : List ℕ). AreSpellings bytes all) (sym tails) also.2) in
    (more.0, (ap (λ one. one ∷ all) (sym same.1) ∙ ap (λ lines. line ∷ lines) more.1.0, more.1.1))

-- texts that go on alike and spell the same lines are the same
spelled_same : (lines : List (List ℕ)) (first second more rest : List ℕ) → AreSpellings first lines → AreSpellings second lines → first ++ more ≡ second ++ rest → first ≡ second
spelled_same [] first second more rest are also e = are ∙ sym also
spelled_same (line ∷ lines) first second more rest (s, (o, are)) (t, (p, also)) e =
    let joined : s ++ (o ++ more) ≡ t ++ (p ++ rest) = sym (append_assoc s o more) ∙ ap (λ bytes. bytes ++ more) (sym are.0) ∙ e ∙ ap (λ bytes. bytes ++ rest) also.0 ∙ append_assoc t p rest in
    let same = spellings_differ s t (o ++ more) (p ++ rest) line line are.1 also.1 joined in
    let tails : o ++ more ≡ p ++ rest = append_cancel_left s (o ++ more) (p ++ rest) (joined ∙ ap (λ bytes. bytes ++ (p ++ rest)) (sym same.0)) in
    are.0 ∙ ap (λ bytes. bytes ++ o) same.0 ∙ ap (λ bytes. t ++ bytes) (spelled_same lines o p more rest are.2 also.2 tails) ∙ sym also.0

-- of two lists that go on alike one begins the other
begins_other : (xs ys more rest : List (List ℕ)) → xs ++ more ≡ ys ++ rest → ((tail : List (List ℕ)) × (ys ≡ xs ++ tail)) ⊎ ((tail : List (List ℕ)) × (xs ≡ ys ++ tail))
begins_other [] ys more rest e = inl (ys, refl)
begins_other (x ∷ xs) [] more rest e = inr (x ∷ xs, refl)
begins_other (x ∷ xs) (y ∷ ys) more rest e =
    let same : x ∷ (xs ++ more) ≡ y ∷ (ys ++ rest) = e in
    let one : x ≡ y = cc in
    let tails : xs ++ more ≡ ys ++ rest = cc in
    elim (begins_other xs ys more rest tails) [
      | inl t ↦ inl (t.0, ap (λ z. z ∷ ys) (sym one) ∙ ap (λ zs. x ∷ zs) t.1)
      | inr t ↦ inr (t.0, ap (λ z. z ∷ xs) one ∙ ap (λ zs. y ∷ zs) t.1)
    ]

-- no reply begins another, and none is two replies
pub replies_differ : (one other : Reply) (first second more rest : List ℕ) → IsReply one first → IsReply other second → first ++ more ≡ second ++ rest → (first ≡ second) × (one ≡ other)
replies_differ one other first second more rest (lines, (are, sent)) (lines', (are', sent')) e =
    let joined : lines ++ lines_of more ≡ lines' ++ lines_of rest = sym (lines_of-spellings first lines more are) ∙ ap lines_of e ∙ lines_of-spellings second lines' rest are' in
    elim (begins_other lines lines' (lines_of more) (lines_of rest) joined) [
      | inl t ↦ forth t.0 t.1
      | inr t ↦ back t.0 t.1
    ]
  where
    forth : (tail : List (List ℕ)) → lines' ≡ lines ++ tail → (first ≡ second) × (one ≡ other)
    forth tail is =
        let same = one_reply one other lines tail sent (subst (λ (all : List (List ℕ)). IsSentAs other all) is sent') in
        let equal : lines' ≡ lines = is ∙ ap (λ t. lines ++ t) same.1 ∙ append-nil lines in
        (spelled_same lines first second more rest are (subst (λ (all : List (List ℕ)). AreSpellings second all) equal are') e, same.0)

    back : (tail : List (List ℕ)) → lines ≡ lines' ++ tail → (first ≡ second) × (one ≡ other)
    back tail is =
        let same = one_reply other one lines' tail sent' (subst (λ (all : List (List ℕ)). IsSentAs one all) is sent) in
        let equal : lines ≡ lines' = is ∙ ap (λ t. lines' ++ t) same.1 ∙ append-nil lines' in
        (spelled_same lines' first second more rest (subst (λ (all : List (List ℕ)). AreSpellings first all) equal are) are' e, sym same.0)
