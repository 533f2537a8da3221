-- What a frame holds, and a frame that is filled.
use Rattle.std.proofs.Common.{◌≡◌, ℕ, suc, ◌+◌, ◌-◌, max, List, [], ◌∷◌, ◌++◌, length, take, drop, replicate, refl, sym, ap, ◌∙◌, subst, arith, inl, inr, length-append, append_assoc}
use Rattle.std.proofs.lemmas.List.{take_at, drop_at, drop-drop, drop-replicate, replicate-append-replicate, take_all}
use Rattle.std.specs.Int.{to_be_bytes, w32}
use Rattle.pc_base.specs.Frame.{framed, content_of, filled, IsFrame}

pub length-framed : (content : List ℕ) → length (framed content) ≡ length content + 5
length-framed content = omega (arith, length-append content (0 ∷ []))

pub content_of-framed : (content : List ℕ) → content_of (framed content) ≡ content
content_of-framed content = take_at content (0 ∷ []) (length (framed content) - 5) (omega (arith, length-framed content))

-- room for more behind what is kept
abbrev pub widened : ℕ → List ℕ → List ℕ
widened count frame = take count frame ++ replicate (count - length frame) 0

zeros : (count : ℕ) → drop {A = ℕ} count (0 ∷ replicate count 0) ≡ 0 ∷ []
zeros count =
    let one : suc count - count ≡ 1 = omega arith in
    drop-replicate {X = ℕ} count (suc count) 0 ∙ ap (λ (n : ℕ). replicate {A = ℕ} n 0) one

-- bytes over what stands behind some content, up to the last byte
laid : (head content rest bytes old : List ℕ) → length head ≡ 4 → drop (length bytes) rest ≡ 0 ∷ [] → old ≡ head ++ content ++ rest
    → filled (length content + 4) bytes old ≡ framed (content ++ bytes)
laid head content rest bytes old four last is =
    let count : length content + 4 + length bytes - 4 ≡ length (content ++ bytes) = omega (arith, length-append content bytes) in
    let within : length (head ++ content) ≡ length content + 4 = omega (arith, length-append head content) in
    let front : drop 4 (take (length content + 4) old) ≡ content =
    ap (λ xs. drop 4 (take (length content + 4) xs)) is ∙ ap (drop 4) (take_at (head ++ content) rest (length content + 4) within) ∙ drop_at head content 4 four in
    let back : drop (length content + 4 + length bytes) old ≡ 0 ∷ [] =
    sym (drop-drop (length bytes) (length content + 4) old) ∙ ap (λ xs. drop (length bytes) (drop (length content + 4) xs)) is
    ∙ ap (drop (length bytes)) (drop_at (head ++ content) rest (length content + 4) within) ∙ last in
    rw (count, front, back) refl

fresh : (bytes : List ℕ) → filled 4 bytes (widened (4 + length bytes + 1) []) ≡ framed bytes
fresh bytes =
    let four : 4 + length bytes + 1 - 0 ≡ 4 + suc (length bytes) = omega arith in
    let wide : widened (4 + length bytes + 1) [] ≡ replicate 4 0 ++ [] ++ (0 ∷ replicate (length bytes) 0) =
    ap (λ (xs : List ℕ). xs ++ replicate {A = ℕ} (4 + length bytes + 1 - 0) 0) (take_all {A = ℕ} (4 + length bytes + 1) [] (omega arith))
    ∙ ap (λ (n : ℕ). replicate {A = ℕ} n 0) four ∙ sym (replicate-append-replicate {A = ℕ} 4 (suc (length bytes)) 0) in
    laid (replicate 4 0) [] (0 ∷ replicate (length bytes) 0) bytes (widened (4 + length bytes + 1) []) refl (zeros (length bytes)) wide

more : (content bytes : List ℕ) → filled (length content + 4) bytes (widened (length content + 4 + length bytes + 1) (framed content)) ≡ framed (content ++ bytes)
more content bytes =
    let long = length-framed content in
    let kept : take (length content + 4 + length bytes + 1) (framed content) ≡ framed content = take_all _ _ (omega arith) in
    let count : length content + 4 + length bytes + 1 - length (framed content) ≡ length bytes = omega arith in
    let wide : widened (length content + 4 + length bytes + 1) (framed content) ≡ to_be_bytes w32 (length content) ++ content ++ (0 ∷ replicate (length bytes) 0) =
    rw (kept, count) (append_assoc (to_be_bytes w32 (length content) ++ content) (0 ∷ []) (replicate (length bytes) 0)) in
    laid (to_be_bytes w32 (length content)) content (0 ∷ replicate (length bytes) 0) bytes (widened (length content + 4 + length bytes + 1) (framed content)) refl (zeros (length bytes)) wide

pub filled-framed : (frame bytes : List ℕ) (at : ℕ) → IsFrame frame → at ≡ max (length frame) 5 - 1 → filled at bytes (widened (at + length bytes + 1) frame) ≡ framed (content_of frame ++ bytes)
filled-framed frame bytes at (inl none) is =
    let here : at ≡ 4 = omega (arith, ap length none) in
    let P : List ℕ → Type 0 = λ xs. filled 4 bytes (widened (4 + length bytes + 1) xs) ≡ framed (content_of xs ++ bytes) in
    let Q : ℕ → Type 0 = λ n. filled n bytes (widened (n + length bytes + 1) frame) ≡ framed (content_of frame ++ bytes) in
    subst Q (sym here) (subst P (sym none) (fresh bytes))
filled-framed frame bytes at (inr whole) is =
    let here : at ≡ length (content_of frame) + 4 = omega (arith, ap length whole, length-framed (content_of frame)) in
    let P : List ℕ → Type 0 = λ xs. filled (length (content_of frame) + 4) bytes (widened (length (content_of frame) + 4 + length bytes + 1) xs) ≡ framed (content_of frame ++ bytes) in
    let Q : ℕ → Type 0 = λ n. filled n bytes (widened (n + length bytes + 1) frame) ≡ framed (content_of frame ++ bytes) in
    subst Q (sym here) (subst P (sym whole) (more (content_of frame) bytes))
