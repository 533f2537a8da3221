-- Bodies: what sent lines carry, and how bodies are spelled.
use Rattle.std.proofs.Common.{◌≡◌, ℕ, suc, ◌<◌, Bool, true, false, cond, eqb, inl, inr, List, [], ◌∷◌, ◌++◌, length, map, take, drop, get_or, sym, refl, ap, ◌∙◌, arith, append_assoc}
use Rattle.std.specs.List.{AllZip, flat_map, list_any}
use Rattle.std.proofs.lemmas.Bool.{or_parts, or_from, eqb-true, false≢true}
use Rattle.std.proofs.lemmas.Grind.{flat_map-append}
use Rattle.std.proofs.lemmas.List.{append_cancel_left, take-append-drop}
use Rattle.std.proofs.Math.Seq.{drop-cons}
use Rattle.pc_wire.specs.Lines.{has_feed, lines_of, IsSpelling, AreSpellings}
use Rattle.pc_wire.specs.Body.{dot, is_dotted, Carries, IsBody, sent_as, written_line, written_content, written_body}
use Rattle.pc_wire.specs.BodyFeed.{is_dot, content_of}
use Rattle.pc_wire.proofs.LineLemmas.{lines_of-spellings, spellings_differ as one_spelling}

-- a line that begins with no dot is itself what it carries
undotted : (line : List ℕ) → is_dotted line ≡ false → (is_dot line ≡ false) × (line ≡ content_of line)
undotted [] h = (refl, refl)
undotted (b ∷ []) h = (h, rw h refl)
undotted (b ∷ c ∷ cs) h = (refl, rw h refl)

-- what carries a line isn't the dot, and carries that line alone
pub Carries-content : (sent line : List ℕ) → Carries sent line → (is_dot sent ≡ false) × (line ≡ content_of sent)
Carries-content sent line (inl (e, h)) =
    let p = undotted line h in (ap is_dot e ∙ p.0, p.1 ∙ ap content_of (sym e))
Carries-content sent line (inr (e, some)) = (ap is_dot e ∙ behind line some, sym (ap content_of e))
  where
    behind : (line : List ℕ) → 0 < length line → is_dot (46 ∷ line) ≡ false
    behind [] some = absurd (omega arith)
    behind (b ∷ bs) some = refl

-- each line but the dot carries one
pub content-Carries : (sent : List ℕ) → is_dot sent ≡ false → Carries sent (content_of sent)
content-Carries [] h = inl (refl, refl)
content-Carries (b ∷ bs) h = by_test (eqb b 46) refl
  where
    more : (bytes : List ℕ) → eqb b 46 ≡ true → is_dot (b ∷ bytes) ≡ false → 0 < length bytes
    more [] e h = absurd (false≢true (sym h ∙ e))
    more (c ∷ cs) e h = omega arith

    by_test : (t : Bool) → eqb b 46 ≡ t → Carries (b ∷ bs) (cond t bs (b ∷ bs))
    by_test true e = inr (ap (λ byte. byte ∷ bs) (eqb-true b 46 e), more bs e h)
    by_test false e = inl (refl, e)

-- the same for lists of lines
pub AllZip-contents : (sent lines : List (List ℕ)) → AllZip Carries sent lines → (list_any is_dot sent ≡ false) × (lines ≡ map content_of sent)
AllZip-contents [] [] h = (refl, refl)
AllZip-contents [] (l ∷ ls) h = absurd h
AllZip-contents (s ∷ ss) [] h = absurd h
AllZip-contents (s ∷ ss) (l ∷ ls) (one, more) =
    let p = Carries-content s l one in
    let q = AllZip-contents ss ls more in
    (or_from (is_dot s) (list_any is_dot ss) p.0 q.0, rw (p.1, q.1) refl)

pub contents-AllZip : (sent : List (List ℕ)) → list_any is_dot sent ≡ false → AllZip Carries sent (map content_of sent)
contents-AllZip [] h = tt
contents-AllZip (s ∷ ss) h =
    let p = or_parts (is_dot s) (list_any is_dot ss) h in (content-Carries s p.0, contents-AllZip ss p.1)

-- a line is carried by what is sent for it
sent_as-Carries : (line : List ℕ) → Carries (sent_as line) line
sent_as-Carries line = by_test (is_dotted line) refl
  where
    some : (line : List ℕ) → is_dotted line ≡ true → 0 < length line
    some [] e = absurd (false≢true e)
    some (b ∷ bs) e = omega arith

    by_test : (t : Bool) → is_dotted line ≡ t → Carries (cond t (46 ∷ line) line) line
    by_test true e = inr (refl, some line e)
    by_test false e = inl (refl, e)

open-sent_as : (line : List ℕ) → has_feed line ≡ false → has_feed (sent_as line) ≡ false
open-sent_as line h = by_test (is_dotted line)
  where
    by_test : (t : Bool) → has_feed (cond t (46 ∷ line) line) ≡ false
    by_test true = h
    by_test false = h

pub sent_as-AllZip : (lines : List (List ℕ)) → AllZip Carries (map sent_as lines) lines
sent_as-AllZip [] = tt
sent_as-AllZip (l ∷ ls) = (sent_as-Carries l, sent_as-AllZip ls)

pub written-spelled : (lines : List (List ℕ)) → list_any has_feed lines ≡ false → AreSpellings (written_body lines) (map sent_as lines ++ dot ∷ [])
written-spelled [] h = (written_line dot, ([], (refl, (refl, inl refl), refl)))
written-spelled (l ∷ ls) h =
    let p = or_parts (has_feed l) (list_any has_feed ls) h in
    (written_content l, (written_body ls, (append_assoc (written_content l) (flat_map written_content ls) (written_line dot), (open-sent_as l p.0, inl refl), written-spelled ls p.1)))

pub written_is_body : (lines : List (List ℕ)) → list_any has_feed lines ≡ false → IsBody lines (written_body lines)
written_is_body lines h = (map sent_as lines, (sent_as-AllZip lines, written-spelled lines h))

-- a text that begins with a body has its sent lines first, and then the dot
pub lines_of-body : (sent : List (List ℕ)) (bytes rest : List ℕ) → AreSpellings bytes (sent ++ dot ∷ []) → lines_of (bytes ++ rest) ≡ sent ++ dot ∷ lines_of rest
lines_of-body sent bytes rest h =
    lines_of-spellings bytes (sent ++ dot ∷ []) rest h ∙ append_assoc sent (dot ∷ []) (lines_of rest)

-- two texts that go on alike begin with one spelling, and go on alike behind it
alike : (first second more other : List ℕ) (spelling left another right line text : List ℕ) → first ≡ spelling ++ left → second ≡ another ++ right → IsSpelling spelling line → IsSpelling another text → first ++ more ≡ second ++ other → (spelling ≡ another) × (line ≡ text) × (left ++ more ≡ right ++ other)
alike first second more other spelling left another right line text p q h k e =
    let joined : spelling ++ (left ++ more) ≡ another ++ (right ++ other) = sym (append_assoc spelling left more) ∙ ap (λ bytes. bytes ++ more) (sym p) ∙ e ∙ ap (λ bytes. bytes ++ other) q ∙ append_assoc another right other in
    let one = one_spelling spelling another (left ++ more) (right ++ other) line text h k joined in
    (one.0, one.1, append_cancel_left spelling (left ++ more) (right ++ other) (joined ∙ ap (λ bytes. bytes ++ (right ++ other)) (sym one.0)))

-- spellings of lines and then of the first dot, which go on alike, are the same
pub spelled_alike : (sent others : List (List ℕ)) (first second more other : List ℕ) → list_any is_dot sent ≡ false → list_any is_dot others ≡ false → AreSpellings first (sent ++ dot ∷ []) → AreSpellings second (others ++ dot ∷ []) → first ++ more ≡ second ++ other → (first ≡ second) × (sent ≡ others)
spelled_alike [] [] first second more other h k (s, (l, p)) (t, (r, q)) e =
    let same = alike first second more other s l t r dot dot p.0 q.0 p.1 q.1 e in
    (p.0 ∙ ap (λ bytes. bytes ++ l) same.0 ∙ ap (λ bytes. t ++ bytes) (p.2 ∙ sym q.2) ∙ sym q.0, refl)
spelled_alike [] (y ∷ ys) first second more other h k (s, (l, p)) (t, (r, q)) e =
    let same = alike first second more other s l t r dot y p.0 q.0 p.1 q.1 e in
    absurd (false≢true (sym (or_parts (is_dot y) (list_any is_dot ys) k).0 ∙ sym (ap is_dot same.1)))
spelled_alike (x ∷ xs) [] first second more other h k (s, (l, p)) (t, (r, q)) e =
    let same = alike first second more other s l t r x dot p.0 q.0 p.1 q.1 e in
    absurd (false≢true (sym (or_parts (is_dot x) (list_any is_dot xs) h).0 ∙ ap is_dot same.1))
spelled_alike (x ∷ xs) (y ∷ ys) first second more other h k (s, (l, p)) (t, (r, q)) e =
    let same = alike first second more other s l t r x y p.0 q.0 p.1 q.1 e in
    let rest = spelled_alike xs ys l r more other (or_parts (is_dot x) (list_any is_dot xs) h).1 (or_parts (is_dot y) (list_any is_dot ys) k).1 p.2 q.2 same.2 in
    (p.0 ∙ ap (λ bytes. bytes ++ l) same.0 ∙ ap (λ bytes. t ++ bytes) rest.0 ∙ sym q.0, rw (same.1, rest.1) refl)

pub bodies_differ : (first second more other : List ℕ) (lines others : List (List ℕ)) → IsBody lines first → IsBody others second → first ++ more ≡ second ++ other → (first ≡ second) × (lines ≡ others)
bodies_differ first second more other lines others (sent, (carry, spelled)) (sent', (carry', spelled')) e =
    let p = AllZip-contents sent lines carry in
    let q = AllZip-contents sent' others carry' in
    let same = spelled_alike sent sent' first second more other p.0 q.0 spelled spelled' e in
    (same.0, p.1 ∙ ap (map content_of) same.1 ∙ sym q.1)

written_body-append : (front rest : List (List ℕ)) → written_body (front ++ rest) ≡ flat_map written_content front ++ written_body rest
written_body-append front rest =
    ap (λ bytes. bytes ++ written_line dot) (flat_map-append written_content front rest) ∙ append_assoc (flat_map written_content front) (flat_map written_content rest) (written_line dot)

-- a written body, cut behind the line at a place
pub written_body-cut : (lines : List (List ℕ)) (place : ℕ) (line : List ℕ) → place < length lines → line ≡ get_or lines place line → written_body lines ≡ (flat_map written_content (take place lines) ++ written_content line) ++ written_body (drop (suc place) lines)
written_body-cut lines place line within is =
    let front = take place lines in
    let rest = drop (suc place) lines in
    let parts : lines ≡ front ++ line ∷ rest = sym (take-append-drop place lines) ∙ ap (λ more. front ++ more) (drop-cons lines place line within ∙ ap (λ at. at ∷ rest) (sym is)) in
    ap written_body parts ∙ written_body-append front (line ∷ rest) ∙ ap (λ bytes. flat_map written_content front ++ bytes) (append_assoc (written_content line) (flat_map written_content rest) (written_line dot)) ∙ sym (append_assoc (flat_map written_content front) (written_content line) (written_body rest))
