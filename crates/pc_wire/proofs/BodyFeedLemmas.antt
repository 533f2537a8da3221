-- Body feeds: what they hold after the lines that came, and what a dot is answered.
use Rattle.std.proofs.Common.{◌≡◌, ℕ, ◌+◌, ◌↔◌, Bool, true, false, cond, leb, ◌||◌, ◌&&◌, ◌⊎◌, inl, inr, List, [], ◌∷◌, ◌++◌, Some, None, Result, Ok, Err, length, map, sym, refl, ap, subst, ◌∙◌, arith, append_assoc, length-append}
use Rattle.std.specs.Prelude.{is_none}
use Rattle.std.specs.List.{AllZip, list_any}
use Rattle.std.proofs.Math.Bool.{or-true}
use Rattle.std.proofs.lemmas.Bool.{or_parts, or_from, and_parts, false≢true, MatchBool-at_false}
use Rattle.std.proofs.lemmas.Bool.Decides.{nat_tests}
use Rattle.std.proofs.lemmas.List.{append-nil}
use Rattle.std.proofs.lemmas.List.Folds.{list_any-append}
use Rattle.pc_base.specs.declared.failure.Memory.{Memory}
use Rattle.pc_wire.specs.Lines.{has_feed, lines_of, AreSpellings}
use Rattle.pc_wire.specs.Body.{dot, Carries, IsBody, sent_as, written_body, size_of}
use Rattle.pc_wire.specs.BodyFeed.{Sent, sent_within, all_fit, is_dot, is_end, content_of, contents, has_long, is_within, whole_within, answer_after, answer_within, IsSized, CameAs, IsAnswer, BodyState, after, wanting, with_line, joined, Joins, Ends, TakesLine, TakesAll}
use Rattle.pc_wire.specs.declared.body_feed.BodyStep.{BodyStep}
use Rattle.pc_wire.specs.declared.body_feed.BodyStep.TheVariants.{More, Whole, LineTooLong, TooLarge}
use Rattle.pc_wire.proofs.BodyLemmas.{AllZip-contents, content-Carries, lines_of-body, sent_as-AllZip, written-spelled}

pub size_of-push : (lines : List (List ℕ)) (line : List ℕ) → size_of (lines ++ line ∷ []) ≡ size_of lines + length line + 2
size_of-push [] line = omega arith
size_of-push (l ∷ ls) line = omega (arith, size_of-push ls line)

-- the size that is kept is that of the lines
size_is : (so_far : Result BodyStep Memory) (stored : ℕ) (lines : List (List ℕ)) → so_far ≡ Ok (Whole lines) → IsSized so_far stored → stored ≡ size_of lines
size_is so_far stored lines is sized = rw is at sized

-- one more line is kept, or passes a number
pub with_line-is : (most_bytes most_lines stored size : ℕ) (so_far : Result BodyStep Memory) (step : BodyStep) (lines items : List (List ℕ)) (line content : List ℕ) (is_within : Bool) → so_far ≡ Ok step → step ≡ Whole lines → IsSized so_far stored → size ≡ stored → content ≡ content_of line → items ≡ lines → is_within ≡ (leb (size + length content + 2) most_bytes && leb (length items + 1) most_lines) → with_line most_bytes most_lines so_far (Some line) ≡ Ok (cond is_within (Whole (lines ++ content ∷ [])) TooLarge)
with_line-is most_bytes most_lines stored size so_far step lines items line content is_within is whole sized same carried all test =
    let lines_are = is ∙ ap Ok whole in
    let grown : size_of (lines ++ content_of line ∷ []) ≡ size + length content + 2 = omega (arith, size_of-push lines (content_of line), size_is so_far stored lines lines_are sized, ap length carried) in
    let long : length (lines ++ content_of line ∷ []) ≡ length items + 1 = omega (arith, length-append lines (content_of line ∷ []), ap length all) in
    rw (lines_are, grown, long, ← test, ← carried) refl

-- the size of the lines with the one that is kept
pub size_of-kept : (stored size : ℕ) (so_far : Result BodyStep Memory) (step : BodyStep) (lines kept : List (List ℕ)) (content : List ℕ) → so_far ≡ Ok step → step ≡ Whole lines → IsSized so_far stored → size ≡ stored → kept ≡ lines ++ content ∷ [] → size + length content + 2 ≡ size_of kept
size_of-kept stored size so_far step lines kept content is whole sized same grown =
    omega (arith, size_is so_far stored lines (is ∙ ap Ok whole) sized, size_of-push lines content, ap size_of grown)

-- a state with one more line, from what a dot is answered
pub joined-is : (most_bytes most_lines : ℕ) (so_far next : Result BodyStep Memory) (old : BodyState) (sent : Sent) → record { most_bytes = most_bytes; most_lines = most_lines; so_far = so_far } ≡ old → with_line most_bytes most_lines so_far sent ≡ next → record { most_bytes = most_bytes; most_lines = most_lines; so_far = next } ≡ joined old sent
joined-is most_bytes most_lines so_far next old sent view with =
    let with_answer : Result BodyStep Memory → BodyState = λ answer. record { most_bytes = most_bytes; most_lines = most_lines; so_far = answer } in
    ap with_answer (sym with) ∙ ap (λ state. joined state sent) view

-- memory was wanted for a line that would be kept
pub wants : (most_bytes most_lines : ℕ) (so_far : Result BodyStep Memory) (old : BodyState) (sent : Sent) (lines : List (List ℕ)) → record { most_bytes = most_bytes; most_lines = most_lines; so_far = so_far } ≡ old → with_line most_bytes most_lines so_far sent ≡ Ok (Whole lines) → Joins old sent (record { most_bytes = most_bytes; most_lines = most_lines; so_far = Err (record {}) }) (Err (record {}))
wants most_bytes most_lines so_far old sent lines view with =
    (ap (λ (state : BodyState). record state { so_far = Err (record {}) }) view, (lines, sym (ap (λ (state : BodyState). (joined state sent).so_far) view) ∙ with))

-- ---- what a dot is answered

contents-append : (came more : List Sent) → contents (came ++ more) ≡ contents came ++ contents more
contents-append [] more = refl
contents-append (None ∷ came) more = contents-append came more
contents-append (Some line ∷ came) more = ap (λ lines. content_of line ∷ lines) (contents-append came more)

-- lines that pass a number pass it with one more
within-longer : (most_bytes most_lines : ℕ) (lines : List (List ℕ)) (line : List ℕ) → is_within most_bytes most_lines lines ≡ false → is_within most_bytes most_lines (lines ++ line ∷ []) ≡ false
within-longer most_bytes most_lines lines line past =
    let size = size_of-push lines line in
    let long = length-append lines (line ∷ []) in
    grind (arith, nat_tests)

whole_within-with_line : (most_bytes most_lines : ℕ) (lines : List (List ℕ)) (line : List ℕ) → with_line most_bytes most_lines (Ok (whole_within most_bytes most_lines lines)) (Some line) ≡ Ok (whole_within most_bytes most_lines (lines ++ content_of line ∷ []))
whole_within-with_line most_bytes most_lines lines line =
    by_test (is_within most_bytes most_lines lines) refl
  where
    by_test : (t : Bool) → is_within most_bytes most_lines lines ≡ t → with_line most_bytes most_lines (Ok (cond t (Whole lines) TooLarge)) (Some line) ≡ Ok (whole_within most_bytes most_lines (lines ++ content_of line ∷ []))
    by_test true e = refl
    by_test false e = rw (within-longer most_bytes most_lines lines (content_of line) e) refl

-- the answer after one more line follows from that before it
pub answer_after-push : (most_bytes most_lines : ℕ) (came : List Sent) (sent : Sent) → with_line most_bytes most_lines (Ok (answer_after most_bytes most_lines came)) sent ≡ Ok (answer_after most_bytes most_lines (came ++ sent ∷ []))
answer_after-push most_bytes most_lines came None = rw (list_any-append is_none came (None ∷ []), or-true (has_long came)) refl
answer_after-push most_bytes most_lines came (Some line) = rw (list_any-append is_none came (Some line ∷ []), contents-append came (Some line ∷ [])) (by_test (has_long came))
  where
    by_test : (t : Bool) → with_line most_bytes most_lines (Ok (cond t LineTooLong (whole_within most_bytes most_lines (contents came)))) (Some line) ≡ Ok (cond (t || false) LineTooLong (whole_within most_bytes most_lines (contents came ++ content_of line ∷ [])))
    by_test true = refl
    by_test false = whole_within-with_line most_bytes most_lines (contents came) line

-- lines that came whole
long-map_Some : (sent : List (List ℕ)) → has_long (map Some sent) ≡ false
long-map_Some [] = refl
long-map_Some (s ∷ ss) = long-map_Some ss

contents-map_Some : (sent : List (List ℕ)) → contents (map Some sent) ≡ map content_of sent
contents-map_Some [] = refl
contents-map_Some (s ∷ ss) = ap (λ lines. content_of s ∷ lines) (contents-map_Some ss)

pub CameAs-parts : (came : List Sent) (lines : List (List ℕ)) → CameAs came lines → (has_long came ≡ false) × (contents came ≡ lines)
CameAs-parts came lines (sent, (is, carry)) = (
  ap has_long is ∙ long-map_Some sent,
  ap contents is ∙ contents-map_Some sent ∙ sym (AllZip-contents sent lines carry).1,
)

pub CameAs-contents : (came : List Sent) → list_any is_end came ≡ false → has_long came ≡ false → CameAs came (contents came)
CameAs-contents [] ends long = ([], (refl, tt))
CameAs-contents (None ∷ came) ends long = absurd (false≢true (sym long))
CameAs-contents (Some line ∷ came) ends long =
    let p = or_parts (is_dot line) (list_any is_end came) ends in
    let (sent, (is, carry)) = CameAs-contents came p.1 long in
    (line ∷ sent, (ap (λ more. Some line ∷ more) is, (content-Carries line p.0, carry)))

-- the answer fits what the lines carry
IsAnswer-after : (most_bytes most_lines : ℕ) (came : List Sent) → list_any is_end came ≡ false → IsAnswer most_bytes most_lines came (answer_after most_bytes most_lines came)
IsAnswer-after most_bytes most_lines came ends = by_long (has_long came) refl
  where
    by_within : (t : Bool) → is_within most_bytes most_lines (contents came) ≡ t → has_long came ≡ false → IsAnswer most_bytes most_lines came (cond t (Whole (contents came)) TooLarge)
    by_within true within long = (CameAs-contents came ends long, within)
    by_within false past long = (contents came, (CameAs-contents came ends long, past))

    by_long : (t : Bool) → has_long came ≡ t → IsAnswer most_bytes most_lines came (cond t LineTooLong (whole_within most_bytes most_lines (contents came)))
    by_long true long = long
    by_long false long = by_within (is_within most_bytes most_lines (contents came)) refl long

-- no other answer does
IsAnswer-one : (most_bytes most_lines : ℕ) (came : List Sent) (step : BodyStep) → IsAnswer most_bytes most_lines came step → step ≡ answer_after most_bytes most_lines came
IsAnswer-one most_bytes most_lines came (Whole lines) (carried, within) =
    let p = CameAs-parts came lines carried in rw (p.0, p.1, within) refl
IsAnswer-one most_bytes most_lines came LineTooLong long = rw long refl
IsAnswer-one most_bytes most_lines came TooLarge (lines, (carried, past)) =
    let p = CameAs-parts came lines carried in rw (p.0, p.1, past) refl
IsAnswer-one most_bytes most_lines came More never = absurd never

pub answer_is_exact : (most_bytes most_lines : ℕ) (came : List Sent) (step : BodyStep) → list_any is_end came ≡ false → ((step ≡ answer_after most_bytes most_lines came) ↔ IsAnswer most_bytes most_lines came step)
answer_is_exact most_bytes most_lines came step ends = (
  λ e. subst (IsAnswer most_bytes most_lines came) (sym e) (IsAnswer-after most_bytes most_lines came ends),
  IsAnswer-one most_bytes most_lines came step,
)

-- ---- lines one after another

joined-after : (most_bytes most_lines : ℕ) (came : List Sent) (sent : Sent) → joined (after most_bytes most_lines came) sent ≡ after most_bytes most_lines (came ++ sent ∷ [])
joined-after most_bytes most_lines came sent =
    let with_answer : Result BodyStep Memory → BodyState = λ answer. record { most_bytes = most_bytes; most_lines = most_lines; so_far = answer } in
    ap with_answer (answer_after-push most_bytes most_lines came sent)

pub line_joins : (most_bytes most_lines : ℕ) (came : List Sent) (sent : Sent) (new : BodyState) (result : Result BodyStep Memory) → is_end sent ≡ false → TakesLine (after most_bytes most_lines came) sent new result → ((result ≡ Ok More) × (new ≡ after most_bytes most_lines (came ++ sent ∷ []))) ⊎ ((result ≡ Err (record {})) × (new ≡ wanting most_bytes most_lines))
line_joins most_bytes most_lines came sent new result ends takes =
    by_result result (MatchBool-at_false (Ends (after most_bytes most_lines came) new result) (Joins (after most_bytes most_lines came) sent new result) ends takes)
  where
    by_result : (result : Result BodyStep Memory) → Joins (after most_bytes most_lines came) sent new result → ((result ≡ Ok More) × (new ≡ after most_bytes most_lines (came ++ sent ∷ []))) ⊎ ((result ≡ Err (record {})) × (new ≡ wanting most_bytes most_lines))
    by_result (Ok step) joins = inl (ap Ok joins.0, joins.1 ∙ joined-after most_bytes most_lines came sent)
    by_result (Err memory) joins = inr (refl, joins.0)

-- after want of memory lines are dropped
wanting-line : (most_bytes most_lines : ℕ) (sent : Sent) (new : BodyState) (result : Result BodyStep Memory) → Joins (wanting most_bytes most_lines) sent new result → new ≡ wanting most_bytes most_lines
wanting-line most_bytes most_lines sent new (Ok step) joins = joins.1
wanting-line most_bytes most_lines sent new (Err memory) joins = joins.0

pub lines_dropped : (most_bytes most_lines : ℕ) (more : List Sent) (new : BodyState) → TakesAll (wanting most_bytes most_lines) more new → new ≡ wanting most_bytes most_lines
lines_dropped most_bytes most_lines [] new takes = takes
lines_dropped most_bytes most_lines (sent ∷ more) new (middle, (result, takes)) =
    let joins = MatchBool-at_false (Ends (wanting most_bytes most_lines) middle result) (Joins (wanting most_bytes most_lines) sent middle result) takes.0 takes.1 in
    let P : BodyState → Type 0 = λ state. TakesAll state more new in
    lines_dropped most_bytes most_lines more new (subst P (wanting-line most_bytes most_lines sent middle result joins) takes.2)

pub lines_join : (most_bytes most_lines : ℕ) (came more : List Sent) (new : BodyState) → TakesAll (after most_bytes most_lines came) more new → (new ≡ after most_bytes most_lines (came ++ more)) ⊎ (new ≡ wanting most_bytes most_lines)
lines_join most_bytes most_lines came [] new takes = inl (takes ∙ ap (after most_bytes most_lines) (sym (append-nil came)))
lines_join most_bytes most_lines came (sent ∷ more) new (middle, (result, takes)) = elim (line_joins most_bytes most_lines came sent middle result takes.0 takes.1) [
  | inl joins ↦ elim (lines_join most_bytes most_lines (came ++ sent ∷ []) more new (subst P joins.1 takes.2)) [ inl e ↦ inl (e ∙ ap (after most_bytes most_lines) (append_assoc came (sent ∷ []) more)) | inr e ↦ inr e ]
  | inr wants ↦ inr (lines_dropped most_bytes most_lines more new (subst P wants.1 takes.2))
]
  where
    P : BodyState → Type 0
    P state = TakesAll state more new

-- ---- a body that is read

all_come : (limit : ℕ) (sent : List (List ℕ)) → all_fit limit sent ≡ true → map (sent_within limit) sent ≡ map Some sent
all_come limit [] all = refl
all_come limit (s ∷ ss) all =
    let p = and_parts (leb (length s) limit) (all_fit limit ss) all in
    rw (p.0, all_come limit ss p.1) refl

some_is_long : (limit : ℕ) (sent : List (List ℕ)) → all_fit limit sent ≡ false → has_long (map (sent_within limit) sent) ≡ true
some_is_long limit [] all = absurd (false≢true (sym all))
some_is_long limit (s ∷ ss) all = by_test (leb (length s) limit) all (some_is_long limit ss)
  where
    by_test : (t : Bool) → (t && all_fit limit ss) ≡ false → (all_fit limit ss ≡ false → has_long (map (sent_within limit) ss) ≡ true) → has_long (cond t (Some s) None ∷ map (sent_within limit) ss) ≡ true
    by_test true all rest = rest all
    by_test false all rest = refl

-- sent lines are answered with what they carry, unless it passes a number or one is past its limit
answer_after-carried : (most_bytes most_lines limit : ℕ) (sent lines : List (List ℕ)) → AllZip Carries sent lines → answer_after most_bytes most_lines (map (sent_within limit) sent) ≡ answer_within most_bytes most_lines limit sent lines
answer_after-carried most_bytes most_lines limit sent lines carry =
    by_test (all_fit limit sent) refl
  where
    by_test : (t : Bool) → all_fit limit sent ≡ t → answer_after most_bytes most_lines (map (sent_within limit) sent) ≡ cond t (whole_within most_bytes most_lines lines) LineTooLong
    by_test true all = rw (all_come limit sent all, long-map_Some sent, contents-map_Some sent, ← (AllZip-contents sent lines carry).1) refl
    by_test false all = rw (some_is_long limit sent all) refl

pub body_is_read : (most_bytes most_lines limit : ℕ) (lines : List (List ℕ)) (bytes rest : List ℕ) → IsBody lines bytes → (sent : List (List ℕ)) × ((lines_of (bytes ++ rest) ≡ sent ++ dot ∷ lines_of rest) × AllZip Carries sent lines × (list_any is_dot sent ≡ false) × (answer_after most_bytes most_lines (map (sent_within limit) sent) ≡ answer_within most_bytes most_lines limit sent lines))
body_is_read most_bytes most_lines limit lines bytes rest (sent, (carry, spelled)) =
    (sent, (lines_of-body sent bytes rest spelled, carry, (AllZip-contents sent lines carry).0, answer_after-carried most_bytes most_lines limit sent lines carry))

-- a line that comes is the one that was sent
sent_within-is : (limit : ℕ) (line other : List ℕ) → sent_within limit line ≡ Some other → line ≡ other
sent_within-is limit line other is = by_test (leb (length line) limit) is
  where
    by_test : (t : Bool) → cond t (Some line) None ≡ Some other → line ≡ other
    by_test true is = cc
    by_test false is = cc

sent_within-are : (limit : ℕ) (sent others : List (List ℕ)) → map (sent_within limit) sent ≡ map Some others → sent ≡ others
sent_within-are limit [] [] are = refl
sent_within-are limit [] (o ∷ os) are = cc
sent_within-are limit (s ∷ ss) [] are = cc
sent_within-are limit (s ∷ ss) (o ∷ os) are =
    let first : sent_within limit s ≡ Some o = cc in
    let more : map (sent_within limit) ss ≡ map Some os = cc in
    rw (sent_within-is limit s o first, sent_within-are limit ss os more) refl

-- a line that comes ends a body only if it's the dot
end_within : (limit : ℕ) (line : List ℕ) → is_dot line ≡ false → is_end (sent_within limit line) ≡ false
end_within limit line other = by_test (leb (length line) limit)
  where
    by_test : (t : Bool) → is_end (cond t (Some line) None) ≡ false
    by_test true = other
    by_test false = refl

no_end : (limit : ℕ) (sent : List (List ℕ)) → list_any is_dot sent ≡ false → list_any is_end (map (sent_within limit) sent) ≡ false
no_end limit [] dots = refl
no_end limit (s ∷ ss) dots =
    let p = or_parts (is_dot s) (list_any is_dot ss) dots in
    or_from (is_end (sent_within limit s)) (list_any is_end (map (sent_within limit) ss)) (end_within limit s p.0) (no_end limit ss p.1)

pub only_bodies : (most_bytes most_lines limit : ℕ) (lines : List (List ℕ)) (bytes : List ℕ) (sent : List (List ℕ)) → list_any is_dot sent ≡ false → AreSpellings bytes (sent ++ dot ∷ []) → answer_after most_bytes most_lines (map (sent_within limit) sent) ≡ Whole lines → IsBody lines bytes
only_bodies most_bytes most_lines limit lines bytes sent dots spelled answer =
    let exact = (answer_is_exact most_bytes most_lines (map (sent_within limit) sent) (Whole lines) (no_end limit sent dots)).0 (sym answer) in
    let (others, (came, carry)) = exact.0 in
    (sent, (subst (λ (all : List (List ℕ)). AllZip Carries all lines) (sym (sent_within-are limit sent others came)) carry, spelled))

pub written_is_read : (most_bytes most_lines limit : ℕ) (lines : List (List ℕ)) (rest : List ℕ) → list_any has_feed lines ≡ false → (lines_of (written_body lines ++ rest) ≡ map sent_as lines ++ dot ∷ lines_of rest) × (answer_after most_bytes most_lines (map (sent_within limit) (map sent_as lines)) ≡ answer_within most_bytes most_lines limit (map sent_as lines) lines)
written_is_read most_bytes most_lines limit lines rest h =
    (lines_of-body (map sent_as lines) (written_body lines) rest (written-spelled lines h), answer_after-carried most_bytes most_lines limit (map sent_as lines) lines (sent_as-AllZip lines))
