-- What the definitions of bodies give, worked out by hand.
use Rattle.std.proofs.Common.{◌≡◌, [], ◌∷◌, List, ℕ, Some, None, map, refl}
use Rattle.pc_wire.specs.Body.{written_body, size_of, sent_as}
use Rattle.pc_wire.specs.BodyFeed.{content_of, answer_after}
use Rattle.pc_wire.specs.declared.body_feed.BodyStep.TheVariants.{Whole, LineTooLong, TooLarge}

-- `To: ann`, empty, `.`, `..`, empty, `.x`
abbrev lines : List (List ℕ)
lines = (84 ∷ 111 ∷ 58 ∷ 32 ∷ 97 ∷ 110 ∷ 110 ∷ []) ∷ [] ∷ (46 ∷ []) ∷ (46 ∷ 46 ∷ []) ∷ [] ∷ (46 ∷ 120 ∷ []) ∷ []

-- `To: ann`, empty, `..`, `...`, empty, `..x`
abbrev sent : List (List ℕ)
sent = (84 ∷ 111 ∷ 58 ∷ 32 ∷ 97 ∷ 110 ∷ 110 ∷ []) ∷ [] ∷ (46 ∷ 46 ∷ []) ∷ (46 ∷ 46 ∷ 46 ∷ []) ∷ [] ∷ (46 ∷ 46 ∷ 120 ∷ []) ∷ []

are_sent : map sent_as lines ≡ sent
are_sent = refl

are_carried : map content_of sent ≡ lines
are_carried = refl

-- a dot in front that no rule asked for is taken off too
needless_dot : content_of (46 ∷ 120 ∷ []) ≡ 120 ∷ []
needless_dot = refl

-- `..x` CR LF, `y` CR LF, `.` CR LF
written : written_body ((46 ∷ 120 ∷ []) ∷ (121 ∷ []) ∷ []) ≡ 46 ∷ 46 ∷ 120 ∷ 13 ∷ 10 ∷ 121 ∷ 13 ∷ 10 ∷ 46 ∷ 13 ∷ 10 ∷ []
written = refl

nothing_written : written_body [] ≡ 46 ∷ 13 ∷ 10 ∷ []
nothing_written = refl

size : size_of lines ≡ 24
size = refl

whole : answer_after 24 6 (map Some sent) ≡ Whole lines
whole = refl

bytes_past : answer_after 23 6 (map Some sent) ≡ TooLarge
bytes_past = refl

lines_past : answer_after 24 5 (map Some sent) ≡ TooLarge
lines_past = refl

-- past its limit counts before the numbers
long_first : answer_after 0 0 (Some (97 ∷ []) ∷ None ∷ []) ≡ LineTooLong
long_first = refl

nothing_came : answer_after 0 0 [] ≡ Whole []
nothing_came = refl
