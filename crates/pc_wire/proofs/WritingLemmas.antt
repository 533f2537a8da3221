-- Bytes that are written in several calls.
use Rattle.std.proofs.Common.{◌≡◌, ℕ, suc, ◌+◌, ◌<◌, ◌≤◌, min, false, List, [], ◌∷◌, ◌++◌, Option, Result, Ok, Err, length, take, drop, get_or, sym, ap, subst, ◌∙◌, arith, append_assoc}
use Rattle.std.specs.List.{flat_map, list_any}
use Rattle.std.specs.Io.KnownBytes.{Appends}
use Rattle.std.proofs.KnownBytes.{Appends-trans}
use Rattle.std.proofs.lemmas.List.{take-append-le, take_min, take_all}
use Rattle.std.proofs.Math.Seq.{take-append-add}
use Rattle.pc_base.specs.declared.failure.Failed.{Failed}
use Rattle.pc_base.specs.Stream.{AppendsFront, WritesAll}
use Rattle.pc_wire.specs.Lines.{has_feed}
use Rattle.pc_wire.specs.Body.{dot, IsBody, sent_as, written_line, written_content, written_body}
use Rattle.pc_wire.proofs.BodyLemmas.{written_is_body, written_body-cut}

-- a front of the first bytes is a front of all
pub AppendsFront-longer : (old new : Option (List ℕ)) (front rest : List ℕ) → AppendsFront old new front → AppendsFront old new (front ++ rest)
AppendsFront-longer old new front rest (count, appends) =
    let cut : take (min count (length front)) (front ++ rest) ≡ take count front = take-append-le (min count (length front)) front rest (omega arith) ∙ take_min count front in
    (min count (length front), subst (λ (bytes : List ℕ). Appends old new bytes) (sym cut) appends)

-- a front of what follows the first bytes
pub AppendsFront-after : (old middle new : Option (List ℕ)) (front rest : List ℕ) → Appends old middle front → AppendsFront middle new rest → AppendsFront old new (front ++ rest)
AppendsFront-after old middle new front rest first (count, appends) = (
  length front + count,
  subst (λ (bytes : List ℕ). Appends old new bytes) (sym (take-append-add front rest count)) (Appends-trans old middle new front (take count rest) first appends),
)

-- the first bytes, and then what follows them
pub WritesAll-after : {T : Type 0} (old middle new : Option (List ℕ)) (result : Result T Failed) (front rest : List ℕ) → Appends old middle front → WritesAll middle new result rest → WritesAll old new result (front ++ rest)
WritesAll-after old middle new (Ok x) front rest first more = Appends-trans old middle new front rest first more
WritesAll-after old middle new (Err e) front rest first more = AppendsFront-after old middle new front rest first more

-- a line of a body is the added dot and the written line
pub written_content-parts : (added bytes line : List ℕ) → bytes ≡ line → added ++ bytes ≡ sent_as bytes → added ++ written_line bytes ≡ written_content line
written_content-parts added bytes line value spelled =
    sym (append_assoc added bytes (13 ∷ 10 ∷ [])) ∙ ap written_line spelled ∙ ap written_content value

-- where a line of a body isn't written whole
pub body_stops : (old middle new : Option (List ℕ)) (lines items : List (List ℕ)) (place : ℕ) (line : List ℕ) → items ≡ lines → place < length items → line ≡ get_or items place line → Appends old middle (flat_map written_content (take place items)) → AppendsFront middle new (written_content line) → AppendsFront old new (written_body lines)
body_stops old middle new lines items place line same within is first more =
    let front = flat_map written_content (take place items) in
    subst (λ (bytes : List ℕ). AppendsFront old new bytes) (sym (written_body-cut items place line within is) ∙ ap written_body same) (AppendsFront-longer old new (front ++ written_content line) (written_body (drop (suc place) items)) (AppendsFront-after old middle new front (written_content line) first more))

-- where each line is written, and then the dot or a front of it
pub body_ends : {T : Type 0} (old middle new : Option (List ℕ)) (result : Result T Failed) (lines items : List (List ℕ)) (place : ℕ) → items ≡ lines → length items ≤ place → Appends old middle (flat_map written_content (take place items)) → WritesAll middle new result (written_line dot) → WritesAll old new result (written_body lines)
body_ends old middle new result lines items place same done first more =
    let all : take place items ≡ lines = take_all place items done ∙ same in
    WritesAll-after old middle new result (flat_map written_content lines) (written_line dot) (subst (λ (written : List (List ℕ)). Appends old middle (flat_map written_content written)) all first) more

-- what was written is a body, since no line has an LF
pub body_is : (lines items : List (List ℕ)) (place : ℕ) → items ≡ lines → length items ≤ place → list_any has_feed (take place items) ≡ false → IsBody lines (written_body lines)
body_is lines items place same done h =
    written_is_body lines (sym (ap (list_any has_feed) (take_all place items done ∙ same)) ∙ h)
