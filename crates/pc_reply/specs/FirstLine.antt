-- The first line of a change.
use Rattle.std.specs.Prelude.{◌≡◌, ℕ, ◌+◌, ◌*◌, ◌^◌, ◌<◌, ◌==◌, List, [], ◌∷◌, if◌then◌else◌}
use Rattle.pc_reply.specs.Items.{counts_text, gone_text}
use Rattle.pc_reply.specs.declared.first_line.FirstLine.{FirstLine}
use Rattle.pc_reply.specs.declared.first_line.FirstLine.TheVariants.{Gone, Counts}

abbrev pub first_text : FirstLine → List ℕ
first_text (Gone uid) = gone_text uid
first_text (Counts uid flags bytes lines) = counts_text uid flags bytes lines

-- numbers of 32 bits, and 16 flags
abbrev pub FirstFits : FirstLine → Type 0
FirstFits (Gone uid) = uid < 2 ^ 32
FirstFits (Counts uid flags bytes lines) =
    (uid < 2 ^ 32) × (flags < 2 ^ 16) × (bytes < 2 ^ 32) × (lines < 2 ^ 32)

-- the line is just this first line's text
abbrev pub IsFirst : FirstLine → List ℕ → Type 0
IsFirst first line = (line ≡ first_text first) × FirstFits first

-- the uid that it names
abbrev pub first_uid : FirstLine → ℕ
first_uid (Gone uid) = uid
first_uid (Counts uid flags bytes lines) = uid

-- the flags that characters 0 and 1 show, the lowest first
abbrev pub flags_shown : List ℕ → ℕ
flags_shown [] = 0
flags_shown (digit ∷ digits) = (if digit == 49 then 1 else 0) + 2 * flags_shown digits
