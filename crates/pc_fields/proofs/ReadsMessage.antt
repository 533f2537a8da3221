-- The fields of a message that fits are read as it.
use Rattle.std.proofs.Common.{◌≡◌, ℕ, ◌+◌, ◌-◌, ◌*◌, ◌/◌, ◌≤◌, nat_le, true, List, [], ◌∷◌, length, map, refl, subst, arith}
use Rattle.std.specs.List.{list_all}
use Rattle.std.proofs.lemmas.Bool.{leb-true, lt-ltb, le-leb, and_parts}
use Rattle.std.proofs.lemmas.List.{append-nil}
use Rattle.pc_base.specs.Line.{is_line}
use Rattle.pc_message.specs.Message.{size_of}
use Rattle.pc_fields.specs.FieldBytes.{line_field, message_fields}
use Rattle.pc_fields.specs.Format.{ends, bind, ReadsAs}
use Rattle.pc_fields.specs.Fitting.{is_message}
use Rattle.pc_fields.specs.MessageFormat.{lines_format, message_within}
use Rattle.pc_fields.proofs.Formats.{reads_bind}
use Rattle.pc_fields.proofs.Pushes.{is-within}

-- how many lines a message of this size has
pub lines_within : (lines : List (List ℕ)) → length lines + length lines ≤ size_of lines
lines_within [] = omega arith
lines_within (line ∷ lines) = omega (arith, lines_within lines)

reads-lines : (lines : List (List ℕ)) (room : ℕ) → list_all is_line lines ≡ true → size_of lines ≤ room + 2 * length lines → ReadsAs (lines_format (length lines) room) (map line_field lines) lines
reads-lines [] room are size = (refl, refl)
reads-lines (line ∷ lines) room are size =
    let parts = and_parts (is_line line) (list_all is_line lines) are in
    let least = lines_within lines in (
      line,
      map line_field lines,
      parts.0,
      le-leb (length line) room (omega (arith, size, least)),
      refl,
      subst (λ (fields : List (List ℕ)). ReadsAs (bind (lines_format (length lines) (room - length line)) (λ rest. ends (line ∷ rest))) fields (line ∷ lines)) (append-nil (map line_field lines))
          (reads_bind (lines_format (length lines) (room - length line)) (λ rest. ends (line ∷ rest)) (map line_field lines) [] lines (line ∷ lines) (reads-lines lines (room - length line) parts.1 (omega (arith, size, least))) (refl, refl)),
    )

pub reads_message : (message : List (List ℕ)) (room : ℕ) → is_message message ≡ true → size_of message ≤ room → ReadsAs (message_within room) (message_fields message) message
reads_message message room is size =
    let parts = and_parts (list_all is_line message) (nat_le (size_of message) 65536) is in
    let small = leb-true (size_of message) 65536 parts.1 in
    let least = lines_within message in (
      length message,
      map line_field message,
      lt-ltb (length message) 4294967296 (omega (arith, least, small)),
      is-within 0 (room / 2) (length message) (omega arith) (omega (arith, least, size)),
      refl,
      reads-lines message (room - 2 * length message) parts.0 (omega (arith, least, size)),
    )
