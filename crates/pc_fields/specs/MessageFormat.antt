-- Messages as they are read.
use Rattle.std.specs.Prelude.{ℕ, zero, suc, ◌-◌, ◌*◌, ◌/◌, List, [], ◌∷◌, length}
use Rattle.pc_fields.specs.Fields.{u32_kind, line_kind, within, has_room}
use Rattle.pc_fields.specs.Format.{Format, ends, goes, bind}

-- so many lines, with no more bytes than there is room
abbrev pub lines_format : ℕ → ℕ → Format (List (List ℕ))
lines_format zero room = ends []
lines_format (suc count) room = goes line_kind (has_room room) (λ line. bind (lines_format count (room - length line)) (λ lines. ends (line ∷ lines)))

-- a message of at most this size, of which each line takes two bytes more than its own
abbrev pub message_within : ℕ → Format (List (List ℕ))
message_within room = goes u32_kind (within 0 (room / 2)) (λ count. lines_format count (room - 2 * count))

abbrev pub message_format : Format (List (List ℕ))
message_format = message_within 65536
