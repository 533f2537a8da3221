-- A message as it is read.
use Rattle.std.proofs.Common.{◌≡◌, ℕ, zero, suc, ◌+◌, ◌-◌, ◌*◌, ◌/◌, ◌≤◌, nat_le, true, List, [], ◌∷◌, ◌++◌, length, map, refl, sym, ap, ◌∙◌, append_assoc, arith}
use Rattle.std.specs.List.{list_all}
use Rattle.std.proofs.lemmas.Bool.{leb-true, le-leb, and_from}
use Rattle.std.proofs.lemmas.List.{append-nil}
use Rattle.pc_base.specs.Line.{is_line}
use Rattle.pc_message.specs.Message.{size_of}
use Rattle.pc_fields.specs.FieldBytes.{line_field, u32_field, message_fields}
use Rattle.pc_fields.specs.Format.{ends}
use Rattle.pc_fields.specs.Fitting.{is_message}
use Rattle.pc_fields.specs.MessageFormat.{lines_format, message_within}
use Rattle.pc_fields.proofs.Good.{Good, good_bind, good_weaker}
use Rattle.pc_fields.proofs.Pushes.{within-parts, is-within}

-- ---- lines

-- so many lines were read, with no more bytes than there was room
pub record AreReadLines (count room : ℕ) (front fields : List (List ℕ)) (lines : List (List ℕ)) : Type 0 where
  pub spelled : fields ≡ front ++ map line_field lines
  pub are : list_all is_line lines ≡ true
  pub size : size_of lines ≤ room + 2 * count
  pub counted : length lines ≡ count

line-before : (count room : ℕ) (front fields : List (List ℕ)) (line : List ℕ) (lines : List (List ℕ)) → is_line line ≡ true → length line ≤ room → AreReadLines count (room - length line) (front ++ line_field line ∷ []) fields lines → AreReadLines (suc count) room front fields (line ∷ lines)
line-before count room front fields line lines is short rest =
    let size = rest.size in
    let counted = rest.counted in
    record {
      spelled = rest.spelled ∙ append_assoc front (line_field line ∷ []) (map line_field lines);
      are = and_from (is_line line) (list_all is_line lines) is rest.are;
      size = omega (arith, size, short);
      counted = ap suc counted;
    }

good-lines : (count room : ℕ) (front : List (List ℕ)) → Good (AreReadLines count room front) (lines_format count room) front
good-lines zero room front = record { spelled = sym (append-nil front); are = refl; size = omega arith; counted = refl }
good-lines (suc count) room front = (
  ([], refl, le-leb 0 room (omega arith)),
  λ line is fits-room.
      good_bind (AreReadLines count (room - length line) (front ++ line_field line ∷ [])) (AreReadLines (suc count) room front) (lines_format count (room - length line)) (λ lines. ends (line ∷ lines)) (front ++ line_field line ∷ [])
      (good-lines count (room - length line) (front ++ line_field line ∷ []))
      (λ fields lines rest. line-before count room front fields line lines is (leb-true (length line) room fits-room) rest),
)

-- ---- a message

-- a message of at most this size was read
pub record IsReadMessage (room : ℕ) (front fields : List (List ℕ)) (message : List (List ℕ)) : Type 0 where
  pub spelled : fields ≡ front ++ message_fields message
  pub is : is_message message ≡ true
  pub size : size_of message ≤ room

pub good_message : (room : ℕ) (front : List (List ℕ)) → room ≤ 65536 → Good (IsReadMessage room front) (message_within room) front
good_message room front le = (
  (0, refl, is-within 0 (room / 2) 0 (omega arith) (omega arith)),
  λ count fit passed.
      let few = (within-parts 0 (room / 2) count passed).1 in
      let twice : 2 * count ≤ room = omega (arith, few) in
      good_weaker-lines count twice,
)
  where
    good_weaker-lines : (count : ℕ) → 2 * count ≤ room → Good (IsReadMessage room front) (lines_format count (room - 2 * count)) (front ++ u32_field count ∷ [])
    good_weaker-lines count twice =
        good_weaker (AreReadLines count (room - 2 * count) (front ++ u32_field count ∷ [])) (IsReadMessage room front) (lines_format count (room - 2 * count)) (front ++ u32_field count ∷ []) (good-lines count (room - 2 * count) (front ++ u32_field count ∷ []))
        (λ fields lines read.
        let size = read.size in
        let counted = read.counted in
        record {
          spelled = read.spelled ∙ append_assoc front (u32_field count ∷ []) (map line_field lines) ∙ ap (λ (n : ℕ). front ++ (u32_field n ∷ map line_field lines)) (sym counted);
          is = and_from (list_all is_line lines) (nat_le (size_of lines) 65536) read.are (le-leb (size_of lines) 65536 (omega (arith, size, twice, le)));
          size = omega (arith, size, twice);
        })
