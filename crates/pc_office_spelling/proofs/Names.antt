-- Names, one after the other, as they are read.
use Rattle.std.proofs.Common.{◌≡◌, ℕ, zero, suc, nat_lt, true, List, [], ◌∷◌, ◌++◌, length, map, refl, sym, ap, subst, ◌∙◌, append_assoc, arith}
use Rattle.std.specs.List.{list_all}
use Rattle.std.proofs.lemmas.Bool.{and_from, and_parts, ltb-true}
use Rattle.std.proofs.lemmas.List.{append-nil}
use Rattle.pc_base.specs.Name.{is_name}
use Rattle.pc_fields.specs.FieldBytes.{u16_field, name_field}
use Rattle.pc_fields.specs.Format.{Format, ends, bind, repeated, ReadsAs}
use Rattle.pc_fields.proofs.Formats.{ending}
use Rattle.pc_fields.proofs.Good.{Good, good_bind, good_weaker}
use Rattle.pc_fields.proofs.Pushes.{is-within}
use Rattle.pc_office_spelling.specs.Spelling.{names_fields}
use Rattle.pc_office_spelling.specs.EntryForm.{are_names}
use Rattle.pc_office_spelling.specs.EntryFormat.{name_format, names_format}

pub reads_each : (names : List (List ℕ)) → list_all is_name names ≡ true → ReadsAs (repeated (length names) name_format) (map name_field names) names
reads_each [] are = (refl, refl)
reads_each (name ∷ names) are =
    let parts = and_parts (is_name name) (list_all is_name names) are in
    (name, map name_field names, parts.0, refl, refl, ending (repeated (length names) name_format) (map name_field names) names (λ items. name ∷ items) (reads_each names parts.1))

pub reads_names : (names : List (List ℕ)) → are_names names ≡ true → ReadsAs names_format (names_fields names) names
reads_names names are =
    let parts = and_parts (nat_lt (length names) 65536) (list_all is_name names) are in
    let few = ltb-true (length names) 65536 parts.0 in
    (length names, map name_field names, parts.0, is-within 0 65535 (length names) (omega arith) (omega (arith, few)), refl, reads_each names parts.1)

-- so many names were read
record AreRead (count : ℕ) (front fields names : List (List ℕ)) : Type 0 where
  spelled : fields ≡ front ++ map name_field names
  are : list_all is_name names ≡ true
  counted : length names ≡ count

good-each : (count : ℕ) (front : List (List ℕ)) → Good (AreRead count front) (repeated count name_format) front
good-each zero front = record { spelled = sym (append-nil front); are = refl; counted = refl }
good-each (suc count) front = (
  (97 ∷ [], refl, refl),
  λ name is passed.
      let behind = front ++ name_field name ∷ [] in
      good_bind (AreRead count behind) (AreRead (suc count) front) (repeated count name_format) (λ names. ends (name ∷ names)) behind (good-each count behind)
      (λ fields names rest.
      let counted = rest.counted in
      record {
        spelled = rest.spelled ∙ append_assoc front (name_field name ∷ []) (map name_field names);
        are = and_from (is_name name) (list_all is_name names) is rest.are;
        counted = ap suc counted;
      }),
)

-- names were read, and how many they are
pub record AreReadNames (front fields names : List (List ℕ)) : Type 0 where
  pub spelled : fields ≡ front ++ names_fields names
  pub are : are_names names ≡ true

pub good_names : (front : List (List ℕ)) → Good (AreReadNames front) names_format front
good_names front = (
  (0, refl, refl),
  λ count fit passed.
      let behind = front ++ u16_field count ∷ [] in
      good_weaker (AreRead count behind) (AreReadNames front) (repeated count name_format) behind (good-each count behind)
      (λ fields names read.
      let counted = read.counted in
      record {
        spelled = read.spelled ∙ append_assoc front (u16_field count ∷ []) (map name_field names) ∙ ap (λ (n : ℕ). front ++ (u16_field n ∷ map name_field names)) (sym counted);
        are = and_from (nat_lt (length names) 65536) (list_all is_name names) (subst (λ (n : ℕ). nat_lt n 65536 ≡ true) (sym counted) fit) read.are;
      }),
)
