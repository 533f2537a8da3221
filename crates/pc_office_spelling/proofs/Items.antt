-- Lists whose items depend on those before them.
use Rattle.std.proofs.Common.{◌≡◌, ℕ, zero, suc, List, [], ◌∷◌, ◌++◌, length, refl, sym, ap, subst, ◌∙◌, append_assoc}
use Rattle.std.specs.List.{flat_map}
use Rattle.std.proofs.lemmas.List.{append-nil}
use Rattle.pc_fields.specs.FieldBytes.{u16_field, u32_field, short_list, long_list}
use Rattle.pc_fields.specs.Format.{Format, ReadsAs}
use Rattle.pc_fields.proofs.Formats.{reads_bind}
use Rattle.pc_fields.proofs.Good.{Good, good_bind, good_weaker}
use Rattle.pc_office_spelling.specs.RecordFormat.{items_from}

-- so many items were read behind others, and at the end this holds
pub record AreMore {X : Type 0} (fields_of : X → List (List ℕ)) (Holds : ℕ → List X → Type 0) (front : List (List ℕ)) (count : ℕ) (before : List X) (fields : List (List ℕ)) (items : List X) : Type 0 where
  pub more : List X
  pub is : items ≡ before ++ more
  pub spelled : fields ≡ front ++ flat_map fields_of more
  pub counted : length more ≡ count
  pub holds : Holds 0 items

-- so many items were read
pub record AreItems {X : Type 0} (fields_of : X → List (List ℕ)) (Holds : ℕ → List X → Type 0) (front : List (List ℕ)) (count : ℕ) (fields : List (List ℕ)) (items : List X) : Type 0 where
  pub spelled : fields ≡ front ++ flat_map fields_of items
  pub counted : length items ≡ count
  pub holds : Holds 0 items

module _ {X : Type 0} (item : ℕ → List X → Format X) (fields_of : X → List (List ℕ)) where
  -- what is read of one item
  abbrev pub Next : (ℕ → List X → Type 0) → ℕ → List X → List (List ℕ) → List (List ℕ) → X → Type 0
  Next Holds count before front fields x = (fields ≡ front ++ fields_of x) × Holds count (before ++ x ∷ [])

  good-more : (Holds : ℕ → List X → Type 0) → ((count : ℕ) (before : List X) (front : List (List ℕ)) → Holds (suc count) before → Good (Next Holds count before front) (item count before) front)
      → (count : ℕ) (before : List X) (front : List (List ℕ)) → Holds count before → Good (AreMore fields_of Holds front count before) (items_from item count before) front
  good-more Holds step zero before front holds = record { more = []; is = sym (append-nil before); spelled = sym (append-nil front); counted = refl; holds = holds }
  good-more Holds step (suc count) before front holds =
      good_bind (Next Holds count before front) (AreMore fields_of Holds front (suc count) before) (item count before) (λ x. items_from item count (before ++ x ∷ [])) front (step count before front holds)
      (λ fields x next.
      good_weaker (AreMore fields_of Holds fields count (before ++ x ∷ [])) (AreMore fields_of Holds front (suc count) before) (items_from item count (before ++ x ∷ [])) fields (good-more Holds step count (before ++ x ∷ []) fields next.1)
      (λ all items are.
      let counted = are.counted in
      record {
        more = x ∷ are.more;
        is = are.is ∙ append_assoc before (x ∷ []) are.more;
        spelled = are.spelled ∙ ap (λ (f : List (List ℕ)). f ++ flat_map fields_of are.more) next.0 ∙ append_assoc front (fields_of x) (flat_map fields_of are.more);
        counted = ap suc counted;
        holds = are.holds;
      }))

  pub good_items : (Holds : ℕ → List X → Type 0) → ((count : ℕ) (before : List X) (front : List (List ℕ)) → Holds (suc count) before → Good (Next Holds count before front) (item count before) front)
      → (count : ℕ) (front : List (List ℕ)) → Holds count [] → Good (AreItems fields_of Holds front count) (items_from item count []) front
  good_items Holds step count front holds =
      good_weaker (AreMore fields_of Holds front count []) (AreItems fields_of Holds front count) (items_from item count []) front (good-more Holds step count [] front holds)
      (λ fields items are.
      let is = are.is in
      record {
        spelled = are.spelled ∙ ap (λ (these : List X). front ++ flat_map fields_of these) (sym is);
        counted = ap length is ∙ are.counted;
        holds = are.holds;
      })

  pub reads_items : (Left : List X → List X → Type 0) → ((before : List X) (x : X) (rest : List X) → Left before (x ∷ rest) → ReadsAs (item (length rest) before) (fields_of x) x × Left (before ++ x ∷ []) rest)
      → (before rest : List X) → Left before rest → ReadsAs (items_from item (length rest) before) (flat_map fields_of rest) (before ++ rest)
  reads_items Left step before [] left = (refl, append-nil before)
  reads_items Left step before (x ∷ rest) left =
      let next = step before x rest left in
      subst (λ (all : List X). ReadsAs (items_from item (suc (length rest)) before) (fields_of x ++ flat_map fields_of rest) all) (append_assoc before (x ∷ []) rest)
      (reads_bind (item (length rest) before) (λ y. items_from item (length rest) (before ++ y ∷ [])) (fields_of x) (flat_map fields_of rest) x ((before ++ x ∷ []) ++ rest) next.0 (reads_items Left step (before ++ x ∷ []) rest next.1))

-- the same with how many they are in front
pub short-spelled : {X : Type 0} {fields_of : X → List (List ℕ)} {Holds : ℕ → List X → Type 0} (front : List (List ℕ)) (count : ℕ) {fields : List (List ℕ)} {items : List X} → AreItems fields_of Holds (front ++ u16_field count ∷ []) count fields items → fields ≡ front ++ short_list fields_of items
short-spelled {X} {fields_of} {Holds} front count {fields} {items} are =
    let counted = are.counted in
    are.spelled ∙ append_assoc front (u16_field count ∷ []) (flat_map fields_of items) ∙ ap (λ (n : ℕ). front ++ (u16_field n ∷ flat_map fields_of items)) (sym counted)

pub long-spelled : {X : Type 0} {fields_of : X → List (List ℕ)} {Holds : ℕ → List X → Type 0} (front : List (List ℕ)) (count : ℕ) {fields : List (List ℕ)} {items : List X} → AreItems fields_of Holds (front ++ u32_field count ∷ []) count fields items → fields ≡ front ++ long_list fields_of items
long-spelled {X} {fields_of} {Holds} front count {fields} {items} are =
    let counted = are.counted in
    are.spelled ∙ append_assoc front (u32_field count ∷ []) (flat_map fields_of items) ∙ ap (λ (n : ℕ). front ++ (u32_field n ∷ flat_map fields_of items)) (sym counted)
