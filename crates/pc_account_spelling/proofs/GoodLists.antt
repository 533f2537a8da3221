-- The update lists of a mailbox as they are read.
use Rattle.std.proofs.Common.{◌≡◌, ℕ, ◌-◌, ◌<◌, ◌≤◌, min, true, List, [], ◌∷◌, ◌++◌, length, refl, sym, ap, subst, ◌∙◌, append_assoc, arith}
use Rattle.std.specs.List.{list_all, flat_map, AllByRecursion as Every}
use Rattle.std.proofs.lemmas.Bool.{ltb-true, lt-ltb, and_parts, and_from}
use Rattle.std.proofs.lemmas.List.{append-nil}
use Rattle.pc_base.specs.Name.{is_name}
use Rattle.pc_account_history.specs.declared.kept.Listed.{Listed}
use Rattle.pc_tables.specs.Table.{total}
use Rattle.pc_account_history.specs.Legal.{IsChange, AreListsOf}
use Rattle.pc_tables.proofs.Table.{same-refl, same-true}
use Rattle.pc_fields.specs.FieldBytes.{name_field, u32_field}
use Rattle.pc_account_spelling.specs.Spelling.{listed_fields, update_list_fields}
use Rattle.pc_fields.specs.Fields.{u32_kind, within}
use Rattle.pc_fields.specs.Format.{goes, bind}
use Rattle.pc_fields.specs.Fitting.{is_u32}
use Rattle.pc_account_spelling.specs.RecordForm.{is_entry_number, client_fits, listed_fits, list_fits}
use Rattle.pc_account_spelling.specs.RecordFormat.{changes_from, lists_from}
use Rattle.pc_fields.proofs.Good.{Good, good_bind, good_weaker}
use Rattle.pc_account_spelling.proofs.GoodChanges.{IsReadList, good_changes}
use Rattle.pc_fields.proofs.Pushes.{within-parts, is-within}

abbrev pub Lists : Type 0
Lists = List (List ℕ × List Listed)

-- the lists of these clients were read behind those before
pub record AreReadLists (highest room : ℕ) (clients : List (List ℕ × ℕ)) (before : Lists) (front fields : List (List ℕ)) (lists : Lists) : Type 0 where
  pub rest : Lists
  pub is : lists ≡ before ++ rest
  pub spelled : fields ≡ front ++ flat_map update_list_fields rest
  pub are : AreListsOf 9223372036854775808 highest clients rest
  pub few : total (λ (list : List ℕ × List Listed). length list.1) rest ≤ room
  pub fit : list_all list_fits rest ≡ true

changes-fit : (highest birth : ℕ) (list : List Listed) → highest < 4294967296 → Every (IsChange 9223372036854775808 highest birth) list → list_all listed_fits list ≡ true
changes-fit highest birth [] small h = refl
changes-fit highest birth (listed ∷ list) small h =
    let given = h.0.given in
    let so-far = h.0.so_far in
    and_from (listed_fits listed) (list_all listed_fits list) (and_from (is_u32 listed.uid) (is_entry_number listed.stamp) (lt-ltb listed.uid 4294967296 (omega (arith, given, small))) (lt-ltb listed.stamp 9223372036854775808 so-far)) (changes-fit highest birth list small h.1)

list-before : (highest room count : ℕ) (client : List ℕ × ℕ) (clients : List (List ℕ × ℕ)) (before : Lists) (front middle fields : List (List ℕ)) (list : List Listed) (lists : Lists)
    → highest < 4294967296 → is_name client.0 ≡ true → IsReadList highest client.1 count ((front ++ name_field client.0 ∷ []) ++ u32_field count ∷ []) middle list → count ≤ room → AreReadLists highest (room - length list) clients (before ++ (client.0, list) ∷ []) middle fields lists
    → AreReadLists highest room (client ∷ clients) before front fields lists
list-before highest room count client clients before front middle fields list lists small name read within-room rest =
    let counted = read.counted in
    let few = rest.few in
    record {
      rest = (client.0, list) ∷ rest.rest;
      is = rest.is ∙ append_assoc before ((client.0, list) ∷ []) rest.rest;
      spelled =
          rest.spelled ∙ ap (λ (t : List (List ℕ)). t ++ flat_map update_list_fields rest.rest) (read.spelled ∙ append_assoc (front ++ name_field client.0 ∷ []) (u32_field count ∷ []) (flat_map listed_fields list) ∙ append_assoc front (name_field client.0 ∷ []) (u32_field count ∷ flat_map listed_fields list) ∙ ap (λ (n : ℕ). front ++ (name_field client.0 ∷ u32_field n ∷ flat_map listed_fields list)) (sym counted))
          ∙ append_assoc front (update_list_fields (client.0, list)) (flat_map update_list_fields rest.rest);
      are = (refl, read.is_list, rest.are);
      few = omega (arith, few, counted, within-room);
      fit = and_from (list_fits (client.0, list)) (list_all list_fits rest.rest) (and_from (is_name client.0) (list_all listed_fits list) name (changes-fit highest client.1 list small read.is_list.changes)) rest.fit;
    }

pub good_lists : (highest room : ℕ) (clients : List (List ℕ × ℕ)) (before : Lists) (front : List (List ℕ)) → highest < 4294967296 → list_all client_fits clients ≡ true → Good (AreReadLists highest room clients before front) (lists_from highest room clients before) front
good_lists highest room [] before front small fit = record { rest = []; is = sym (append-nil before); spelled = sym (append-nil front); are = tt; few = omega arith; fit = refl }
good_lists highest room (client ∷ clients) before front small fit =
    let parts = and_parts (client_fits client) (list_all client_fits clients) fit in
    let first = and_parts (is_name client.0) (is_entry_number client.1) parts.0 in
    let birth = ltb-true client.1 9223372036854775808 first.1 in (
      (client.0, first.0, same-refl client.0),
      λ name is-name passed.
          subst (λ (n : List ℕ). Good (AreReadLists highest room (client ∷ clients) before front) (goes u32_kind (within 0 (min highest room)) (λ count. bind (changes_from highest count client.1 0 []) (λ list. lists_from highest (room - length list) clients (before ++ (client.0, list) ∷ [])))) (front ++ name_field n ∷ [])) (same-true client.0 name passed) (
            (0, refl, is-within 0 (min highest room) 0 (omega arith) (omega arith)),
            λ count count-fit count-passed.
                let range = (within-parts 0 (min highest room) count count-passed).1 in
                let here = (front ++ name_field client.0 ∷ []) ++ u32_field count ∷ [] in
                good_bind (IsReadList highest client.1 count here) (AreReadLists highest room (client ∷ clients) before front) (changes_from highest count client.1 0 []) (λ list. lists_from highest (room - length list) clients (before ++ (client.0, list) ∷ [])) here
                (subst (Good (IsReadList highest client.1 count here) (changes_from highest count client.1 0 [])) (append-nil here)
                (good_changes highest client.1 count client.1 0 [] here count small (record { in_order = tt; distinct = tt; changes = tt; upto = tt; born = omega arith; last = omega (arith, birth); room = omega (arith, range); room_at_last = λ _. omega (arith, range) }) (omega arith)))
                (λ middle list read.
                good_weaker (AreReadLists highest (room - length list) clients (before ++ (client.0, list) ∷ []) middle) (AreReadLists highest room (client ∷ clients) before front) (lists_from highest (room - length list) clients (before ++ (client.0, list) ∷ [])) middle
                (good_lists highest (room - length list) clients (before ++ (client.0, list) ∷ []) middle small parts.1)
                (λ fields lists rest. list-before highest room count client clients before front middle fields list lists small first.0 read (omega (arith, range)) rest)),
          ),
    )
