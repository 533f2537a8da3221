-- Records as they are read: what is read can be saved, and at each field some record goes on.
use Rattle.std.proofs.Common.{◌≡◌, ℕ, ◌≤◌, ◌&&◌, ◌||◌, nat_le, IsTrue, List, [], ◌∷◌, ◌++◌, length, refl, ap, ◌∙◌, append_assoc, arith, length-append}
use Rattle.std.specs.List.{list_all, AllByRecursion as Every}
use Rattle.std.specs.Map.{keys_of}
use Rattle.std.proofs.lemmas.Bool.{leb-true, le-ltb, and_parts, and_from}
use Rattle.pc_message.specs.declared.limits.TheConstants.{LAST_MAIL}
use Rattle.pc_tables.proofs.Table.{length-keys}
use Rattle.pc_fields.specs.FieldBytes.{u32_field, u64_field, short_list, long_list}
use Rattle.pc_fields.specs.Format.{Format, ends, goes, bind}
use Rattle.pc_fields.specs.Fields.{u64_kind}
use Rattle.pc_fields.proofs.Good.{Good, good_bind, good_weaker}
use Rattle.pc_office_history.specs.declared.kept.Target.{Target}
use Rattle.pc_office_history.specs.declared.kept.KeptMail.{KeptMail}
use Rattle.pc_office_history.specs.Record.{OfficeRecord}
use Rattle.pc_office_history.specs.Known.{said_by}
use Rattle.pc_office_history.specs.Limits.{board_weight, IsWithin, limits_of_bases}
use Rattle.pc_office_history.specs.Legal.{IsWellFormed}
use Rattle.pc_office_history.proofs.Names.{read-off}
use Rattle.pc_office_spelling.specs.RecordSpelling.{user_fields, address_fields, board_fields, kept_fields, fields_of_record}
use Rattle.pc_office_spelling.specs.RecordForm.{user_fits, address_fits, board_fits, kept_fits, fits_record, CanBeSaved}
use Rattle.pc_office_spelling.specs.Spaces.{space_of}
use Rattle.pc_office_spelling.specs.RecordFormat.{items_from, kept_format, users_format, addresses_format, boards_format, kept_list_format, record_format}
use Rattle.pc_office_spelling.proofs.Items.{AreItems, long-spelled}
use Rattle.pc_office_spelling.proofs.Spaces.{enough_from}
use Rattle.pc_office_spelling.proofs.Waits.{AreFew}
use Rattle.pc_office_spelling.proofs.Limits.{Boards, none-many, none-long, apart-parts, distinct-with, names-fit, noted-each, each-noted}
use Rattle.pc_office_spelling.proofs.GoodTables.{AreReadUsers, good_users, AreReadAddresses, good_addresses, AreReadBoards, good_boards, most-few}
use Rattle.pc_office_spelling.proofs.GoodKept.{KeptBefore, good_kept}

-- ---- mails that wait

pub record AreReadKept (users : List (List ℕ × ℕ)) (accepted : ℕ) (front fields : List (List ℕ)) (kept : List KeptMail) : Type 0 where
  pub spelled : fields ≡ front ++ long_list kept_fields kept
  pub are : KeptBefore users accepted 0 kept

none-wait : (users : List (List ℕ × ℕ)) → AreFew users []
none-wait [] = tt
none-wait (user ∷ users) = ((omega arith, omega arith), none-wait users)

good-kept-list : (users : List (List ℕ × ℕ)) (accepted : ℕ) (f1 : List (List ℕ)) → AreReadUsers [] f1 users → Every (λ (user : List ℕ × ℕ). user.1 ≤ accepted) users → accepted ≤ 9223372036854775807 → (front : List (List ℕ)) → Good (AreReadKept users accepted front) (kept_list_format users accepted) front
good-kept-list users accepted f1 u noted small front = (
  (0, refl, refl),
  λ count fit passed.
      let behind = front ++ u32_field count ∷ [] in
      good_weaker (AreItems kept_fields (KeptBefore users accepted) behind count) (AreReadKept users accepted front) (items_from (kept_format users accepted) count []) behind
      (good_kept users accepted u.are.distinct (names-fit users u.are.fit) noted small count behind
      (record { rising = tt; upto = tt; kept = tt; fit = refl; few = none-wait users; enough = enough_from (space_of []) users accepted count 0 passed }))
      (λ fields kept are. record { spelled = long-spelled front count are; are = are.holds }),
)

-- ---- the whole record

pub record IsReadRecord (fields : List (List ℕ)) (r : OfficeRecord) : Type 0 where
  pub spelled : fields ≡ fields_of_record r
  pub saved : CanBeSaved r

module _ (users : List (List ℕ × ℕ)) (addresses : List (List ℕ × Target)) (boards : Boards) (accepted : ℕ) (kept : List KeptMail) (f1 f2 f3 f4 : List (List ℕ)) (u : AreReadUsers [] f1 users) (a : AreReadAddresses (keys_of users) f1 f2 addresses)
    (b : AreReadBoards (keys_of users ++ keys_of addresses) f2 f3 boards) (noted : Every (λ (user : List ℕ × ℕ). user.1 ≤ accepted) users) (last : accepted ≤ 9223372036854775807) (k : AreReadKept users accepted (f3 ++ u64_field accepted ∷ []) f4 kept) where
  abbrev r : OfficeRecord
  r = record { users = users; addresses = addresses; boards = boards; accepted = accepted; kept = kept }

  formed : IsWellFormed r
  formed =
      let apart = apart-parts (keys_of users) (keys_of addresses) boards b.are.apart in
      record {
        user_names = distinct-with (keys_of users) boards u.are.distinct b.are.distinct apart.0;
        address_names = distinct-with (keys_of addresses) boards a.are.distinct b.are.distinct apart.1;
        owners = a.are.owners;
        noted = noted;
        rising = k.are.rising;
        kept = k.are.kept;
        accepted = last;
      }

  within-limits : IsWithin (said_by r) limits_of_bases
  within-limits =
      let off = read-off r formed in
      let weight = off.weight in
      let few-users = u.are.few in
      let few-boards = b.are.few in
      let few-addresses = a.are.few in
      let most = most-few (keys_of users) in
      let light = b.are.light in
      let user-keys = length-keys users in
      let board-keys = length-keys boards in
      let address-keys = length-keys addresses in (
        le-ltb 32 (length (keys_of users)) (omega (arith, few-users, user-keys)),
        (
          le-ltb 64 (length (keys_of boards)) (omega (arith, few-boards, board-keys)),
          (
            le-ltb 1024 (length (keys_of addresses)) (omega (arith, few-addresses, address-keys, most)),
            (
              (λ i. none-many users kept k.are.few i || le-ltb 9223372036854775807 accepted last i),
              ((λ i. none-long (said_by r).messages boards off.messages b.are.short i || le-ltb 67108864 (board_weight (said_by r)) (omega (arith, weight, light)) i), tt),
            ),
          ),
        ),
      )

  record-fits : IsTrue (fits_record r)
  record-fits =
      and_from (list_all user_fits users && list_all address_fits addresses && list_all board_fits boards) (list_all kept_fits kept)
      (and_from (list_all user_fits users && list_all address_fits addresses) (list_all board_fits boards) (and_from (list_all user_fits users) (list_all address_fits addresses) u.are.fit a.are.fit) b.are.fit) k.are.fit

  record-spelled : f4 ≡ fields_of_record r
  record-spelled =
      let us = short_list user_fields users in
      let as-fields = short_list address_fields addresses in
      let bs = short_list board_fields boards in
      let tail = long_list kept_fields kept in
      let second : f2 ≡ us ++ as-fields = a.spelled ∙ ap (λ (t : List (List ℕ)). t ++ as-fields) u.spelled in
      let third : f3 ≡ (us ++ as-fields) ++ bs = b.spelled ∙ ap (λ (t : List (List ℕ)). t ++ bs) second in
      k.spelled ∙ append_assoc f3 (u64_field accepted ∷ []) tail ∙ ap (λ (t : List (List ℕ)). t ++ u64_field accepted ∷ tail) third

  pub record-read : IsReadRecord f4 r
  record-read = record { spelled = record-spelled; saved = record { canonical = record { well_formed = formed; within = within-limits }; fits = record-fits } }

-- what is read behind the users, the addresses and the boards
abbrev pub with_boards : List (List ℕ × ℕ) → List (List ℕ × Target) → Boards → Format OfficeRecord
with_boards users addresses boards =
    goes u64_kind (λ accepted. list_all (λ (user : List ℕ × ℕ). nat_le user.1 accepted) users && nat_le accepted LAST_MAIL) (λ accepted.
    bind (kept_list_format users accepted) (λ kept. ends (record { users = users; addresses = addresses; boards = boards; accepted = accepted; kept = kept })))

abbrev pub with_addresses : List (List ℕ × ℕ) → List (List ℕ × Target) → Format OfficeRecord
with_addresses users addresses = bind (boards_format (keys_of users ++ keys_of addresses)) (with_boards users addresses)

abbrev pub with_users : List (List ℕ × ℕ) → Format OfficeRecord
with_users users = bind (addresses_format (keys_of users)) (with_addresses users)

pub good_record : Good IsReadRecord record_format []
good_record =
    good_bind (AreReadUsers []) IsReadRecord users_format with_users [] (good_users [])
    (λ f1 users u.
    good_bind (AreReadAddresses (keys_of users) f1) IsReadRecord (addresses_format (keys_of users)) (with_addresses users) f1 (good_addresses (keys_of users) f1 (names-fit users u.are.fit))
    (λ f2 addresses a.
    let few-users = u.are.few in
    let few-addresses = a.are.few in
    let most = most-few (keys_of users) in
    let user-keys = length-keys users in
    let address-keys = length-keys addresses in
    let both = length-append (keys_of users) (keys_of addresses) in
    good_bind (AreReadBoards (keys_of users ++ keys_of addresses) f2) IsReadRecord (boards_format (keys_of users ++ keys_of addresses)) (with_boards users addresses) f2
    (good_boards (keys_of users ++ keys_of addresses) f2 (omega (arith, few-users, few-addresses, most, user-keys, address-keys, both)))
    (λ f3 boards b. (
      (9223372036854775807, refl, and_from (list_all (λ (user : List ℕ × ℕ). nat_le user.1 LAST_MAIL) users) (nat_le LAST_MAIL LAST_MAIL) (each-noted 9223372036854775807 users u.are.noted) refl),
      λ accepted fit passed.
          let parts = and_parts (list_all (λ (user : List ℕ × ℕ). nat_le user.1 accepted) users) (nat_le accepted LAST_MAIL) passed in
          let noted = noted-each accepted users parts.0 in
          let last = leb-true accepted LAST_MAIL parts.1 in
          let front = f3 ++ u64_field accepted ∷ [] in
          good_bind (AreReadKept users accepted front) IsReadRecord (kept_list_format users accepted) (λ kept. ends (record { users = users; addresses = addresses; boards = boards; accepted = accepted; kept = kept })) front (good-kept-list users accepted f1 u noted last front)
          (λ f4 kept k. record-read users addresses boards accepted kept f1 f2 f3 f4 u a b noted last k),
    ))))
