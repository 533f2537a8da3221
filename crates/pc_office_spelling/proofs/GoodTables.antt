-- Users, addresses and boards, as they are read.
use Rattle.std.proofs.Common.{◌≡◌, ℕ, suc, ◌+◌, ◌-◌, ◌*◌, ◌/◌, ◌<◌, ◌≤◌, min, Bool, true, false, not, ◌||◌, List, [], ◌∷◌, ◌++◌, length, refl, sym, ap, subst, ◌∙◌, append_assoc, arith, length-append}
use Rattle.std.specs.List.{list_all, AllByRecursion as Every}
use Rattle.std.specs.Map.{keys_of}
use Rattle.std.proofs.lemmas.Bool.{and_parts, and_from, not-true, or_parts}
use Rattle.std.proofs.lemmas.List.Folds.{list_any-append}
use Rattle.pc_base.specs.Name.{is_name}
use Rattle.pc_message.specs.Message.{weight_of}
use Rattle.pc_tables.specs.Table.{same, is_among, total}
use Rattle.pc_tables.specs.Order.{AreDistinct}
use Rattle.pc_tables.proofs.Table.{same-refl, keys-push, length-keys}
use Rattle.pc_tables.proofs.Lists.{Every-append, all-push}
use Rattle.pc_tables.proofs.Totals.{total-append}
use Rattle.pc_tables.proofs.Distinct.{distinct-push}
use Rattle.pc_fields.specs.FieldBytes.{u16_field, u32_field, u64_field, name_field, message_fields, short_list, long_list}
use Rattle.pc_fields.specs.Fitting.{is_message}
use Rattle.pc_fields.specs.Format.{ends}
use Rattle.pc_fields.specs.Fields.{is_new}
use Rattle.pc_fields.specs.MessageFormat.{message_within}
use Rattle.pc_fields.proofs.Good.{Good, good_bind, good_weaker}
use Rattle.pc_fields.proofs.GoodMessage.{IsReadMessage, good_message}
use Rattle.pc_fields.proofs.Pushes.{within-parts, is-within}
use Rattle.pc_office_history.specs.declared.kept.Target.{Target}
use Rattle.pc_office_spelling.specs.RecordSpelling.{user_fields, target_fields, address_fields, board_fields}
use Rattle.pc_office_spelling.specs.RecordForm.{user_fits, target_fits, address_fits, board_fits}
use Rattle.pc_office_spelling.specs.RecordFormat.{items_from, user_format, users_format, address_format, most_addresses, addresses_format, message_format, weight_on, board_format, boards_format}
use Rattle.pc_office_spelling.proofs.Items.{AreItems, Next, good_items, short-spelled, long-spelled}
use Rattle.pc_fields.proofs.NewNames.{new_name}

keys-distinct : {X : Type 0} (table : List (List ℕ × X)) (name : List ℕ) (x : X) → AreDistinct (keys_of table) → is_new (keys_of table) name ≡ true → AreDistinct (keys_of (table ++ (name, x) ∷ []))
keys-distinct table name x distinct new = subst AreDistinct (sym (keys-push table name x)) (distinct-push (keys_of table) name distinct new)

-- ---- users

pub record UsersBefore (count : ℕ) (before : List (List ℕ × ℕ)) : Type 0 where
  pub few : count + length before ≤ 32
  pub distinct : AreDistinct (keys_of before)
  pub fit : list_all user_fits before ≡ true
  pub noted : Every (λ (user : List ℕ × ℕ). user.1 ≤ 9223372036854775807) before

good-user : (count : ℕ) (before : List (List ℕ × ℕ)) (front : List (List ℕ)) → UsersBefore (suc count) before → Good (Next user_format user_fields UsersBefore count before front) (user_format count before) front
good-user count before front h =
    let few = h.few in
    let long = length-keys before in
    let sample = new_name (keys_of before) (omega (arith, few, long)) in (
      (sample.name, sample.is, sample.new),
      λ name is new. (
        (0, refl, refl),
        λ noted fit passed.
            let size = length-append before ((name, noted) ∷ []) in
            (append_assoc front (name_field name ∷ []) (u64_field noted ∷ []), record { few = omega (arith, few, size); distinct = keys-distinct before name noted h.distinct new; fit = all-push user_fits before (name, noted) h.fit is; noted = Every-append (λ (user : List ℕ × ℕ). user.1 ≤ 9223372036854775807) before ((name, noted) ∷ []) h.noted ((within-parts 0 9223372036854775807 noted passed).1, tt) }),
      ),
    )

pub record AreReadUsers (front fields : List (List ℕ)) (users : List (List ℕ × ℕ)) : Type 0 where
  pub spelled : fields ≡ front ++ short_list user_fields users
  pub are : UsersBefore 0 users

pub good_users : (front : List (List ℕ)) → Good (AreReadUsers front) users_format front
good_users front = (
  (0, refl, refl),
  λ count fit passed.
      let behind = front ++ u16_field count ∷ [] in
      let range = (within-parts 0 32 count passed).1 in
      good_weaker (AreItems user_fields UsersBefore behind count) (AreReadUsers front) (items_from user_format count []) behind
      (good_items user_format user_fields UsersBefore good-user count behind (record { few = omega (arith, range); distinct = tt; fit = refl; noted = tt }))
      (λ fields users are. record { spelled = short-spelled front count are; are = are.holds }),
)

-- ---- addresses

pub record AddressesBefore (users : List (List ℕ)) (count : ℕ) (before : List (List ℕ × Target)) : Type 0 where
  pub few : count + length before ≤ most_addresses users
  pub distinct : AreDistinct (keys_of before)
  pub owners : Every (λ (address : List ℕ × Target). is_among address.1.user users ≡ true) before
  pub fit : list_all address_fits before ≡ true

pub most-few : (users : List (List ℕ)) → most_addresses users ≤ 1024
most-few [] = omega arith
most-few (user ∷ users) = omega arith

record AUser (users : List (List ℕ)) : Type 0 where
  name : List ℕ
  is : is_name name ≡ true
  among : is_among name users ≡ true

a-user : (users : List (List ℕ)) → list_all is_name users ≡ true → 0 < most_addresses users → AUser users
a-user [] fit some = absurd (omega (arith, some))
a-user (user ∷ users) fit some = record { name = user; is = (and_parts (is_name user) (list_all is_name users) fit).0; among = ap (λ (b : Bool). b || is_among user users) (same-refl user) }

good-address : (users : List (List ℕ)) → list_all is_name users ≡ true → (count : ℕ) (before : List (List ℕ × Target)) (front : List (List ℕ)) → AddressesBefore users (suc count) before
    → Good (Next (address_format users) address_fields (AddressesBefore users) count before front) (address_format users count before) front
good-address users users-fit count before front h =
    let few = h.few in
    let most = most-few users in
    let long = length-keys before in
    let sample = new_name (keys_of before) (omega (arith, few, long, most)) in
    let somebody = a-user users users-fit (omega (arith, few)) in (
      (sample.name, sample.is, sample.new),
      λ name is new. (
        (somebody.name, somebody.is, somebody.among),
        λ user is-user among. (
          (97 ∷ [], refl, refl),
          λ mailbox is-mailbox _.
              let target : Target = record { user = user; mailbox = mailbox } in
              let size = length-append before ((name, target) ∷ []) in (
                append_assoc (front ++ name_field name ∷ []) (name_field user ∷ []) (name_field mailbox ∷ []) ∙ append_assoc front (name_field name ∷ []) (target_fields target),
                record {
                  few = omega (arith, few, size);
                  distinct = keys-distinct before name target h.distinct new;
                  owners = Every-append (λ (address : List ℕ × Target). is_among address.1.user users ≡ true) before ((name, target) ∷ []) h.owners (among, tt);
                  fit = all-push address_fits before (name, target) h.fit (and_from (is_name name) (target_fits target) is (and_from (is_name user) (is_name mailbox) is-user is-mailbox));
                },
              ),
        ),
      ),
    )

pub record AreReadAddresses (users : List (List ℕ)) (front fields : List (List ℕ)) (addresses : List (List ℕ × Target)) : Type 0 where
  pub spelled : fields ≡ front ++ short_list address_fields addresses
  pub are : AddressesBefore users 0 addresses

pub good_addresses : (users : List (List ℕ)) (front : List (List ℕ)) → list_all is_name users ≡ true → Good (AreReadAddresses users front) (addresses_format users) front
good_addresses users front users-fit = (
  (0, refl, is-within 0 (most_addresses users) 0 (omega arith) (omega arith)),
  λ count fit passed.
      let behind = front ++ u16_field count ∷ [] in
      let range = (within-parts 0 (most_addresses users) count passed).1 in
      good_weaker (AreItems address_fields (AddressesBefore users) behind count) (AreReadAddresses users front) (items_from (address_format users) count []) behind
      (good_items (address_format users) address_fields (AddressesBefore users) (good-address users users-fit) count behind (record { few = omega (arith, range); distinct = tt; owners = tt; fit = refl }))
      (λ fields addresses are. record { spelled = short-spelled front count are; are = are.holds }),
)

-- ---- messages of a board

pub record MessagesBefore (room count : ℕ) (before : List (List (List ℕ))) : Type 0 where
  pub light : total weight_of before + 256 * count ≤ room
  pub fit : list_all is_message before ≡ true

good-message-of : (room count : ℕ) (before : List (List (List ℕ))) (front : List (List ℕ)) → MessagesBefore room (suc count) before
    → Good (Next (message_format room) message_fields (MessagesBefore room) count before front) (message_format room count before) front
good-message-of room count before front h =
    let most = min 65536 (room - (total weight_of before + 256 * suc count)) in
    let light = h.light in
    good_weaker (IsReadMessage most front) (Next (message_format room) message_fields (MessagesBefore room) count before front) (message_within most) front (good_message most front (omega arith))
    (λ fields message this.
    let size = this.size in
    let sum = total-append weight_of before (message ∷ []) in
    (this.spelled, record { light = omega (arith, light, size, sum); fit = all-push is_message before message h.fit this.is }))

-- ---- boards

pub record BoardsBefore (names : List (List ℕ)) (count : ℕ) (before : List (List ℕ × List (List (List ℕ)))) : Type 0 where
  pub few : count + length before ≤ 64
  pub distinct : AreDistinct (keys_of before)
  pub apart : Every (λ (board : List ℕ × List (List (List ℕ))). is_among board.0 names ≡ false) before
  pub fit : list_all board_fits before ≡ true
  pub short : Every (λ (board : List ℕ × List (List (List ℕ))). length board.1 ≤ 4096) before
  pub light : weight_on before ≤ 67108864

new-parts : (xs ys : List (List ℕ)) (name : List ℕ) → is_new (xs ++ ys) name ≡ true → (is_among name xs ≡ false) × (is_among name ys ≡ false)
new-parts xs ys name new = or_parts (is_among name xs) (is_among name ys) (sym (list_any-append (same name) xs ys) ∙ not-true (is_among name (xs ++ ys)) new)

good-board : (names : List (List ℕ)) → length names ≤ 1056 → (count : ℕ) (before : List (List ℕ × List (List (List ℕ)))) (front : List (List ℕ)) → BoardsBefore names (suc count) before
    → Good (Next (board_format names) board_fields (BoardsBefore names) count before front) (board_format names count before) front
good-board names names-few count before front h =
    let few = h.few in
    let long = length-keys before in
    let all = length-append names (keys_of before) in
    let sample = new_name (names ++ keys_of before) (omega (arith, few, long, all, names-few)) in
    let room = 67108864 - weight_on before in (
      (sample.name, sample.is, sample.new),
      λ name is new. (
        (0, refl, is-within 0 (min 4096 (room / 256)) 0 (omega arith) (omega arith)),
        λ many fit passed.
            let range = (within-parts 0 (min 4096 (room / 256)) many passed).1 in
            let apart = new-parts names (keys_of before) name new in
            let behind = (front ++ name_field name ∷ []) ++ u32_field many ∷ [] in
            good_bind (AreItems message_fields (MessagesBefore room) behind many) (Next (board_format names) board_fields (BoardsBefore names) count before front) (items_from (message_format room) many []) (λ messages. ends (name, messages)) behind
            (good_items (message_format room) message_fields (MessagesBefore room) (good-message-of room) many behind (record { light = omega (arith, range); fit = refl }))
            (λ fields messages are.
            let size = length-append before ((name, messages) ∷ []) in
            let counted = are.counted in
            let light = are.holds.light in
            let before-light = h.light in
            let sum = total-append (λ (board : List ℕ × List (List (List ℕ))). total weight_of board.1) before ((name, messages) ∷ []) in (
              long-spelled (front ++ name_field name ∷ []) many are ∙ append_assoc front (name_field name ∷ []) (long_list message_fields messages),
              record {
                few = omega (arith, few, size);
                distinct = keys-distinct before name messages h.distinct (ap not apart.1);
                apart = Every-append (λ (board : List ℕ × List (List (List ℕ))). is_among board.0 names ≡ false) before ((name, messages) ∷ []) h.apart (apart.0, tt);
                fit = all-push board_fits before (name, messages) h.fit (and_from (is_name name) (list_all is_message messages) is are.holds.fit);
                short = Every-append (λ (board : List ℕ × List (List (List ℕ))). length board.1 ≤ 4096) before ((name, messages) ∷ []) h.short (omega (arith, counted, range), tt);
                light = omega (arith, light, before-light, sum);
              },
            )),
      ),
    )

pub record AreReadBoards (names : List (List ℕ)) (front fields : List (List ℕ)) (boards : List (List ℕ × List (List (List ℕ)))) : Type 0 where
  pub spelled : fields ≡ front ++ short_list board_fields boards
  pub are : BoardsBefore names 0 boards

pub good_boards : (names : List (List ℕ)) (front : List (List ℕ)) → length names ≤ 1056 → Good (AreReadBoards names front) (boards_format names) front
good_boards names front names-few = (
  (0, refl, refl),
  λ count fit passed.
      let behind = front ++ u16_field count ∷ [] in
      let range = (within-parts 0 64 count passed).1 in
      good_weaker (AreItems board_fields (BoardsBefore names) behind count) (AreReadBoards names front) (items_from (board_format names) count []) behind
      (good_items (board_format names) board_fields (BoardsBefore names) (good-board names names-few) count behind (record { few = omega (arith, range); distinct = tt; apart = tt; fit = refl; short = tt; light = omega arith }))
      (λ fields boards are. record { spelled = short-spelled front count are; are = are.holds }),
)
