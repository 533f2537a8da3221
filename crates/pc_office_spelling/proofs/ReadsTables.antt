-- The fields of users, addresses and boards are read as them.
use Rattle.std.proofs.Common.{◌≡◌, ℕ, suc, ◌+◌, ◌-◌, ◌*◌, ◌/◌, ◌≤◌, min, Bool, true, false, not, ◌||◌, nat_le, List, [], ◌∷◌, ◌++◌, length, refl, sym, ap, subst, ◌∙◌, append_assoc, arith}
use Rattle.std.specs.List.{list_all, flat_map, AllByRecursion as Every}
use Rattle.std.specs.Map.{keys_of}
use Rattle.std.proofs.lemmas.Bool.{leb-true, lt-ltb, and_parts}
use Rattle.std.proofs.lemmas.List.Folds.{list_any-append}
use Rattle.pc_base.specs.Name.{is_name}
use Rattle.pc_base.specs.Line.{is_line}
use Rattle.pc_message.specs.Message.{size_of, weight_of}
use Rattle.pc_tables.specs.Table.{same, is_among, total}
use Rattle.pc_tables.specs.Order.{AreDistinct}
use Rattle.pc_tables.proofs.Table.{same-sym}
use Rattle.pc_tables.proofs.Totals.{total-append}
use Rattle.pc_fields.specs.FieldBytes.{message_fields, short_list}
use Rattle.pc_fields.specs.Fitting.{is_message}
use Rattle.pc_fields.proofs.Formats.{ending}
use Rattle.pc_fields.proofs.Pushes.{is-within}
use Rattle.pc_fields.proofs.ReadsMessage.{reads_message}
use Rattle.pc_office_history.specs.declared.kept.Target.{Target}
use Rattle.pc_office_spelling.specs.RecordSpelling.{user_fields, address_fields, board_fields}
use Rattle.pc_office_spelling.specs.RecordForm.{user_fits, target_fits, address_fits, board_fits}
use Rattle.pc_office_spelling.specs.RecordFormat.{items_from, user_format, users_format, address_format, most_addresses, addresses_format, message_format, weight_on, board_format, boards_format}
use Rattle.pc_office_spelling.proofs.Items.{reads_items}
use Rattle.pc_fields.specs.Format.{ReadsAs}

-- ---- names that are new

middle-key : {X : Type 0} (P : List ℕ → Type 0) (before : List (List ℕ × X)) (entry : List ℕ × X) (rest : List (List ℕ × X)) → Every P (keys_of (before ++ entry ∷ rest)) → P entry.0
middle-key P [] entry rest all = all.0
middle-key P (one ∷ before) entry rest all = middle-key P before entry rest all.1

new-key : {X : Type 0} (before : List (List ℕ × X)) (entry : List ℕ × X) (rest : List (List ℕ × X)) → AreDistinct (keys_of (before ++ entry ∷ rest)) → is_among entry.0 (keys_of before) ≡ false
new-key [] entry rest distinct = refl
new-key (one ∷ before) entry rest distinct =
    let here : same entry.0 one.0 ≡ false = same-sym entry.0 one.0 ∙ middle-key (λ (later : List ℕ). same one.0 later ≡ false) before entry rest distinct.0 in
    λ i. here i || new-key before entry rest distinct.1 i

moved : {X : Type 0} (P : List X → Type 0) (before : List X) (x : X) (rest : List X) → P (before ++ x ∷ rest) → P ((before ++ x ∷ []) ++ rest)
moved P before x rest h = subst P (sym (append_assoc before (x ∷ []) rest)) h

-- ---- users

record UsersLeft (before rest : List (List ℕ × ℕ)) : Type 0 where
  distinct : AreDistinct (keys_of (before ++ rest))
  fit : list_all user_fits rest ≡ true
  noted : Every (λ (user : List ℕ × ℕ). user.1 ≤ 9223372036854775807) rest

reads-user : (before : List (List ℕ × ℕ)) (user : List ℕ × ℕ) (rest : List (List ℕ × ℕ)) → UsersLeft before (user ∷ rest) → ReadsAs (user_format (length rest) before) (user_fields user) user × UsersLeft (before ++ user ∷ []) rest
reads-user before user rest left =
    let parts = and_parts (is_name user.0) (list_all user_fits rest) left.fit in
    let noted = left.noted.0 in (
      (user.0, _, parts.0, ap not (new-key before user rest left.distinct), refl, (user.1, [], lt-ltb user.1 18446744073709551616 (omega (arith, noted)), is-within 0 9223372036854775807 user.1 (omega arith) noted, refl, (refl, refl))),
      record { distinct = moved (λ (all : List (List ℕ × ℕ)). AreDistinct (keys_of all)) before user rest left.distinct; fit = parts.1; noted = left.noted.1 },
    )

pub reads_users : (users : List (List ℕ × ℕ)) → length users ≤ 32 → AreDistinct (keys_of users) → list_all user_fits users ≡ true → Every (λ (user : List ℕ × ℕ). user.1 ≤ 9223372036854775807) users → ReadsAs users_format (short_list user_fields users) users
reads_users users few distinct fit noted =
    (length users, _, lt-ltb (length users) 65536 (omega (arith, few)), is-within 0 32 (length users) (omega arith) few, refl, reads_items user_format user_fields UsersLeft reads-user [] users (record { distinct = distinct; fit = fit; noted = noted }))

-- ---- addresses

record AddressesLeft (users : List (List ℕ)) (before rest : List (List ℕ × Target)) : Type 0 where
  distinct : AreDistinct (keys_of (before ++ rest))
  owners : Every (λ (address : List ℕ × Target). is_among address.1.user users ≡ true) rest
  fit : list_all address_fits rest ≡ true

reads-address : (users : List (List ℕ)) (before : List (List ℕ × Target)) (address : List ℕ × Target) (rest : List (List ℕ × Target)) → AddressesLeft users before (address ∷ rest)
    → ReadsAs (address_format users (length rest) before) (address_fields address) address × AddressesLeft users (before ++ address ∷ []) rest
reads-address users before address rest left =
    let fits = and_parts (address_fits address) (list_all address_fits rest) left.fit in
    let parts = and_parts (is_name address.0) (target_fits address.1) fits.0 in
    let names = and_parts (is_name address.1.user) (is_name address.1.mailbox) parts.1 in (
      (address.0, _, parts.0, ap not (new-key before address rest left.distinct), refl, (address.1.user, _, names.0, left.owners.0, refl, (address.1.mailbox, [], names.1, refl, refl, (refl, refl)))),
      record { distinct = moved (λ (all : List (List ℕ × Target)). AreDistinct (keys_of all)) before address rest left.distinct; owners = left.owners.1; fit = fits.1 },
    )

owned-few : (users : List (List ℕ)) (addresses : List (List ℕ × Target)) → length addresses ≤ 1024 → Every (λ (address : List ℕ × Target). is_among address.1.user users ≡ true) addresses → length addresses ≤ most_addresses users
owned-few (user ∷ users) addresses few owners = few
owned-few [] [] few owners = omega arith
owned-few [] (address ∷ addresses) few owners = absurd (let e : ◌≡◌ {A = Bool} false true = owners.0 in cc)

pub reads_addresses : (users : List (List ℕ)) (addresses : List (List ℕ × Target)) → length addresses ≤ 1024 → AreDistinct (keys_of addresses) → Every (λ (address : List ℕ × Target). is_among address.1.user users ≡ true) addresses → list_all address_fits addresses ≡ true
    → ReadsAs (addresses_format users) (short_list address_fields addresses) addresses
reads_addresses users addresses few distinct owners fit = (
  length addresses,
  _,
  lt-ltb (length addresses) 65536 (omega (arith, few)),
  is-within 0 (most_addresses users) (length addresses) (omega arith) (owned-few users addresses few owners),
  refl,
  reads_items (address_format users) address_fields (AddressesLeft users) (reads-address users) [] addresses (record { distinct = distinct; owners = owners; fit = fit }),
)

-- ---- messages of a board

record MessagesLeft (room : ℕ) (before rest : List (List (List ℕ))) : Type 0 where
  light : total weight_of before + total weight_of rest ≤ room
  fit : list_all is_message rest ≡ true

weights-least : (messages : List (List (List ℕ))) → 256 * length messages ≤ total weight_of messages
weights-least [] = omega arith
weights-least (message ∷ messages) = let rest = weights-least messages in omega (arith, rest)

reads-message-of : (room : ℕ) (before : List (List (List ℕ))) (message : List (List ℕ)) (rest : List (List (List ℕ))) → MessagesLeft room before (message ∷ rest)
    → ReadsAs (message_format room (length rest) before) (message_fields message) message × MessagesLeft room (before ++ message ∷ []) rest
reads-message-of room before message rest left =
    let parts = and_parts (is_message message) (list_all is_message rest) left.fit in
    let size = leb-true (size_of message) 65536 (and_parts (list_all is_line message) (nat_le (size_of message) 65536) parts.0).1 in
    let light = left.light in
    let least = weights-least rest in
    let sum = total-append weight_of before (message ∷ []) in
    (reads_message message (min 65536 (room - (total weight_of before + 256 * suc (length rest)))) parts.0 (omega (arith, size, light, least)), record { light = omega (arith, light, sum); fit = parts.1 })

reads-messages : (room : ℕ) (messages : List (List (List ℕ))) → total weight_of messages ≤ room → list_all is_message messages ≡ true → ReadsAs (items_from (message_format room) (length messages) []) (flat_map message_fields messages) messages
reads-messages room messages light fit = reads_items (message_format room) message_fields (MessagesLeft room) (reads-message-of room) [] messages (record { light = omega (arith, light); fit = fit })

-- ---- boards

record BoardsLeft (names : List (List ℕ)) (before rest : List (List ℕ × List (List (List ℕ)))) : Type 0 where
  distinct : AreDistinct (keys_of (before ++ rest))
  apart : Every (λ (board : List ℕ × List (List (List ℕ))). is_among board.0 names ≡ false) rest
  fit : list_all board_fits rest ≡ true
  short : Every (λ (board : List ℕ × List (List (List ℕ))). length board.1 ≤ 4096) rest
  light : weight_on before + weight_on rest ≤ 67108864

reads-board : (names : List (List ℕ)) (before : List (List ℕ × List (List (List ℕ)))) (board : List ℕ × List (List (List ℕ))) (rest : List (List ℕ × List (List (List ℕ)))) → BoardsLeft names before (board ∷ rest)
    → ReadsAs (board_format names (length rest) before) (board_fields board) board × BoardsLeft names (before ++ board ∷ []) rest
reads-board names before board rest left =
    let fits = and_parts (board_fits board) (list_all board_fits rest) left.fit in
    let parts = and_parts (is_name board.0) (list_all is_message board.1) fits.0 in
    let room = 67108864 - weight_on before in
    let light = left.light in
    let short = left.short.0 in
    let least = weights-least board.1 in
    let new : is_among board.0 (names ++ keys_of before) ≡ false = list_any-append (same board.0) names (keys_of before) ∙ (λ i. left.apart.0 i || new-key before board rest left.distinct i) in
    let sum = total-append (λ (one : List ℕ × List (List (List ℕ))). total weight_of one.1) before (board ∷ []) in (
      (
        board.0,
        _,
        parts.0,
        ap not new,
        refl,
        (
          length board.1,
          _,
          lt-ltb (length board.1) 4294967296 (omega (arith, short)),
          is-within 0 (min 4096 (room / 256)) (length board.1) (omega arith) (omega (arith, short, light, least)),
          refl,
          ending (items_from (message_format room) (length board.1) []) (flat_map message_fields board.1) board.1 (λ messages. (board.0, messages)) (reads-messages room board.1 (omega (arith, light)) parts.1),
        ),
      ),
      record {
        distinct = moved (λ (all : List (List ℕ × List (List (List ℕ)))). AreDistinct (keys_of all)) before board rest left.distinct;
        apart = left.apart.1;
        fit = fits.1;
        short = left.short.1;
        light = omega (arith, light, sum);
      },
    )

pub reads_boards : (names : List (List ℕ)) (boards : List (List ℕ × List (List (List ℕ)))) → length boards ≤ 64 → AreDistinct (keys_of boards) → Every (λ (board : List ℕ × List (List (List ℕ))). is_among board.0 names ≡ false) boards → list_all board_fits boards ≡ true
    → Every (λ (board : List ℕ × List (List (List ℕ))). length board.1 ≤ 4096) boards → weight_on boards ≤ 67108864 → ReadsAs (boards_format names) (short_list board_fields boards) boards
reads_boards names boards few distinct apart fit short light = (
  length boards,
  _,
  lt-ltb (length boards) 65536 (omega (arith, few)),
  is-within 0 64 (length boards) (omega arith) few,
  refl,
  reads_items (board_format names) board_fields (BoardsLeft names) (reads-board names) [] boards (record { distinct = distinct; apart = apart; fit = fit; short = short; light = omega (arith, light) }),
)
