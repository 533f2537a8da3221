-- Reading users, addresses and boards.
use Rattle.std.proofs.Common.{◌≡◌, ℕ, suc, ◌+◌, ◌-◌, ◌*◌, ◌/◌, ◌<◌, ◌≤◌, ◌||◌, min, Bool, true, false, not, Option, Some, None, is_some, List, [], ◌∷◌, ◌++◌, map, Result, Ok, refl, sym, ap, subst, ◌∙◌, arith, true≢false}
use Rattle.std.specs.Map.{keys_of, lookup}
use Rattle.std.proofs.lemmas.Bool.{or_parts}
use Rattle.std.proofs.lemmas.List.Folds.{list_any-append}
use Rattle.pc_message.specs.Message.{size_of, weight_of}
use Rattle.pc_tables.specs.Table.{same, is_among, total}
use Rattle.pc_tables.proofs.Table.{is_among-keys}
use Rattle.pc_tables.proofs.Totals.{total-append}
use Rattle.pc_tables.proofs.Lists.{Every-append}
use Rattle.pc_fields.specs.Fields.{Kind, Held, name_kind, u32_kind, within, FieldReads, is_new}
use Rattle.pc_fields.specs.Format.{Format, Reads}
use Rattle.pc_fields.specs.MessageFormat.{message_within}
use Rattle.pc_fields.specs.declared.cursor.Halt.{Halt}
use Rattle.pc_fields.proofs.Follows.{Follows}
use Rattle.pc_office_spelling.specs.RecordFormat.{items_from, user_format, message_format}
use Rattle.pc_office_holdings.specs.declared.users.Standing.{Standing}
use Rattle.pc_office_holdings.specs.Held.{noted_of, weight_on_all}
use Rattle.pc_office_records.specs.Loading.{IsUncounted, AreUncounted}

-- ---- names

pub name_known : {X : Type 0} (name : List ℕ) (table : List (List ℕ × X)) → is_some (lookup (same name) table) ≡ true → is_new (keys_of table) name ≡ false
name_known name table found = ap not (is_among-keys name table ∙ found)

pub name_new : {X : Type 0} (name : List ℕ) (table : List (List ℕ × X)) → is_some (lookup (same name) table) ≡ false → is_new (keys_of table) name ≡ true
name_new name table none = ap not (is_among-keys name table ∙ none)

-- a field that was read from where a look ahead began
pub field_ahead : (kind : Kind) (test : Held kind → Bool) (ahead now mid : List ℕ) (value : Held kind) → ahead ≡ now → FieldReads kind test ahead mid (Ok value) → FieldReads kind test now mid (Ok value)
field_ahead kind test ahead now mid value is reads = subst (λ (from : List ℕ). FieldReads kind test from mid (Ok value)) is reads

-- what stands under a name in a table that is this one
pub in-table : {X : Type 0} (name : List ℕ) (found : Bool) (b : Bool) (table users : List (List ℕ × X)) → table ≡ users → found ≡ is_some (lookup (same name) table) → found ≡ b → is_some (lookup (same name) users) ≡ b
in-table {X} name found b table users is looked e = ap (λ (t : List (List ℕ × X)). is_some (lookup (same name) t)) (sym is) ∙ sym looked ∙ e

none-found : {X : Type 0} (found : Option X) → is_some found ≡ false → found ≡ None
none-found (Some x) e = absurd (true≢false e)
none-found None e = refl

module _ {X Y Z : Type 0} (name : List ℕ) (us : List (List ℕ × X)) (these : List (List ℕ × Y)) (bs : List (List ℕ × Z)) where
  abbrev among : Bool
  among = is_among name ((keys_of us ++ keys_of these) ++ keys_of bs)

  either : among ≡ ((is_some (lookup (same name) us) || is_some (lookup (same name) these)) || is_some (lookup (same name) bs))
  either =
      list_any-append (same name) (keys_of us ++ keys_of these) (keys_of bs)
      ∙ (λ i. list_any-append (same name) (keys_of us) (keys_of these) i || is_among-keys name bs i)
      ∙ (λ i. (is_among-keys name us i || is_among-keys name these i) || is_some (lookup (same name) bs))

  pub taken-first : is_some (lookup (same name) us) ≡ true → true ≡ among
  taken-first found = sym (either ∙ (λ i. (found i || is_some (lookup (same name) these)) || is_some (lookup (same name) bs)))

  pub taken-second : is_some (lookup (same name) us) ≡ false → is_some (lookup (same name) these) ≡ true → true ≡ among
  taken-second none found = sym (either ∙ (λ i. (none i || found i) || is_some (lookup (same name) bs)))

  pub taken-third : is_some (lookup (same name) us) ≡ false → is_some (lookup (same name) these) ≡ false → is_some (lookup (same name) bs) ≡ among
  taken-third none no-other = sym (either ∙ (λ i. (none i || no-other i) || is_some (lookup (same name) bs)))

  pub none-taken : among ≡ false → lookup (same name) bs ≡ None
  none-taken free = none-found (lookup (same name) bs) (or_parts (is_some (lookup (same name) us) || is_some (lookup (same name) these)) (is_some (lookup (same name) bs)) (sym either ∙ free)).1

-- ---- users

-- users with what is noted of them have the same names
pub keys-noted : (users : List (List ℕ × Standing)) → keys_of (map noted_of users) ≡ keys_of users
keys-noted [] = refl
keys-noted (user ∷ users) = ap (λ (names : List (List ℕ)). user.0 ∷ names) (keys-noted users)

noted-append : (users more : List (List ℕ × Standing)) → map noted_of (users ++ more) ≡ map noted_of users ++ map noted_of more
noted-append [] more = refl
noted-append (user ∷ users) more = ap (λ (l : List (List ℕ × ℕ)). noted_of user ∷ l) (noted-append users more)

pub user-name : (table users : List (List ℕ × Standing)) (old new : List ℕ) (read : Result (List ℕ) Halt) → table ≡ users → FieldReads name_kind (is_new (keys_of table)) old new read → FieldReads name_kind (is_new (keys_of (map noted_of users))) old new read
user-name table users old new read is reads = subst (λ (names : List (List ℕ)). FieldReads name_kind (is_new names) old new read) (ap keys_of is ∙ sym (keys-noted users)) reads

-- one user more
pub user-more : (whole : Format (List (List ℕ × ℕ))) (count : ℕ) (before after : List (List ℕ × Standing)) (user : List ℕ × Standing) (start now : List ℕ) → after ≡ before ++ user ∷ [] → Follows whole (items_from user_format count (map noted_of before ++ noted_of user ∷ [])) start now → Follows whole (items_from user_format count (map noted_of after)) start now
user-more whole count before after user start now is follows =
    subst (λ (users : List (List ℕ × ℕ)). Follows whole (items_from user_format count users) start now) (sym (ap (λ (users : List (List ℕ × Standing)). map noted_of users) is ∙ noted-append before (user ∷ []))) follows

pub uncounted-more : (before after : List (List ℕ × Standing)) (user : List ℕ × Standing) → after ≡ before ++ user ∷ [] → AreUncounted before → IsUncounted user → AreUncounted after
uncounted-more before after user is are one = subst AreUncounted (sym is) (Every-append IsUncounted before (user ∷ []) are (one, tt))

-- ---- boards

module _ (room left asked count taken : ℕ) (before : List (List (List ℕ))) (lt : taken < count) (rooms : left + (total weight_of before + 256 * (count - taken)) ≡ room) (is : asked ≡ min left 65536) where
  -- the room that was asked for is that of the message
  pub message-read : (old new : List ℕ) (read : Result (List (List ℕ)) Halt) → Reads (message_within asked) old new read → Reads (message_format room (count - (taken + 1)) before) old new read
  message-read old new read reads =
      let same : asked ≡ min 65536 (room - (total weight_of before + 256 * suc (count - (taken + 1)))) = omega (arith, lt, rooms, is) in
      subst (λ (n : ℕ). Reads (message_within n) old new read) same reads

  pub room-left : (message : List (List ℕ)) (size : ℕ) → size_of message ≤ asked → size ≡ size_of message → (left - size) + (total weight_of (before ++ message ∷ []) + 256 * (count - (taken + 1))) ≡ room
  room-left message size small sized =
      let sum = total-append weight_of before (message ∷ []) in
      omega (arith, lt, rooms, is, small, sized, sum)

module _ (boards : List (List ℕ × List (List (List ℕ)))) (room : ℕ) (is : room ≡ 67108864 - weight_on_all boards) where
  -- how many messages a board has
  pub count-read : (most : ℕ) (old new : List ℕ) (read : Result ℕ Halt) → most ≡ min 4096 (room / 256) → FieldReads u32_kind (within 0 most) old new read → FieldReads u32_kind (within 0 (min 4096 ((67108864 - weight_on_all boards) / 256))) old new read
  count-read most old new read upto reads = subst (λ (n : ℕ). FieldReads u32_kind (within 0 n) old new read) (upto ∙ ap (λ (n : ℕ). min 4096 (n / 256)) is) reads

  pub messages-read : (count : ℕ) (old new : List ℕ) (read : Result (List (List (List ℕ))) Halt) → Reads (items_from (message_format room) count []) old new read → Reads (items_from (message_format (67108864 - weight_on_all boards)) count []) old new read
  messages-read count old new read reads = subst (λ (n : ℕ). Reads (items_from (message_format n) count []) old new read) is reads

  pub boards-light : (name : List ℕ) (messages : List (List (List ℕ))) → weight_on_all boards ≤ 67108864 → total weight_of messages ≤ room → weight_on_all (boards ++ (name, messages) ∷ []) ≤ 67108864
  boards-light name messages light few =
      let sum = total-append (λ (board : List ℕ × List (List (List ℕ))). total weight_of board.1) boards ((name, messages) ∷ []) in
      omega (arith, is, light, few, sum)
