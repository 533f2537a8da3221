-- Reading update lists, change after change and list after list.
use Rattle.std.proofs.Common.{◌≡◌, ℕ, zero, suc, ◌+◌, ◌-◌, ◌<◌, ◌≤◌, ◌&&◌, ◌||◌, ◌==◌, nat_lt, nat_le, min, Bool, true, false, cond, not, Option, is_some, List, [], ◌∷◌, ◌++◌, length, Ok, Err, refl, sym, ap, subst, ◌∙◌, arith, true≢false}
use Rattle.std.specs.Cmp.{nat_eq_equiv}
use Rattle.std.proofs.lemmas.Bool.{ltb-true, leb-true, leb-false, lt-ltb, eqb-true}
use Rattle.pc_account_history.specs.declared.kept.Listed.{Listed}
use Rattle.pc_account_history.specs.Record.{stamp_at}
use Rattle.pc_tables.specs.Order.{Ordered}
use Rattle.pc_account_history.specs.Legal.{HasOtherUid}
use Rattle.pc_tables.specs.Table.{same}
use Rattle.pc_tables.proofs.Lists.{Every-weaker}
use Rattle.pc_tables.proofs.Order.{Ordered-push}
use Rattle.pc_mailbox.specs.UpdateList.{is_on}
use Rattle.pc_mailbox.proofs.Touches.{on-cons}
use Rattle.pc_fields.specs.Fields.{Kind, Held, name_kind, u32_kind, u64_kind, within, FieldReads}
use Rattle.pc_fields.specs.Format.{Format, goes, bind, Reads}
use Rattle.pc_account_spelling.specs.RecordFormat.{last_number, least_stamp, above, is_listed, can_follow, changes_from, lists_from}
use Rattle.pc_fields.specs.declared.cursor.Halt.{Halt}
use Rattle.pc_fields.proofs.Follows.{Follows, follows_field, follows_no_field, follows_part, follows_halt, follows_last}
use Rattle.pc_account_spelling.proofs.Free.{above-less, above-fewer}
use Rattle.pc_account_spelling.proofs.GoodChanges.{and-three, not-listed}
use Rattle.pc_account_spelling.proofs.ReadsChanges.{above-same, above-step, above-append}
use Rattle.pc_account_records.specs.declared.loading.lists.Tally.{Tally}
use Rattle.pc_account_records.specs.ReadList.{HasRoom, is_next, is_stamp}

-- ---- what is listed

pub on-listed : (uid : ℕ) (list : List Listed) → is_on list uid ≡ is_listed uid list
on-listed uid [] = refl
on-listed uid (listed ∷ list) = on-cons listed list uid ∙ ap (λ (b : Bool). (listed.uid == uid) || b) (on-listed uid list)

-- the uid was looked up
pub listed_by : (uid : ℕ) (list : List Listed) (found : Option ℕ) (b : Bool) → found ≡ stamp_at uid list → is_some found ≡ b → is_listed uid list ≡ b
listed_by uid list found b is e = sym (on-listed uid list) ∙ ap is_some (sym is) ∙ e

-- ---- how many changes have higher uids

-- where the next uid is listed, one less is above it
pub above-next-listed : (uid : ℕ) (list : List Listed) → Ordered HasOtherUid list → is_listed (suc uid) list ≡ true → above uid list ≡ suc (above (suc uid) list)
above-next-listed uid list distinct on =
    let most = above-step uid list distinct in
    let least = above-fewer uid list on in
    omega (arith, most, least)

-- where it isn't, as many are
pub above-next-free : (uid : ℕ) (list : List Listed) → is_listed (suc uid) list ≡ false → above uid list ≡ above (suc uid) list
above-next-free uid list off =
    let other = Every-weaker (λ (listed : Listed). (listed.uid == suc uid) ≡ false) (λ (listed : Listed). (suc uid == listed.uid) ≡ false) (λ listed e. nat_eq_equiv.symm (suc uid) listed.uid ∙ e) list (not-listed (suc uid) list off) in
    let most = above-same uid list other in
    let least = above-less uid list in
    omega (arith, most, least)

next-by : (uid : ℕ) (list : List Listed) (found : Option ℕ) (b : Bool) → found ≡ stamp_at (uid + 1) list → is_some found ≡ b → is_listed (suc uid) list ≡ b
next-by uid list found b is e =
    let one : suc uid ≡ uid + 1 = omega arith in
    ap (λ (n : ℕ). is_listed n list) one ∙ listed_by (uid + 1) list found b is e

-- the next uid was looked up
pub above_looked_up : (uid : ℕ) (list : List Listed) (found : Option ℕ) → Ordered HasOtherUid list → found ≡ stamp_at (uid + 1) list → is_some found ≡ true → above uid list ≡ above (uid + 1) list + 1
above_looked_up uid list found distinct is on =
    let less = above-next-listed uid list distinct (next-by uid list found true is on) in
    let one : suc uid ≡ uid + 1 = omega arith in
    let same = ap (λ (n : ℕ). above n list) one in
    omega (arith, less, same)

pub above_not_found : (uid : ℕ) (list : List Listed) (found : Option ℕ) → found ≡ stamp_at (uid + 1) list → is_some found ≡ false → above uid list ≡ above (uid + 1) list
above_not_found uid list found is off =
    let one : suc uid ≡ uid + 1 = omega arith in
    above-next-free uid list (next-by uid list found false is off) ∙ ap (λ (n : ℕ). above n list) one

-- a uid that isn't listed, and the one below it
pub above_below : (uid : ℕ) (list : List Listed) → 0 < uid → is_listed uid list ≡ false → above (uid - 1) list ≡ above uid list
above_below uid list positive off =
    let up : suc (uid - 1) ≡ uid = omega (arith, positive) in
    above-next-free (uid - 1) list (ap (λ (n : ℕ). is_listed n list) up ∙ off) ∙ ap (λ (n : ℕ). above n list) up

pub too_many : (n most : ℕ) → most < n → nat_le n most ≡ false
too_many n most gt = by_test (nat_le n most) refl
  where
    by_test : (b : Bool) → nat_le n most ≡ b → b ≡ false
    by_test true e = absurd (let le = leb-true n most e in omega (arith, gt, le))
    by_test false e = refl

-- a higher uid has no more uids above it that aren't listed
above-climb : (more uid : ℕ) (list : List Listed) → Ordered HasOtherUid list → above uid list ≤ more + above (more + uid) list
above-climb zero uid list distinct = let same : zero + uid ≡ uid = omega arith in rw same (omega arith)
above-climb (suc more) uid list distinct =
    let rest = above-climb more uid list distinct in
    let step = above-step (more + uid) list distinct in
    let same : suc more + uid ≡ suc (more + uid) = omega arith in
    rw same (omega (arith, rest, step))

-- a uid up to the one behind the tally has room
pub room_below : (left uid highest : ℕ) (list : List Listed) (tally : Tally) → HasRoom highest (left + 1) list tally → uid ≤ suc tally.uid → left + above uid list + uid ≤ highest
room_below left uid highest list tally has le =
    let more = suc tally.uid - uid in
    let climb = above-climb more uid list has.distinct in
    let same : more + uid ≡ suc tally.uid = omega (arith, le) in
    let climbs : above uid list ≤ more + above (suc tally.uid) list = subst (λ (n : ℕ). above uid list ≤ more + above n list) same climb in
    let less = above-less tally.uid list in
    let counted = has.counted in
    let room = has.room in
    omega (arith, climbs, same, less, counted, room)

-- ---- what can follow

pub can_follow-lower : (highest left uid stamp : ℕ) (list : List Listed) → stamp < last_number → can_follow highest left list uid stamp ≡ true
can_follow-lower highest left uid stamp list lt = rw (lt-ltb stamp last_number lt) refl

not-lower : (stamp : ℕ) (b : Bool) → last_number ≤ stamp → nat_lt stamp last_number ≡ b → b ≡ false
not-lower stamp true ge e = absurd (let lt = ltb-true stamp last_number e in omega (arith, ge, lt))
not-lower stamp false ge e = refl

not-last : (stamp : ℕ) (b : Bool) → last_number < stamp → (stamp == last_number) ≡ b → b ≡ false
not-last stamp true gt e = absurd (let is = eqb-true stamp last_number e in omega (arith, gt, is))
not-last stamp false gt e = refl

pub can_follow-higher : (highest left uid stamp : ℕ) (list : List Listed) → last_number < stamp → can_follow highest left list uid stamp ≡ false
can_follow-higher highest left uid stamp list gt =
    rw (not-lower stamp (nat_lt stamp last_number) (omega (arith, gt)) refl, not-last stamp (stamp == last_number) gt refl) refl

-- behind the last number none follows, however much higher the stamp
pub can_follow_capped : (highest left uid stamp : ℕ) (list : List Listed) → can_follow highest left list uid (min stamp 18446744073709551615) ≡ can_follow highest left list uid stamp
can_follow_capped highest left uid stamp list = by_test (nat_le stamp 18446744073709551615) refl
  where
    by_test : (b : Bool) → nat_le stamp 18446744073709551615 ≡ b → can_follow highest left list uid (min stamp 18446744073709551615) ≡ can_follow highest left list uid stamp
    by_test true e =
        let le = leb-true stamp 18446744073709551615 e in
        ap (can_follow highest left list uid) (let same : min stamp 18446744073709551615 ≡ stamp = omega (arith, le) in same)
    by_test false e =
        let gt = leb-false stamp 18446744073709551615 e in
        can_follow-higher highest left uid (min stamp 18446744073709551615) list (omega (arith, gt)) ∙ sym (can_follow-higher highest left uid stamp list (omega (arith, gt)))

-- ---- the uid that is next

-- a field that was read from where a look ahead began
pub field_ahead : (kind : Kind) (test : Held kind → Bool) (ahead now mid : List ℕ) (value : Held kind) → ahead ≡ now → FieldReads kind test ahead mid (Ok value) → FieldReads kind test now mid (Ok value)
field_ahead kind test ahead now mid value is reads = subst (λ (from : List ℕ). FieldReads kind test from mid (Ok value)) is reads

and-not : (a b c : Bool) → b ≡ true → (a && not b && c) ≡ false
and-not true true c e = refl
and-not true false c e = absurd (true≢false (sym e))
and-not false b c e = refl

and-last : (a b : Bool) → b ≡ false → (a && b) ≡ false
and-last true b e = e
and-last false b e = refl

module _ (highest left : ℕ) (before : List Listed) (last : Listed) (uid : ℕ) where
  pub next_listed : is_listed uid before ≡ true → is_next highest left before last uid ≡ false
  next_listed on = and-not (within 1 highest uid) (is_listed uid before) (can_follow highest left before uid (least_stamp last.stamp last.uid uid)) on

  pub stamp_stuck : (stamp : ℕ) → can_follow highest left before uid stamp ≡ false → is_stamp highest left before last uid stamp ≡ false
  stamp_stuck stamp stuck = and-last (nat_le (least_stamp last.stamp last.uid uid) stamp) (can_follow highest left before uid stamp) stuck

  module _ (least : ℕ) (b : Bool) (is : least ≡ min (least_stamp last.stamp last.uid uid) 18446744073709551615) (tested : can_follow highest left before uid least ≡ b) where
    can-least : can_follow highest left before uid (least_stamp last.stamp last.uid uid) ≡ b
    can-least = sym (can_follow_capped highest left uid (least_stamp last.stamp last.uid uid) before) ∙ ap (can_follow highest left before uid) (sym is) ∙ tested

    pub next_stuck : b ≡ false → is_next highest left before last uid ≡ false
    next_stuck stuck = and-last (within 1 highest uid && not (is_listed uid before)) (can_follow highest left before uid (least_stamp last.stamp last.uid uid)) (can-least ∙ stuck)

    pub next_passes : within 1 highest uid ≡ true → is_listed uid before ≡ false → b ≡ true → is_next highest left before last uid ≡ true
    next_passes range off can = and-three (within 1 highest uid) (is_listed uid before) (can_follow highest left before uid (least_stamp last.stamp last.uid uid)) range off (can-least ∙ can)

-- ---- changes, one after the other

abbrev behind_stamp : ℕ → ℕ → List Listed → ℕ → ℕ → Format (List Listed)
behind_stamp highest left before uid stamp = changes_from highest left stamp uid (before ++ record { uid = uid; stamp = stamp } ∷ [])

abbrev behind_uid : ℕ → ℕ → List Listed → Listed → ℕ → Format (List Listed)
behind_uid highest left before last uid = goes u64_kind (is_stamp highest left before last uid) (behind_stamp highest left before uid)

module _ (highest count taken : ℕ) (last : Listed) (before : List Listed) (whole : Format (List Listed)) (start now : List ℕ) (lt : taken < count) (follows : Follows whole (changes_from highest (count - taken) last.stamp last.uid before) start now) where
  change-step : changes_from highest (count - taken) last.stamp last.uid before ≡ goes u32_kind (is_next highest (count - (taken + 1)) before last) (behind_uid highest (count - (taken + 1)) before last)
  change-step = ap (λ (n : ℕ). changes_from highest n last.stamp last.uid before) (let one-left : count - taken ≡ suc (count - (taken + 1)) = omega (arith, lt) in one-left)

  pub changes_no_uid : (new : List ℕ) (halt : Halt) → FieldReads u32_kind (is_next highest (count - (taken + 1)) before last) now new (Err halt) → Reads whole start new (Err halt)
  changes_no_uid new halt none = follows_no_field u32_kind (is_next highest (count - (taken + 1)) before last) (behind_uid highest (count - (taken + 1)) before last) halt follows change-step none

  with-uid : (mid : List ℕ) (uid : ℕ) → FieldReads u32_kind (is_next highest (count - (taken + 1)) before last) now mid (Ok uid) → Follows whole (behind_uid highest (count - (taken + 1)) before last uid) start mid
  with-uid mid uid reads = follows_field u32_kind (is_next highest (count - (taken + 1)) before last) (behind_uid highest (count - (taken + 1)) before last) uid follows change-step reads

  pub changes_no_stamp : (mid : List ℕ) (uid : ℕ) (new : List ℕ) (halt : Halt) → FieldReads u32_kind (is_next highest (count - (taken + 1)) before last) now mid (Ok uid) → FieldReads u64_kind (is_stamp highest (count - (taken + 1)) before last uid) mid new (Err halt) → Reads whole start new (Err halt)
  changes_no_stamp mid uid new halt reads none = follows_no_field u64_kind (is_stamp highest (count - (taken + 1)) before last uid) (behind_stamp highest (count - (taken + 1)) before uid) halt (with-uid mid uid reads) refl none

  pub changes_more : (mid : List ℕ) (uid : ℕ) (new : List ℕ) (stamp : ℕ) → FieldReads u32_kind (is_next highest (count - (taken + 1)) before last) now mid (Ok uid) → FieldReads u64_kind (is_stamp highest (count - (taken + 1)) before last uid) mid new (Ok stamp)
      → Follows whole (changes_from highest (count - (taken + 1)) stamp uid (before ++ record { uid = uid; stamp = stamp } ∷ [])) start new
  changes_more mid uid new stamp reads then = follows_field u64_kind (is_stamp highest (count - (taken + 1)) before last uid) (behind_stamp highest (count - (taken + 1)) before uid) stamp (with-uid mid uid reads) refl then

pub changes_last : (highest count taken : ℕ) (last : Listed) (list : List Listed) (whole : Format (List Listed)) (start now : List ℕ) → count ≤ taken → Follows whole (changes_from highest (count - taken) last.stamp last.uid list) start now → Reads whole start now (Ok list)
changes_last highest count taken last list whole start now le follows = follows_last whole (changes_from highest (count - taken) last.stamp last.uid list) start now list follows (ap (λ (n : ℕ). changes_from highest n last.stamp last.uid list) (let none : count - taken ≡ zero = omega (arith, le) in none))

-- ---- the room, change after change

one-above : (uid : ℕ) (change : Listed) → above uid (change ∷ []) ≤ 1
one-above uid change = by_test (nat_lt uid change.uid)
  where
    by_test : (b : Bool) → length (cond b (change ∷ []) []) ≤ 1
    by_test true = omega arith
    by_test false = omega arith

pub room_push : (highest left : ℕ) (list : List Listed) (tally new : Tally) (change : Listed) → HasRoom highest (left + 1) list tally → is_listed change.uid list ≡ false → new.uid ≡ tally.uid → new.above ≡ tally.above + above tally.uid (change ∷ []) → HasRoom highest left (list ++ change ∷ []) new
room_push highest left list tally new change has off uid more =
    let one = one-above tally.uid change in
    let sum = above-append tally.uid list (change ∷ []) in
    let same = ap (λ (n : ℕ). above n (list ++ change ∷ [])) uid in
    let counted = has.counted in
    let room = has.room in
    record {
      distinct = Ordered-push HasOtherUid list change has.distinct (not-listed change.uid list off);
      counted = omega (arith, same, sum, counted, more);
      room = omega (arith, room, one, more, uid);
    }

-- ---- lists, one after the other

abbrev Lists : Type 0
Lists = List (List ℕ × List Listed)

module _ (highest room most : ℕ) (client : List ℕ × ℕ) (rest clients : List (List ℕ × ℕ)) (before : Lists) (whole : Format Lists) (start now : List ℕ) (is-most : most ≡ min highest room) (is : clients ≡ client ∷ rest) (follows : Follows whole (lists_from highest room clients before) start now) where
  abbrev behind-list : List Listed → Format Lists
  behind-list list = lists_from highest (room - length list) rest (before ++ (client.0, list) ∷ [])

  abbrev behind-count : ℕ → Format Lists
  behind-count count = bind (changes_from highest count client.1 0 []) behind-list

  abbrev behind-name : List ℕ → Format Lists
  behind-name _ = goes u32_kind (within 0 most) behind-count

  list-step : lists_from highest room clients before ≡ goes name_kind (same client.0) behind-name
  list-step = ap (λ (left : List (List ℕ × ℕ)). lists_from highest room left before) is ∙ (λ i. goes name_kind (same client.0) (λ _. goes u32_kind (within 0 (sym is-most i)) behind-count))

  pub lists_no_name : (new : List ℕ) (halt : Halt) → FieldReads name_kind (same client.0) now new (Err halt) → Reads whole start new (Err halt)
  lists_no_name new halt none = follows_no_field name_kind (same client.0) behind-name halt follows list-step none

  module _ (mid name : List ℕ) (named : FieldReads name_kind (same client.0) now mid (Ok name)) where
    with-name : Follows whole (goes u32_kind (within 0 most) behind-count) start mid
    with-name = follows_field name_kind (same client.0) behind-name name follows list-step named

    pub lists_no_count : (new : List ℕ) (halt : Halt) → FieldReads u32_kind (within 0 most) mid new (Err halt) → Reads whole start new (Err halt)
    lists_no_count new halt none = follows_no_field u32_kind (within 0 most) behind-count halt with-name refl none

    module _ (counted : List ℕ) (count : ℕ) (reads : FieldReads u32_kind (within 0 most) mid counted (Ok count)) where
      with-count : Follows whole (behind-count count) start counted
      with-count = follows_field u32_kind (within 0 most) behind-count count with-name refl reads

      pub lists_no_list : (new : List ℕ) (halt : Halt) → Reads (changes_from highest count client.1 0 []) counted new (Err halt) → Reads whole start new (Err halt)
      lists_no_list new halt none = follows_halt whole (behind-count count) (changes_from highest count client.1 0 []) behind-list start counted new halt with-count refl none

      pub lists_more : (new : List ℕ) (list : List Listed) → Reads (changes_from highest count client.1 0 []) counted new (Ok list) → Follows whole (lists_from highest (room - length list) rest (before ++ (client.0, list) ∷ [])) start new
      lists_more new list then = follows_part whole (behind-count count) (changes_from highest count client.1 0 []) behind-list start counted new list with-count refl then

pub lists_last : (highest room : ℕ) (clients : List (List ℕ × ℕ)) (lists : Lists) (whole : Format Lists) (start now : List ℕ) → clients ≡ [] → Follows whole (lists_from highest room clients lists) start now → Reads whole start now (Ok lists)
lists_last highest room clients lists whole start now none follows = follows_last whole (lists_from highest room clients lists) start now lists follows (ap (λ (left : List (List ℕ × ℕ)). lists_from highest room left lists) none)
