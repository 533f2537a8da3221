-- Update lists as they are read.
use Rattle.std.proofs.Common.{◌≡◌, ℕ, zero, suc, ◌+◌, ◌<◌, ◌≤◌, ◌&&◌, ◌||◌, ◌==◌, nat_lt, nat_le, Bool, true, false, cond, not, ◌⊎◌, inl, inr, List, [], ◌∷◌, ◌++◌, length, refl, sym, subst, ◌∙◌, append_assoc, arith, true≢false, length-append}
use Rattle.std.specs.List.{filter, flat_map, AllByRecursion as Every}
use Rattle.std.proofs.lemmas.Bool.{ltb-true, ltb-false, leb-true, lt-ltb, le-leb, eqb-true, eq-eqb, and_parts, and_from, or_parts, not-true}
use Rattle.pc_account_history.specs.declared.kept.Listed.{Listed}
use Rattle.pc_tables.specs.Order.{Ordered}
use Rattle.pc_account_history.specs.Legal.{IsListedBefore, HasOtherUid, IsChange, IsUpdateList}
use Rattle.pc_tables.proofs.Lists.{Every-weaker, Every-append}
use Rattle.pc_tables.proofs.Order.{Ordered-push}
use Rattle.pc_fields.specs.FieldBytes.{u32_field, u64_field}
use Rattle.pc_account_spelling.specs.Spelling.{listed_fields}
use Rattle.pc_fields.specs.Fields.{within}
use Rattle.pc_account_spelling.specs.RecordFormat.{last_number, least_stamp, above, is_listed, can_follow, changes_from}
use Rattle.pc_fields.proofs.Good.{Good}
use Rattle.pc_account_spelling.proofs.Free.{free_uid}
use Rattle.pc_fields.proofs.Pushes.{fields-push}

-- what was read of an update list, up to the change of this stamp and uid, with so many changes still to come
pub record AreChangesTo (highest birth count stamp uid : ℕ) (list : List Listed) : Type 0 where
  pub in_order : Ordered IsListedBefore list
  pub distinct : Ordered HasOtherUid list
  pub changes : Every (IsChange 9223372036854775808 highest birth) list
  pub upto : Every (λ (listed : Listed). (listed.stamp < stamp) ⊎ ((listed.stamp ≡ stamp) × (listed.uid ≤ uid))) list
  pub born : birth ≤ stamp
  pub last : stamp ≤ last_number
  pub room : count + above 0 list ≤ highest
  pub room_at_last : stamp ≡ last_number → count + above uid list + uid ≤ highest

-- ---- what a change that can follow is

or-cases : (a b : Bool) → (a || b) ≡ true → (a ≡ true) ⊎ (b ≡ true)
or-cases true b h = inl refl
or-cases false b h = inr h

record CanFollow (highest count : ℕ) (list : List Listed) (uid stamp : ℕ) : Type 0 where
  pub last : stamp ≤ last_number
  pub room : stamp ≡ last_number → count + above uid list + uid ≤ highest

follows : (highest count : ℕ) (list : List Listed) (uid stamp : ℕ) → can_follow highest count list uid stamp ≡ true → CanFollow highest count list uid stamp
follows highest count list uid stamp e =
    elim (or-cases (nat_lt stamp last_number) ((stamp == last_number) && nat_le (count + above uid list + uid) highest) e) [
      | inl less ↦ let lt = ltb-true stamp last_number less in record { last = omega (arith, lt); room = λ is. absurd (omega (arith, lt, is)) }
      | inr both ↦
          let parts = and_parts (stamp == last_number) (nat_le (count + above uid list + uid) highest) both in
          let is = eqb-true stamp last_number parts.0 in
          record { last = omega (arith, is); room = λ _. leb-true (count + above uid list + uid) highest parts.1 }
    ]

or-right : (a b : Bool) → b ≡ true → (a || b) ≡ true
or-right true b h = refl
or-right false b h = h

-- behind a stamp up to the last one, with room above the uid, all the others can come
can-follow : (highest count : ℕ) (list : List Listed) (uid stamp : ℕ) → stamp ≤ last_number → count + above uid list + uid ≤ highest → can_follow highest count list uid stamp ≡ true
can-follow highest count list uid stamp le room = by_test (nat_lt stamp last_number) refl
  where
    by_test : (b : Bool) → nat_lt stamp last_number ≡ b → (b || ((stamp == last_number) && nat_le (count + above uid list + uid) highest)) ≡ true
    by_test true e = refl
    by_test false e = let ge = ltb-false stamp last_number e in rw (eq-eqb stamp last_number (omega (arith, ge)), le-leb (count + above uid list + uid) highest room) refl

-- ---- one change more

push-step : (b : Bool) (x : Listed) (xs : List Listed) (n : ℕ) → n ≤ suc (length xs) → length (cond b (x ∷ xs) xs) ≤ suc (length xs)
push-step true x xs n h = omega arith
push-step false x xs n h = omega arith

both-step : (b : Bool) (x : Listed) (xs ys : List Listed) → length ys ≤ suc (length xs) → length (cond b (x ∷ ys) ys) ≤ suc (length (cond b (x ∷ xs) xs))
both-step true x xs ys h = omega arith
both-step false x xs ys h = h

above-push : (uid : ℕ) (list : List Listed) (new : Listed) → above uid (list ++ new ∷ []) ≤ suc (above uid list)
above-push uid [] new = push-step (nat_lt uid new.uid) new [] 0 (omega arith)
above-push uid (listed ∷ list) new = both-step (nat_lt uid listed.uid) listed (filter (λ (l : Listed). nat_lt uid l.uid) list) (filter (λ (l : Listed). nat_lt uid l.uid) (list ++ new ∷ [])) (above-push uid list new)

same-step : (b : Bool) (x : Listed) (xs ys : List Listed) → length ys ≤ length xs → length (cond b (x ∷ ys) ys) ≤ length (cond b (x ∷ xs) xs)
same-step true x xs ys h = omega arith
same-step false x xs ys h = h

above-push-self : (list : List Listed) (new : Listed) → above new.uid (list ++ new ∷ []) ≤ above new.uid list
above-push-self [] new = none (nat_lt new.uid new.uid) refl
  where
    none : (b : Bool) → nat_lt new.uid new.uid ≡ b → length (cond b (new ∷ []) []) ≤ 0
    none true e = absurd (let lt = ltb-true new.uid new.uid e in omega (arith, lt))
    none false e = omega arith
above-push-self (listed ∷ list) new = same-step (nat_lt new.uid listed.uid) listed (filter (λ (l : Listed). nat_lt new.uid l.uid) list) (filter (λ (l : Listed). nat_lt new.uid l.uid) (list ++ new ∷ [])) (above-push-self list new)

pub not-listed : (uid : ℕ) (list : List Listed) → is_listed uid list ≡ false → Every (λ (listed : Listed). (listed.uid == uid) ≡ false) list
not-listed uid [] e = tt
not-listed uid (listed ∷ list) e = let parts = or_parts (listed.uid == uid) (is_listed uid list) e in (parts.0, not-listed uid list parts.1)

-- the stamp comes behind the last one, and so does the uid where the stamp is the same
least : (stamp uid next at : ℕ) → least_stamp stamp uid next ≤ at → (stamp < at) ⊎ ((stamp ≡ at) × (uid < next))
least stamp uid next at le = by_test (nat_lt uid next) refl le
  where
    by_same : (b : Bool) → nat_lt stamp at ≡ b → stamp ≤ at → uid < next → (stamp < at) ⊎ ((stamp ≡ at) × (uid < next))
    by_same true e ge lt = inl (ltb-true stamp at e)
    by_same false e ge lt = let le = ltb-false stamp at e in inr (omega (arith, le, ge), lt)

    by_test : (b : Bool) → nat_lt uid next ≡ b → cond b stamp (suc stamp) ≤ at → (stamp < at) ⊎ ((stamp ≡ at) × (uid < next))
    by_test true e h = by_same (nat_lt stamp at) refl h (ltb-true uid next e)
    by_test false e h = inl (omega (arith, h))

before-new : (stamp uid next at : ℕ) (listed : Listed) → (stamp < at) ⊎ ((stamp ≡ at) × (uid < next)) → (listed.stamp < stamp) ⊎ ((listed.stamp ≡ stamp) × (listed.uid ≤ uid)) → IsListedBefore listed (record { uid = next; stamp = at })
before-new stamp uid next at listed (inl lt) (inl before) = inl (omega (arith, lt, before))
before-new stamp uid next at listed (inl lt) (inr same) = inl (omega (arith, lt, same.0))
before-new stamp uid next at listed (inr is) (inl before) = inl (omega (arith, is.0, before))
before-new stamp uid next at listed (inr is) (inr same) = inr (same.0 ∙ is.0, omega (arith, is.1, same.1))

upto-new : (next at : ℕ) (listed : Listed) → IsListedBefore listed (record { uid = next; stamp = at }) → (listed.stamp < at) ⊎ ((listed.stamp ≡ at) × (listed.uid ≤ next))
upto-new next at listed (inl lt) = inl lt
upto-new next at listed (inr same) = inr (same.0, omega (arith, same.1))

stamp-up : (stamp uid next at : ℕ) → (stamp < at) ⊎ ((stamp ≡ at) × (uid < next)) → stamp ≤ at
stamp-up stamp uid next at (inl lt) = omega (arith, lt)
stamp-up stamp uid next at (inr is) = omega (arith, is.0)

module _ (highest birth count stamp uid next at : ℕ) (list : List Listed) (before : AreChangesTo highest birth (suc count) stamp uid list) where
  pushed : (1 ≤ next) × (next ≤ highest) → is_listed next list ≡ false → least_stamp stamp uid next ≤ at → CanFollow highest count list next at → AreChangesTo highest birth count at next (list ++ record { uid = next; stamp = at } ∷ [])
  pushed range free le can =
      let new : Listed = record { uid = next; stamp = at } in
      let order = least stamp uid next at le in
      let up = stamp-up stamp uid next at order in
      let born = before.born in
      let last = can.last in
      let room = before.room in
      let strictly : Every (λ (listed : Listed). IsListedBefore listed new) list = Every-weaker (λ (listed : Listed). (listed.stamp < stamp) ⊎ ((listed.stamp ≡ stamp) × (listed.uid ≤ uid))) (λ (listed : Listed). IsListedBefore listed new) (λ listed h. before-new stamp uid next at listed order h) list before.upto in
      let fewer = above-push 0 list new in
      let fewer-above = above-push-self list new in
      record {
        in_order = Ordered-push IsListedBefore list new before.in_order strictly;
        distinct = Ordered-push HasOtherUid list new before.distinct (not-listed next list free);
        changes = Every-append (IsChange 9223372036854775808 highest birth) list (new ∷ []) before.changes (record { positive = omega (arith, range.0); given = range.1; since_birth = omega (arith, born, up); so_far = omega (arith, last) }, tt);
        upto = Every-append (λ (listed : Listed). (listed.stamp < at) ⊎ ((listed.stamp ≡ at) × (listed.uid ≤ next))) list (new ∷ []) (Every-weaker (λ (listed : Listed). IsListedBefore listed new) (λ (listed : Listed). (listed.stamp < at) ⊎ ((listed.stamp ≡ at) × (listed.uid ≤ next))) (upto-new next at) list strictly) (inr (refl, omega arith), tt);
        born = omega (arith, born, up);
        last = last;
        room = omega (arith, room, fewer);
        room_at_last = λ is. let there = can.room is in omega (arith, there, fewer-above);
      }

-- ---- a uid that goes on

pub record GoesOnUid (highest count stamp uid : ℕ) (list : List Listed) : Type 0 where
  pub next : ℕ
  pub range : (1 ≤ next) × (next ≤ highest)
  pub free : is_listed next list ≡ false
  pub can : can_follow highest count list next (least_stamp stamp uid next) ≡ true

least-most : (stamp uid next : ℕ) → least_stamp stamp uid next ≤ suc stamp
least-most stamp uid next = by_test (nat_lt uid next)
  where
    by_test : (b : Bool) → cond b stamp (suc stamp) ≤ suc stamp
    by_test true = omega arith
    by_test false = omega arith

least-same : (stamp uid next : ℕ) → uid < next → least_stamp stamp uid next ≤ stamp
least-same stamp uid next lt = rw (lt-ltb uid next lt) (omega arith)

module _ (highest birth count stamp uid : ℕ) (list : List Listed) (before : AreChangesTo highest birth (suc count) stamp uid list) where
  next-at-last : stamp ≡ last_number → GoesOnUid highest count stamp uid list
  next-at-last is =
      let found = free_uid uid list in
      let room = before.room_at_last is in
      let near = found.near in
      let up = found.behind in
      let low = least-same stamp uid found.uid up in
      record {
        next = found.uid;
        range = (omega (arith, up), omega (arith, near, room));
        free = found.free;
        can = can-follow highest count list found.uid (least_stamp stamp uid found.uid) (omega (arith, low, is)) (omega (arith, near, room));
      }

  next-before-last : stamp < last_number → GoesOnUid highest count stamp uid list
  next-before-last lt =
      let found = free_uid 0 list in
      let room = before.room in
      let near = found.near in
      let up = found.behind in
      let low = least-most stamp uid found.uid in
      record {
        next = found.uid;
        range = (omega (arith, up), omega (arith, near, room));
        free = found.free;
        can = can-follow highest count list found.uid (least_stamp stamp uid found.uid) (omega (arith, low, lt)) (omega (arith, near, room));
      }

  pub goes-on-uid : GoesOnUid highest count stamp uid list
  goes-on-uid = by_test (nat_lt stamp last_number) refl
    where
      by_test : (b : Bool) → nat_lt stamp last_number ≡ b → GoesOnUid highest count stamp uid list
      by_test true e = next-before-last (ltb-true stamp last_number e)
      by_test false e = let ge = ltb-false stamp last_number e in let last = before.last in next-at-last (omega (arith, ge, last))

-- ---- the whole list

-- an update list of so many changes was read behind these fields
pub record IsReadList (highest birth count : ℕ) (front : List (List ℕ)) (fields : List (List ℕ)) (list : List Listed) : Type 0 where
  pub spelled : fields ≡ front ++ flat_map listed_fields list
  pub is_list : IsUpdateList 9223372036854775808 highest birth list
  pub counted : length list ≡ count

pub and-three : (a b c : Bool) → a ≡ true → b ≡ false → c ≡ true → (a && not b && c) ≡ true
and-three true false true f g h = refl
and-three true false false f g h = absurd (true≢false (sym h))
and-three true true c f g h = absurd (true≢false g)
and-three false b c f g h = absurd (true≢false (sym f))

pub good_changes : (highest birth count stamp uid : ℕ) (list : List Listed) (front : List (List ℕ)) (total : ℕ) → highest < 4294967296 → AreChangesTo highest birth count stamp uid list → total ≡ count + length list
    → Good (IsReadList highest birth total front) (changes_from highest count stamp uid list) (front ++ flat_map listed_fields list)
good_changes highest birth zero stamp uid list front total small before is =
    record { spelled = refl; is_list = record { in_order = before.in_order; distinct = before.distinct; changes = before.changes }; counted = omega (arith, is) }
good_changes highest birth (suc count) stamp uid list front total small before is =
    let found = goes-on-uid highest birth count stamp uid list before in
    let most = found.range.1 in (
      (found.next, lt-ltb found.next 4294967296 (omega (arith, most, small)), and-three (within 1 highest found.next) (is_listed found.next list) (can_follow highest count list found.next (least_stamp stamp uid found.next)) (and_from (nat_le 1 found.next) (nat_le found.next highest) (le-leb 1 found.next found.range.0) (le-leb found.next highest most)) found.free found.can),
      λ next fit passed.
          let parts = and_parts (within 1 highest next && not (is_listed next list)) (can_follow highest count list next (least_stamp stamp uid next)) passed in
          let first = and_parts (within 1 highest next) (not (is_listed next list)) parts.0 in
          let range = and_parts (nat_le 1 next) (nat_le next highest) first.0 in
          let least = follows highest count list next (least_stamp stamp uid next) parts.1 in
          let low = least.last in (
            (least_stamp stamp uid next, lt-ltb (least_stamp stamp uid next) 18446744073709551616 (omega (arith, low)), and_from (nat_le (least_stamp stamp uid next) (least_stamp stamp uid next)) (can_follow highest count list next (least_stamp stamp uid next)) (le-leb (least_stamp stamp uid next) (least_stamp stamp uid next) (omega arith)) parts.1),
            λ at at-fit at-passed.
                let at-parts = and_parts (nat_le (least_stamp stamp uid next) at) (can_follow highest count list next at) at-passed in
                let new : Listed = record { uid = next; stamp = at } in
                let more = pushed highest birth count stamp uid next at list before (leb-true 1 next range.0, leb-true next highest range.1) (not-true (is_listed next list) first.1) (leb-true (least_stamp stamp uid next) at at-parts.0) (follows highest count list next at at-parts.1) in
                let size = length-append list (new ∷ []) in
                subst (Good (IsReadList highest birth total front) (changes_from highest count at next (list ++ new ∷ [])))
                (sym (fields-push listed_fields front list new) ∙ sym (append_assoc (front ++ flat_map listed_fields list) (u32_field next ∷ []) (u64_field at ∷ [])))
                (good_changes highest birth count at next (list ++ new ∷ []) front total small more (omega (arith, is, size))),
          ),
    )
