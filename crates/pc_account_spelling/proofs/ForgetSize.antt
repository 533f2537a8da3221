-- How many changes an allowed entry takes off a list.
use Rattle.std.proofs.Common.{◌≡◌, ℕ, zero, suc, ◌+◌, ◌-◌, ◌<◌, ◌≤◌, ◌&&◌, ◌||◌, ◌==◌, nat_lt, Bool, true, false, cond, List, [], ◌∷◌, length, Some, is_some, option_map, refl, sym, ap, subst, arith, true≢false}
use Rattle.std.specs.List.{list_all, find}
use Rattle.std.specs.Map.{lookup, keys_of}
use Rattle.std.proofs.lemmas.Bool.{ltb-true, ltb-false, and_parts}
use Rattle.pc_account_history.specs.declared.kept.Listed.{Listed}
use Rattle.pc_account_history.specs.declared.entry.Entry.TheVariants.{Forget}
use Rattle.pc_tables.specs.Table.{same, is_among, total}
use Rattle.pc_account_history.specs.Record.{AccountRecord, mailbox_of, list_of, stamp_at}
use Rattle.pc_account_history.specs.Known.{said_by}
use Rattle.pc_tables.specs.Order.{rises_from}
use Rattle.pc_account_history.specs.Allowed.{is_allowed, is_client, is_mailbox}
use Rattle.pc_account_history.specs.Legal.{IsCanonical}
use Rattle.pc_tables.proofs.Table.{same-true}
use Rattle.pc_tables.proofs.Totals.{total-append}
use Rattle.pc_account_spelling.specs.RecordFormat.{above, is_listed}
use Rattle.pc_account_spelling.proofs.Free.{above-less, above-fewer}

above-down : (more low : ℕ) (list : List Listed) → above (low + more) list ≤ above low list
above-down zero low list =
    let is : low + 0 ≡ low = omega arith in
    let same = ap (λ (n : ℕ). above n list) is in
    omega (arith, same)
above-down (suc more) low list =
    let rest = above-down more low list in
    let step = above-less (low + more) list in
    let is : low + suc more ≡ suc (low + more) = omega arith in
    let moved = ap (λ (n : ℕ). above n list) is in
    omega (arith, rest, step, moved)

-- a listed uid past a lower one is one more above that
one-more : (low uid : ℕ) (list : List Listed) → low < uid → is_listed uid list ≡ true → suc (above uid list) ≤ above low list
one-more low uid list lt listed =
    let more = uid - suc low in
    let is : suc (low + more) ≡ uid = omega (arith, lt) in
    let fewer = above-fewer (low + more) list (subst (λ (n : ℕ). is_listed n list ≡ true) (sym is) listed) in
    let here = ap (λ (n : ℕ). above n list) is in
    let down = above-down more low list in
    omega (arith, fewer, here, down)

found-listed : (uid : ℕ) (list : List Listed) → is_some (stamp_at uid list) ≡ true → is_listed uid list ≡ true
found-listed uid [] e = absurd (true≢false (sym e))
found-listed uid (listed ∷ list) e = by_test (listed.uid == uid) e (found-listed uid list)
  where
    by_test : (b : Bool) → is_some (option_map (λ (l : Listed). l.stamp) (cond b (Some listed) (find (λ (l : Listed). l.uid == uid) list))) ≡ true → (is_some (stamp_at uid list) ≡ true → is_listed uid list ≡ true) → (b || is_listed uid list) ≡ true
    by_test true h rest = refl
    by_test false h rest = rest h

-- uids that rise and are listed are no more than the changes that there are
listed-few : (low : ℕ) (uids : List ℕ) (list : List Listed) → rises_from low uids ≡ true → list_all (λ (uid : ℕ). is_some (stamp_at uid list)) uids ≡ true → length uids ≤ above low list
listed-few low [] list rise all = omega arith
listed-few low (uid ∷ uids) list rise all =
    let rises = and_parts (nat_lt low uid) (rises_from uid uids) rise in
    let parts = and_parts (is_some (stamp_at uid list)) (list_all (λ (u : ℕ). is_some (stamp_at u list)) uids) all in
    let rest = listed-few uid uids list rises.1 parts.1 in
    let here = one-more low uid list (ltb-true low uid rises.0) (found-listed uid list parts.0) in
    omega (arith, rest, here)

cond-few : (b : Bool) (x : Listed) (xs : List Listed) (n : ℕ) → length xs ≤ n → length (cond b (x ∷ xs) xs) ≤ suc n
cond-few true x xs n h = omega (arith, h)
cond-few false x xs n h = omega (arith, h)

above-few : (low : ℕ) (list : List Listed) → above low list ≤ length list
above-few low [] = omega arith
above-few low (listed ∷ list) = cond-few (nat_lt low listed.uid) listed _ (length list) (above-few low list)

module _ (f : List ℕ → ℕ) where
  client-part : (name : List ℕ) (clients : List (List ℕ × ℕ)) → is_some (lookup (same name) clients) ≡ true → f name ≤ total (λ (client : List ℕ × ℕ). f client.0) clients
  client-part name [] e = absurd (true≢false (sym e))
  client-part name (client ∷ clients) e = by_test (same name client.0) refl e (client-part name clients)
    where
      by_test : (b : Bool) → same name client.0 ≡ b → is_some (cond b (Some client.1) (lookup (same name) clients)) ≡ true → (is_some (lookup (same name) clients) ≡ true → f name ≤ total (λ (c : List ℕ × ℕ). f c.0) clients) → f name ≤ f client.0 + total (λ (c : List ℕ × ℕ). f c.0) clients
      by_test true is h rest = let here = ap f (same-true name client.0 is) in omega (arith, here)
      by_test false is h rest = let there = rest h in omega (arith, there)

  name-part : (name : List ℕ) (names : List (List ℕ)) → is_among name names ≡ true → f name ≤ total f names
  name-part name [] e = absurd (true≢false (sym e))
  name-part name (other ∷ names) e = by_test (same name other) refl e (name-part name names)
    where
      by_test : (b : Bool) → same name other ≡ b → (b || is_among name names) ≡ true → (is_among name names ≡ true → f name ≤ total f names) → f name ≤ f other + total f names
      by_test true is h rest = let here = ap f (same-true name other is) in omega (arith, here)
      by_test false is h rest = let there = rest h in omega (arith, there)

-- an allowed entry takes at most 1,048,576 changes off a list
pub forget_few : (r : AccountRecord) (number : ℕ) (client mailbox uids : List ℕ) → IsCanonical r number → is_allowed (said_by r number) (Forget client mailbox uids) ≡ true → length uids ≤ 1048576
forget_few r number client mailbox uids canonical allowed =
    let k = said_by r number in
    let list = list_of (mailbox_of r mailbox) client in
    let p4 = and_parts (is_client k client && is_mailbox k mailbox && rises_from 0 uids && nat_lt 0 (length uids)) (list_all (λ uid. is_some (stamp_at uid list)) uids) allowed in
    let p3 = and_parts (is_client k client && is_mailbox k mailbox && rises_from 0 uids) (nat_lt 0 (length uids)) p4.0 in
    let p2 = and_parts (is_client k client && is_mailbox k mailbox) (rises_from 0 uids) p3.0 in
    let p1 = and_parts (is_client k client) (is_mailbox k mailbox) p2.0 in
    let few = listed-few 0 uids list p2.1 p4.1 in
    let all = above-few 0 list in
    let in-mailbox = client-part (λ name. length (list_of (mailbox_of r mailbox) name)) client r.clients p1.0 in
    let of-mailbox : List ℕ → ℕ = λ name. total (λ (c : List ℕ × ℕ). length (list_of (mailbox_of r name) c.0)) r.clients in
    let in-live = name-part of-mailbox mailbox (keys_of r.live) p1.1 in
    let both = total-append of-mailbox (keys_of r.live) (keys_of r.dropped) in
    let most = ltb-false 1048576 _ canonical.within.1.1.1.1.1.0 in
    omega (arith, few, all, in-mailbox, in-live, both, most)
