-- In a canonical record the counts are numbers of 64 bits.
use Rattle.std.proofs.Common.{◌≡◌, ℕ, suc, ◌+◌, ◌*◌, ◌%◌, ◌<◌, ◌≤◌, Bool, true, false, cond, ◌||◌, eqb, List, [], ◌∷◌, map, length, Option, Some, unwrap_or, nat_le, refl, sym, ◌∙◌, arith, true≢false, ltb-false, leb-true}
use Rattle.std.proofs.lemmas.Bool.{not-false, and_parts, eqb-true}
use Rattle.std.proofs.lemmas.List.{length-map}
use Rattle.std.proofs.lemmas.Map.Steps.{length-le_from_distinct_below}
use Rattle.std.specs.List.{AllByRecursion as Every, IsDistinct, list_any, list_all}
use Rattle.std.specs.Map.{lookup}
use Rattle.pc_account_history.specs.declared.kept.Listed.{Listed}
use Rattle.pc_account_history.specs.declared.limits.TheConstants.{MOST_UIDS}
use Rattle.pc_tables.specs.Table.{same, total}
use Rattle.pc_account_history.specs.Record.{mailbox_of, list_of}
use Rattle.pc_account_history.specs.Limits.{weight, listed_count, mailbox_names}
use Rattle.pc_tables.specs.Order.{Ordered}
use Rattle.pc_account_history.specs.Legal.{HasOtherUid, IsChange, IsUpdateList, AreListsOf, IsCanonical}
use Rattle.pc_account_history.proofs.Counts.{weight-said_by, listed_count-said_by}
use Rattle.pc_account_history.proofs.Mailboxes.{IsMailbox-mailbox_of}
use Rattle.pc_account_holdings.specs.Mailboxes.{weight_held, listed_held}
use Rattle.pc_account_holdings.specs.State.{State, said}

-- ---- a list has no more changes than uids were given

abbrev uids : List Listed → List ℕ
uids list = map (λ (listed : Listed). listed.uid) list

other-uids : (first : Listed) (list : List Listed) → Every (HasOtherUid first) list → Every (λ (uid : ℕ). eqb first.uid uid ≡ false) (uids list)
other-uids first [] h = tt
other-uids first (listed ∷ list) h = (h.0, other-uids first list h.1)

distinct-uids : (list : List Listed) → Ordered HasOtherUid list → IsDistinct eqb (uids list)
unfolding IsDistinct
distinct-uids [] h = tt
distinct-uids (listed ∷ list) h = (other-uids listed list h.0, distinct-uids list h.1)

below-step : (b : Bool) (uid highest q : ℕ) (rest : Bool) → (b ≡ true → q ≡ uid) → uid ≤ highest → (rest ≡ true → q < suc highest) → (b || rest) ≡ true → q < suc highest
below-step true uid highest q rest same-uid given h e = let is = same-uid refl in omega (arith, is, given)
below-step false uid highest q rest same-uid given h e = h e

below : (number highest birth : ℕ) (list : List Listed) → Every (IsChange number highest birth) list → (q : ℕ) → list_any (eqb q) (uids list) ≡ true → q < suc highest
below number highest birth [] h q e = absurd (true≢false (sym e))
below number highest birth (listed ∷ list) h q e = below-step (eqb q listed.uid) listed.uid highest q (list_any (eqb q) (uids list)) (eqb-true q listed.uid) h.0.given (below number highest birth list h.1 q) e

list-short : (number highest birth : ℕ) (list : List Listed) → IsUpdateList number highest birth list → length list ≤ suc highest
list-short number highest birth list good =
    let short = length-le_from_distinct_below (uids list) (suc highest) (distinct-uids list good.distinct) (below number highest birth list good.changes) in
    let same-length = length-map list (λ (listed : Listed). listed.uid) in
    omega (arith, short, same-length)

found-short : (b : Bool) (list : List Listed) (found : Option (List Listed)) (most : ℕ) → length list ≤ most → length (unwrap_or found []) ≤ most → length (unwrap_or (cond b (Some list) found) []) ≤ most
found-short true list found most here rest = here
found-short false list found most here rest = rest

lists-short : (number highest : ℕ) (clients : List (List ℕ × ℕ)) (lists : List (List ℕ × List Listed)) → AreListsOf number highest clients lists → (client : List ℕ) → length (unwrap_or (lookup (same client) lists) []) ≤ suc highest
lists-short number highest [] [] h client = omega arith
lists-short number highest [] (list ∷ lists) h client = absurd h
lists-short number highest (first ∷ clients) [] h client = absurd h
lists-short number highest (first ∷ clients) (list ∷ lists) h client = found-short (same client list.0) list.1 (lookup (same client) lists) (suc highest) (list-short number highest first.1 list.1 h.1) (lists-short number highest clients lists h.2 client)

-- ---- sums of what is bounded

total-lists : (f : List ℕ → ℕ) (clients : List (List ℕ × ℕ)) → ((client : List ℕ) → f client ≤ 1000000001) → total (λ (client : List ℕ × ℕ). f client.0) clients ≤ 1000000001 * length clients
total-lists f [] h = omega arith
total-lists f (client ∷ clients) h = let here = h client.0 in let rest = total-lists f clients h in omega (arith, here, rest)

total-all : (test : List ℕ → Bool) (f : List ℕ → ℕ) (names : List (List ℕ)) → list_all test names ≡ true → ((name : List ℕ) → test name ≡ true → f name ≤ 16000000016) → total f names ≤ 16000000016 * length names
total-all test f [] e h = omega arith
total-all test f (name ∷ names) e h = let parts = and_parts (test name) (list_all test names) e in let here = h name parts.0 in let rest = total-all test f names parts.1 h in omega (arith, here, rest)

module _ (s : State) (canonical : IsCanonical s.held s.next) where
  box-listed : (name : List ℕ) → nat_le (mailbox_of s.held name).highest MOST_UIDS ≡ true → total (λ (client : List ℕ × ℕ). length (list_of (mailbox_of s.held name) client.0)) s.held.clients ≤ 16000000016
  box-listed name e =
      let box = mailbox_of s.held name in
      let few-uids = leb-true box.highest MOST_UIDS e in
      let few-clients = ltb-false _ _ canonical.within.0 in
      let good = IsMailbox-mailbox_of s.held s.next name canonical.well_formed in
      let each = total-lists (λ client. length (list_of box client)) s.held.clients (λ client. let short = lists-short s.next box.highest s.held.clients box.lists good.lists client in omega (arith, short, few-uids)) in
      omega (arith, each, few-clients)

  few-listed : listed_count (said s) < 18446744073709551616
  few-listed =
      let few-names = ltb-false _ _ canonical.within.1.0 in
      let each = total-all (λ name. nat_le (mailbox_of s.held name).highest MOST_UIDS) (λ name. total (λ (client : List ℕ × ℕ). length (list_of (mailbox_of s.held name) client.0)) s.held.clients) (mailbox_names (said s)) (not-false _ canonical.within.1.1.0) box-listed in
      omega (arith, each, few-names)

  pub listed-known : (live dropped : ℕ) → (listed_held s.held.live < 18446744073709551616 → live ≡ listed_held s.held.live) → (listed_held s.held.dropped < 18446744073709551616 → dropped ≡ listed_held s.held.dropped) → (live + dropped) % 18446744073709551616 ≡ listed_count (said s)
  listed-known live dropped hl hd =
      let counted = listed_count-said_by s.held s.next canonical.well_formed in
      let bound = few-listed in
      let is-live = hl (omega (arith, counted, bound)) in
      let is-dropped = hd (omega (arith, counted, bound)) in
      omega (arith, counted, bound, is-live, is-dropped)

  pub weight-known : (found : ℕ) → (weight_held s.held.live < 18446744073709551616 → found ≡ weight_held s.held.live) → found ≡ weight (said s)
  weight-known found h =
      let counted = weight-said_by s.held s.next canonical.well_formed in
      let light = ltb-false _ _ canonical.within.1.1.1.1.0 in
      let is = h (omega (arith, counted, light)) in
      is ∙ sym counted
