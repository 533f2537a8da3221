-- Order, update lists and mailboxes are kept by each change.
use Rattle.std.proofs.Common.{◌≡◌, ℕ, suc, ◌+◌, ◌<◌, ◌≤◌, ◌==◌, Bool, true, false, cond, not, List, [], ◌∷◌, ◌++◌, length, map, filter, Some, is_some, unwrap_or, refl, sym, ◌∙◌, ap, subst, subst₂, inl, inr, arith, le_refl, eq-eqb, ne_eqb, true≢false}
use Rattle.std.specs.List.{AllByRecursion as Every}
use Rattle.std.specs.Map.{lookup, set_value}
use Rattle.std.proofs.lemmas.Bool.{cases_eq, or_parts, not-true}
use Rattle.pc_account_history.specs.declared.kept.Kept.{Kept}
use Rattle.pc_account_history.specs.declared.kept.Listed.{Listed}
use Rattle.pc_tables.specs.Table.{same, numbers, has_number, map_values, others}
use Rattle.pc_account_history.specs.Record.{MailboxRecord, list_of, kept_at}
use Rattle.pc_account_history.specs.Effect.{arrived, flagged}
use Rattle.pc_account_history.specs.Step.{uids_of, stamped, without, touched, touched_for_all, with_message, with_client, without_client, reset_for, taken_by}
use Rattle.pc_tables.specs.Order.{Ordered}
use Rattle.pc_account_history.specs.Legal.{IsListedBefore, HasOtherUid, IsChange, IsUpdateList, AreListsOf, AreMessages, IsMailbox}
use Rattle.pc_tables.proofs.Numbers.{within-below, has_number-numbers, Every-numbers}
use Rattle.pc_account_history.proofs.Boxes.{touched-none, touched-twice, highest-mails}
use Rattle.pc_account_history.proofs.Mailboxes.{with_mails}
use Rattle.pc_tables.proofs.Lists.{Every-passes, Every-weaker, Every-from, Every-append, Every-filter}
use Rattle.pc_tables.proofs.Order.{Ordered-filter, Ordered-append, Ordered-push, numbers-rise}

-- ---- uids that rise

pub record AreUids (highest : ℕ) (uids : List ℕ) : Type 0 where
  pub rising : Ordered (λ (uid later : ℕ). uid < later) uids
  pub given : Every (λ (uid : ℕ). (0 < uid) × (uid ≤ highest)) uids

Every-uids : (P : ℕ → Type 0) (messages : List Kept) → Every (λ (kept : Kept). P kept.uid) messages → Every P (uids_of messages)
Every-uids P [] h = h
Every-uids P (kept ∷ messages) h = (h.0, Every-uids P messages h.1)

Every-messages : (P : ℕ → Type 0) (messages : List Kept) → Every P (uids_of messages) → Every (λ (kept : Kept). P kept.uid) messages
Every-messages P [] h = h
Every-messages P (kept ∷ messages) h = (h.0, Every-messages P messages h.1)

rising-uids : (messages : List Kept) → Ordered (λ (kept later : Kept). kept.uid < later.uid) messages → Ordered (λ (uid later : ℕ). uid < later) (uids_of messages)
rising-uids [] h = h
rising-uids (kept ∷ messages) h = (Every-uids (λ uid. kept.uid < uid) messages h.0, rising-uids messages h.1)

rising-messages : (messages : List Kept) → Ordered (λ (uid later : ℕ). uid < later) (uids_of messages) → Ordered (λ (kept later : Kept). kept.uid < later.uid) messages
rising-messages [] h = h
rising-messages (kept ∷ messages) h = (Every-messages (λ uid. kept.uid < uid) messages h.0, rising-messages messages h.1)

pub AreUids-messages : (highest : ℕ) (messages : List Kept) → AreMessages highest messages → AreUids highest (uids_of messages)
AreUids-messages highest messages h = record { rising = rising-uids messages h.rising; given = Every-uids (λ uid. (0 < uid) × (uid ≤ highest)) messages h.given }

AreMessages-uids : (highest : ℕ) (messages : List Kept) → AreUids highest (uids_of messages) → AreMessages highest messages
AreMessages-uids highest messages h = record { rising = rising-messages messages h.rising; given = Every-messages (λ uid. (0 < uid) × (uid ≤ highest)) messages h.given }

pub AreMessages-filter : (highest : ℕ) (p : Kept → Bool) (messages : List Kept) → AreMessages highest messages → AreMessages highest (filter p messages)
AreMessages-filter highest p messages h = record { rising = Ordered-filter (λ (kept later : Kept). kept.uid < later.uid) p messages h.rising; given = Every-filter (λ (kept : Kept). (0 < kept.uid) × (kept.uid ≤ highest)) p messages h.given }

AreMessages-push : (highest : ℕ) (messages : List Kept) (new : Kept) → new.uid ≡ suc highest → AreMessages highest messages → AreMessages (suc highest) (messages ++ new ∷ [])
AreMessages-push highest messages new e h = record {
  rising = Ordered-push (λ (kept later : Kept). kept.uid < later.uid) messages new h.rising (Every-weaker (λ (kept : Kept). (0 < kept.uid) × (kept.uid ≤ highest)) (λ (kept : Kept). kept.uid < new.uid) (λ kept g. omega (arith, g.1)) messages h.given);
  given = Every-append (λ (kept : Kept). (0 < kept.uid) × (kept.uid ≤ suc highest)) messages (new ∷ []) (Every-weaker (λ (kept : Kept). (0 < kept.uid) × (kept.uid ≤ highest)) (λ (kept : Kept). (0 < kept.uid) × (kept.uid ≤ suc highest)) (λ kept g. (g.0, omega (arith, g.1))) messages h.given) ((omega arith, omega arith), tt);
}

uids_of-flagged : (at flag : ℕ) (on : Bool) (messages : List Kept) → uids_of (map (λ kept. cond (kept.uid == at) (flagged flag on kept) kept) messages) ≡ uids_of messages
uids_of-flagged at flag on [] = refl
uids_of-flagged at flag on (kept ∷ messages) = elim (kept.uid == at) as (λ b. (cond b (flagged flag on kept) kept).uid ∷ uids_of (map (λ (k : Kept). cond (k.uid == at) (flagged flag on k) k) messages) ≡ kept.uid ∷ uids_of messages) [ true ↦ ap (λ uids. kept.uid ∷ uids) (uids_of-flagged at flag on messages) | false ↦ ap (λ uids. kept.uid ∷ uids) (uids_of-flagged at flag on messages) ]

pub AreMessages-flagged : (highest at flag : ℕ) (on : Bool) (messages : List Kept) → AreMessages highest messages → AreMessages highest (map (λ kept. cond (kept.uid == at) (flagged flag on kept) kept) messages)
AreMessages-flagged highest at flag on messages h = AreMessages-uids highest (map (λ (kept : Kept). cond (kept.uid == at) (flagged flag on kept) kept) messages) (subst (AreUids highest) (sym (uids_of-flagged at flag on messages)) (AreUids-messages highest messages h))

-- a uid at which a message stands is a given one
pub uid-given : (highest uid : ℕ) (messages : List Kept) → Every (λ (kept : Kept). (0 < kept.uid) × (kept.uid ≤ highest)) messages → is_some (kept_at uid messages) ≡ true → (0 < uid) × (uid ≤ highest)
uid-given highest uid [] h g = absurd (true≢false (sym g))
uid-given highest uid (kept ∷ messages) h g =
    elim (cases_eq kept.uid uid) [
      | inl here ↦ (omega (arith, h.0.0), omega (arith, h.0.1))
      | inr other ↦ uid-given highest uid messages h.1 (rw (ne_eqb kept.uid uid other) at g)
    ]

pub AreUids-one : (highest uid : ℕ) → (0 < uid) × (uid ≤ highest) → AreUids highest (uid ∷ [])
AreUids-one highest uid h = record { rising = (tt, tt); given = (h, tt) }

-- ---- update lists

module _ (number : ℕ) where
  Every-stamped : (P : Listed → Type 0) (uids : List ℕ) → Every (λ (uid : ℕ). P (record { uid = uid; stamp = number })) uids → Every P (stamped number uids)
  Every-stamped P [] h = h
  Every-stamped P (uid ∷ uids) h = (h.0, Every-stamped P uids h.1)

has-none : (uid : ℕ) (uids : List ℕ) → has_number uid uids ≡ false → Every (λ (other : ℕ). (uid == other) ≡ false) uids
has-none uid [] h = tt
has-none uid (other ∷ uids) h =
    let parts = or_parts (other == uid) (has_number uid uids) h in
    (ne_eqb uid other (λ e. absurd (true≢false (sym (eq-eqb other uid (sym e)) ∙ parts.0))), has-none uid uids parts.1)

module _ (number highest : ℕ) where
  stamped-order : (uids : List ℕ) → Ordered (λ (uid later : ℕ). uid < later) uids → Ordered IsListedBefore (stamped number uids)
  stamped-order [] h = h
  stamped-order (uid ∷ uids) h = (Every-stamped number (IsListedBefore (record { uid = uid; stamp = number })) uids (Every-weaker (λ (later : ℕ). uid < later) (λ (later : ℕ). IsListedBefore (record { uid = uid; stamp = number }) (record { uid = later; stamp = number })) (λ later g. inr (refl, g)) uids h.0), stamped-order uids h.1)

  stamped-distinct : (uids : List ℕ) → Ordered (λ (uid later : ℕ). uid < later) uids → Ordered HasOtherUid (stamped number uids)
  stamped-distinct [] h = h
  stamped-distinct (uid ∷ uids) h = (Every-stamped number (λ (l : Listed). (uid == l.uid) ≡ false) uids (Every-weaker (λ (later : ℕ). uid < later) (λ (later : ℕ). (uid == later) ≡ false) (λ later g. ne_eqb uid later (λ e. absurd (omega arith))) uids h.0), stamped-distinct uids h.1)

  IsUpdateList-filter : (birth : ℕ) (p : Listed → Bool) (list : List Listed) → IsUpdateList number highest birth list → IsUpdateList number highest birth (filter p list)
  IsUpdateList-filter birth p list h = record { in_order = Ordered-filter IsListedBefore p list h.in_order; distinct = Ordered-filter HasOtherUid p list h.distinct; changes = Every-filter (IsChange number highest birth) p list h.changes }

  IsChange-later : (more birth : ℕ) (listed : Listed) → highest ≤ more → IsChange number highest birth listed → IsChange (suc number) more birth listed
  IsChange-later more birth listed up h = record { positive = h.positive; given = omega (arith, h.given); since_birth = h.since_birth; so_far = omega (arith, h.so_far) }

  IsUpdateList-later : (more birth : ℕ) (list : List Listed) → highest ≤ more → IsUpdateList number highest birth list → IsUpdateList (suc number) more birth list
  IsUpdateList-later more birth list up h = record { in_order = h.in_order; distinct = h.distinct; changes = Every-weaker (IsChange number highest birth) (IsChange (suc number) more birth) (λ listed g. IsChange-later more birth listed up g) list h.changes }

  pub IsUpdateList-touched : (more birth : ℕ) (uids : List ℕ) (list : List Listed) → highest ≤ more → birth ≤ number → AreUids more uids → IsUpdateList number highest birth list → IsUpdateList (suc number) more birth (touched number uids list)
  IsUpdateList-touched more birth uids list up born good h =
      let old = IsUpdateList-filter birth (λ (l : Listed). not (has_number l.uid uids)) list h in
      record {
        in_order = Ordered-append IsListedBefore (without uids list) (stamped number uids) old.in_order (stamped-order uids good.rising) (Every-weaker (IsChange number highest birth) (λ (l : Listed). Every (IsListedBefore l) (stamped number uids)) (λ l g. Every-stamped number (IsListedBefore l) uids (Every-from (λ (uid : ℕ). IsListedBefore l (record { uid = uid; stamp = number })) (λ uid. inl g.so_far) uids)) (without uids list) old.changes);
        distinct = Ordered-append HasOtherUid (without uids list) (stamped number uids) old.distinct (stamped-distinct uids good.rising) (Every-weaker (λ (l : Listed). not (has_number l.uid uids) ≡ true) (λ (l : Listed). Every (HasOtherUid l) (stamped number uids)) (λ l g. Every-stamped number (HasOtherUid l) uids (has-none l.uid uids (not-true (has_number l.uid uids) g))) (without uids list) (Every-passes (λ (l : Listed). not (has_number l.uid uids)) list));
        changes = Every-append (IsChange (suc number) more birth) (without uids list) (stamped number uids) (Every-weaker (IsChange number highest birth) (IsChange (suc number) more birth) (λ l g. IsChange-later more birth l up g) (without uids list) old.changes) (Every-stamped number (IsChange (suc number) more birth) uids (Every-weaker (λ (uid : ℕ). (0 < uid) × (uid ≤ more)) (λ (uid : ℕ). IsChange (suc number) more birth (record { uid = uid; stamp = number })) (λ uid g. record { positive = g.0; given = g.1; since_birth = born; so_far = omega arith }) uids good.given));
      }

-- ---- the lists of all clients

module _ (number highest : ℕ) where
  lists-later : (more : ℕ) (clients : List (List ℕ × ℕ)) (lists : List (List ℕ × List Listed)) → highest ≤ more → AreListsOf number highest clients lists → AreListsOf (suc number) more clients lists
  lists-later more [] [] up h = tt
  lists-later more [] (list ∷ lists) up h = h
  lists-later more (client ∷ clients) [] up h = h
  lists-later more (client ∷ clients) (list ∷ lists) up h = (h.0, IsUpdateList-later number highest more client.1 list.1 up h.1, lists-later more clients lists up h.2)

  lists-touched : (more : ℕ) (uids : List ℕ) (clients : List (List ℕ × ℕ)) (lists : List (List ℕ × List Listed)) → highest ≤ more → Every (λ (client : List ℕ × ℕ). (0 < client.1) × (client.1 < number)) clients → AreUids more uids → AreListsOf number highest clients lists → AreListsOf (suc number) more clients (map_values (touched number uids) lists)
  lists-touched more uids [] [] up born good h = tt
  lists-touched more uids [] (list ∷ lists) up born good h = h
  lists-touched more uids (client ∷ clients) [] up born good h = h
  lists-touched more uids (client ∷ clients) (list ∷ lists) up born good h = (h.0, IsUpdateList-touched number highest more client.1 uids list.1 up (omega (arith, born.0.1)) good h.1, lists-touched more uids clients lists up born.1 good h.2)

  lists-set : (p : List ℕ → Bool) (change : List Listed → List Listed) → ((birth : ℕ) (list : List Listed) → birth < number → IsUpdateList number highest birth list → IsUpdateList (suc number) highest birth (change list)) → (clients : List (List ℕ × ℕ)) (lists : List (List ℕ × List Listed)) → Every (λ (client : List ℕ × ℕ). (0 < client.1) × (client.1 < number)) clients → AreListsOf number highest clients lists → AreListsOf (suc number) highest clients (set_value p lists (change (unwrap_or (lookup p lists) [])))
  lists-set p change keeps [] [] born h = tt
  lists-set p change keeps [] (list ∷ lists) born h = absurd h
  lists-set p change keeps (client ∷ clients) [] born h = h
  lists-set p change keeps (client ∷ clients) (list ∷ lists) born h =
      elim (p list.0) as (λ b. AreListsOf (suc number) highest (client ∷ clients) (cond b ((list.0, change (unwrap_or (cond b (Some list.1) (lookup p lists)) [])) ∷ lists) (list ∷ set_value p lists (change (unwrap_or (cond b (Some list.1) (lookup p lists)) []))))) [
        | true ↦ (h.0, keeps client.1 list.1 born.0.1 h.1, lists-later highest clients lists (le_refl highest) h.2)
        | false ↦ (h.0, IsUpdateList-later number highest highest client.1 list.1 (le_refl highest) h.1, lists-set p change keeps clients lists born.1 h.2)
      ]

  lists-others : (name : List ℕ) (clients : List (List ℕ × ℕ)) (lists : List (List ℕ × List Listed)) → AreListsOf number highest clients lists → AreListsOf number highest (others name clients) (others name lists)
  lists-others name [] [] h = tt
  lists-others name [] (list ∷ lists) h = absurd h
  lists-others name (client ∷ clients) [] h = absurd h
  lists-others name (client ∷ clients) (list ∷ lists) h =
      let e : same name list.0 ≡ same name client.0 = ap (same name) h.0 in
      subst (λ b. AreListsOf number highest (others name (client ∷ clients)) (cond (not b) (list ∷ others name lists) (others name lists))) (sym e)
      (elim (same name client.0) as (λ b. AreListsOf number highest (cond (not b) (client ∷ others name clients) (others name clients)) (cond (not b) (list ∷ others name lists) (others name lists))) [
        | true ↦ lists-others name clients lists h.2
        | false ↦ (h.0, h.1, lists-others name clients lists h.2)
      ])

  lists-push : (name : List ℕ) (birth : ℕ) (new : List Listed) (clients : List (List ℕ × ℕ)) (lists : List (List ℕ × List Listed)) → IsUpdateList number highest birth new → AreListsOf number highest clients lists → AreListsOf number highest (clients ++ (name, birth) ∷ []) (lists ++ (name, new) ∷ [])
  lists-push name birth new [] [] good h = (refl, good, tt)
  lists-push name birth new [] (list ∷ lists) good h = absurd h
  lists-push name birth new (client ∷ clients) [] good h = absurd h
  lists-push name birth new (client ∷ clients) (list ∷ lists) good h = (h.0, h.1, lists-push name birth new clients lists good h.2)

-- ---- mails that come one after the other

pub AreUids-numbers : (low count : ℕ) → AreUids (low + count) (numbers low count)
AreUids-numbers low count = record { rising = numbers-rise low count; given = Every-numbers (λ uid. (0 < uid) × (uid ≤ low + count)) low count (λ uid a b. (omega arith, b)) }

lists-twice : (number uid : ℕ) (uids : List ℕ) (lists : List (List ℕ × List Listed)) → has_number uid uids ≡ false → map_values (touched number uids) (map_values (touched number (uid ∷ [])) lists) ≡ map_values (touched number (uid ∷ uids)) lists
lists-twice number uid uids [] h = refl
lists-twice number uid uids (list ∷ lists) h = λ i. (list.0, touched-twice number uid uids list.1 h i) ∷ lists-twice number uid uids lists h i

lists-untouched : (number : ℕ) (lists : List (List ℕ × List Listed)) → lists ≡ map_values (touched number []) lists
lists-untouched number [] = refl
lists-untouched number (list ∷ lists) = λ i. (list.0, sym (touched-none number list.1) i) ∷ lists-untouched number lists i

lists-mails : (number : ℕ) (messages : List (List (List ℕ))) (box : MailboxRecord) → (with_mails number messages box).lists ≡ map_values (touched number (numbers box.highest (length messages))) box.lists
lists-mails number [] box = lists-untouched number box.lists
lists-mails number (message ∷ messages) box =
    let first = suc box.highest in
    lists-mails number messages (with_message number (arrived first message) box)
    ∙ lists-twice number first (numbers first (length messages)) box.lists (has_number-numbers first first (length messages) ∙ within-below first (first + length messages) first (le_refl first))

AreMessages-mails : (number : ℕ) (messages : List (List (List ℕ))) (box : MailboxRecord) → AreMessages box.highest box.messages → AreMessages (with_mails number messages box).highest (with_mails number messages box).messages
AreMessages-mails number [] box h = h
AreMessages-mails number (message ∷ messages) box h = AreMessages-mails number messages (with_message number (arrived (suc box.highest) message) box) (AreMessages-push box.highest box.messages (arrived (suc box.highest) message) refl h)

-- ---- one mailbox

module _ (number : ℕ) (clients : List (List ℕ × ℕ)) (born : Every (λ (client : List ℕ × ℕ). (0 < client.1) × (client.1 < number)) clients) where
  pub IsMailbox-later : (box : MailboxRecord) → IsMailbox number clients box → IsMailbox (suc number) clients box
  IsMailbox-later box h = record { messages = h.messages; lists = lists-later number box.highest box.highest clients box.lists (le_refl box.highest) h.lists }

  pub IsMailbox-touched : (highest : ℕ) (messages : List Kept) (uids : List ℕ) (box : MailboxRecord) → box.highest ≤ highest → AreMessages highest messages → AreUids highest uids → IsMailbox number clients box → IsMailbox (suc number) clients (record (touched_for_all number uids box) { highest = highest; messages = messages })
  IsMailbox-touched highest messages uids box up fits good h = record { messages = fits; lists = lists-touched number box.highest highest uids clients box.lists up born good h.lists }

  IsMailbox-set : (name : List ℕ) (change : List Listed → List Listed) (box : MailboxRecord) → ((birth : ℕ) (list : List Listed) → birth < number → IsUpdateList number box.highest birth list → IsUpdateList (suc number) box.highest birth (change list)) → IsMailbox number clients box → IsMailbox (suc number) clients (record box { lists = set_value (same name) box.lists (change (list_of box name)) })
  IsMailbox-set name change box keeps h = record { messages = h.messages; lists = lists-set number box.highest (same name) change keeps clients box.lists born h.lists }

  pub IsMailbox-reset : (name : List ℕ) (box : MailboxRecord) → IsMailbox number clients box → IsMailbox (suc number) clients (reset_for number name box)
  IsMailbox-reset name box h = IsMailbox-set name (touched number (uids_of box.messages)) box (λ birth list early good. IsUpdateList-touched number box.highest box.highest birth (uids_of box.messages) list (le_refl box.highest) (omega arith) (AreUids-messages box.highest box.messages h.messages) good) h

  pub IsMailbox-taken : (name : List ℕ) (uids : List ℕ) (box : MailboxRecord) → IsMailbox number clients box → IsMailbox (suc number) clients (taken_by name uids box)
  IsMailbox-taken name uids box h = IsMailbox-set name (without uids) box (λ birth list early good. IsUpdateList-later number box.highest box.highest birth (without uids list) (le_refl box.highest) (IsUpdateList-filter number box.highest birth (λ (l : Listed). not (has_number l.uid uids)) list good)) h

  pub IsMailbox-with_client : (name : List ℕ) (box : MailboxRecord) → IsMailbox number clients box → IsMailbox (suc number) (others name clients ++ (name, number) ∷ []) (with_client number name box)
  IsMailbox-with_client name box h =
      let empty : IsUpdateList number box.highest number [] = record { in_order = tt; distinct = tt; changes = tt } in
      record { messages = h.messages; lists = lists-push (suc number) box.highest name number (stamped number (uids_of box.messages)) (others name clients) (others name box.lists) (IsUpdateList-touched number box.highest box.highest number (uids_of box.messages) [] (le_refl box.highest) (le_refl number) (AreUids-messages box.highest box.messages h.messages) empty) (lists-later number box.highest box.highest (others name clients) (others name box.lists) (le_refl box.highest) (lists-others number box.highest name clients box.lists h.lists)) }

  pub IsMailbox-without_client : (name : List ℕ) (box : MailboxRecord) → IsMailbox number clients box → IsMailbox (suc number) (others name clients) (without_client name box)
  IsMailbox-without_client name box h = record { messages = h.messages; lists = lists-later number box.highest box.highest (others name clients) (others name box.lists) (le_refl box.highest) (lists-others number box.highest name clients box.lists h.lists) }

  pub IsMailbox-with_message : (kept : Kept) (box : MailboxRecord) → kept.uid ≡ suc box.highest → IsMailbox number clients box → IsMailbox (suc number) clients (with_message number kept box)
  IsMailbox-with_message kept box e h =
      let fits : AreMessages kept.uid (box.messages ++ kept ∷ []) = subst (λ n. AreMessages n (box.messages ++ kept ∷ [])) (sym e) (AreMessages-push box.highest box.messages kept e h.messages) in
      IsMailbox-touched kept.uid (box.messages ++ kept ∷ []) (kept.uid ∷ []) box (omega arith) fits (AreUids-one kept.uid kept.uid (omega arith, le_refl kept.uid)) h

  pub IsMailbox-mails : (messages : List (List (List ℕ))) (box : MailboxRecord) → IsMailbox number clients box → IsMailbox (suc number) clients (with_mails number messages box)
  IsMailbox-mails messages box h =
      let lists = lists-touched number box.highest (box.highest + length messages) (numbers box.highest (length messages)) clients box.lists (omega arith) born (AreUids-numbers box.highest (length messages)) h.lists in
      record { messages = AreMessages-mails number messages box h.messages; lists = subst₂ (λ n ls. AreListsOf (suc number) n clients ls) (sym (highest-mails number messages box)) (sym (lists-mails number messages box)) lists }
