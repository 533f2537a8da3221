-- The numbers of an account stay within their limits.
use Rattle.std.proofs.Common.{◌≡◌, ℕ, ◌+◌, ◌≤◌, Bool, true, false, not, ◌&&◌, ◌||◌, ◌⊎◌, nat_lt, nat_le, List, [], ◌∷◌, ◌++◌, length, filter, Option, None, Some, refl, ◌∙◌, ap, subst, inl, inr, arith, le_trans, add-zero, ltb-false, le-ltb, leb-true, le-leb, length-append}
use Rattle.std.specs.List.{AllByRecursion as Every, list_all}
use Rattle.std.specs.Option.{option_map_or}
use Rattle.std.proofs.lemmas.Bool.{and_parts, and_from, not-false, cases_Bool, and_right}
use Rattle.std.proofs.lemmas.List.Elements.{filter-append}
use Rattle.std.proofs.lemmas.Map.{length-set_value}
use Rattle.pc_base.specs.declared.refusal.LimitWord.{LimitWord}
use Rattle.pc_base.specs.declared.refusal.LimitWord.TheVariants as limit
use Rattle.pc_message.specs.Message.{weight_of}
use Rattle.pc_account_history.specs.declared.kept.Kept.{Kept}
use Rattle.pc_account_history.specs.declared.kept.Listed.{Listed}
use Rattle.pc_account_history.specs.declared.entry.Entry.{Entry}
use Rattle.pc_account_history.specs.declared.entry.Entry.TheVariants.{MakeMailbox, DropMailbox, Flag, Expunge, Copy, MakeClient, DropClient, ResetClient, ResetMailbox, Forget, Pull, Password, Subscribe, Unsubscribe, Mark}
use Rattle.pc_account_history.specs.declared.limits.TheConstants.{MOST_CLIENTS, MOST_MAILBOXES, MOST_SUBSCRIPTIONS, MOST_UIDS, MOST_MESSAGES, MOST_WEIGHT, MOST_CHANGES}
use Rattle.pc_tables.specs.Table.{same, is_among, other_names, others, numbers, total}
use Rattle.pc_account_history.specs.Effect.{gives, clients_after, live_after, dropped_after}
use Rattle.pc_account_history.specs.Known.{Known, touches, stamps, stays, is_client_after, changes_after, after_entry}
use Rattle.pc_account_history.specs.History.{History, start, ◌▸◌, known, next}
use Rattle.pc_account_history.specs.Allowed.{is_allowed, messages}
use Rattle.pc_account_history.specs.Limits.{is_passed, limits_of, limit_passed, IsWithin, limits_of_bases, listed_count}
use Rattle.pc_account_history.specs.Step.{record_of}
use Rattle.pc_account_history.specs.Legal.{IsCanonical, IsLegal}
use Rattle.pc_tables.proofs.Lists.{none-found, filter-agree, filter-false, Every-from, Every-weaker, length-filter-le, list_all-append, list_all-split, list_all-filter, list_all-weaker}
use Rattle.pc_tables.proofs.Numbers.{within-none}
use Rattle.pc_account_history.proofs.Histories.{Stands-legal}
use Rattle.pc_tables.proofs.Totals.{length-ones, total-append, total-le, total-filter, total-among}
use Rattle.pc_tables.proofs.Table.{list_all-among}
use Rattle.pc_account_history.proofs.Numbers.{KnowsNames, KnowsNames-legal, length-less, messages-less, no-messages}

-- a number that isn't past a limit, and one that is no greater
not-more : (most count fewer : ℕ) → fewer ≤ count → nat_lt most count ≡ false → nat_lt most fewer ≡ false
not-more most count fewer le h = le-ltb most fewer (omega (arith, ltb-false most count h))

at-most : (most count fewer : ℕ) → fewer ≤ count → nat_le count most ≡ true → nat_le fewer most ≡ true
at-most most count fewer le h = le-leb fewer most (omega (arith, leb-true count most h))

module _ (k : Known) (knows : KnowsNames k) where
  -- where the entry is held to this limit, it doesn't pass it
  abbrev pub IsHeld : Entry → LimitWord → Type 0
  IsHeld e word = Every (λ held. held ≡ word → is_passed (after_entry k e) word ≡ false) (limits_of e)

  IsQuiet : Entry → Type 0
  IsQuiet e = (mailbox : List ℕ) → gives e mailbox ≡ 0

  -- ---- clients, subscriptions and mailbox names

  pub clients-within : (e : Entry) → IsHeld e limit.Clients → is_passed k limit.Clients ≡ false → is_passed (after_entry k e) limit.Clients ≡ false
  clients-within (MakeClient name) held h = held.0 refl
  clients-within (DropClient name) held h = not-more MOST_CLIENTS (length k.clients) (length (others name k.clients)) (length-filter-le (λ client. not (same name client.0)) k.clients) h
  clients-within (MakeMailbox name) held h = h
  clients-within _ held h = h

  pub subscriptions-within : (e : Entry) → IsHeld e limit.Subscriptions → is_passed k limit.Subscriptions ≡ false → is_passed (after_entry k e) limit.Subscriptions ≡ false
  subscriptions-within (Subscribe board) held h = held.0 refl
  subscriptions-within (Unsubscribe board) held h = not-more MOST_SUBSCRIPTIONS (length k.subscriptions) (length (others board k.subscriptions)) (length-filter-le (λ subscription. not (same board subscription.0)) k.subscriptions) h
  subscriptions-within (Mark board uid) held h = ap (λ n. nat_lt MOST_SUBSCRIPTIONS n) (length-set_value (same board) k.subscriptions uid) ∙ h
  subscriptions-within (MakeMailbox name) held h = h
  subscriptions-within _ held h = h

  pub mailboxes-within : (e : Entry) → is_allowed k e ≡ true → IsHeld e limit.Mailboxes → is_passed k limit.Mailboxes ≡ false → is_passed (after_entry k e) limit.Mailboxes ≡ false
  mailboxes-within (MakeMailbox name) allowed held h = held.0 refl
  mailboxes-within (DropMailbox name) allowed held h =
      let among = total-among (λ _. 1) name k.live (and_parts _ _ allowed).0 in
      not-more MOST_MAILBOXES (length (k.live ++ k.dropped)) (length (other_names name k.live ++ (other_names name k.dropped ++ name ∷ [])))
      (omega (arith, among, length-ones k.live, length-ones (other_names name k.live), length-filter-le (λ other. not (same name other)) k.dropped, length-append (other_names name k.live) (other_names name k.dropped ++ name ∷ []), length-append (other_names name k.dropped) (name ∷ []), length-append k.live k.dropped)) h
  mailboxes-within (MakeClient name) allowed held h = h
  mailboxes-within _ allowed held h = h

  -- ---- uids

  -- what passes for all names passes for those after an entry
  names-all : (p : List ℕ → Bool) (e : Entry) → ((name : List ℕ) → is_among name (k.live ++ k.dropped) ≡ false → p name ≡ true) → list_all p (k.live ++ k.dropped) ≡ true → list_all p (live_after e k.live ++ dropped_after e k.dropped) ≡ true
  names-all p e unknown h = by_entry e
    where
      parts : (list_all p k.live ≡ true) × (list_all p k.dropped ≡ true)
      parts = list_all-split p k.live k.dropped h

      here : (name : List ℕ) → p name ≡ true
      here name = elim (cases_Bool (is_among name (k.live ++ k.dropped))) [ inl among ↦ list_all-among p name (k.live ++ k.dropped) h among | inr other ↦ unknown name other ]

      by_entry : (e' : Entry) → list_all p (live_after e' k.live ++ dropped_after e' k.dropped) ≡ true
      by_entry (MakeMailbox name) = list_all-append p (other_names name k.live ++ name ∷ []) (other_names name k.dropped) (list_all-append p (other_names name k.live) (name ∷ []) (list_all-filter p (λ other. not (same name other)) k.live parts.0) (and_from (p name) true (here name) refl)) (list_all-filter p (λ other. not (same name other)) k.dropped parts.1)
      by_entry (DropMailbox name) = list_all-append p (other_names name k.live) (other_names name k.dropped ++ name ∷ []) (list_all-filter p (λ other. not (same name other)) k.live parts.0) (list_all-append p (other_names name k.dropped) (name ∷ []) (list_all-filter p (λ other. not (same name other)) k.dropped parts.1) (and_from (p name) true (here name) refl))
      by_entry _ = h

  uids-quiet : (e : Entry) → IsQuiet e → is_passed k limit.Uids ≡ false → is_passed (after_entry k e) limit.Uids ≡ false
  unfolding IsQuiet
  uids-quiet e quiet h =
      let kept = names-all (λ mailbox. nat_le (k.highest mailbox) MOST_UIDS) e (λ name other. ap (λ n. nat_le n MOST_UIDS) (knows.unknown name other)) (not-false (list_all (λ mailbox. nat_le (k.highest mailbox) MOST_UIDS) (k.live ++ k.dropped)) h) in
      (λ i. not (list_all (λ mailbox. nat_le ((ap (λ n. k.highest mailbox + n) (quiet mailbox) ∙ add-zero (k.highest mailbox)) i) MOST_UIDS) (live_after e k.live ++ dropped_after e k.dropped))) ∙ ap not kept

  pub uids-within : (e : Entry) → IsHeld e limit.Uids → is_passed k limit.Uids ≡ false → is_passed (after_entry k e) limit.Uids ≡ false
  unfolding IsQuiet
  uids-within (Copy mailbox uid target) held h = held.0 refl
  uids-within (Pull upto letters) held h = held.0 refl
  uids-within (MakeMailbox name) held h = uids-quiet (MakeMailbox name) (λ mailbox. refl) h
  uids-within e held h = uids-quiet e (λ mailbox. refl) h

  -- ---- messages

  -- what passes for those that live passes for those that live after an entry
  live-all : (p q : List ℕ → Bool) (e : Entry) → ((name : List ℕ) → p name ≡ true → q name ≡ true) → ((name : List ℕ) → is_among name k.live ≡ false → p name ≡ true) → list_all p k.live ≡ true → list_all q (live_after e k.live) ≡ true
  live-all p q e weaker dead h = by_entry e
    where
      all : list_all q k.live ≡ true
      all = list_all-weaker p q k.live weaker h

      here : (name : List ℕ) → q name ≡ true
      here name = elim (cases_Bool (is_among name k.live)) [ inl among ↦ list_all-among q name k.live all among | inr other ↦ weaker name (dead name other) ]

      by_entry : (e' : Entry) → list_all q (live_after e' k.live) ≡ true
      by_entry (MakeMailbox name) = list_all-append q (other_names name k.live) (name ∷ []) (list_all-filter q (λ other. not (same name other)) k.live all) (and_from (q name) true (here name) refl)
      by_entry (DropMailbox name) = list_all-filter q (λ other. not (same name other)) k.live all
      by_entry _ = all

  messages-quiet : (e : Entry) → IsQuiet e → is_passed k limit.Messages ≡ false → is_passed (after_entry k e) limit.Messages ≡ false
  unfolding IsQuiet
  messages-quiet e quiet h = ap not (live-all (λ mailbox. nat_le (length (messages k mailbox)) MOST_MESSAGES) (λ mailbox. nat_le (length (messages (after_entry k e) mailbox)) MOST_MESSAGES) e (λ mailbox fits. at-most MOST_MESSAGES (length (messages k mailbox)) (length (messages (after_entry k e) mailbox)) (length-less k e mailbox (quiet mailbox)) fits) (λ mailbox other. ap (λ list. nat_le (length list) MOST_MESSAGES) (no-messages (k.kept mailbox) (numbers 0 (k.highest mailbox)) (λ uid. knows.dead mailbox uid other))) (not-false (list_all (λ mailbox. nat_le (length (messages k mailbox)) MOST_MESSAGES) k.live) h))

  pub messages-within : (e : Entry) → IsHeld e limit.Messages → is_passed k limit.Messages ≡ false → is_passed (after_entry k e) limit.Messages ≡ false
  unfolding IsQuiet
  messages-within (Copy mailbox uid target) held h = held.1.0 refl
  messages-within (Pull upto letters) held h = held.1.0 refl
  messages-within (MakeMailbox name) held h = messages-quiet (MakeMailbox name) (λ mailbox. refl) h
  messages-within e held h = messages-quiet e (λ mailbox. refl) h

  -- ---- weight

  live-less : (f g : List ℕ → ℕ) (e : Entry) → ((name : List ℕ) → g name ≤ f name) → ((name : List ℕ) → is_among name k.live ≡ false → f name ≡ 0) → total g (live_after e k.live) ≤ total f k.live
  live-less f g e less dead = by_entry e
    where
      all : total g k.live ≤ total f k.live
      all = total-le f g k.live less

      by_entry : (e' : Entry) → total g (live_after e' k.live) ≤ total f k.live
      by_entry (MakeMailbox name) = elim (cases_Bool (is_among name k.live)) [
        | inl among ↦ omega (arith, all, total-append g (other_names name k.live) (name ∷ []), total-among g name k.live among)
        | inr other ↦ omega (arith, all, total-append g (other_names name k.live) (name ∷ []), total-filter g (λ x. not (same name x)) k.live, less name, dead name other)
      ]
      by_entry (DropMailbox name) = omega (arith, all, total-filter g (λ x. not (same name x)) k.live)
      by_entry _ = all

  bytes-quiet : (e : Entry) → IsQuiet e → is_passed k limit.Bytes ≡ false → is_passed (after_entry k e) limit.Bytes ≡ false
  unfolding IsQuiet
  bytes-quiet e quiet h = not-more MOST_WEIGHT (total (λ mailbox. total (λ kept. weight_of kept.message) (messages k mailbox)) k.live) (total (λ mailbox. total (λ kept. weight_of kept.message) (messages (after_entry k e) mailbox)) (live_after e k.live)) (live-less (λ mailbox. total (λ kept. weight_of kept.message) (messages k mailbox)) (λ mailbox. total (λ kept. weight_of kept.message) (messages (after_entry k e) mailbox)) e (λ mailbox. messages-less weight_of k e mailbox (quiet mailbox)) (λ mailbox other. ap (total (λ (kept : Kept). weight_of kept.message)) (no-messages (k.kept mailbox) (numbers 0 (k.highest mailbox)) (λ uid. knows.dead mailbox uid other)))) h

  pub bytes-within : (e : Entry) → IsHeld e limit.Bytes → is_passed k limit.Bytes ≡ false → is_passed (after_entry k e) limit.Bytes ≡ false
  unfolding IsQuiet
  bytes-within (Copy mailbox uid target) held h = held.1.1.0 refl
  bytes-within (Pull upto letters) held h = held.1.1.0 refl
  bytes-within (MakeMailbox name) held h = bytes-quiet (MakeMailbox name) (λ mailbox. refl) h
  bytes-within e held h = bytes-quiet e (λ mailbox. refl) h

  -- ---- changes

  no-touch : (highest uid : ℕ) (found : Option Kept) → ((nat_lt highest uid && nat_le uid (highest + 0)) || option_map_or (λ kept. false) found false) ≡ false
  no-touch highest uid None = rw (within-none highest uid)
  no-touch highest uid (Some kept) = rw (within-none highest uid)

  -- a list on which nothing is touched becomes no longer
  changes-less : (e : Entry) (client mailbox : List ℕ) → ((uid : ℕ) → touches k e client mailbox uid ≡ false) → length (changes_after k e client mailbox) ≤ length (k.changes client mailbox)
  changes-less e client mailbox untouched =
      let nothing : filter (stamps k e client mailbox) (numbers 0 (k.highest mailbox + gives e mailbox)) ≡ [] = filter-agree (stamps k e client mailbox) (λ _. false) (numbers 0 (k.highest mailbox + gives e mailbox)) (Every-from (λ uid. stamps k e client mailbox uid ≡ false) (λ uid. and_right (is_client_after k e client) (touches k e client mailbox uid) (untouched uid)) (numbers 0 (k.highest mailbox + gives e mailbox))) ∙ filter-false (numbers 0 (k.highest mailbox + gives e mailbox)) in
      let kept = filter (λ (listed : Listed). stays k e client mailbox listed.uid) (k.changes client mailbox) in
      rw nothing (omega (arith, length-append kept [], length-filter-le (λ (listed : Listed). stays k e client mailbox listed.uid) (k.changes client mailbox)))

  names-less : (f g : List ℕ → ℕ) (name : List ℕ) → ((mailbox : List ℕ) → g mailbox ≤ f mailbox) → ((mailbox : List ℕ) → is_among mailbox (k.live ++ k.dropped) ≡ false → f mailbox ≡ 0) → total g ((other_names name k.live ++ name ∷ []) ++ other_names name k.dropped) ≤ total f (k.live ++ k.dropped)
  names-less f g name less unknown =
      let all = total-le f g (k.live ++ k.dropped) less in
      let split = ap (total g) (filter-append (λ x. not (same name x)) k.live k.dropped) in
      let first = total-append g (other_names name k.live ++ name ∷ []) (other_names name k.dropped) in
      let second = total-append g (other_names name k.live) (name ∷ []) in
      let both = total-append g (other_names name k.live) (other_names name k.dropped) in
      elim (cases_Bool (is_among name (k.live ++ k.dropped))) [
        | inl among ↦ omega (arith, all, split, first, second, both, total-among g name (k.live ++ k.dropped) among)
        | inr other ↦ omega (arith, all, split, first, second, both, total-filter g (λ x. not (same name x)) (k.live ++ k.dropped), less name, unknown name other)
      ]

  -- how many changes a mailbox has on all lists
  listed_in : Known → List ℕ → ℕ
  listed_in j mailbox = total (λ client. length (j.changes client.0 mailbox)) j.clients

  unknown-listed : (mailbox : List ℕ) → is_among mailbox (k.live ++ k.dropped) ≡ false → listed_in k mailbox ≡ 0
  unfolding listed_in
  unknown-listed mailbox other = none-listed k.clients
    where
      none-listed : (clients : List (List ℕ × ℕ)) → total (λ client. length (k.changes client.0 mailbox)) clients ≡ 0
      none-listed [] = refl
      none-listed (client ∷ clients) = omega (arith, none-listed clients, ap length (knows.unlisted client.0 mailbox other))

  same-names : (e : Entry) → live_after e k.live ≡ k.live → dropped_after e k.dropped ≡ k.dropped → clients_after e k.next k.clients ≡ k.clients → ((client mailbox : List ℕ) (uid : ℕ) → touches k e client mailbox uid ≡ false) → listed_count (after_entry k e) ≤ listed_count k
  same-names e live dropped clients untouched =
      let new = λ (mailbox : List ℕ). total (λ (client : List ℕ × ℕ). length (changes_after k e client.0 mailbox)) k.clients in
      let same_lists : listed_count (after_entry k e) ≡ total new (k.live ++ k.dropped) = λ i. total (λ mailbox. total (λ (client : List ℕ × ℕ). length (changes_after k e client.0 mailbox)) (clients i)) (live i ++ dropped i) in
      rw same_lists (total-le (λ mailbox. total (λ client. length (k.changes client.0 mailbox)) k.clients) new (k.live ++ k.dropped) (λ mailbox. total-le (λ client. length (k.changes client.0 mailbox)) (λ client. length (changes_after k e client.0 mailbox)) k.clients (λ client. changes-less e client.0 mailbox (untouched client.0 mailbox))))

  -- an entry either lists nothing anew or is held to the limit of changes
  changes-or-held : (e : Entry) → IsHeld e limit.Changes → (listed_count (after_entry k e) ≤ listed_count k) ⊎ (is_passed (after_entry k e) limit.Changes ≡ false)
  unfolding listed_in
  changes-or-held (MakeMailbox name) held = inl (names-less (listed_in k) (λ mailbox. total (λ client. length (changes_after k (MakeMailbox name) client.0 mailbox)) k.clients) name (λ mailbox. total-le (λ client. length (k.changes client.0 mailbox)) (λ client. length (changes_after k (MakeMailbox name) client.0 mailbox)) k.clients (λ client. changes-less (MakeMailbox name) client.0 mailbox (λ uid. no-touch (k.highest mailbox) uid (k.kept mailbox uid)))) unknown-listed)
  changes-or-held (DropClient name) held = inl (total-le (listed_in k) (λ mailbox. total (λ client. length (changes_after k (DropClient name) client.0 mailbox)) (others name k.clients)) (k.live ++ k.dropped) (λ mailbox. le_trans (total-filter (λ client. length (changes_after k (DropClient name) client.0 mailbox)) (λ client. not (same name client.0)) k.clients) (total-le (λ client. length (k.changes client.0 mailbox)) (λ client. length (changes_after k (DropClient name) client.0 mailbox)) k.clients (λ client. changes-less (DropClient name) client.0 mailbox (λ uid. no-touch (k.highest mailbox) uid (k.kept mailbox uid))))))
  changes-or-held (Forget name mailbox uids) held = inl (same-names (Forget name mailbox uids) refl refl refl (λ client other uid. no-touch (k.highest other) uid (k.kept other uid)))
  changes-or-held (Password digest) held = inl (same-names (Password digest) refl refl refl (λ client other uid. no-touch (k.highest other) uid (k.kept other uid)))
  changes-or-held (Subscribe board) held = inl (same-names (Subscribe board) refl refl refl (λ client other uid. no-touch (k.highest other) uid (k.kept other uid)))
  changes-or-held (Unsubscribe board) held = inl (same-names (Unsubscribe board) refl refl refl (λ client other uid. no-touch (k.highest other) uid (k.kept other uid)))
  changes-or-held (Mark board uid) held = inl (same-names (Mark board uid) refl refl refl (λ client other number. no-touch (k.highest other) number (k.kept other number)))
  changes-or-held (Copy mailbox uid target) held = inr (held.1.1.1.0 refl)
  changes-or-held (Pull upto letters) held = inr (held.1.1.1.0 refl)
  changes-or-held (MakeClient name) held = inr (held.1.0 refl)
  changes-or-held (DropMailbox name) held = inr (held.0 refl)
  changes-or-held (Flag mailbox uid flag on) held = inr (held.0 refl)
  changes-or-held (Expunge mailbox) held = inr (held.0 refl)
  changes-or-held (ResetClient name) held = inr (held.0 refl)
  changes-or-held (ResetMailbox name mailbox) held = inr (held.0 refl)

  pub changes-within : (e : Entry) → IsHeld e limit.Changes → is_passed k limit.Changes ≡ false → is_passed (after_entry k e) limit.Changes ≡ false
  changes-within e held h = elim (changes-or-held e held) [ inl less ↦ not-more MOST_CHANGES (listed_count k) (listed_count (after_entry k e)) less h | inr within ↦ within ]

  -- ---- all limits

  held-of : (e : Entry) (word : LimitWord) → limit_passed k e ≡ None → IsHeld e word
  held-of e word passed = Every-weaker (λ held. is_passed (after_entry k e) held ≡ false) (λ held. held ≡ word → is_passed (after_entry k e) word ≡ false) (λ held within same. subst (λ one. is_passed (after_entry k e) one ≡ false) same within) (limits_of e) (none-found (is_passed (after_entry k e)) (limits_of e) passed)

  pub within-after : (e : Entry) → is_allowed k e ≡ true → limit_passed k e ≡ None → IsWithin k limits_of_bases → IsWithin (after_entry k e) limits_of_bases
  within-after e allowed passed (clients, (mailboxes, (uids, (messages, (bytes, (changes, (subscriptions, _))))))) = (
    clients-within e (held-of e limit.Clients passed) clients,
    (
      mailboxes-within e allowed (held-of e limit.Mailboxes passed) mailboxes,
      (
        uids-within e (held-of e limit.Uids passed) uids,
        (
          messages-within e (held-of e limit.Messages passed) messages,
          (
            bytes-within e (held-of e limit.Bytes passed) bytes,
            (
              changes-within e (held-of e limit.Changes passed) changes,
              (subscriptions-within e (held-of e limit.Subscriptions passed) subscriptions, tt),
            ),
          ),
        ),
      ),
    ),
  )

pub IsWithin-legal : (h : History) → IsLegal h → IsWithin (known h) limits_of_bases
IsWithin-legal (start r number) legal = legal.within
IsWithin-legal (h ▸ e) legal = within-after (known h) (KnowsNames-legal h legal.0) e legal.1 legal.2 (IsWithin-legal h legal.0)

-- the record of a legal history is canonical
pub IsCanonical-legal : (h : History) → IsLegal h → IsCanonical (record_of h) (next h)
IsCanonical-legal h legal = let stands = Stands-legal h legal in record { well_formed = stands.formed; within = subst (λ k. IsWithin k limits_of_bases) stands.alike (IsWithin-legal h legal) }

-- ---- what is told
