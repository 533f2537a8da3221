-- What a change makes of one mailbox: its highest uid, its messages and its lists.
use Rattle.std.proofs.Common.{◌≡◌, ℕ, suc, ◌+◌, ◌-◌, ◌<◌, ◌≤◌, ◌==◌, Bool, true, false, cond, not, ◌&&◌, ◌||◌, nat_lt, nat_le, List, [], ◌∷◌, ◌++◌, length, map, filter, slice_get, Option, None, Some, is_some, unwrap_or, option_map, option_and_then, refl, sym, ◌∙◌, ap, inl, inr, arith, add-zero, append-nil, append_assoc, eq-eqb, ne_eqb, lt-ltb, true≢false}
use Rattle.std.specs.List.{AllByRecursion as Every}
use Rattle.std.specs.Map.{lookup}
use Rattle.std.specs.Option.{option_or}
use Rattle.std.proofs.lemmas.Bool.{cases_eq, cases_order}
use Rattle.std.proofs.lemmas.List.Elements.{filter-append}
use Rattle.pc_account_history.specs.declared.kept.Kept.{Kept}
use Rattle.pc_account_history.specs.declared.kept.Listed.{Listed}
use Rattle.pc_tables.specs.Table.{same, numbers, has_number}
use Rattle.pc_account_history.specs.Record.{MailboxRecord, list_of, kept_at}
use Rattle.pc_account_history.specs.Effect.{arrived, flagged}
use Rattle.pc_account_history.specs.Step.{uids_of, stamped, without, touched, touched_for_all, with_message}
use Rattle.pc_account_history.specs.Legal.{AreListsOf}
use Rattle.pc_tables.proofs.Table.{lookup-map_values}
use Rattle.pc_tables.proofs.Lists.{Every-weaker, Every-append, Every-filter, filter-agree, filter-true, filter-false}
use Rattle.pc_tables.proofs.Numbers.{within-true, within-below, within-above, within-next, within-none, has_number-numbers}
use Rattle.pc_account_history.proofs.Uids.{Rising, kept_at-above, kept_at-below}
use Rattle.pc_account_history.proofs.Mailboxes.{with_mails}
use Rattle.pc_tables.proofs.Options.{option_or-none}

-- ---- lists

-- a client has a list exactly where it is one of the clients
pub lists-clients : (number highest : ℕ) (clients : List (List ℕ × ℕ)) (lists : List (List ℕ × List Listed)) (client : List ℕ) → AreListsOf number highest clients lists → is_some (lookup (same client) lists) ≡ is_some (lookup (same client) clients)
lists-clients number highest [] [] client h = refl
lists-clients number highest [] (list ∷ lists) client h = absurd h
lists-clients number highest (maker ∷ clients) [] client h = absurd h
lists-clients number highest (maker ∷ clients) (list ∷ lists) client h =
    ap (λ name. is_some (cond (same client name) (Some list.1) (lookup (same client) lists))) h.0
    ∙ elim (same client maker.0) as (λ b. is_some (cond b (Some list.1) (lookup (same client) lists)) ≡ is_some (cond b (Some maker.1) (lookup (same client) clients))) [ true ↦ refl | false ↦ lists-clients number highest clients lists client h.2 ]

-- a list once these uids are touched, where there is one
abbrev pub reached : ℕ → Bool → List ℕ → List Listed → List Listed
reached number client uids list = touched number (cond client uids []) list

pub touched-none : (number : ℕ) (list : List Listed) → touched number [] list ≡ list
touched-none number list = append-nil (filter (λ _. true) list) ∙ filter-true list

-- every client's list is reached by a touch for all
pub list_of-touched : (number : ℕ) (uids : List ℕ) (box : MailboxRecord) (client : List ℕ) → list_of (touched_for_all number uids box) client ≡ reached number (is_some (lookup (same client) box.lists)) uids (list_of box client)
list_of-touched number uids box client =
    ap (λ o. unwrap_or o []) (lookup-map_values (touched number uids) (same client) box.lists)
    ∙ elim (lookup (same client) box.lists) as (λ o. unwrap_or (option_map (touched number uids) o) [] ≡ reached number (is_some o) uids (unwrap_or o [])) [ None ↦ refl | Some list ↦ refl ]

pub has_list-touched : (number : ℕ) (uids : List ℕ) (box : MailboxRecord) (client : List ℕ) → is_some (lookup (same client) (touched_for_all number uids box).lists) ≡ is_some (lookup (same client) box.lists)
has_list-touched number uids box client =
    ap is_some (lookup-map_values (touched number uids) (same client) box.lists)
    ∙ elim (lookup (same client) box.lists) as (λ o. is_some (option_map (touched number uids) o) ≡ is_some o) [ None ↦ refl | Some list ↦ refl ]

-- two touches one after the other, of uids that differ
filter-both : (uid : ℕ) (uids : List ℕ) (list : List Listed) → without uids (without (uid ∷ []) list) ≡ without (uid ∷ uids) list
filter-both uid uids [] = refl
filter-both uid uids (listed ∷ list) =
    elim (uid == listed.uid) as (λ b. without uids (cond (not (b || false)) (listed ∷ without (uid ∷ []) list) (without (uid ∷ []) list)) ≡ cond (not (b || has_number listed.uid uids)) (listed ∷ without (uid ∷ uids) list) (without (uid ∷ uids) list)) [
      | true ↦ filter-both uid uids list
      | false ↦ ap (λ rest. cond (not (has_number listed.uid uids)) (listed ∷ rest) rest) (filter-both uid uids list)
    ]

pub touched-twice : (number uid : ℕ) (uids : List ℕ) (list : List Listed) → has_number uid uids ≡ false → touched number uids (touched number (uid ∷ []) list) ≡ touched number (uid ∷ uids) list
touched-twice number uid uids list apart =
    let own : without uids (stamped number (uid ∷ [])) ≡ stamped number (uid ∷ []) = rw apart in
    rw (filter-append (λ (listed : Listed). not (has_number listed.uid uids)) (without (uid ∷ []) list) (stamped number (uid ∷ [])), filter-both uid uids list, own) (append_assoc (without (uid ∷ uids) list) (stamped number (uid ∷ [])) (stamped number uids))

reached-twice : (number uid : ℕ) (uids : List ℕ) (list : List Listed) (client : Bool) → has_number uid uids ≡ false → reached number client uids (reached number client (uid ∷ []) list) ≡ reached number client (uid ∷ uids) list
reached-twice number uid uids list true apart = touched-twice number uid uids list apart
reached-twice number uid uids list false apart = touched-none number (touched number [] list)

-- ---- mails that come one after the other

pub highest-mails : (number : ℕ) (messages : List (List (List ℕ))) (box : MailboxRecord) → (with_mails number messages box).highest ≡ box.highest + length messages
highest-mails number [] box = sym (add-zero box.highest)
highest-mails number (message ∷ messages) box = highest-mails number messages (with_message number (arrived (suc box.highest) message) box) ∙ omega arith

has_list-mails : (number : ℕ) (messages : List (List (List ℕ))) (box : MailboxRecord) (client : List ℕ) → is_some (lookup (same client) (with_mails number messages box).lists) ≡ is_some (lookup (same client) box.lists)
has_list-mails number [] box client = refl
has_list-mails number (message ∷ messages) box client = has_list-mails number messages (with_message number (arrived (suc box.highest) message) box) client ∙ has_list-touched number (suc box.highest ∷ []) box client

pub list_of-mails : (number : ℕ) (messages : List (List (List ℕ))) (box : MailboxRecord) (client : List ℕ) → list_of (with_mails number messages box) client ≡ reached number (is_some (lookup (same client) box.lists)) (numbers box.highest (length messages)) (list_of box client)
list_of-mails number [] box client = sym (elim (is_some (lookup (same client) box.lists)) as (λ b. reached number b [] (list_of box client) ≡ list_of box client) [ true ↦ touched-none number (list_of box client) | false ↦ touched-none number (list_of box client) ])
list_of-mails number (message ∷ messages) box client =
    let first = suc box.highest in
    let uids = numbers first (length messages) in
    let rest = list_of-mails number messages (with_message number (arrived first message) box) client in
    let apart = has_number-numbers first first (length messages) ∙ within-below first (first + length messages) first (omega arith) in
    rest
    ∙ ap (λ b. reached number b uids (list_of (touched_for_all number (first ∷ []) box) client)) (has_list-touched number (first ∷ []) box client)
    ∙ ap (reached number (is_some (lookup (same client) box.lists)) uids) (list_of-touched number (first ∷ []) box client)
    ∙ reached-twice number first uids (list_of box client) (is_some (lookup (same client) box.lists)) apart

-- ---- messages

pub kept_at-append : (uid : ℕ) (messages more : List Kept) → kept_at uid (messages ++ more) ≡ option_or (kept_at uid messages) (kept_at uid more)
kept_at-append uid [] more = refl
kept_at-append uid (kept ∷ messages) more = elim (kept.uid == uid) as (λ b. cond b (Some kept) (kept_at uid (messages ++ more)) ≡ option_or (cond b (Some kept) (kept_at uid messages)) (kept_at uid more)) [ true ↦ refl | false ↦ kept_at-append uid messages more ]

abbrev pub AreUpTo : ℕ → List Kept → Type 0
AreUpTo highest messages = Every (λ (kept : Kept). kept.uid ≤ highest) messages

-- a message under the next uid
pub kept_at-push : (uid highest : ℕ) (messages : List Kept) (new : Kept) → AreUpTo highest messages → new.uid ≡ suc highest → kept_at uid (messages ++ new ∷ []) ≡ cond (nat_lt highest uid && nat_le uid (suc highest)) (Some new) (kept_at uid messages)
kept_at-push uid highest messages new upto e =
    elim (cases_eq (suc highest) uid) [
      | inl here ↦
          let none = kept_at-above uid messages (Every-weaker (λ (kept : Kept). kept.uid ≤ highest) (λ (kept : Kept). kept.uid < uid) (λ kept h. omega arith) messages upto) in
          rw (kept_at-append uid messages (new ∷ []), none, eq-eqb new.uid uid (e ∙ here), within-true highest (suc highest) uid (omega arith) (omega arith))
      | inr other ↦
          rw (kept_at-append uid messages (new ∷ []), ne_eqb new.uid uid (λ same. other (sym e ∙ same)), within-next highest uid other) (option_or-none (kept_at uid messages))
    ]

mails-step : (uid highest : ℕ) (message : List (List ℕ)) (messages : List (List (List ℕ))) (found : Option Kept) →
    cond (nat_lt (suc highest) uid && nat_le uid (suc highest + length messages)) (option_map (arrived uid) (slice_get messages (uid - suc highest - 1))) (cond (nat_lt highest uid && nat_le uid (suc highest)) (Some (arrived (suc highest) message)) found)
    ≡ cond (nat_lt highest uid && nat_le uid (highest + suc (length messages))) (option_map (arrived uid) (slice_get (message ∷ messages) (uid - highest - 1))) found
mails-step uid highest message messages found =
    let e : suc highest + length messages ≡ highest + suc (length messages) = omega arith in
    elim (cases_order (suc highest) uid) [
      | inl here ↦
          let place : uid - highest - 1 ≡ 0 = omega arith in
          rw (within-below (suc highest) (suc highest + length messages) uid (omega arith), within-true highest (suc highest) uid (omega arith) (omega arith), within-true highest (highest + suc (length messages)) uid (omega arith) (omega arith), place) (ap (λ n. Some (arrived n message)) here)
      | inr o ↦ elim o [
        | inl above ↦
            let place : uid - highest - 1 ≡ suc (uid - suc highest - 1) = omega arith in
            rw (within-above highest (suc highest) uid above, place, lt-ltb (suc highest) uid above, lt-ltb highest uid (omega arith), e)
        | inr below ↦ rw (within-below (suc highest) (suc highest + length messages) uid (omega arith), within-below highest (suc highest) uid (omega arith), within-below highest (highest + suc (length messages)) uid (omega arith))
      ]
    ]

pub kept_at-mails : (number uid : ℕ) (messages : List (List (List ℕ))) (box : MailboxRecord) → AreUpTo box.highest box.messages → kept_at uid (with_mails number messages box).messages ≡ cond (nat_lt box.highest uid && nat_le uid (box.highest + length messages)) (option_map (arrived uid) (slice_get messages (uid - box.highest - 1))) (kept_at uid box.messages)
kept_at-mails number uid [] box upto = rw (within-none box.highest uid)
kept_at-mails number uid (message ∷ messages) box upto =
    let new = arrived (suc box.highest) message in
    let more : AreUpTo (suc box.highest) (box.messages ++ new ∷ []) = Every-append (λ (kept : Kept). kept.uid ≤ suc box.highest) box.messages (new ∷ []) (Every-weaker (λ (kept : Kept). kept.uid ≤ box.highest) (λ (kept : Kept). kept.uid ≤ suc box.highest) (λ kept h. omega arith) box.messages upto) (omega arith, tt) in
    kept_at-mails number uid messages (with_message number new box) more
    ∙ ap (λ found. cond (nat_lt (suc box.highest) uid && nat_le uid (suc box.highest + length messages)) (option_map (arrived uid) (slice_get messages (uid - suc box.highest - 1))) found) (kept_at-push uid box.highest box.messages new upto refl)
    ∙ mails-step uid box.highest message messages (kept_at uid box.messages)

left-here : (kept : Kept) (uid : ℕ) (rest : List Kept) (b : Bool) → (kept.uid == uid) ≡ true → kept_at uid rest ≡ None → kept_at uid (cond (not b) (kept ∷ rest) rest) ≡ cond b None (Some kept)
left-here kept uid rest true h none = none
left-here kept uid rest false h none = rw h

left-other : (kept : Kept) (uid : ℕ) (rest : List Kept) (b : Bool) → (kept.uid == uid) ≡ false → kept_at uid (cond (not b) (kept ∷ rest) rest) ≡ kept_at uid rest
left-other kept uid rest true h = refl
left-other kept uid rest false h = rw h

-- the messages that are left where some go
pub kept_at-left : (gone : Kept → Bool) (uid : ℕ) (messages : List Kept) → Rising messages → kept_at uid (filter (λ kept. not (gone kept)) messages) ≡ option_and_then (λ kept. cond (gone kept) None (Some kept)) (kept_at uid messages)
kept_at-left gone uid [] r = refl
kept_at-left gone uid (kept ∷ messages) r =
    let rest = filter (λ k. not (gone k)) messages in
    elim (cases_eq kept.uid uid) [
      | inl here ↦
          let none = kept_at-below uid rest (Every-filter (λ (k : Kept). uid < k.uid) (λ k. not (gone k)) messages (Every-weaker (λ (k : Kept). kept.uid < k.uid) (λ (k : Kept). uid < k.uid) (λ k h. omega arith) messages r.0)) in
          rw (eq-eqb kept.uid uid here) (left-here kept uid rest (gone kept) (eq-eqb kept.uid uid here) none)
      | inr other ↦ rw (ne_eqb kept.uid uid other) (left-other kept uid rest (gone kept) (ne_eqb kept.uid uid other) ∙ kept_at-left gone uid messages r.1)
    ]

-- the messages where one has a flag set
pub kept_at-flagged : (at flag : ℕ) (on : Bool) (uid : ℕ) (messages : List Kept) → kept_at uid (map (λ kept. cond (kept.uid == at) (flagged flag on kept) kept) messages) ≡ option_and_then (λ kept. cond (at == uid) (Some (flagged flag on kept)) (Some kept)) (kept_at uid messages)
kept_at-flagged at flag on uid [] = refl
kept_at-flagged at flag on uid (kept ∷ messages) =
    let ih = kept_at-flagged at flag on uid messages in
    elim (cases_eq kept.uid uid) [
      | inl here ↦ elim (cases_eq kept.uid at) [
        | inl changed ↦ rw (eq-eqb kept.uid at changed, eq-eqb kept.uid uid here, eq-eqb at uid (sym changed ∙ here))
        | inr not_changed ↦ rw (ne_eqb kept.uid at not_changed, eq-eqb kept.uid uid here, ne_eqb at uid (λ e. not_changed (here ∙ sym e)))
      ]
      | inr other ↦ elim (kept.uid == at) as (λ b. kept_at uid (cond b (flagged flag on kept) kept ∷ map (λ k. cond (k.uid == at) (flagged flag on k) k) messages) ≡ option_and_then (λ k. cond (at == uid) (Some (flagged flag on k)) (Some k)) (kept_at uid (kept ∷ messages))) [
        | true ↦ rw (ne_eqb kept.uid uid other) ih
        | false ↦ rw (ne_eqb kept.uid uid other) ih
      ]
    ]

-- a uid that lives is the one uid that equals it
pub uids_of-one : (at : ℕ) (messages : List Kept) → Rising messages → is_some (kept_at at messages) ≡ true → uids_of (filter (λ kept. at == kept.uid) messages) ≡ at ∷ []
uids_of-one at [] r h = absurd (true≢false (sym h))
uids_of-one at (kept ∷ messages) r h =
    elim (cases_eq at kept.uid) [
      | inl here ↦
          let rest = filter-agree (λ (k : Kept). at == k.uid) (λ _. false) messages (Every-weaker (λ (k : Kept). kept.uid < k.uid) (λ (k : Kept). (at == k.uid) ≡ false) (λ k g. ne_eqb at k.uid (λ e. absurd (omega arith))) messages r.0) ∙ filter-false messages in
          rw (eq-eqb at kept.uid here, rest) (ap (λ n. n ∷ []) (sym here))
      | inr other ↦
          let still : is_some (kept_at at messages) ≡ true = (rw (ne_eqb kept.uid at (λ e. other (sym e))) at h) in
          rw (ne_eqb at kept.uid other) (uids_of-one at messages r.1 still)
    ]
