-- The update list that an entry leaves, in the words of the record.
use Rattle.std.proofs.Common.{◌≡◌, ℕ, ◌+◌, ◌<◌, ◌≤◌, ◌==◌, Bool, true, false, cond, not, ◌&&◌, ◌||◌, nat_lt, nat_le, List, [], ◌∷◌, ◌++◌, filter, find, Option, None, Some, option_map, refl, sym, ◌∙◌, ap, arith, inl, inr, eq-eqb, ne_eqb, zero-add}
use Rattle.std.specs.Option.{option_or}
use Rattle.std.proofs.lemmas.Bool.{cases_eq}
use Rattle.std.proofs.lemmas.List.Elements.{filter-append}
use Rattle.pc_account_history.specs.declared.kept.Kept.{Kept}
use Rattle.pc_account_history.specs.declared.kept.Listed.{Listed}
use Rattle.pc_account_history.specs.declared.entry.Entry.{Entry}
use Rattle.pc_tables.specs.Table.{numbers, has_number}
use Rattle.pc_account_history.specs.Record.{MailboxRecord, AccountRecord, mailbox_of, list_of, stamp_at}
use Rattle.pc_account_history.specs.Effect.{gives, concerns, begins, forgets}
use Rattle.pc_account_history.specs.Known.{said_by, changes_after, listed_after, is_client_after, stamps}
use Rattle.pc_account_history.specs.Step.{uids_of, stamped}
use Rattle.pc_account_history.specs.Legal.{AreMessages}
use Rattle.pc_tables.proofs.Booleans.{cond_same}
use Rattle.pc_tables.proofs.Lists.{Every-weaker, filter-agree, filter-true, filter-false}
use Rattle.pc_tables.proofs.Numbers.{Every-numbers, numbers-append, within-true, within-below, has_number-numbers, has_number-append}
use Rattle.pc_account_history.proofs.Uids.{hits, hits-numbers, has_number-uids}

or_comm : (a b : Bool) → (a || b) ≡ (b || a)
or_comm true true = refl
or_comm true false = refl
or_comm false true = refl
or_comm false false = refl

module _ (test : ℕ → ℕ → Bool) (highest count : ℕ) (messages : List Kept) (fits : AreMessages highest messages) where
  -- the uids that are given, and those whose messages pass
  is_hit : ℕ → Bool
  is_hit uid = (nat_lt highest uid && nat_le uid (highest + count)) || hits test messages uid

  hit_uids : List ℕ
  hit_uids = uids_of (filter (λ kept. test kept.uid kept.flags) messages) ++ numbers highest count

  hit-numbers : filter is_hit (numbers 0 (highest + count)) ≡ hit_uids
  unfolding is_hit hit_uids
  hit-numbers =
      let old = filter-agree is_hit (hits test messages) (numbers 0 highest) (Every-numbers (λ uid. is_hit uid ≡ hits test messages uid) 0 highest (λ uid a b. rw (within-below highest (highest + count) uid (omega arith)))) in
      let given = filter-agree is_hit (λ _. true) (numbers highest count) (Every-numbers (λ uid. is_hit uid ≡ true) highest count (λ uid a b. rw (within-true highest (highest + count) uid a b))) in
      let passed = hits-numbers test 0 highest messages fits.rising (Every-weaker (λ (kept : Kept). (0 < kept.uid) × (kept.uid ≤ highest)) (λ (kept : Kept). (0 < kept.uid) × (kept.uid ≤ 0 + highest)) (λ kept h. (h.0, omega (arith, h.1))) messages fits.given) in
      rw (numbers-append 0 highest count, zero-add highest, filter-append is_hit (numbers 0 highest) (numbers highest count)) (λ i. (old ∙ passed) i ++ (given ∙ filter-true (numbers highest count)) i)

  hit-has : (uid : ℕ) → is_hit uid ≡ has_number uid hit_uids
  unfolding is_hit hit_uids
  hit-has uid = rw (has_number-append uid (uids_of (filter (λ kept. test kept.uid kept.flags) messages)) (numbers highest count), has_number-uids test uid messages fits.rising, has_number-numbers uid highest count) (or_comm (nat_lt highest uid && nat_le uid (highest + count)) (hits test messages uid))

  -- the same, where the client is one
  filter-hits : (client : Bool) → filter (λ uid. client && is_hit uid) (numbers 0 (highest + count)) ≡ cond client hit_uids []
  filter-hits true = hit-numbers
  filter-hits false = filter-false (numbers 0 (highest + count))

  has-hits : (client : Bool) (uid : ℕ) → (client && is_hit uid) ≡ has_number uid (cond client hit_uids [])
  has-hits true uid = hit-has uid
  has-hits false uid = refl

-- the list once an entry touches these uids
abbrev pub changes_with : Entry → ℕ → List ℕ → List ℕ → List ℕ → List Listed → List Listed
changes_with e number client mailbox uids list = filter (λ listed. not (begins e client || forgets e client mailbox listed.uid) && not (has_number listed.uid uids)) list ++ stamped number uids

-- the uids of a mailbox that an entry touches for a client
abbrev pub touched_uids : Entry → List ℕ → List ℕ → MailboxRecord → List ℕ
touched_uids e client mailbox box = uids_of (filter (λ kept. concerns e client mailbox kept.uid kept.flags) box.messages) ++ numbers box.highest (gives e mailbox)

pub changes-step : (r : AccountRecord) (number : ℕ) (e : Entry) (client mailbox : List ℕ) → AreMessages (mailbox_of r mailbox).highest (mailbox_of r mailbox).messages → changes_after (said_by r number) e client mailbox ≡ changes_with e number client mailbox (cond (is_client_after (said_by r number) e client) (touched_uids e client mailbox (mailbox_of r mailbox)) []) (list_of (mailbox_of r mailbox) client)
unfolding is_hit hit_uids
changes-step r number e client mailbox fits =
    let box = mailbox_of r mailbox in
    let uids = filter-hits (concerns e client mailbox) box.highest (gives e mailbox) box.messages fits (is_client_after (said_by r number) e client) in
    let has = has-hits (concerns e client mailbox) box.highest (gives e mailbox) box.messages fits (is_client_after (said_by r number) e client) in
    λ i. filter (λ listed. not (begins e client || forgets e client mailbox listed.uid) && not (has listed.uid i)) (list_of box client) ++ stamped number (uids i)

-- the uids that get the entry's number as their stamp are those
pub stamps-has : (r : AccountRecord) (number : ℕ) (e : Entry) (client mailbox : List ℕ) (uid : ℕ) → AreMessages (mailbox_of r mailbox).highest (mailbox_of r mailbox).messages → stamps (said_by r number) e client mailbox uid ≡ has_number uid (cond (is_client_after (said_by r number) e client) (touched_uids e client mailbox (mailbox_of r mailbox)) [])
unfolding is_hit hit_uids
stamps-has r number e client mailbox uid fits = has-hits (concerns e client mailbox) (mailbox_of r mailbox).highest (gives e mailbox) (mailbox_of r mailbox).messages fits (is_client_after (said_by r number) e client) uid

-- ---- the stamp of a uid on a changed list

stamp_at-append : (uid : ℕ) (list more : List Listed) → stamp_at uid (list ++ more) ≡ option_or (stamp_at uid list) (stamp_at uid more)
stamp_at-append uid [] more = refl
stamp_at-append uid (listed ∷ list) more = elim (listed.uid == uid) as (λ b. option_map (λ (l : Listed). l.stamp) (cond b (Some listed) (find (λ (l : Listed). l.uid == uid) (list ++ more))) ≡ option_or (option_map (λ (l : Listed). l.stamp) (cond b (Some listed) (find (λ (l : Listed). l.uid == uid) list))) (stamp_at uid more)) [ true ↦ refl | false ↦ stamp_at-append uid list more ]

stamp_at-stamped : (uid number : ℕ) (uids : List ℕ) → stamp_at uid (stamped number uids) ≡ cond (has_number uid uids) (Some number) None
stamp_at-stamped uid number [] = refl
stamp_at-stamped uid number (first ∷ uids) = elim (first == uid) as (λ b. option_map (λ (l : Listed). l.stamp) (cond b (Some (record { uid = first; stamp = number })) (find (λ (l : Listed). l.uid == uid) (stamped number uids))) ≡ cond (b || has_number uid uids) (Some number) None) [ true ↦ refl | false ↦ stamp_at-stamped uid number uids ]

here-listed : (b : Bool) (uid : ℕ) (listed : Listed) (rest : List Listed) (old : Option ℕ) → (listed.uid == uid) ≡ true → stamp_at uid rest ≡ cond b old None → stamp_at uid (cond b (listed ∷ rest) rest) ≡ cond b (Some listed.stamp) None
here-listed true uid listed rest old h ih = rw h
here-listed false uid listed rest old h ih = ih

other-listed : (b : Bool) (uid : ℕ) (listed : Listed) (rest : List Listed) → (listed.uid == uid) ≡ false → stamp_at uid (cond b (listed ∷ rest) rest) ≡ stamp_at uid rest
other-listed true uid listed rest h = rw h
other-listed false uid listed rest h = refl

stamp_at-filter : (p : ℕ → Bool) (uid : ℕ) (list : List Listed) → stamp_at uid (filter (λ listed. p listed.uid) list) ≡ cond (p uid) (stamp_at uid list) None
stamp_at-filter p uid [] = cond_same (p uid) None
stamp_at-filter p uid (listed ∷ list) =
    let rest = filter (λ (l : Listed). p l.uid) list in
    let ih : stamp_at uid rest ≡ cond (p uid) (stamp_at uid list) None = stamp_at-filter p uid list in
    elim (cases_eq listed.uid uid) [
      | inl here ↦
          let e : p listed.uid ≡ p uid = ap p here in
          rw (e, eq-eqb listed.uid uid here) (here-listed (p uid) uid listed rest (stamp_at uid list) (eq-eqb listed.uid uid here) ih)
      | inr other ↦ rw (ne_eqb listed.uid uid other) (other-listed (p listed.uid) uid listed rest (ne_eqb listed.uid uid other) ∙ ih)
    ]

decided : (has begun : Bool) (number : ℕ) (old : Option ℕ) → option_or (cond (not begun && not has) old None) (cond has (Some number) None) ≡ cond has (Some number) (cond begun None old)
decided true true number old = refl
decided true false number old = refl
decided false true number old = refl
decided false false number None = refl
decided false false number (Some stamp) = refl

-- the stamp on the list that an entry leaves is the one that the entry decides
pub listed-step : (r : AccountRecord) (number : ℕ) (e : Entry) (client mailbox : List ℕ) (uid : ℕ) → AreMessages (mailbox_of r mailbox).highest (mailbox_of r mailbox).messages → stamp_at uid (changes_after (said_by r number) e client mailbox) ≡ listed_after (said_by r number) e client mailbox uid
listed-step r number e client mailbox uid fits =
    let uids = cond (is_client_after (said_by r number) e client) (touched_uids e client mailbox (mailbox_of r mailbox)) [] in
    let list = list_of (mailbox_of r mailbox) client in
    ap (stamp_at uid) (changes-step r number e client mailbox fits)
    ∙ stamp_at-append uid (filter (λ (l : Listed). not (begins e client || forgets e client mailbox l.uid) && not (has_number l.uid uids)) list) (stamped number uids)
    ∙ (λ i. option_or (stamp_at-filter (λ u. not (begins e client || forgets e client mailbox u) && not (has_number u uids)) uid list i) (stamp_at-stamped uid number uids i))
    ∙ decided (has_number uid uids) (begins e client || forgets e client mailbox uid) number (stamp_at uid list)
    ∙ ap (λ b. cond b (Some number) (cond (begins e client || forgets e client mailbox uid) None (stamp_at uid list))) (sym (stamps-has r number e client mailbox uid fits))
