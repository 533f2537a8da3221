-- What fits its fields fits again after an entry that does.
use Rattle.std.proofs.Common.{◌≡◌, ℕ, suc, ◌^◌, ◌<◌, ◌==◌, ◌&&◌, nat_lt, nat_le, not, Bool, true, false, cond, List, [], ◌∷◌, ◌++◌, length, map, filter, Option, None, Some, MatchOption, refl, sym, subst, arith}
use Rattle.std.specs.Prelude.{⊤, bit_or, bit_and}
use Rattle.std.specs.List.{list_all}
use Rattle.std.specs.Map.{keys_of, set_value}
use Rattle.std.specs.Option.{option_map_or}
use Rattle.std.specs.Int.{bit_not, w16}
use Rattle.std.proofs.lemmas.Bool.{ltb-true, leb-true, lt-ltb, and_parts, and_from}
use Rattle.std.proofs.lemmas.Nat.{or_lt, and_le_l, pow_below}
use Rattle.pc_base.specs.Name.{is_name}
use Rattle.pc_account_history.specs.declared.kept.Kept.{Kept}
use Rattle.pc_account_history.specs.declared.entry.Entry.{Entry}
use Rattle.pc_account_history.specs.declared.entry.Entry.TheVariants.{MakeMailbox, DropMailbox, Flag, Expunge, Copy, MakeClient, DropClient, ResetClient, ResetMailbox, Forget, Pull, Password, Subscribe, Unsubscribe, Mark}
use Rattle.pc_message.specs.declared.limits.TheConstants.{MOST_LETTERS}
use Rattle.pc_message.specs.Flags.{flag_of, flags_with}
use Rattle.pc_tables.specs.Table.{same, others, other_names}
use Rattle.pc_account_history.specs.Record.{MailboxRecord, AccountRecord, mailbox_of, kept_at}
use Rattle.pc_account_history.specs.Effect.{letters_to, copy_as, arrived, flagged, clients_after, live_after, dropped_after, subscriptions_after, digest_after}
use Rattle.pc_account_history.specs.Known.{Known, said_by, after_entry}
use Rattle.pc_account_history.specs.Allowed.{is_allowed}
use Rattle.pc_account_history.specs.Step.{with_message, with_flag_set, expunged, emptied, reset_for, taken_by, after}
use Rattle.pc_account_history.specs.Legal.{IsWellFormed, IsCanonical}
use Rattle.pc_account_history.proofs.Agreement.{after-said_by}
use Rattle.pc_account_history.proofs.Mailboxes.{with_mails, box_by, mailbox_of-after}
use Rattle.pc_tables.proofs.Lists.{list_all-append, list_all-filter}
use Rattle.pc_fields.specs.Fitting.{is_u32, is_message, is_u16}
use Rattle.pc_account_spelling.specs.EntryForm.{is_letter, entry_fits}
use Rattle.pc_account_spelling.specs.RecordForm.{is_digest, subscription_fits, fits_record}
use Rattle.pc_account_spelling.proofs.Holding.{kept_holds, is_named, Holds, holds_of, fits_of}

-- ---- one message

flags-fit : (flags flag : ℕ) (on : Bool) → is_u16 flags ≡ true → flag < 16 → is_u16 (flags_with flags flag on) ≡ true
flags-fit flags flag true fit small = lt-ltb (bit_or flags (2 ^ flag)) 65536 (or_lt 16 flags (2 ^ flag) (ltb-true flags 65536 fit) (pow_below flag 16 small))
flags-fit flags flag false fit small =
    let less = and_le_l flags (bit_not w16 (2 ^ flag)) in
    let before = ltb-true flags 65536 fit in
    lt-ltb (bit_and flags (bit_not w16 (2 ^ flag))) 65536 (omega (arith, less, before))

-- a message with other flags that fit
other-flags : (kept : Kept) (flag : ℕ) (on : Bool) → flag < 16 → kept_holds kept ≡ true → (is_u16 (flags_with kept.flags flag on) && is_message kept.message) ≡ true
other-flags kept flag on small hold =
    let parts = and_parts (is_u16 kept.flags) (is_message kept.message) hold in
    and_from (is_u16 (flags_with kept.flags flag on)) (is_message kept.message) (flags-fit kept.flags flag on parts.0 small) parts.1

found-holds : (uid : ℕ) (messages : List Kept) → list_all kept_holds messages ≡ true → MatchOption (kept_at uid messages) ⊤ (λ kept. kept_holds kept ≡ true)
found-holds uid [] hold = tt
found-holds uid (kept ∷ messages) hold =
    let parts = and_parts (kept_holds kept) (list_all kept_holds messages) hold in
    elim (kept.uid == uid) as (λ b. MatchOption (cond b (Some kept) (kept_at uid messages)) ⊤ (λ k. kept_holds k ≡ true)) [ true ↦ parts.0 | false ↦ found-holds uid messages parts.1 ]

-- ---- the messages of a mailbox

abbrev BoxHolds : MailboxRecord → Type 0
BoxHolds box = list_all kept_holds box.messages ≡ true

flagged-holds : (uid flag : ℕ) (on : Bool) → flag < 16 → (messages : List Kept) → list_all kept_holds messages ≡ true → list_all kept_holds (map (λ kept. cond (kept.uid == uid) (flagged flag on kept) kept) messages) ≡ true
flagged-holds uid flag on small [] hold = refl
flagged-holds uid flag on small (kept ∷ messages) hold =
    let parts = and_parts (kept_holds kept) (list_all kept_holds messages) hold in
    and_from (kept_holds (cond (kept.uid == uid) (flagged flag on kept) kept)) (list_all kept_holds (map (λ k. cond (k.uid == uid) (flagged flag on k) k) messages))
    (elim (kept.uid == uid) as (λ b. kept_holds (cond b (flagged flag on kept) kept) ≡ true) [ true ↦ other-flags kept flag on small parts.0 | false ↦ parts.0 ])
    (flagged-holds uid flag on small messages parts.1)

message-holds : (number : ℕ) (kept : Kept) (box : MailboxRecord) → kept_holds kept ≡ true → BoxHolds box → BoxHolds (with_message number kept box)
message-holds number kept box here hold = list_all-append kept_holds box.messages (kept ∷ []) hold (and_from (kept_holds kept) true here refl)

mails-hold : (number : ℕ) (messages : List (List (List ℕ))) (box : MailboxRecord) → list_all is_message messages ≡ true → BoxHolds box → BoxHolds (with_mails number messages box)
mails-hold number [] box fit hold = hold
mails-hold number (message ∷ messages) box fit hold =
    let parts = and_parts (is_message message) (list_all is_message messages) fit in
    mails-hold number messages (with_message number (arrived (suc box.highest) message) box) parts.1 (message-holds number (arrived (suc box.highest) message) box (and_from true (is_message message) refl parts.0) hold)

letters-fit : (mailbox : List ℕ) (letters : List (List ℕ × List (List ℕ))) → list_all is_letter letters ≡ true → list_all is_message (letters_to mailbox letters) ≡ true
letters-fit mailbox [] fit = refl
letters-fit mailbox (letter ∷ letters) fit =
    let parts = and_parts (is_letter letter) (list_all is_letter letters) fit in
    let here = and_parts (is_name letter.0) (is_message letter.1) parts.0 in
    let rest = letters-fit mailbox letters parts.1 in
    elim (same letter.0 mailbox) as (λ b. list_all is_message (map (λ (l : List ℕ × List (List ℕ)). l.1) (cond b (letter ∷ filter (λ (l : List ℕ × List (List ℕ)). same l.0 mailbox) letters) (filter (λ (l : List ℕ × List (List ℕ)). same l.0 mailbox) letters))) ≡ true) [
      | true ↦ and_from (is_message letter.1) (list_all is_message (letters_to mailbox letters)) here.1 rest
      | false ↦ rest
    ]

either-holds : (b : Bool) (changed box : MailboxRecord) → BoxHolds changed → BoxHolds box → BoxHolds (cond b changed box)
either-holds true changed box there here = there
either-holds false changed box there here = here

copied-holds : (number : ℕ) (original : Option Kept) (box : MailboxRecord) → MatchOption original ⊤ (λ kept. kept_holds kept ≡ true) → BoxHolds box → BoxHolds (option_map_or (λ kept. with_message number (copy_as (suc box.highest) kept) box) original box)
copied-holds number None box found hold = hold
copied-holds number (Some kept) box found hold = message-holds number (copy_as (suc box.highest) kept) box (other-flags kept 0 false (omega arith) found) hold

module _ (r : AccountRecord) (number : ℕ) (holds : Holds r) where
  box-holds : (e : Entry) (mailbox : List ℕ) → is_allowed (said_by r number) e ≡ true → entry_fits e ≡ true → BoxHolds (box_by r number e mailbox (mailbox_of r mailbox))
  box-holds (MakeMailbox name) mailbox allowed fit = holds.messages mailbox
  box-holds (DropMailbox dropped) mailbox allowed fit = either-holds (same dropped mailbox) (emptied number (mailbox_of r mailbox)) (mailbox_of r mailbox) refl (holds.messages mailbox)
  box-holds (Flag changed uid flag on) mailbox allowed fit =
      let few = leb-true flag 15 (and_parts (nat_le flag 15) _ allowed).0 in
      either-holds (same changed mailbox) (with_flag_set number uid flag on (mailbox_of r mailbox)) (mailbox_of r mailbox) (flagged-holds uid flag on (omega (arith, few)) (mailbox_of r mailbox).messages (holds.messages mailbox)) (holds.messages mailbox)
  box-holds (Expunge changed) mailbox allowed fit = either-holds (same changed mailbox) (expunged number (mailbox_of r mailbox)) (mailbox_of r mailbox) (list_all-filter kept_holds (λ kept. not (flag_of kept.flags 0)) (mailbox_of r mailbox).messages (holds.messages mailbox)) (holds.messages mailbox)
  box-holds (Copy original uid target) mailbox allowed fit =
      let box = mailbox_of r mailbox in
      let found = kept_at uid (mailbox_of r original).messages in
      either-holds (same target mailbox) (option_map_or (λ kept. with_message number (copy_as (suc box.highest) kept) box) found box) box (copied-holds number found box (found-holds uid (mailbox_of r original).messages (holds.messages original)) (holds.messages mailbox)) (holds.messages mailbox)
  box-holds (ResetMailbox client changed) mailbox allowed fit = either-holds (same changed mailbox) (reset_for number client (mailbox_of r mailbox)) (mailbox_of r mailbox) (holds.messages mailbox) (holds.messages mailbox)
  box-holds (Forget client changed uids) mailbox allowed fit = either-holds (same changed mailbox) (taken_by client uids (mailbox_of r mailbox)) (mailbox_of r mailbox) (holds.messages mailbox) (holds.messages mailbox)
  box-holds (Pull upto letters) mailbox allowed fit =
      let letters-all = (and_parts (nat_lt upto 18446744073709551616 && nat_lt 0 (length letters) && nat_le (length letters) MOST_LETTERS) (list_all is_letter letters) fit).1 in
      mails-hold number (letters_to mailbox letters) (mailbox_of r mailbox) (letters-fit mailbox letters letters-all) (holds.messages mailbox)
  box-holds (MakeClient client) mailbox allowed fit = holds.messages mailbox
  box-holds (DropClient client) mailbox allowed fit = holds.messages mailbox
  box-holds (ResetClient client) mailbox allowed fit = holds.messages mailbox
  box-holds (Password digest) mailbox allowed fit = holds.messages mailbox
  box-holds (Subscribe board) mailbox allowed fit = holds.messages mailbox
  box-holds (Unsubscribe board) mailbox allowed fit = holds.messages mailbox
  box-holds (Mark board uid) mailbox allowed fit = holds.messages mailbox

-- ---- names, the digest and marks

clients-named : (e : Entry) (number : ℕ) (clients : List (List ℕ × ℕ)) → entry_fits e ≡ true → list_all is_named clients ≡ true → list_all is_named (clients_after e number clients) ≡ true
clients-named (MakeClient client) number clients fit named = list_all-append is_named (others client clients) ((client, number) ∷ []) (list_all-filter is_named (λ (other : List ℕ × ℕ). not (same client other.0)) clients named) (and_from (is_name client) true fit refl)
clients-named (DropClient client) number clients fit named = list_all-filter is_named (λ (other : List ℕ × ℕ). not (same client other.0)) clients named
clients-named _ number clients fit named = named

module _ (name : List ℕ) (names : List (List ℕ)) (named : list_all is_name names ≡ true) where
  others-named : list_all is_name (other_names name names) ≡ true
  others-named = list_all-filter is_name (λ other. not (same name other)) names named

  and-named : is_name name ≡ true → list_all is_name (other_names name names ++ name ∷ []) ≡ true
  and-named is = list_all-append is_name (other_names name names) (name ∷ []) others-named (and_from (is_name name) true is refl)

live-named : (e : Entry) (names : List (List ℕ)) → entry_fits e ≡ true → list_all is_name names ≡ true → list_all is_name (live_after e names) ≡ true
live-named (MakeMailbox mailbox) names fit named = and-named mailbox names named fit
live-named (DropMailbox mailbox) names fit named = others-named mailbox names named
live-named _ names fit named = named

dropped-named : (e : Entry) (names : List (List ℕ)) → entry_fits e ≡ true → list_all is_name names ≡ true → list_all is_name (dropped_after e names) ≡ true
dropped-named (MakeMailbox mailbox) names fit named = others-named mailbox names named
dropped-named (DropMailbox mailbox) names fit named = and-named mailbox names named fit
dropped-named _ names fit named = named

digest-fits : (e : Entry) (digest : Option (List ℕ)) → entry_fits e ≡ true → is_digest digest ≡ true → is_digest (digest_after e digest) ≡ true
digest-fits (Password new) digest fit is = fit
digest-fits (MakeMailbox mailbox) digest fit is = is
digest-fits _ digest fit is = is

mark-fits : (p : List ℕ → Bool) (uid : ℕ) → is_u32 uid ≡ true → (table : List (List ℕ × ℕ)) → list_all subscription_fits table ≡ true → list_all subscription_fits (set_value p table uid) ≡ true
mark-fits p uid small [] fit = refl
mark-fits p uid small (entry ∷ table) fit =
    let parts = and_parts (subscription_fits entry) (list_all subscription_fits table) fit in
    let here = and_parts (is_name entry.0) (is_u32 entry.1) parts.0 in
    elim (p entry.0) as (λ b. list_all subscription_fits (cond b ((entry.0, uid) ∷ table) (entry ∷ set_value p table uid)) ≡ true) [
      | true ↦ and_from (is_name entry.0 && is_u32 uid) (list_all subscription_fits table) (and_from (is_name entry.0) (is_u32 uid) here.0 small) parts.1
      | false ↦ and_from (subscription_fits entry) (list_all subscription_fits (set_value p table uid)) parts.0 (mark-fits p uid small table parts.1)
    ]

subscriptions-fit : (e : Entry) (subscriptions : List (List ℕ × ℕ)) → entry_fits e ≡ true → list_all subscription_fits subscriptions ≡ true → list_all subscription_fits (subscriptions_after e subscriptions) ≡ true
subscriptions-fit (Subscribe board) subscriptions fit all = list_all-append subscription_fits (others board subscriptions) ((board, 0) ∷ []) (list_all-filter subscription_fits (λ (other : List ℕ × ℕ). not (same board other.0)) subscriptions all) (and_from (is_name board && true) true (and_from (is_name board) true fit refl) refl)
subscriptions-fit (Unsubscribe board) subscriptions fit all = list_all-filter subscription_fits (λ (other : List ℕ × ℕ). not (same board other.0)) subscriptions all
subscriptions-fit (Mark board uid) subscriptions fit all = mark-fits (same board) uid (and_parts (is_name board) (is_u32 uid) fit).1 subscriptions all
subscriptions-fit _ subscriptions fit all = all

-- ---- the whole record

holds-after : (r : AccountRecord) (number : ℕ) (e : Entry) → IsWellFormed r number → is_allowed (said_by r number) e ≡ true → entry_fits e ≡ true → Holds r → Holds (after r number e)
holds-after r number e formed allowed fit holds =
    let said : said_by (after r number e) (suc number) ≡ after_entry (said_by r number) e = sym (after-said_by r number e formed allowed) in
    let back = sym said in
    record {
      digest = subst (λ (k : Known). is_digest k.digest ≡ true) back (digest-fits e r.digest fit holds.digest);
      clients = subst (λ (k : Known). list_all is_named k.clients ≡ true) back (clients-named e number r.clients fit holds.clients);
      live = subst (λ (k : Known). list_all is_name k.live ≡ true) back (live-named e (keys_of r.live) fit holds.live);
      dropped = subst (λ (k : Known). list_all is_name k.dropped ≡ true) back (dropped-named e (keys_of r.dropped) fit holds.dropped);
      messages = λ mailbox. subst BoxHolds (sym (mailbox_of-after r number e mailbox formed allowed)) (box-holds r number holds e mailbox allowed fit);
      subscriptions = subst (λ (k : Known). list_all subscription_fits k.subscriptions ≡ true) back (subscriptions-fit e r.subscriptions fit holds.subscriptions);
    }

-- a record that fits does so after an entry that fits
pub step_fits : (r : AccountRecord) (number : ℕ) (e : Entry) → IsWellFormed r number → fits_record r ≡ true → is_allowed (said_by r number) e ≡ true → entry_fits e ≡ true → IsCanonical (after r number e) (suc number) → number < 9223372036854775808 → fits_record (after r number e) ≡ true
step_fits r number e formed fit allowed entry-fit canonical small = fits_of (suc number) (omega (arith, small)) (after r number e) (holds-after r number e formed allowed entry-fit (holds_of r fit)) canonical
