-- How many changes more the lists of a mailbox, and of an account, have after an entry.
use Rattle.std.proofs.Common.{◌≡◌, ℕ, suc, ◌+◌, ◌<◌, Bool, true, false, List, [], ◌∷◌, ◌++◌, length, Option, None, Some, unwrap_or, is_some, ◌||◌, refl, sym, ◌∙◌, ap, arith, true≢false}
use Rattle.std.specs.List.{filter, AllByRecursion as Every}
use Rattle.std.specs.Map.{lookup, set_value, keys_of}
use Rattle.std.specs.Option.{option_map_or}
use Rattle.pc_account_history.specs.declared.kept.Kept.{Kept}
use Rattle.pc_account_history.specs.declared.kept.Listed.{Listed}
use Rattle.pc_account_history.specs.declared.entry.Entry.{Entry}
use Rattle.pc_account_history.specs.declared.entry.Entry.TheVariants.{DropMailbox, ResetClient, MakeClient}
use Rattle.pc_tables.specs.Table.{same, total, others, is_among}
use Rattle.pc_account_history.specs.Record.{MailboxRecord, AccountRecord, mailbox_of}
use Rattle.pc_account_history.specs.Known.{said_by, after_entry}
use Rattle.pc_account_history.specs.Allowed.{is_allowed}
use Rattle.pc_account_history.specs.Limits.{listed_count}
use Rattle.pc_account_history.specs.Step.{uids_of, stamped, touched, with_message, with_flag_set, expunged, emptied, reset_for, with_client, at_mailbox, after}
use Rattle.pc_tables.specs.Order.{AreDistinct}
use Rattle.pc_account_history.specs.Legal.{IsMailbox, IsWellFormed}
use Rattle.pc_tables.proofs.Lists.{Every-split, Every-weaker}
use Rattle.pc_account_history.proofs.FormedAfter.{IsWellFormed-after}
use Rattle.pc_account_history.proofs.Boxes.{lists-clients}
use Rattle.pc_tables.proofs.Totals.{total-append}
use Rattle.pc_tables.proofs.Table.{same-true, lookup-absent, others-absent, is_among-keys}
use Rattle.pc_account_history.proofs.Agreement.{after-said_by}
use Rattle.pc_account_history.proofs.Counts.{listed_count-said_by}
use Rattle.pc_account_history.proofs.Formed.{AreUids-messages, AreMessages-filter}
use Rattle.pc_account_history.proofs.Mailboxes.{IsMailbox-mailbox_of}
use Rattle.pc_mailbox.proofs.Holds.{length-uids}
use Rattle.pc_mailbox.specs.UpdateList.{takers_of}
use Rattle.pc_mailbox.specs.Mailbox.{is_deleted}
use Rattle.pc_mailbox.specs.Growth.{unlisted, unlisted_by_all, unlisted_for}
use Rattle.pc_account_holdings.specs.Mailboxes.{listed_in, listed_held}
use Rattle.pc_account.proofs.Touched.{Apart, lists-apart, lists-length, touched-length, stamped-length, touched-for-all, missing-deleted, missing-whole, missing-all, missing-one, missing-next}
use Rattle.pc_account.proofs.TableSums.{sum-set_value, sum-others, sum-map_values, set_value-absent, Every-lookup, none-from}
use Rattle.pc_account.proofs.Found.{live-found}

-- ---- one mailbox

module _ (number : ℕ) (clients : List (List ℕ × ℕ)) (box : MailboxRecord) (good : IsMailbox number clients box) where
  pub listed-flag : (at uid flag : ℕ) (on : Bool) → listed_in (with_flag_set at uid flag on box) + takers_of uid box.lists ≡ listed_in box + length clients
  listed-flag at uid flag on =
      let all = touched-for-all at (uid ∷ []) box.lists (tt, tt) (lists-apart number box.highest clients box.lists good.lists) in
      let one = missing-one uid box.lists in
      let count = lists-length number box.highest clients box.lists good.lists in
      omega (arith, all, one, count)

  pub listed-expunged : (at : ℕ) → listed_in (expunged at box) ≡ listed_in box + unlisted_by_all true box.messages box.lists
  listed-expunged at =
      let rise = (AreUids-messages box.highest (filter is_deleted box.messages) (AreMessages-filter box.highest is_deleted box.messages good.messages)).rising in
      let all = touched-for-all at (uids_of (filter is_deleted box.messages)) box.lists rise (lists-apart number box.highest clients box.lists good.lists) in
      let new = missing-deleted box.messages box.lists in
      omega (arith, all, new)

  pub listed-emptied : (at : ℕ) → listed_in (emptied at box) ≡ listed_in box + unlisted_by_all false box.messages box.lists
  listed-emptied at =
      let rise = (AreUids-messages box.highest box.messages good.messages).rising in
      let all = touched-for-all at (uids_of box.messages) box.lists rise (lists-apart number box.highest clients box.lists good.lists) in
      let new = missing-all box.messages box.lists in
      omega (arith, all, new)

  pub listed-with_message : (at : ℕ) (kept : Kept) → box.highest < kept.uid → listed_in (with_message at kept box) ≡ listed_in box + length clients
  listed-with_message at kept above =
      let all = touched-for-all at (kept.uid ∷ []) box.lists (tt, tt) (lists-apart number box.highest clients box.lists good.lists) in
      let new = missing-next number box.highest clients box.lists kept.uid good.lists above in
      omega (arith, all, new)

-- each client has a list
pub lists-counted : (number : ℕ) (clients : List (List ℕ × ℕ)) (box : MailboxRecord) → IsMailbox number clients box → length box.lists ≡ length clients
lists-counted number clients box good = lists-length number box.highest clients box.lists good.lists

-- ---- the account

module _ (r : AccountRecord) (number : ℕ) (formed : IsWellFormed r number) where
  pub listed-now : listed_count (said_by r number) ≡ listed_held r.live + listed_held r.dropped
  listed-now = listed_count-said_by r number formed

  pub listed-after : (e : Entry) → is_allowed (said_by r number) e ≡ true → listed_count (after_entry (said_by r number) e) ≡ listed_held (after r number e).live + listed_held (after r number e).dropped
  listed-after e allowed = ap listed_count (after-said_by r number e formed allowed) ∙ listed_count-said_by (after r number e) (suc number) (IsWellFormed-after r number e formed allowed)

  pub box-formed : (mailbox : List ℕ) (box : MailboxRecord) → Some box ≡ lookup (same mailbox) r.live → IsMailbox number r.clients box
  box-formed mailbox box found = rw (sym (live-found r mailbox box found)) (IsMailbox-mailbox_of r number mailbox formed)

  -- the changes once a mailbox that lives is changed
  pub listed-at : (mailbox : List ℕ) (change : MailboxRecord → MailboxRecord) (box : MailboxRecord) → Some box ≡ lookup (same mailbox) r.live → listed_held (at_mailbox mailbox change r).live + listed_in box ≡ listed_held r.live + listed_in (change box)
  listed-at mailbox change box found = ap (λ (b : MailboxRecord). listed_held (set_value (same mailbox) r.live (change b)) + listed_in box) (live-found r mailbox box found) ∙ sum-set_value listed_in (same mailbox) r.live box (change box) found

-- ---- names

names-apart : (name : List ℕ) (names more : List (List ℕ)) → AreDistinct (names ++ more) → is_among name names ≡ true → Every (λ (other : List ℕ). same name other ≡ false) more
names-apart name [] more d h = absurd (true≢false (sym h))
names-apart name (x ∷ names) more d h = elim (same name x) as (λ b. same name x ≡ b → (b || is_among name names) ≡ true → Every (λ (other : List ℕ). same name other ≡ false) more) [
  | true ↦ λ e g. let here = same-true name x e in rw here (Every-split (λ (other : List ℕ). same x other ≡ false) names more d.0).1
  | false ↦ λ e g. names-apart name names more d.1 g
] refl h

pub distinct-front : (names more : List (List ℕ)) → AreDistinct (names ++ more) → AreDistinct names
distinct-front [] more d = tt
distinct-front (x ∷ names) more d = ((Every-split (λ (other : List ℕ). same x other ≡ false) names more d.0).0, distinct-front names more d.1)

found-some : {X : Type 0} (x : X) (found : Option X) → Some x ≡ found → is_some found ≡ true
found-some x found h = sym (ap is_some h)

-- a mailbox that lives isn't among the others
pub not-dropped : (r : AccountRecord) (mailbox : List ℕ) (box : MailboxRecord) → AreDistinct (keys_of r.live ++ keys_of r.dropped) → Some box ≡ lookup (same mailbox) r.live → lookup (same mailbox) r.dropped ≡ None
not-dropped r mailbox box d found = lookup-absent mailbox r.dropped (names-apart mailbox (keys_of r.live) (keys_of r.dropped) d (is_among-keys mailbox r.live ∙ found-some box (lookup (same mailbox) r.live) found))

-- ---- more entries on a mailbox

reset-found : (number : ℕ) (client : List ℕ) (at : ℕ) (clients : List (List ℕ × ℕ)) (box : MailboxRecord) (good : IsMailbox number clients box) (found : Option (List Listed)) → lookup (same client) box.lists ≡ found → listed_in (record box { lists = set_value (same client) box.lists (touched at (uids_of box.messages) (unwrap_or found [])) }) ≡ listed_in box + option_map_or (unlisted false box.messages) found 0
reset-found number client at clients box good None e = let same_lists = set_value-absent (same client) box.lists (touched at (uids_of box.messages) []) e in ap (λ (lists : List (List ℕ × List Listed)). total (λ (list : List ℕ × List Listed). length list.1) lists) same_lists ∙ omega arith
reset-found number client at clients box good (Some list) e =
    let rise = (AreUids-messages box.highest box.messages good.messages).rising in
    let apart = Every-lookup (λ (l : List Listed). Apart l) (same client) box.lists (lists-apart number box.highest clients box.lists good.lists) list (sym e) in
    let long = touched-length at (uids_of box.messages) list rise apart in
    let new = missing-whole box.messages list in
    let put = sum-set_value {X = List Listed} length (same client) box.lists list (touched at (uids_of box.messages) list) (sym e) in
    omega (arith, long, new, put)

pub listed-reset : (number : ℕ) (clients : List (List ℕ × ℕ)) (box : MailboxRecord) → IsMailbox number clients box → (at : ℕ) (client : List ℕ) → listed_in (reset_for at client box) ≡ listed_in box + unlisted_for client box
listed-reset number clients box good at client = reset-found number client at clients box good (lookup (same client) box.lists) refl

pub listed-with_client : (number : ℕ) (clients : List (List ℕ × ℕ)) (box : MailboxRecord) → IsMailbox number clients box → (at : ℕ) (client : List ℕ) → lookup (same client) clients ≡ None → listed_in (with_client at client box) ≡ listed_in box + length box.messages
listed-with_client number clients box good at client none =
    let no_list : lookup (same client) box.lists ≡ None = none-from (lookup (same client) box.lists) (lists-clients number box.highest clients box.lists client good.lists ∙ ap is_some none) in
    let as_was = others-absent client box.lists no_list in
    let count = total-append (λ (list : List ℕ × List Listed). length list.1) box.lists ((client, stamped at (uids_of box.messages)) ∷ []) in
    let long = stamped-length at (uids_of box.messages) in
    let uids = length-uids box.messages in
    ap (λ (lists : List (List ℕ × List Listed)). total (λ (list : List ℕ × List Listed). length list.1) (lists ++ (client, stamped at (uids_of box.messages)) ∷ [])) as_was ∙ omega (arith, count, long, uids)

-- ---- more entries on an account

-- a sum over a table that is changed, where each change adds what another function counts
sum-more : (f g h : MailboxRecord → ℕ) (P : MailboxRecord → Type 0) → ((box : MailboxRecord) → P box → f box ≡ g box + h box) → (table : List (List ℕ × MailboxRecord)) → Every (λ (entry : List ℕ × MailboxRecord). P entry.1) table → total (λ (entry : List ℕ × MailboxRecord). f entry.1) table ≡ total (λ (entry : List ℕ × MailboxRecord). g entry.1) table + total (λ (entry : List ℕ × MailboxRecord). h entry.1) table
sum-more f g h P k [] all = refl
sum-more f g h P k (entry ∷ table) all = let one = k entry.1 all.0 in let rest = sum-more f g h P k table all.1 in omega (arith, one, rest)

sum-nothing : (h : MailboxRecord → ℕ) (P : MailboxRecord → Type 0) → ((box : MailboxRecord) → P box → h box ≡ 0) → (table : List (List ℕ × MailboxRecord)) → Every (λ (entry : List ℕ × MailboxRecord). P entry.1) table → total (λ (entry : List ℕ × MailboxRecord). h entry.1) table ≡ 0
sum-nothing h P k [] all = refl
sum-nothing h P k (entry ∷ table) all = let one = k entry.1 all.0 in let rest = sum-nothing h P k table all.1 in omega (arith, one, rest)

unlisted-none : (client : List ℕ) (box : MailboxRecord) → box.messages ≡ [] → unlisted_for client box ≡ 0
unlisted-none client box none = ap (λ (messages : List Kept). option_map_or (unlisted false messages) (lookup (same client) box.lists) 0) none ∙ elim (lookup (same client) box.lists) as (λ (o : Option (List Listed)). option_map_or (unlisted false []) o 0 ≡ 0) [ None ↦ refl | Some list ↦ refl ]

module _ (r : AccountRecord) (number : ℕ) (formed : IsWellFormed r number) where
  abbrev Good : MailboxRecord → Type 0
  Good box = IsMailbox number r.clients box

  all-good : Every (λ (entry : List ℕ × MailboxRecord). Good entry.1) r.dropped
  all-good = Every-weaker (λ (entry : List ℕ × MailboxRecord). IsMailbox number r.clients entry.1 × (entry.1.messages ≡ [])) (λ (entry : List ℕ × MailboxRecord). Good entry.1) (λ entry h. h.0) r.dropped formed.dropped

  all-empty : Every (λ (entry : List ℕ × MailboxRecord). entry.1.messages ≡ []) r.dropped
  all-empty = Every-weaker (λ (entry : List ℕ × MailboxRecord). IsMailbox number r.clients entry.1 × (entry.1.messages ≡ [])) (λ (entry : List ℕ × MailboxRecord). entry.1.messages ≡ []) (λ entry h. h.1) r.dropped formed.dropped

  pub changes-dropped : (mailbox : List ℕ) (box : MailboxRecord) → Some box ≡ lookup (same mailbox) r.live → is_allowed (said_by r number) (DropMailbox mailbox) ≡ true → listed_count (after_entry (said_by r number) (DropMailbox mailbox)) ≡ listed_count (said_by r number) + unlisted_by_all false box.messages box.lists
  changes-dropped mailbox box found allowed =
      let now = listed-now r number formed in
      let then = listed-after r number formed (DropMailbox mailbox) allowed in
      let less = sum-others listed_in mailbox r.live box (distinct-front (keys_of r.live) (keys_of r.dropped) formed.mailbox_names) found in
      let as_was = ap listed_held (others-absent mailbox r.dropped (not-dropped r mailbox box formed.mailbox_names found)) in
      let put = total-append (λ (entry : List ℕ × MailboxRecord). listed_in entry.1) (others mailbox r.dropped) ((mailbox, emptied number (mailbox_of r mailbox)) ∷ []) in
      let there = ap (λ (b : MailboxRecord). listed_in (emptied number b)) (live-found r mailbox box found) in
      let more = listed-emptied number r.clients box (box-formed r number formed mailbox box found) number in
      omega (arith, now, then, less, as_was, put, there, more)

  pub changes-reset : (client : List ℕ) → is_allowed (said_by r number) (ResetClient client) ≡ true → listed_count (after_entry (said_by r number) (ResetClient client)) ≡ listed_count (said_by r number) + total (λ (entry : List ℕ × MailboxRecord). unlisted_for client entry.1) r.live
  changes-reset client allowed =
      let now = listed-now r number formed in
      let then = listed-after r number formed (ResetClient client) allowed in
      let live_sum = sum-map_values listed_in (reset_for number client) r.live in
      let dropped_sum = sum-map_values listed_in (reset_for number client) r.dropped in
      let live_more = sum-more (λ box. listed_in (reset_for number client box)) listed_in (unlisted_for client) Good (λ box good. listed-reset number r.clients box good number client) r.live formed.live in
      let dropped_more = sum-more (λ box. listed_in (reset_for number client box)) listed_in (unlisted_for client) Good (λ box good. listed-reset number r.clients box good number client) r.dropped all-good in
      let nothing = sum-nothing (unlisted_for client) (λ box. box.messages ≡ []) (unlisted-none client) r.dropped all-empty in
      omega (arith, now, then, live_sum, dropped_sum, live_more, dropped_more, nothing)

  pub changes-made : (client : List ℕ) → lookup (same client) r.clients ≡ None → is_allowed (said_by r number) (MakeClient client) ≡ true → listed_count (after_entry (said_by r number) (MakeClient client)) ≡ listed_count (said_by r number) + total (λ (entry : List ℕ × MailboxRecord). length entry.1.messages) r.live
  changes-made client none allowed =
      let now = listed-now r number formed in
      let then = listed-after r number formed (MakeClient client) allowed in
      let live_sum = sum-map_values listed_in (with_client number client) r.live in
      let dropped_sum = sum-map_values listed_in (with_client number client) r.dropped in
      let live_more = sum-more (λ box. listed_in (with_client number client box)) listed_in (λ box. length box.messages) Good (λ box good. listed-with_client number r.clients box good number client none) r.live formed.live in
      let dropped_more = sum-more (λ box. listed_in (with_client number client box)) listed_in (λ box. length box.messages) Good (λ box good. listed-with_client number r.clients box good number client none) r.dropped all-good in
      let nothing = sum-nothing (λ box. length box.messages) (λ box. box.messages ≡ []) (λ box e. ap length e) r.dropped all-empty in
      omega (arith, now, then, live_sum, dropped_sum, live_more, dropped_more, nothing)
