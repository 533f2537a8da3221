-- The record after an entry is well-formed again.
use Rattle.std.proofs.Common.{◌≡◌, ℕ, suc, ◌<◌, ◌≤◌, ◌==◌, Bool, true, false, cond, not, List, [], ◌∷◌, ◌++◌, map, filter, Option, None, Some, is_some, unwrap_or, MatchOption, refl, sym, ◌∙◌, ap, subst, subst₂, arith, le_refl}
use Rattle.std.specs.Prelude.{⊤}
use Rattle.std.specs.List.{AllByRecursion as Every}
use Rattle.std.specs.Map.{lookup, keys_of}
use Rattle.std.specs.Option.{option_map_or, option_or}
use Rattle.std.proofs.lemmas.Bool.{and_parts, leb-true}
use Rattle.pc_account_history.specs.declared.kept.Kept.{Kept}
use Rattle.pc_account_history.specs.declared.entry.Entry.{Entry}
use Rattle.pc_account_history.specs.declared.entry.Entry.TheVariants.{MakeMailbox, DropMailbox, Flag, Expunge, Copy, MakeClient, DropClient, ResetClient, ResetMailbox, Forget, Pull, Subscribe, Unsubscribe, Mark}
use Rattle.pc_message.specs.declared.limits.TheConstants.{LAST_MAIL}
use Rattle.pc_message.specs.Flags.{flag_of}
use Rattle.pc_tables.specs.Table.{same, map_values, others}
use Rattle.pc_account_history.specs.Record.{MailboxRecord, AccountRecord, mailbox_of, new_mailbox, kept_at}
use Rattle.pc_account_history.specs.Effect.{copy_as, flagged, letters_to, clients_after, live_after, dropped_after, subscriptions_after, pulled_after}
use Rattle.pc_account_history.specs.Known.{said_by}
use Rattle.pc_account_history.specs.Allowed.{is_allowed}
use Rattle.pc_account_history.specs.Step.{uids_of, with_message, with_flag_set, expunged, emptied, with_client, without_client, reset_for, taken_by, at_mailbox, after}
use Rattle.pc_tables.specs.Order.{Ordered, AreDistinct}
use Rattle.pc_account_history.specs.Legal.{IsMailbox, IsWellFormed}
use Rattle.pc_account_history.proofs.Needs.{pull-parts}
use Rattle.pc_tables.proofs.Table.{same-true, lookup-append, keys-append, keys-set_value}
use Rattle.pc_tables.proofs.Options.{some-from_map_or}
use Rattle.pc_account_history.proofs.Mailboxes.{box_by, mailbox_of-after, IsMailbox-mailbox_of}
use Rattle.pc_account_history.proofs.Agreement.{Fields-after, letters-dropped}
use Rattle.pc_tables.proofs.Order.{Ordered-filter, Ordered-push}
use Rattle.pc_account_history.proofs.Formed.{AreUids-messages, AreMessages-filter, AreMessages-flagged, uid-given, AreUids-one, IsMailbox-later, IsMailbox-touched, IsMailbox-reset, IsMailbox-taken, IsMailbox-with_client, IsMailbox-without_client, IsMailbox-with_message, IsMailbox-mails}
use Rattle.pc_tables.proofs.Lists.{Every-split, Every-weaker, Every-append, Every-filter, Every-zip}
use Rattle.pc_tables.proofs.Distinct.{distinct-between, distinct-behind, Every-from_lookups, keys-distinct, others-distinct}

-- ---- the mailbox after each entry

keeps-both : (P : MailboxRecord → Type 0) (b : Bool) (changed box : MailboxRecord) → (b ≡ true → P changed) → P box → P (cond b changed box)
keeps-both P true changed box h g = h refl
keeps-both P false changed box h g = g

module _ (r : AccountRecord) (number : ℕ) (mailbox : List ℕ) (formed : IsWellFormed r number) where
  abbrev box : MailboxRecord
  box = mailbox_of r mailbox

  abbrev Next : MailboxRecord → Type 0
  Next = IsMailbox (suc number) r.clients

  old : IsMailbox number r.clients box
  old = IsMailbox-mailbox_of r number mailbox formed

  later : Next box
  later = IsMailbox-later number r.clients formed.births box old

  copied : (original : Option Kept) → Next (option_map_or (λ kept. with_message number (copy_as (suc box.highest) kept) box) original box)
  copied None = later
  copied (Some kept) = IsMailbox-with_message number r.clients formed.births (copy_as (suc box.highest) kept) box refl old

  pub IsMailbox-by : (e : Entry) → is_allowed (said_by r number) e ≡ true → IsMailbox (suc number) (clients_after e number r.clients) (box_by r number e mailbox box)
  IsMailbox-by (DropMailbox dropped) h = keeps-both Next (same dropped mailbox) (emptied number box) box (λ e. IsMailbox-touched number r.clients formed.births box.highest [] (uids_of box.messages) box (le_refl box.highest) (record { rising = tt; given = tt }) (AreUids-messages box.highest box.messages old.messages) old) later
  IsMailbox-by (Flag changed at flag on) h = keeps-both Next (same changed mailbox) (with_flag_set number at flag on box) box (λ e.
      let lives : is_some (kept_at at box.messages) ≡ true = ap (λ m. is_some (kept_at at (mailbox_of r m).messages)) (sym (same-true changed mailbox e)) ∙ some-from_map_or _ _ (and_parts _ _ h).1 in
      IsMailbox-touched number r.clients formed.births box.highest (map (λ kept. cond (kept.uid == at) (flagged flag on kept) kept) box.messages) (at ∷ []) box (le_refl box.highest) (AreMessages-flagged box.highest at flag on box.messages old.messages) (AreUids-one box.highest at (uid-given box.highest at box.messages old.messages.given lives)) old) later
  IsMailbox-by (Expunge changed) h = keeps-both Next (same changed mailbox) (expunged number box) box (λ e.
      IsMailbox-touched number r.clients formed.births box.highest (filter (λ kept. not (flag_of kept.flags 0)) box.messages) (uids_of (filter (λ kept. flag_of kept.flags 0) box.messages)) box (le_refl box.highest) (AreMessages-filter box.highest (λ kept. not (flag_of kept.flags 0)) box.messages old.messages) (AreUids-messages box.highest (filter (λ kept. flag_of kept.flags 0) box.messages) (AreMessages-filter box.highest (λ kept. flag_of kept.flags 0) box.messages old.messages)) old) later
  IsMailbox-by (Copy original at target) h = keeps-both Next (same target mailbox) (option_map_or (λ kept. with_message number (copy_as (suc box.highest) kept) box) (kept_at at (mailbox_of r original).messages) box) box (λ e. copied (kept_at at (mailbox_of r original).messages)) later
  IsMailbox-by (MakeClient name) h = IsMailbox-with_client number r.clients formed.births name box old
  IsMailbox-by (DropClient name) h = IsMailbox-without_client number r.clients formed.births name box old
  IsMailbox-by (ResetClient name) h = IsMailbox-reset number r.clients formed.births name box old
  IsMailbox-by (ResetMailbox name changed) h = keeps-both Next (same changed mailbox) (reset_for number name box) box (λ e. IsMailbox-reset number r.clients formed.births name box old) later
  IsMailbox-by (Forget name changed uids) h = keeps-both Next (same changed mailbox) (taken_by name uids box) box (λ e. IsMailbox-taken number r.clients formed.births name uids box old) later
  IsMailbox-by (Pull upto letters) h = IsMailbox-mails number r.clients formed.births (letters_to mailbox letters) box old
  IsMailbox-by (MakeMailbox name) h = later
  IsMailbox-by _ h = later

-- ---- the tables of mailboxes

found-has : (P : MailboxRecord → Type 0) (live dropped : Option MailboxRecord) (new : MailboxRecord) → P (unwrap_or live (unwrap_or dropped new)) → MatchOption (option_or live dropped) ⊤ P
found-has P None None new h = tt
found-has P None (Some one) new h = h
found-has P (Some one) dropped new h = h

-- what holds of each mailbox holds of the tables
Every-mailbox : (P : MailboxRecord → Type 0) (r : AccountRecord) → AreDistinct (keys_of r.live ++ keys_of r.dropped) → ((mailbox : List ℕ) → P (mailbox_of r mailbox)) → Every (λ (entry : List ℕ × MailboxRecord). P entry.1) r.live × Every (λ (entry : List ℕ × MailboxRecord). P entry.1) r.dropped
Every-mailbox P r distinct f =
    Every-split (λ (entry : List ℕ × MailboxRecord). P entry.1) r.live r.dropped
    (Every-from_lookups (λ _. P) (r.live ++ r.dropped) (subst AreDistinct (sym (keys-append r.live r.dropped)) distinct)
    (λ mailbox. subst (λ (o : Option MailboxRecord). MatchOption o ⊤ P) (sym (lookup-append (same mailbox) r.live r.dropped)) (found-has P (lookup (same mailbox) r.live) (lookup (same mailbox) r.dropped) (new_mailbox r.clients) (f mailbox))))

-- ---- names

names-after : (e : Entry) (live dropped : List (List ℕ)) → AreDistinct (live ++ dropped) → AreDistinct (live_after e live ++ dropped_after e dropped)
names-after (MakeMailbox name) live dropped h = distinct-between name live dropped h
names-after (DropMailbox name) live dropped h = distinct-behind name live dropped h
names-after _ live dropped h = h

boards-after : (e : Entry) (subscriptions : List (List ℕ × ℕ)) → AreDistinct (keys_of subscriptions) → AreDistinct (keys_of (subscriptions_after e subscriptions))
boards-after (Subscribe board) subscriptions h = keys-distinct board 0 subscriptions h
boards-after (Unsubscribe board) subscriptions h = others-distinct board subscriptions h
boards-after (Mark board uid) subscriptions h = subst AreDistinct (sym (keys-set_value (same board) subscriptions uid)) h
boards-after _ subscriptions h = h

-- ---- clients

clients-distinct : (e : Entry) (number : ℕ) (clients : List (List ℕ × ℕ)) → AreDistinct (keys_of clients) → AreDistinct (keys_of (clients_after e number clients))
clients-distinct (MakeClient name) number clients h = keys-distinct name number clients h
clients-distinct (DropClient name) number clients h = others-distinct name clients h
clients-distinct _ number clients h = h

births-after : (e : Entry) (number : ℕ) (clients : List (List ℕ × ℕ)) → 0 < number → Every (λ (client : List ℕ × ℕ). (0 < client.1) × (client.1 < number)) clients → Every (λ (client : List ℕ × ℕ). (0 < client.1) × (client.1 < suc number)) (clients_after e number clients)
births-after e number clients pos h = by_entry e
  where
    later-births : Every (λ (client : List ℕ × ℕ). (0 < client.1) × (client.1 < suc number)) clients
    later-births = Every-weaker (λ (client : List ℕ × ℕ). (0 < client.1) × (client.1 < number)) (λ (client : List ℕ × ℕ). (0 < client.1) × (client.1 < suc number)) (λ client g. (g.0, omega (arith, g.1))) clients h

    by_entry : (e' : Entry) → Every (λ (client : List ℕ × ℕ). (0 < client.1) × (client.1 < suc number)) (clients_after e' number clients)
    by_entry (MakeClient name) = Every-append (λ (client : List ℕ × ℕ). (0 < client.1) × (client.1 < suc number)) (others name clients) ((name, number) ∷ []) (Every-filter (λ (client : List ℕ × ℕ). (0 < client.1) × (client.1 < suc number)) (λ client. not (same name client.0)) clients later-births) ((pos, omega arith), tt)
    by_entry (DropClient name) = Every-filter (λ (client : List ℕ × ℕ). (0 < client.1) × (client.1 < suc number)) (λ client. not (same name client.0)) clients later-births
    by_entry _ = later-births

births-rise-after : (e : Entry) (number : ℕ) (clients : List (List ℕ × ℕ)) → Every (λ (client : List ℕ × ℕ). (0 < client.1) × (client.1 < number)) clients → Ordered (λ (client later : List ℕ × ℕ). client.1 < later.1) clients → Ordered (λ (client later : List ℕ × ℕ). client.1 < later.1) (clients_after e number clients)
births-rise-after (MakeClient name) number clients born h = Ordered-push (λ (client later : List ℕ × ℕ). client.1 < later.1) (others name clients) (name, number) (Ordered-filter (λ (client later : List ℕ × ℕ). client.1 < later.1) (λ client. not (same name client.0)) clients h) (Every-filter (λ (client : List ℕ × ℕ). client.1 < number) (λ client. not (same name client.0)) clients (Every-weaker (λ (client : List ℕ × ℕ). (0 < client.1) × (client.1 < number)) (λ (client : List ℕ × ℕ). client.1 < number) (λ client g. g.1) clients born))
births-rise-after (DropClient name) number clients born h = Ordered-filter (λ (client later : List ℕ × ℕ). client.1 < later.1) (λ client. not (same name client.0)) clients h
births-rise-after _ number clients born h = h

-- ---- mailboxes that were dropped have no messages

module _ (r : AccountRecord) (number : ℕ) (empty : Every (λ (entry : List ℕ × MailboxRecord). entry.1.messages ≡ []) r.dropped) where
  abbrev AreEmpty : List (List ℕ × MailboxRecord) → Type 0
  AreEmpty = Every (λ (entry : List ℕ × MailboxRecord). entry.1.messages ≡ [])

  all-empty : (change : MailboxRecord → MailboxRecord) → ((box : MailboxRecord) → (change box).messages ≡ box.messages) → (table : List (List ℕ × MailboxRecord)) → AreEmpty table → AreEmpty (map_values change table)
  all-empty change f [] h = tt
  all-empty change f (entry ∷ table) h = (f entry.1 ∙ h.0, all-empty change f table h.1)

  dropped-empty : (e : Entry) → AreEmpty (after r number e).dropped
  dropped-empty (MakeMailbox name) = Every-filter (λ (entry : List ℕ × MailboxRecord). entry.1.messages ≡ []) (λ entry. not (same name entry.0)) r.dropped empty
  dropped-empty (DropMailbox name) = Every-append (λ (entry : List ℕ × MailboxRecord). entry.1.messages ≡ []) (others name r.dropped) ((name, emptied number (mailbox_of r name)) ∷ []) (Every-filter (λ (entry : List ℕ × MailboxRecord). entry.1.messages ≡ []) (λ entry. not (same name entry.0)) r.dropped empty) (refl, tt)
  dropped-empty (Copy original at target) = elim (kept_at at (mailbox_of r original).messages) as (λ o. AreEmpty (option_map_or (λ kept. at_mailbox target (λ box. with_message number (copy_as (suc box.highest) kept) box) r) o r).dropped) [ None ↦ empty | Some kept ↦ empty ]
  dropped-empty (MakeClient name) = all-empty (with_client number name) (λ box. refl) r.dropped empty
  dropped-empty (DropClient name) = all-empty (without_client name) (λ box. refl) r.dropped empty
  dropped-empty (ResetClient name) = all-empty (reset_for number name) (λ box. refl) r.dropped empty
  dropped-empty (Pull upto letters) = subst AreEmpty (sym (letters-dropped number letters r)) empty
  dropped-empty _ = empty

pulled-upto : (r : AccountRecord) (number : ℕ) (e : Entry) → is_allowed (said_by r number) e ≡ true → r.pulled ≤ LAST_MAIL → pulled_after e r.pulled ≤ LAST_MAIL
pulled-upto r number (Pull upto letters) h before = leb-true upto LAST_MAIL (pull-parts (said_by r number) upto letters h).1
pulled-upto r number (MakeMailbox name) h before = before
pulled-upto r number _ h before = before

-- ---- all together

pub IsWellFormed-after : (r : AccountRecord) (number : ℕ) (e : Entry) → IsWellFormed r number → is_allowed (said_by r number) e ≡ true → IsWellFormed (after r number e) (suc number)
IsWellFormed-after r number e formed allowed =
    let new = after r number e in
    let fields = Fields-after r number e in
    let distinct : AreDistinct (keys_of new.live ++ keys_of new.dropped) = subst₂ (λ live dropped. AreDistinct (live ++ dropped)) (sym fields.live) (sym fields.dropped) (names-after e (keys_of r.live) (keys_of r.dropped) formed.mailbox_names) in
    let boxes = Every-mailbox (IsMailbox (suc number) new.clients) new distinct (λ mailbox. subst₂ (λ clients box. IsMailbox (suc number) clients box) (sym fields.clients) (sym (mailbox_of-after r number e mailbox formed allowed)) (IsMailbox-by r number mailbox formed e allowed)) in
    let empty = dropped-empty r number (Every-weaker (λ (entry : List ℕ × MailboxRecord). IsMailbox number r.clients entry.1 × (entry.1.messages ≡ [])) (λ (entry : List ℕ × MailboxRecord). entry.1.messages ≡ []) (λ entry h. h.1) r.dropped formed.dropped) e in
    record {
      positive = omega (arith, formed.positive);
      births_rise = subst (Ordered (λ (client later : List ℕ × ℕ). client.1 < later.1)) (sym fields.clients) (births-rise-after e number r.clients formed.births formed.births_rise);
      births = subst (Every (λ (client : List ℕ × ℕ). (0 < client.1) × (client.1 < suc number))) (sym fields.clients) (births-after e number r.clients formed.positive formed.births);
      client_names = subst (λ clients. AreDistinct (keys_of clients)) (sym fields.clients) (clients-distinct e number r.clients formed.client_names);
      mailbox_names = distinct;
      live = boxes.0;
      dropped = Every-zip (λ (entry : List ℕ × MailboxRecord). IsMailbox (suc number) new.clients entry.1) (λ (entry : List ℕ × MailboxRecord). entry.1.messages ≡ []) (λ (entry : List ℕ × MailboxRecord). IsMailbox (suc number) new.clients entry.1 × (entry.1.messages ≡ [])) (λ entry a b. (a, b)) new.dropped boxes.1 empty;
      boards = subst (λ subscriptions. AreDistinct (keys_of subscriptions)) (sym fields.subscriptions) (boards-after e r.subscriptions formed.boards);
      pulled = subst (λ pulled. pulled ≤ LAST_MAIL) (sym fields.pulled) (pulled-upto r number e allowed formed.pulled);
    }
