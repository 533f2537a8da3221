-- The limits of entries that put messages into mailboxes.
use Rattle.std.proofs.Common.{◌≡◌, ℕ, suc, ◌+◌, ◌*◌, Bool, true, false, not, ◌||◌, nat_le, nat_lt, List, [], ◌∷◌, ◌++◌, length, None, refl, sym, ◌∙◌, ap, subst, arith, true≢false}
use Rattle.std.specs.List.{find, list_all, AllByRecursion as Every}
use Rattle.std.specs.Map.{keys_of}
use Rattle.std.proofs.lemmas.Bool.{and_parts}
use Rattle.pc_base.specs.declared.refusal.LimitWord.TheVariants.{Uids, Messages, Bytes, Changes}
use Rattle.pc_message.specs.Message.{weight_of}
use Rattle.pc_account_history.specs.declared.kept.Kept.{Kept}
use Rattle.pc_account_history.specs.declared.entry.Entry.{Entry}
use Rattle.pc_account_history.specs.declared.limits.TheConstants.{MOST_UIDS, MOST_MESSAGES, MOST_WEIGHT, MOST_CHANGES}
use Rattle.pc_tables.specs.Table.{same, is_among, total}
use Rattle.pc_account_history.specs.Record.{MailboxRecord, AccountRecord, mailbox_of}
use Rattle.pc_account_history.specs.Effect.{gives, live_after, dropped_after, clients_after}
use Rattle.pc_account_history.specs.Known.{Known, said_by, after_entry}
use Rattle.pc_account_history.specs.Allowed.{is_allowed, messages}
use Rattle.pc_account_history.specs.Limits.{is_passed, limits_of, limit_passed, weight, listed_count, mailbox_names}
use Rattle.pc_account_history.specs.Step.{after}
use Rattle.pc_tables.specs.Order.{AreDistinct}
use Rattle.pc_account_history.specs.Legal.{IsWellFormed, IsCanonical}
use Rattle.pc_tables.proofs.Lists.{list_all-weaker}
use Rattle.pc_account_history.proofs.FormedAfter.{IsWellFormed-after}
use Rattle.pc_account_history.proofs.Agreement.{after-said_by}
use Rattle.pc_account_history.proofs.Counts.{messages-said_by, lists-counted}
use Rattle.pc_account_history.proofs.Mailboxes.{box_by, mailbox_of-after, IsMailbox-mailbox_of}
use Rattle.pc_account_holdings.specs.Mailboxes.{listed_in}
use Rattle.pc_account.specs.Limits.{limit_where, parcels_to, weight_in, has_uids, has_places, limit_of_parcels}
use Rattle.pc_account.proofs.Changed.{distinct-front}
use Rattle.pc_account.proofs.Spread.{total-alike, total-sum, total-times, total-ones, spread, names-pass}

plus-none : (n : ℕ) → n + 0 ≡ n
plus-none n = omega arith

not-false : (b : Bool) → not b ≡ false → b ≡ true
not-false true h = refl
not-false false h = absurd (true≢false h)

among-append : (name : List ℕ) (names more : List (List ℕ)) → is_among name names ≡ true → is_among name (names ++ more) ≡ true
among-append name [] more h = absurd (true≢false (sym h))
among-append name (x ∷ names) more h = elim (same name x) as (λ b. (b || is_among name names) ≡ true → (b || is_among name (names ++ more)) ≡ true) [ true ↦ λ g. refl | false ↦ λ g. among-append name names more g ] h

Every-list_all : (p : List ℕ → Bool) (P : List ℕ → Type 0) (names : List (List ℕ)) → ((name : List ℕ) → p name ≡ true → P name) → list_all p names ≡ true → Every P names
Every-list_all p P [] f h = tt
Every-list_all p P (x ∷ names) f h = let parts = and_parts (p x) (list_all p names) h in (f x parts.0, Every-list_all p P names f parts.1)

abbrev pub weigh : List Kept → ℕ
weigh kepts = total (λ (kept : Kept). weight_of kept.message) kepts

-- an entry brings these parcels and nothing else
pub record Brings (r : AccountRecord) (number : ℕ) (e : Entry) (parcels : List (List ℕ × ℕ)) : Type 0 where
  pub allowed : is_allowed (said_by r number) e ≡ true
  pub limits : limits_of e ≡ Uids ∷ Messages ∷ Bytes ∷ Changes ∷ []
  pub live : live_after e (keys_of r.live) ≡ keys_of r.live
  pub dropped : dropped_after e (keys_of r.dropped) ≡ keys_of r.dropped
  pub clients : clients_after e number r.clients ≡ r.clients
  pub arrive : list_all (λ (parcel : List ℕ × ℕ). is_among parcel.0 (keys_of r.live)) parcels ≡ true
  pub uids : (mailbox : List ℕ) → gives e mailbox ≡ length (parcels_to mailbox parcels)
  pub count : (mailbox : List ℕ) → length (box_by r number e mailbox (mailbox_of r mailbox)).messages ≡ length (mailbox_of r mailbox).messages + length (parcels_to mailbox parcels)
  pub weight : (mailbox : List ℕ) → weigh (box_by r number e mailbox (mailbox_of r mailbox)).messages ≡ weigh (mailbox_of r mailbox).messages + total weight_in (parcels_to mailbox parcels)
  pub listed : (mailbox : List ℕ) → listed_in (box_by r number e mailbox (mailbox_of r mailbox)) ≡ listed_in (mailbox_of r mailbox) + length (parcels_to mailbox parcels) * length r.clients

module _ (r : AccountRecord) (number : ℕ) (canonical : IsCanonical r number) (e : Entry) (parcels : List (List ℕ × ℕ)) (brings : Brings r number e parcels) where
  abbrev k : Known
  k = said_by r number

  abbrev then : Known
  then = after_entry k e

  new_formed : IsWellFormed (after r number e) (suc number)
  new_formed = IsWellFormed-after r number e canonical.well_formed brings.allowed

  messages-then : (mailbox : List ℕ) → messages then mailbox ≡ (box_by r number e mailbox (mailbox_of r mailbox)).messages
  messages-then mailbox =
      ap (λ (known : Known). messages known mailbox) (after-said_by r number e canonical.well_formed brings.allowed)
      ∙ messages-said_by (after r number e) (suc number) new_formed mailbox
      ∙ ap (λ (box : MailboxRecord). box.messages) (mailbox_of-after r number e mailbox canonical.well_formed brings.allowed)

  messages-now : (mailbox : List ℕ) → messages k mailbox ≡ (mailbox_of r mailbox).messages
  messages-now = messages-said_by r number canonical.well_formed

  -- the changes of one mailbox, client by client
  changes-then : (mailbox : List ℕ) → total (λ (client : List ℕ × ℕ). length (then.changes client.0 mailbox)) (clients_after e number r.clients) ≡ listed_in (box_by r number e mailbox (mailbox_of r mailbox))
  changes-then mailbox =
      ap (λ (known : Known). total (λ (client : List ℕ × ℕ). length (known.changes client.0 mailbox)) known.clients) (after-said_by r number e canonical.well_formed brings.allowed)
      ∙ lists-counted (suc number) (after r number e).clients (mailbox_of (after r number e) mailbox) new_formed.client_names (IsMailbox-mailbox_of (after r number e) (suc number) mailbox new_formed)
      ∙ ap listed_in (mailbox_of-after r number e mailbox canonical.well_formed brings.allowed)

  changes-now : (mailbox : List ℕ) → total (λ (client : List ℕ × ℕ). length (k.changes client.0 mailbox)) r.clients ≡ listed_in (mailbox_of r mailbox)
  changes-now mailbox = lists-counted number r.clients (mailbox_of r mailbox) canonical.well_formed.client_names (IsMailbox-mailbox_of r number mailbox canonical.well_formed)

  distinct-live : AreDistinct (keys_of r.live)
  distinct-live = distinct-front (keys_of r.live) (keys_of r.dropped) canonical.well_formed.mailbox_names

  among-all : list_all (λ (parcel : List ℕ × ℕ). is_among parcel.0 (keys_of r.live ++ keys_of r.dropped)) parcels ≡ true
  among-all = list_all-weaker (λ (parcel : List ℕ × ℕ). is_among parcel.0 (keys_of r.live)) (λ (parcel : List ℕ × ℕ). is_among parcel.0 (keys_of r.live ++ keys_of r.dropped)) parcels (λ parcel h. among-append parcel.0 (keys_of r.live) (keys_of r.dropped) h) brings.arrive

  uids-step : not (list_all (λ mailbox. nat_le (then.highest mailbox) MOST_UIDS) (mailbox_names then)) ≡ not (list_all (λ (parcel : List ℕ × ℕ). has_uids k parcels parcel.0) parcels)
  uids-step = ap not (
      (λ i. list_all (λ mailbox. nat_le (k.highest mailbox + brings.uids mailbox i) MOST_UIDS) (brings.live i ++ brings.dropped i))
      ∙ names-pass (λ (parcel : List ℕ × ℕ). parcel.0) (has_uids k parcels) (keys_of r.live ++ keys_of r.dropped) parcels among-all
      (Every-list_all (λ mailbox. nat_le (k.highest mailbox) MOST_UIDS) (λ mailbox. parcels_to mailbox parcels ≡ [] → has_uids k parcels mailbox ≡ true) (keys_of r.live ++ keys_of r.dropped) (λ mailbox h none. subst (λ (ps : List (List ℕ × ℕ)). nat_le (k.highest mailbox + length ps) MOST_UIDS ≡ true) (sym none) (ap (λ n. nat_le n MOST_UIDS) (plus-none (k.highest mailbox)) ∙ h)) (not-false _ canonical.within.1.1.0)))

  messages-step : not (list_all (λ mailbox. nat_le (length (messages then mailbox)) MOST_MESSAGES) then.live) ≡ not (list_all (λ (parcel : List ℕ × ℕ). has_places k parcels parcel.0) parcels)
  messages-step = ap not (
      (λ i. list_all (λ mailbox. nat_le ((ap length (messages-then mailbox) ∙ brings.count mailbox ∙ ap (λ (kepts : List Kept). length kepts + length (parcels_to mailbox parcels)) (sym (messages-now mailbox))) i) MOST_MESSAGES) (brings.live i))
      ∙ names-pass (λ (parcel : List ℕ × ℕ). parcel.0) (has_places k parcels) (keys_of r.live) parcels brings.arrive
      (Every-list_all (λ mailbox. nat_le (length (messages k mailbox)) MOST_MESSAGES) (λ mailbox. parcels_to mailbox parcels ≡ [] → has_places k parcels mailbox ≡ true) (keys_of r.live) (λ mailbox h none. subst (λ (ps : List (List ℕ × ℕ)). nat_le (length (messages k mailbox) + length ps) MOST_MESSAGES ≡ true) (sym none) (ap (λ n. nat_le n MOST_MESSAGES) (plus-none (length (messages k mailbox))) ∙ h)) (not-false _ canonical.within.1.1.1.0)))

  weight-step : weight then ≡ weight k + total weight_in parcels
  weight-step =
      (λ i. total (λ mailbox. (ap weigh (messages-then mailbox) ∙ brings.weight mailbox ∙ ap (λ (kepts : List Kept). weigh kepts + total weight_in (parcels_to mailbox parcels)) (sym (messages-now mailbox))) i) (brings.live i))
      ∙ total-sum (λ mailbox. weigh (messages k mailbox)) (λ mailbox. total weight_in (parcels_to mailbox parcels)) (keys_of r.live)
      ∙ ap (λ n. weight k + n) (spread (λ (parcel : List ℕ × ℕ). parcel.0) weight_in (keys_of r.live) parcels distinct-live brings.arrive)

  changes-step : listed_count then ≡ listed_count k + length parcels * length r.clients
  changes-step =
      (λ i. total (λ mailbox. (changes-then mailbox ∙ brings.listed mailbox ∙ ap (λ n. n + length (parcels_to mailbox parcels) * length r.clients) (sym (changes-now mailbox))) i) (brings.live i ++ brings.dropped i))
      ∙ total-sum (λ mailbox. total (λ (client : List ℕ × ℕ). length (k.changes client.0 mailbox)) r.clients) (λ mailbox. length (parcels_to mailbox parcels) * length r.clients) (keys_of r.live ++ keys_of r.dropped)
      ∙ ap (λ n. listed_count k + n) (
      total-times (λ mailbox. length (parcels_to mailbox parcels)) (length r.clients) (keys_of r.live ++ keys_of r.dropped)
      ∙ ap (λ n. n * length r.clients) (
      total-alike (λ mailbox. length (parcels_to mailbox parcels)) (λ mailbox. total (λ (_ : List ℕ × ℕ). 1) (parcels_to mailbox parcels)) (keys_of r.live ++ keys_of r.dropped) (λ mailbox. sym (total-ones (parcels_to mailbox parcels)))
      ∙ spread (λ (parcel : List ℕ × ℕ). parcel.0) (λ _. 1) (keys_of r.live ++ keys_of r.dropped) parcels canonical.well_formed.mailbox_names among-all
      ∙ total-ones parcels))

  pub limit-brought : limit_passed k e ≡ limit_of_parcels k parcels
  limit-brought =
      ap (find (is_passed then)) brings.limits
      ∙ (λ i. limit_where (uids-step i) Uids (limit_where (messages-step i) Messages (limit_where (nat_lt MOST_WEIGHT (weight-step i)) Bytes (limit_where (nat_lt MOST_CHANGES (changes-step i)) Changes None))))
