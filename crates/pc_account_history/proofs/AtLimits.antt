-- The limits of an account, counted over its record.
use Rattle.std.proofs.Common.{◌≡◌, ℕ, suc, ◌+◌, Bool, true, false, cond, not, nat_lt, nat_le, ◌∷◌, [], ◌++◌, length, None, Some, find, refl, sym, ◌∙◌, ap, true≢false}
use Rattle.std.specs.List.{list_all}
use Rattle.std.specs.Map.{keys_of}
use Rattle.pc_base.specs.declared.refusal.LimitWord.{LimitWord}
use Rattle.pc_base.specs.declared.refusal.LimitWord.TheVariants as limit
use Rattle.pc_message.specs.Message.{weight_of}
use Rattle.pc_tables.specs.Table.{total}
use Rattle.pc_account_history.specs.declared.entry.Entry.{Entry}
use Rattle.pc_account_history.specs.declared.limits.TheConstants.{MOST_CLIENTS, MOST_MAILBOXES, MOST_SUBSCRIPTIONS, MOST_UIDS, MOST_MESSAGES, MOST_WEIGHT, MOST_CHANGES}
use Rattle.pc_account_history.specs.Record.{AccountRecord, mailbox_of}
use Rattle.pc_account_history.specs.Known.{Known, said_by, after_entry}
use Rattle.pc_account_history.specs.Allowed.{is_allowed}
use Rattle.pc_account_history.specs.Limits.{is_passed, limits_of, limit_passed}
use Rattle.pc_account_history.specs.Step.{after}
use Rattle.pc_account_history.specs.Legal.{IsWellFormed, IsCanonical}
use Rattle.pc_account_history.proofs.Counts.{messages-said_by, weight-said_by, listed_count-said_by}
use Rattle.pc_account_history.proofs.FormedAfter.{IsWellFormed-after}
use Rattle.pc_account_history.proofs.Agreement.{after-said_by}

-- a record holds more than a limit
abbrev pub holds_more : AccountRecord → LimitWord → Bool
holds_more r limit.Clients = nat_lt MOST_CLIENTS (length r.clients)
holds_more r limit.Mailboxes = nat_lt MOST_MAILBOXES (length (keys_of r.live ++ keys_of r.dropped))
holds_more r limit.Uids = not (list_all (λ mailbox. nat_le (mailbox_of r mailbox).highest MOST_UIDS) (keys_of r.live ++ keys_of r.dropped))
holds_more r limit.Messages = not (list_all (λ mailbox. nat_le (length (mailbox_of r mailbox).messages) MOST_MESSAGES) (keys_of r.live))
holds_more r limit.Bytes = nat_lt MOST_WEIGHT (total (λ entry. total (λ kept. weight_of kept.message) entry.1.messages) r.live)
holds_more r limit.Changes = nat_lt MOST_CHANGES (total (λ entry. total (λ list. length list.1) entry.1.lists) r.live + total (λ entry. total (λ list. length list.1) entry.1.lists) r.dropped)
holds_more r limit.Subscriptions = nat_lt MOST_SUBSCRIPTIONS (length r.subscriptions)
holds_more r _ = false

-- a well-formed record holds more than the limits that are passed
pub passed-held : (r : AccountRecord) (number : ℕ) → IsWellFormed r number → (word : LimitWord) → is_passed (said_by r number) word ≡ holds_more r word
passed-held r number formed limit.Clients = refl
passed-held r number formed limit.Mailboxes = refl
passed-held r number formed limit.Uids = refl
passed-held r number formed limit.Messages = λ i. not (list_all (λ mailbox. nat_le (length (messages-said_by r number formed mailbox i)) MOST_MESSAGES) (keys_of r.live))
passed-held r number formed limit.Bytes = ap (nat_lt MOST_WEIGHT) (weight-said_by r number formed)
passed-held r number formed limit.Changes = ap (nat_lt MOST_CHANGES) (listed_count-said_by r number formed)
passed-held r number formed limit.Subscriptions = refl
passed-held r number formed _ = refl

-- a well-formed record that holds no more than the limits is canonical, and one that holds more isn't
pub held-canonical : (r : AccountRecord) (number : ℕ) → IsWellFormed r number → holds_more r limit.Clients ≡ false → holds_more r limit.Mailboxes ≡ false → holds_more r limit.Uids ≡ false → holds_more r limit.Messages ≡ false → holds_more r limit.Bytes ≡ false → holds_more r limit.Changes ≡ false → holds_more r limit.Subscriptions ≡ false → IsCanonical r number
held-canonical r number formed clients mailboxes uids messages bytes changes subscriptions =
    let same = passed-held r number formed in
    record { well_formed = formed; within = (same limit.Clients ∙ clients, (same limit.Mailboxes ∙ mailboxes, (same limit.Uids ∙ uids, (same limit.Messages ∙ messages, (same limit.Bytes ∙ bytes, (same limit.Changes ∙ changes, (same limit.Subscriptions ∙ subscriptions, tt))))))) }

module _ (r : AccountRecord) (number : ℕ) (formed : IsWellFormed r number) where
  uncanonical : (word : LimitWord) → holds_more r word ≡ true → is_passed (said_by r number) word ≡ false → ⊥
  uncanonical word more within = true≢false (sym more ∙ sym (passed-held r number formed word) ∙ within)

  pub more-messages : holds_more r limit.Messages ≡ true → IsCanonical r number → ⊥
  more-messages more canonical = uncanonical limit.Messages more canonical.within.1.1.1.0

  pub more-bytes : holds_more r limit.Bytes ≡ true → IsCanonical r number → ⊥
  more-bytes more canonical = uncanonical limit.Bytes more canonical.within.1.1.1.1.0

  pub more-changes : holds_more r limit.Changes ≡ true → IsCanonical r number → ⊥
  more-changes more canonical = uncanonical limit.Changes more canonical.within.1.1.1.1.1.0

-- an allowed entry passes the limits than which the record holds more after it
pub passed-after : (r : AccountRecord) (number : ℕ) (e : Entry) → IsWellFormed r number → is_allowed (said_by r number) e ≡ true → is_passed (after_entry (said_by r number) e) ≡ holds_more (after r number e)
passed-after r number e formed allowed = λ i word. step word i
  where
    step : (word : LimitWord) → is_passed (after_entry (said_by r number) e) word ≡ holds_more (after r number e) word
    step word = ap (λ (k : Known). is_passed k word) (after-said_by r number e formed allowed) ∙ passed-held (after r number e) (suc number) (IsWellFormed-after r number e formed allowed) word

pub told-after : (r : AccountRecord) (number : ℕ) (e : Entry) → IsWellFormed r number → is_allowed (said_by r number) e ≡ true → limit_passed (said_by r number) e ≡ find (holds_more (after r number e)) (limits_of e)
told-after r number e formed allowed = ap (λ passes. find passes (limits_of e)) (passed-after r number e formed allowed)

-- the first of the limits of messages that is passed
pub told-of-four : (passes : LimitWord → Bool) {uids messages bytes changes : Bool} → passes limit.Uids ≡ uids → passes limit.Messages ≡ messages → passes limit.Bytes ≡ bytes → passes limit.Changes ≡ changes → find passes (limit.Uids ∷ limit.Messages ∷ limit.Bytes ∷ limit.Changes ∷ []) ≡ cond uids (Some limit.Uids) (cond messages (Some limit.Messages) (cond bytes (Some limit.Bytes) (cond changes (Some limit.Changes) None)))
told-of-four passes uids messages bytes changes = λ i. cond (uids i) (Some limit.Uids) (cond (messages i) (Some limit.Messages) (cond (bytes i) (Some limit.Bytes) (cond (changes i) (Some limit.Changes) None)))

-- the first of the limits of clients that is passed
pub told-of-two : (passes : LimitWord → Bool) {clients changes : Bool} → passes limit.Clients ≡ clients → passes limit.Changes ≡ changes → find passes (limit.Clients ∷ limit.Changes ∷ []) ≡ cond clients (Some limit.Clients) (cond changes (Some limit.Changes) None)
told-of-two passes clients changes = λ i. cond (clients i) (Some limit.Clients) (cond (changes i) (Some limit.Changes) None)
