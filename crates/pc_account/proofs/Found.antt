-- What is found under the name of a mailbox that lives, and of one that doesn't.
use Rattle.std.proofs.Common.{◌≡◌, ℕ, Bool, true, false, not, List, [], length, Option, None, Some, unwrap_or, is_some, MatchOption, refl, sym, ◌∙◌, ap, true≢false}
use Rattle.std.specs.Prelude.{⊤}
use Rattle.std.specs.Map.{lookup}
use Rattle.std.specs.Map.{keys_of}
use Rattle.pc_tables.specs.Table.{same, is_among}
use Rattle.pc_tables.proofs.Table.{is_among-keys, Every-found}
use Rattle.pc_account_history.specs.Record.{MailboxRecord, AccountRecord, mailbox_of, new_mailbox}
use Rattle.pc_account_history.specs.Known.{said_by}
use Rattle.pc_account_history.specs.Allowed.{messages}
use Rattle.pc_account_history.specs.Legal.{IsMailbox, IsWellFormed}
use Rattle.pc_tables.proofs.Lists.{Every-weaker}
use Rattle.pc_account_history.proofs.Counts.{messages-said_by}

empty-else : (dropped : Option MailboxRecord) (new : MailboxRecord) → MatchOption dropped ⊤ (λ box. box.messages ≡ []) → new.messages ≡ [] → (unwrap_or dropped new).messages ≡ []
empty-else None new h e = e
empty-else (Some box) new h e = h

-- a mailbox that doesn't live has no messages
pub dead-messages : (r : AccountRecord) (number : ℕ) (mailbox : List ℕ) → IsWellFormed r number → lookup (same mailbox) r.live ≡ None → (mailbox_of r mailbox).messages ≡ []
dead-messages r number mailbox formed none =
    ap (λ (live : Option MailboxRecord). (unwrap_or live (unwrap_or (lookup (same mailbox) r.dropped) (new_mailbox r.clients))).messages) none
    ∙ empty-else (lookup (same mailbox) r.dropped) (new_mailbox r.clients) (Every-found (λ box. box.messages ≡ []) (same mailbox) r.dropped (Every-weaker (λ (entry : List ℕ × MailboxRecord). IsMailbox number r.clients entry.1 × (entry.1.messages ≡ [])) (λ (entry : List ℕ × MailboxRecord). entry.1.messages ≡ []) (λ entry h. h.1) r.dropped formed.dropped)) refl

-- under the name of a mailbox that lives stands what is found among those that live
pub live-found : (r : AccountRecord) (mailbox : List ℕ) (box : MailboxRecord) → Some box ≡ lookup (same mailbox) r.live → mailbox_of r mailbox ≡ box
live-found r mailbox box found = ap (λ (live : Option MailboxRecord). unwrap_or live (unwrap_or (lookup (same mailbox) r.dropped) (new_mailbox r.clients))) (sym found)

pub live-messages : (r : AccountRecord) (number : ℕ) (mailbox : List ℕ) (box : MailboxRecord) → IsWellFormed r number → Some box ≡ lookup (same mailbox) r.live → messages (said_by r number) mailbox ≡ box.messages
live-messages r number mailbox box formed found = messages-said_by r number formed mailbox ∙ ap (λ (b : MailboxRecord). b.messages) (live-found r mailbox box found)

pub no-messages : (r : AccountRecord) (number : ℕ) (mailbox : List ℕ) → IsWellFormed r number → lookup (same mailbox) r.live ≡ None → messages (said_by r number) mailbox ≡ []
no-messages r number mailbox formed none = messages-said_by r number formed mailbox ∙ dead-messages r number mailbox formed none

-- a mailbox that lives is found
pub not-dead : (r : AccountRecord) (mailbox : List ℕ) → is_among mailbox (keys_of r.live) ≡ true → lookup (same mailbox) r.live ≡ None → ⊥
not-dead r mailbox lives none = true≢false (sym lives ∙ is_among-keys mailbox r.live ∙ ap is_some none)

pub not-true : (b : Bool) → not b ≡ true → b ≡ false
not-true true h = absurd (true≢false (sym h))
not-true false h = refl

pub clients-counted : {X : Type 0} (entries clients : List X) (count : ℕ) → entries ≡ clients → count ≡ length entries → count ≡ length clients
clients-counted entries clients count e h = h ∙ ap length e
