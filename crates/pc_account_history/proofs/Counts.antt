-- The weight and the number of changes of an account, counted over its record.
use Rattle.std.proofs.Common.{◌≡◌, ℕ, ◌+◌, List, [], ◌∷◌, ◌++◌, length, Option, None, Some, unwrap_or, MatchOption, refl, sym, ◌∙◌, ap, subst, arith, ◌<◌, ◌≤◌}
use Rattle.std.specs.Prelude.{⊤}
use Rattle.std.specs.List.{AllByRecursion as Every}
use Rattle.std.specs.Map.{lookup, keys_of}
use Rattle.std.specs.Option.{option_or}
use Rattle.pc_message.specs.Message.{weight_of}
use Rattle.pc_account_history.specs.declared.kept.Kept.{Kept}
use Rattle.pc_account_history.specs.declared.kept.Listed.{Listed}
use Rattle.pc_tables.specs.Table.{same, total}
use Rattle.pc_account_history.specs.Record.{MailboxRecord, AccountRecord, mailbox_of, new_mailbox, list_of}
use Rattle.pc_account_history.specs.Known.{said_by}
use Rattle.pc_account_history.specs.Allowed.{messages}
use Rattle.pc_account_history.specs.Limits.{weight, listed_count}
use Rattle.pc_tables.specs.Order.{AreDistinct}
use Rattle.pc_account_history.specs.Legal.{AreListsOf, IsMailbox, IsWellFormed}
use Rattle.pc_tables.proofs.Table.{lookup-append, keys-append}
use Rattle.pc_tables.proofs.Lists.{Every-weaker, Every-split}
use Rattle.pc_account_history.proofs.Uids.{kept_at-all}
use Rattle.pc_account_history.proofs.Mailboxes.{IsMailbox-mailbox_of}
use Rattle.pc_tables.proofs.Distinct.{Every-from_lookups}
use Rattle.pc_tables.proofs.Options.{found-self}
use Rattle.pc_tables.proofs.Totals.{total-keys, total-map, total-append}

-- the lists stand under the clients' names
pub keys-lists : (number highest : ℕ) (clients : List (List ℕ × ℕ)) (lists : List (List ℕ × List Listed)) → AreListsOf number highest clients lists → keys_of lists ≡ keys_of clients
keys-lists number highest [] [] h = refl
keys-lists number highest [] (list ∷ lists) h = absurd h
keys-lists number highest (client ∷ clients) [] h = absurd h
keys-lists number highest (client ∷ clients) (list ∷ lists) h = λ i. h.0 i ∷ keys-lists number highest clients lists h.2 i

-- under each client's name stands the list that is found there
pub lists-found : (number : ℕ) (clients : List (List ℕ × ℕ)) (box : MailboxRecord) → AreDistinct (keys_of clients) → IsMailbox number clients box → Every (λ (list : List ℕ × List Listed). list_of box list.0 ≡ list.1) box.lists
lists-found number clients box distinct good = Every-from_lookups (λ name list. list_of box name ≡ list) box.lists (subst AreDistinct (sym (keys-lists number box.highest clients box.lists good.lists)) distinct) (λ name. found-self (lookup (same name) box.lists) [])

-- the changes of one mailbox, by client or list by list
pub lists-counted : (number : ℕ) (clients : List (List ℕ × ℕ)) (box : MailboxRecord) → AreDistinct (keys_of clients) → IsMailbox number clients box → total (λ client. length (list_of box client.0)) clients ≡ total (λ list. length list.1) box.lists
lists-counted number clients box distinct good =
    total-map (λ name. length (list_of box name)) clients
    ∙ ap (total (λ name. length (list_of box name))) (sym (keys-lists number box.highest clients box.lists good.lists))
    ∙ total-keys (λ name. length (list_of box name)) length box.lists (Every-weaker (λ (list : List ℕ × List Listed). list_of box list.0 ≡ list.1) (λ (list : List ℕ × List Listed). length (list_of box list.0) ≡ length list.1) (λ list e. ap length e) box.lists (lists-found number clients box distinct good))

-- under each name of the tables stands what is found there
pub Every-found_there : (r : AccountRecord) → AreDistinct (keys_of r.live ++ keys_of r.dropped) → Every (λ (entry : List ℕ × MailboxRecord). mailbox_of r entry.0 ≡ entry.1) r.live × Every (λ (entry : List ℕ × MailboxRecord). mailbox_of r entry.0 ≡ entry.1) r.dropped
Every-found_there r distinct =
    Every-split (λ (entry : List ℕ × MailboxRecord). mailbox_of r entry.0 ≡ entry.1) r.live r.dropped
    (Every-from_lookups (λ name box. mailbox_of r name ≡ box) (r.live ++ r.dropped) (subst AreDistinct (sym (keys-append r.live r.dropped)) distinct)
    (λ name. subst (λ (o : Option MailboxRecord). MatchOption o ⊤ (λ box. mailbox_of r name ≡ box)) (sym (lookup-append (same name) r.live r.dropped)) (found-either (lookup (same name) r.live) (lookup (same name) r.dropped) (new_mailbox r.clients))))
  where
    found-either : (live dropped : Option MailboxRecord) (new : MailboxRecord) → MatchOption (option_or live dropped) ⊤ (λ box. unwrap_or live (unwrap_or dropped new) ≡ box)
    found-either None None new = tt
    found-either None (Some one) new = refl
    found-either (Some one) dropped new = refl

module _ (r : AccountRecord) (number : ℕ) (formed : IsWellFormed r number) where
  pub messages-said_by : (mailbox : List ℕ) → messages (said_by r number) mailbox ≡ (mailbox_of r mailbox).messages
  messages-said_by mailbox =
      let box = mailbox_of r mailbox in
      let good = (IsMailbox-mailbox_of r number mailbox formed).messages in
      kept_at-all 0 box.highest box.messages good.rising (Every-weaker (λ (kept : Kept). (0 < kept.uid) × (kept.uid ≤ box.highest)) (λ (kept : Kept). (0 < kept.uid) × (kept.uid ≤ 0 + box.highest)) (λ kept h. (h.0, omega (arith, h.1))) box.messages good.given)

  pub weight-said_by : weight (said_by r number) ≡ total (λ entry. total (λ kept. weight_of kept.message) entry.1.messages) r.live
  weight-said_by =
      let weigh = total (λ (kept : Kept). weight_of kept.message) in
      total-keys (λ mailbox. weigh (messages (said_by r number) mailbox)) (λ box. weigh box.messages) r.live
      (Every-weaker (λ (entry : List ℕ × MailboxRecord). mailbox_of r entry.0 ≡ entry.1) (λ (entry : List ℕ × MailboxRecord). weigh (messages (said_by r number) entry.0) ≡ weigh entry.1.messages) (λ entry e. ap weigh (messages-said_by entry.0 ∙ ap (λ (box : MailboxRecord). box.messages) e)) r.live (Every-found_there r formed.mailbox_names).0)

  counted-there : List (List ℕ × MailboxRecord) → ℕ
  counted-there = total (λ entry. total (λ list. length list.1) entry.1.lists)

  counted-table : (table : List (List ℕ × MailboxRecord)) → Every (λ (entry : List ℕ × MailboxRecord). mailbox_of r entry.0 ≡ entry.1) table → total (λ mailbox. total (λ client. length (list_of (mailbox_of r mailbox) client.0)) r.clients) (keys_of table) ≡ counted-there table
  unfolding counted-there
  counted-table table there =
      total-keys (λ mailbox. total (λ client. length (list_of (mailbox_of r mailbox) client.0)) r.clients) (λ box. total (λ list. length list.1) box.lists) table
      (Every-weaker (λ (entry : List ℕ × MailboxRecord). mailbox_of r entry.0 ≡ entry.1) (λ (entry : List ℕ × MailboxRecord). total (λ client. length (list_of (mailbox_of r entry.0) client.0)) r.clients ≡ total (λ list. length list.1) entry.1.lists) (λ entry e. lists-counted number r.clients (mailbox_of r entry.0) formed.client_names (IsMailbox-mailbox_of r number entry.0 formed) ∙ ap (λ (box : MailboxRecord). total (λ list. length list.1) box.lists) e) table there)

  pub listed_count-said_by : listed_count (said_by r number) ≡ total (λ entry. total (λ list. length list.1) entry.1.lists) r.live + total (λ entry. total (λ list. length list.1) entry.1.lists) r.dropped
  unfolding counted-there
  listed_count-said_by =
      let there = Every-found_there r formed.mailbox_names in
      total-append (λ mailbox. total (λ client. length (list_of (mailbox_of r mailbox) client.0)) r.clients) (keys_of r.live) (keys_of r.dropped)
      ∙ (λ i. counted-table r.live there.0 i + counted-table r.dropped there.1 i)
