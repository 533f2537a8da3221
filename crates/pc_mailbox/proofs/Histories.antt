-- What the record of a history says, its history says.
use Rattle.std.proofs.Common.{◌≡◌, ℕ, suc, ◌&&◌, nat_le, Bool, true, false, cond, List, [], ◌∷◌, map, length, Option, option_map, refl, sym, ap, ◌∙◌}
use Rattle.std.specs.List.{filter}
use Rattle.std.specs.Map.{keys_of}
use Rattle.pc_message.specs.declared.descriptor.Descriptor.{Descriptor}
use Rattle.pc_message.specs.declared.descriptor.Change.{Change}
use Rattle.pc_message.specs.declared.descriptor.Change.TheVariants.{Present}
use Rattle.pc_message.specs.Descriptor.{descriptor_of}
use Rattle.pc_account_history.specs.declared.kept.Kept.{Kept}
use Rattle.pc_account_history.specs.declared.kept.Listed.{Listed}
use Rattle.pc_account_history.specs.Record.{MailboxRecord, list_of, mailbox_of, kept_at, stamp_at}
use Rattle.pc_account_history.specs.Known.{Known, said_by}
use Rattle.pc_account_history.specs.History.{History, known, next}
use Rattle.pc_account_history.specs.Step.{record_of}
use Rattle.pc_account_history.specs.Allowed.{messages}
use Rattle.pc_account_history.specs.Answers.{descriptor_at}
use Rattle.pc_account_history.specs.Legal.{IsMailbox}
use Rattle.pc_account_history.proofs.Histories.{Stands, Stands-legal}
use Rattle.pc_account_history.proofs.Counts.{messages-said_by, keys-lists, lists-found}
use Rattle.pc_account_history.proofs.Mailboxes.{IsMailbox-mailbox_of}
use Rattle.pc_tables.proofs.Lists.{Every-weaker, filter-agree}
use Rattle.pc_mailbox.specs.UpdateList.{is_on, takers_of}
use Rattle.pc_mailbox.specs.Mailbox.{described, is_between, flags_at, message_at}
use Rattle.pc_mailbox.specs.Histories.{StandsFor, descriptors_between, flags_in, message_in, takers_in}

-- ---- descriptors

-- to describe all and choose by uid is to choose and describe
chosen : (low high : ℕ) (kept : List Kept) → described low high kept ≡ map (λ (descriptor : Descriptor). Present descriptor) (filter (λ (descriptor : Descriptor). nat_le low descriptor.uid && nat_le descriptor.uid high) (map descriptor_at kept))
unfolding descriptor_of
chosen low high [] = refl
chosen low high (first ∷ kept) = elim (is_between low high first) as (λ b. map (λ (k : Kept). Present (descriptor_at k)) (cond b (first ∷ filter (is_between low high) kept) (filter (is_between low high) kept)) ≡ map (λ (descriptor : Descriptor). Present descriptor) (cond b (descriptor_at first ∷ filter (λ (descriptor : Descriptor). nat_le low descriptor.uid && nat_le descriptor.uid high) (map descriptor_at kept)) (filter (λ (descriptor : Descriptor). nat_le low descriptor.uid && nat_le descriptor.uid high) (map descriptor_at kept)))) [
  | true ↦ ap (λ (l : List Change). Present (descriptor_at first) ∷ l) (chosen low high kept)
  | false ↦ chosen low high kept
]

-- ---- takers

count-step : {X : Type 0} (b : Bool) (name : List ℕ) (entry : List ℕ × X) (names : List (List ℕ)) (table : List (List ℕ × X)) → length table ≡ length names → length (cond b (entry ∷ table) table) ≡ length (cond b (name ∷ names) names)
count-step true name entry names table e = ap suc e
count-step false name entry names table e = e

-- as many entries pass a test of their names as names do
count-keys : {X : Type 0} (p : List ℕ → Bool) (table : List (List ℕ × X)) → length (filter (λ (entry : List ℕ × X). p entry.0) table) ≡ length (filter p (keys_of table))
count-keys p [] = refl
count-keys p (entry ∷ table) = count-step (p entry.0) entry.0 entry (filter p (keys_of table)) (filter (λ e. p e.0) table) (count-keys p table)

-- ---- what is known

module _ (h : History) (name : List ℕ) (box : MailboxRecord) (s : StandsFor h name box) where
  abbrev stands : Stands h
  stands = Stands-legal h s.legal

  pub highest-known : box.highest ≡ (known h).highest name
  highest-known = sym (ap (λ (k : Known). k.highest name) stands.alike ∙ ap (λ (b : MailboxRecord). b.highest) s.found)

  kept-known : (uid : ℕ) → kept_at uid box.messages ≡ (known h).kept name uid
  kept-known uid = sym (ap (λ (k : Known). k.kept name uid) stands.alike ∙ ap (λ (b : MailboxRecord). kept_at uid b.messages) s.found)

  pub flags-known : (uid : ℕ) → flags_at uid box ≡ flags_in uid (known h) name
  flags-known uid = ap (λ (o : Option Kept). option_map (λ (kept : Kept). kept.flags) o) (kept-known uid)

  pub message-known : (uid : ℕ) → message_at uid box ≡ message_in uid (known h) name
  message-known uid = ap (λ (o : Option Kept). option_map (λ (kept : Kept). kept.message) o) (kept-known uid)

  pub messages-known : box.messages ≡ messages (known h) name
  messages-known = sym (ap (λ (k : Known). messages k name) stands.alike ∙ (messages-said_by (record_of h) (next h) stands.formed name ∙ ap (λ (b : MailboxRecord). b.messages) s.found))

  pub described-known : (low high : ℕ) → described low high box.messages ≡ descriptors_between low high (known h) name
  described-known low high = ap (described low high) messages-known ∙ chosen low high (messages (known h) name)

  pub stamp-known : (client : List ℕ) (uid : ℕ) → stamp_at uid (list_of box client) ≡ (known h).listed client name uid
  stamp-known client uid = sym (ap (λ (k : Known). k.listed client name uid) stands.alike ∙ ap (λ (b : MailboxRecord). stamp_at uid (list_of b client)) s.found)

  pub changes-known : (client : List ℕ) → list_of box client ≡ (known h).changes client name
  changes-known client = sym (ap (λ (k : Known). k.changes client name) stands.alike ∙ ap (λ (b : MailboxRecord). list_of b client) s.found)

  takers-by : (uid : ℕ) → takers_of uid (mailbox_of (record_of h) name).lists ≡ takers_in uid (said_by (record_of h) (next h)) name
  takers-by uid =
      let r = record_of h in
      let there = mailbox_of r name in
      let good : IsMailbox (next h) r.clients there = IsMailbox-mailbox_of r (next h) name stands.formed in
      let has : List ℕ → Bool = λ client. is_on (list_of there client) uid in
      let each = Every-weaker (λ (list : List ℕ × List Listed). list_of there list.0 ≡ list.1) (λ (list : List ℕ × List Listed). is_on list.1 uid ≡ is_on (list_of there list.0) uid) (λ list e. ap (λ (l : List Listed). is_on l uid) (sym e)) there.lists (lists-found (next h) r.clients there stands.formed.client_names good) in
      ap length (filter-agree (λ (list : List ℕ × List Listed). is_on list.1 uid) (λ (list : List ℕ × List Listed). is_on (list_of there list.0) uid) there.lists each)
      ∙ (count-keys has there.lists
      ∙ (ap (λ (names : List (List ℕ)). length (filter has names)) (keys-lists (next h) there.highest r.clients there.lists good.lists)
      ∙ sym (count-keys has r.clients)))

  pub takers-known : (uid : ℕ) → takers_of uid box.lists ≡ takers_in uid (known h) name
  takers-known uid = sym (ap (λ (b : MailboxRecord). takers_of uid b.lists) s.found) ∙ (takers-by uid ∙ sym (ap (λ (k : Known). takers_in uid k name) stands.alike))
