-- How the numbers of an account follow its entries.
use Rattle.std.proofs.Common.{◌≡◌, ℕ, ◌+◌, ◌≤◌, ◌==◌, true, false, cond, ◌&&◌, List, [], ◌∷◌, ◌++◌, length, Option, None, Some, is_some, unwrap_or, option_and_then, refl, sym, ◌∙◌, ap, subst, arith, le_refl, add-zero, true≢false}
use Rattle.std.specs.List.{filter_map, cons_option}
use Rattle.std.specs.Map.{lookup, keys_of}
use Rattle.std.proofs.lemmas.Bool.{or_parts, false_from_ne_true}
use Rattle.pc_account_history.specs.declared.kept.Kept.{Kept}
use Rattle.pc_account_history.specs.declared.entry.Entry.{Entry}
use Rattle.pc_account_history.specs.declared.entry.Entry.TheVariants.{MakeMailbox, DropMailbox, Flag, Expunge}
use Rattle.pc_tables.specs.Table.{same, is_among, numbers, total}
use Rattle.pc_account_history.specs.Record.{MailboxRecord, AccountRecord, mailbox_of, new_mailbox, list_of, kept_at}
use Rattle.pc_account_history.specs.Effect.{left_by, gives, flagged}
use Rattle.pc_message.specs.Flags.{flag_of}
use Rattle.pc_account_history.specs.Known.{Known, said_by, kept_after, after_entry}
use Rattle.pc_account_history.specs.History.{History, known, next}
use Rattle.pc_account_history.specs.Allowed.{messages}
use Rattle.pc_account_history.specs.Step.{record_of}
use Rattle.pc_account_history.specs.Legal.{IsWellFormed, IsLegal}
use Rattle.pc_tables.proofs.Numbers.{within-none}
use Rattle.pc_account_history.proofs.Mailboxes.{lives-from_kept}
use Rattle.pc_account_history.proofs.Histories.{Stands-legal}
use Rattle.pc_tables.proofs.Options.{none-there, unwrap_or-constant}
use Rattle.pc_tables.proofs.Table.{is_among-append, is_among-keys, lookup-map_values}
use Rattle.pc_tables.proofs.Totals.{length-ones}

-- ---- what is known of names that aren't there

pub record KnowsNames (k : Known) : Type 0 where
  pub unknown : (name : List ℕ) → is_among name (k.live ++ k.dropped) ≡ false → k.highest name ≡ 0
  pub unlisted : (client name : List ℕ) → is_among name (k.live ++ k.dropped) ≡ false → k.changes client name ≡ []
  pub dead : (name : List ℕ) (uid : ℕ) → is_among name k.live ≡ false → k.kept name uid ≡ None

module _ (r : AccountRecord) (number : ℕ) (formed : IsWellFormed r number) where
  unknown-mailbox : (name : List ℕ) → is_among name (keys_of r.live ++ keys_of r.dropped) ≡ false → mailbox_of r name ≡ new_mailbox r.clients
  unknown-mailbox name h =
      let parts = or_parts (is_among name (keys_of r.live)) (is_among name (keys_of r.dropped)) (sym (is_among-append name (keys_of r.live) (keys_of r.dropped)) ∙ h) in
      let live = none-there (lookup (same name) r.live) (sym (is_among-keys name r.live) ∙ parts.0) in
      let dropped = none-there (lookup (same name) r.dropped) (sym (is_among-keys name r.dropped) ∙ parts.1) in
      rw (live, dropped)

  KnowsNames-said_by : KnowsNames (said_by r number)
  KnowsNames-said_by = record {
    unknown = λ name h. ap (λ (box : MailboxRecord). box.highest) (unknown-mailbox name h);
    unlisted = λ client name h. ap (λ (box : MailboxRecord). list_of box client) (unknown-mailbox name h) ∙ ap (λ o. unwrap_or o []) (lookup-map_values (λ (_ : ℕ). []) (same client) r.clients) ∙ unwrap_or-constant [] (lookup (same client) r.clients);
    dead = λ name uid h. none-there (kept_at uid (mailbox_of r name).messages) (false_from_ne_true (is_some (kept_at uid (mailbox_of r name).messages)) (λ g. true≢false (sym (lives-from_kept r number uid name formed g) ∙ sym (is_among-keys name r.live) ∙ h)));
  }

pub KnowsNames-legal : (h : History) → IsLegal h → KnowsNames (known h)
KnowsNames-legal h legal = let stands = Stands-legal h legal in subst KnowsNames (sym stands.alike) (KnowsNames-said_by (record_of h) (next h) stands.formed)

-- ---- messages that stay or go

abbrev counted : (List (List ℕ) → ℕ) → Option Kept → ℕ
counted count None = 0
counted count (Some kept) = count kept.message

module _ (count : List (List ℕ) → ℕ) where
  total-cons : (found : Option Kept) (messages : List Kept) → total (λ kept. count kept.message) (cons_option found messages) ≡ counted count found + total (λ kept. count kept.message) messages
  total-cons None messages = omega arith
  total-cons (Some kept) messages = refl

  total-found : (f g : ℕ → Option Kept) (uids : List ℕ) → ((uid : ℕ) → counted count (g uid) ≤ counted count (f uid)) → total (λ kept. count kept.message) (filter_map g uids) ≤ total (λ kept. count kept.message) (filter_map f uids)
  total-found f g [] h = le_refl 0
  total-found f g (uid ∷ uids) h = omega (arith, h uid, total-found f g uids h, total-cons (f uid) (filter_map f uids), total-cons (g uid) (filter_map g uids))

  left-less : (e : Entry) (mailbox : List ℕ) (uid : ℕ) (kept : Kept) → counted count (left_by e mailbox uid kept) ≤ count kept.message
  left-less (DropMailbox name) mailbox uid kept = elim (same name mailbox) as (λ b. counted count (cond b None (Some kept)) ≤ count kept.message) [ true ↦ omega arith | false ↦ le_refl (count kept.message) ]
  left-less (Expunge name) mailbox uid kept = elim (same name mailbox && flag_of kept.flags 0) as (λ b. counted count (cond b None (Some kept)) ≤ count kept.message) [ true ↦ omega arith | false ↦ le_refl (count kept.message) ]
  left-less (Flag name at flag on) mailbox uid kept = elim (same name mailbox && at == uid) as (λ b. counted count (cond b (Some (flagged flag on kept)) (Some kept)) ≤ count kept.message) [ true ↦ le_refl (count kept.message) | false ↦ le_refl (count kept.message) ]
  left-less (MakeMailbox name) mailbox uid kept = le_refl (count kept.message)
  left-less _ mailbox uid kept = le_refl (count kept.message)

  kept-less : (k : Known) (e : Entry) (mailbox : List ℕ) (uid : ℕ) → gives e mailbox ≡ 0 → counted count (kept_after k e mailbox uid) ≤ counted count (k.kept mailbox uid)
  kept-less k e mailbox uid none = rw (none, within-none (k.highest mailbox) uid) (elim (k.kept mailbox uid) as (λ o. counted count (option_and_then (left_by e mailbox uid) o) ≤ counted count o) [ None ↦ le_refl 0 | Some kept ↦ left-less e mailbox uid kept ])

  pub messages-less : (k : Known) (e : Entry) (mailbox : List ℕ) → gives e mailbox ≡ 0 → total (λ kept. count kept.message) (messages (after_entry k e) mailbox) ≤ total (λ kept. count kept.message) (messages k mailbox)
  messages-less k e mailbox none =
      let same_uids : k.highest mailbox + gives e mailbox ≡ k.highest mailbox = ap (λ n. k.highest mailbox + n) none ∙ add-zero (k.highest mailbox) in
      rw same_uids (total-found (k.kept mailbox) (kept_after k e mailbox) (numbers 0 (k.highest mailbox)) (λ uid. kept-less k e mailbox uid none))

pub length-less : (k : Known) (e : Entry) (mailbox : List ℕ) → gives e mailbox ≡ 0 → length (messages (after_entry k e) mailbox) ≤ length (messages k mailbox)
length-less k e mailbox none = omega (arith, messages-less (λ _. 1) k e mailbox none, length-ones (messages (after_entry k e) mailbox), length-ones (messages k mailbox))

pub no-messages : (found : ℕ → Option Kept) (uids : List ℕ) → ((uid : ℕ) → found uid ≡ None) → filter_map found uids ≡ []
no-messages found [] h = refl
no-messages found (uid ∷ uids) h = (λ i. cons_option (h uid i) (filter_map found uids)) ∙ no-messages found uids h
