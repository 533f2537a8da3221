-- Messages that live: their mailboxes, flags and descriptors.
use Rattle.std.proofs.Common.{◌≡◌, ℕ, ◌<◌, ◌≤◌, ◌==◌, Bool, true, false, cond, List, [], ◌∷◌, map, Option, None, Some, is_some, MatchOption, refl, sym, ◌∙◌, ap, subst, arith, leb-true, eq-eqb}
use Rattle.std.specs.Prelude.{⊤}
use Rattle.std.specs.Option.{option_map, option_map_or}
use Rattle.std.specs.List.{find, AllByRecursion as Every}
use Rattle.std.proofs.lemmas.Bool.{and_parts}
use Rattle.pc_message.specs.declared.descriptor.Descriptor.{Descriptor}
use Rattle.pc_message.specs.declared.descriptor.Change.TheVariants.{Present, Expunged}
use Rattle.pc_message.specs.Descriptor.{descriptor_of}
use Rattle.pc_account_history.specs.declared.kept.Kept.{Kept}
use Rattle.pc_account_history.specs.declared.entry.Entry.TheVariants.{Flag}
use Rattle.pc_message.specs.Flags.{flag_of, flags_with}
use Rattle.pc_account_history.specs.Record.{AccountRecord, kept_at, mailbox_of}
use Rattle.pc_account_history.specs.Effect.{flagged}
use Rattle.pc_account_history.specs.Known.{Known, said_by, kept_after}
use Rattle.pc_account_history.specs.History.{History, known, next}
use Rattle.pc_account_history.specs.Allowed.{is_mailbox, is_allowed}
use Rattle.pc_account_history.specs.Answers.{descriptor_at, descriptors, change_at}
use Rattle.pc_tables.specs.Order.{Ordered}
use Rattle.pc_account_history.specs.Legal.{IsWellFormed, IsLegal}
use Rattle.pc_account_history.specs.Step.{record_of}
use Rattle.pc_account_history.proofs.Counts.{messages-said_by}
use Rattle.pc_account_history.proofs.Histories.{Stands-legal}
use Rattle.pc_account_history.proofs.Mailboxes.{IsMailbox-mailbox_of, lives-from_kept}
use Rattle.pc_account_history.proofs.Steps.{kept-own-uid, one-flag}
use Rattle.pc_tables.proofs.Table.{same-refl, is_among-keys}
use Rattle.pc_tables.proofs.Numbers.{within-none}

pub kept-mailbox : (h : History) → IsLegal h → (mailbox : List ℕ) (uid : ℕ) → is_some ((known h).kept mailbox uid) ≡ true → is_mailbox (known h) mailbox ≡ true
kept-mailbox h legal mailbox uid lives =
    let stands = Stands-legal h legal in
    let here : is_some (kept_at uid (mailbox_of (record_of h) mailbox).messages) ≡ true = sym (ap (λ (k : Known). is_some (k.kept mailbox uid)) stands.alike) ∙ lives in
    ap (λ (k : Known). is_mailbox k mailbox) stands.alike ∙ is_among-keys mailbox (record_of h).live ∙ lives-from_kept (record_of h) (next h) uid mailbox stands.formed here

-- ---- flags

pub flag-kept : (k : Known) (mailbox : List ℕ) (uid flag : ℕ) (on : Bool) (kept : Kept) → is_allowed k (Flag mailbox uid flag on) ≡ true → k.kept mailbox uid ≡ Some kept → (kept_after k (Flag mailbox uid flag on) mailbox uid ≡ Some (flagged flag on kept)) × (flag_of (flags_with kept.flags flag on) flag ≡ on)
flag-kept k mailbox uid flag on kept allowed e =
    let within : flag < 16 = omega (arith, leb-true flag 15 (and_parts _ _ allowed).0) in (
      rw (within-none (k.highest mailbox) uid, e, same-refl mailbox, eq-eqb uid uid refl) refl,
      one-flag kept.flags flag flag on within within ∙ ap (λ b. cond b on (flag_of kept.flags flag)) (eq-eqb flag flag refl),
    )

-- ---- descriptors

descriptors-past : (one : Kept) (messages : List Kept) → Every (λ (later : Kept). one.uid < later.uid) messages → Every (λ (later : Descriptor). one.uid < later.uid) (map descriptor_at messages)
unfolding descriptor_of
descriptors-past one [] h = tt
descriptors-past one (first ∷ messages) h = (h.0, descriptors-past one messages h.1)

rising-descriptors : (messages : List Kept) → Ordered (λ (kept later : Kept). kept.uid < later.uid) messages → Ordered (λ (descriptor later : Descriptor). descriptor.uid < later.uid) (map descriptor_at messages)
unfolding descriptor_of
rising-descriptors [] h = tt
rising-descriptors (one ∷ messages) h = (descriptors-past one messages h.0, rising-descriptors messages h.1)

found-descriptor : (uid : ℕ) (messages : List Kept) → find (λ (descriptor : Descriptor). descriptor.uid == uid) (map descriptor_at messages) ≡ option_map descriptor_at (kept_at uid messages)
unfolding descriptor_of
found-descriptor uid [] = refl
found-descriptor uid (one ∷ messages) = elim (one.uid == uid) as (λ b. cond b (Some (descriptor_at one)) (find (λ (descriptor : Descriptor). descriptor.uid == uid) (map descriptor_at messages)) ≡ option_map descriptor_at (cond b (Some one) (kept_at uid messages))) [ true ↦ refl | false ↦ found-descriptor uid messages ]

record AreByUid (k : Known) (mailbox : List ℕ) : Type 0 where
  rising : Ordered (λ (descriptor later : Descriptor). descriptor.uid < later.uid) (descriptors k mailbox)
  found : (uid : ℕ) → find (λ (descriptor : Descriptor). descriptor.uid == uid) (descriptors k mailbox) ≡ option_map descriptor_at (k.kept mailbox uid)

AreByUid-said_by : (r : AccountRecord) (number : ℕ) (mailbox : List ℕ) → IsWellFormed r number → AreByUid (said_by r number) mailbox
AreByUid-said_by r number mailbox formed =
    let messages = (mailbox_of r mailbox).messages in
    let same = ap (map descriptor_at) (sym (messages-said_by r number formed mailbox)) in record {
      rising = subst (Ordered (λ (descriptor later : Descriptor). descriptor.uid < later.uid)) same (rising-descriptors messages (IsMailbox-mailbox_of r number mailbox formed).messages.rising);
      found = λ uid. subst (λ list. find (λ (descriptor : Descriptor). descriptor.uid == uid) list ≡ option_map descriptor_at (kept_at uid messages)) same (found-descriptor uid messages);
    }

pub descriptors-by-uid : (h : History) → IsLegal h → (mailbox : List ℕ) → Ordered (λ (descriptor later : Descriptor). descriptor.uid < later.uid) (descriptors (known h) mailbox) × ((uid : ℕ) → find (λ descriptor. descriptor.uid == uid) (descriptors (known h) mailbox) ≡ option_map descriptor_at ((known h).kept mailbox uid))
descriptors-by-uid h legal mailbox =
    let stands = Stands-legal h legal in
    let are = subst (λ k. AreByUid k mailbox) (sym stands.alike) (AreByUid-said_by (record_of h) (next h) mailbox stands.formed) in
    (are.rising, are.found)

-- ---- changes

names-its-uid : (highest uid : ℕ) (found : Option Kept) → MatchOption found ⊤ (λ kept. (kept.uid ≡ uid) × (0 < uid) × (uid ≤ highest)) → ((descriptor : Descriptor) → option_map_or (λ kept. Present (descriptor_at kept)) found (Expunged uid) ≡ Present descriptor → descriptor.uid ≡ uid) × ((gone : ℕ) → option_map_or (λ kept. Present (descriptor_at kept)) found (Expunged uid) ≡ Expunged gone → gone ≡ uid)
unfolding descriptor_of
names-its-uid highest uid None h = (λ descriptor e. cc, λ gone e. cc)
names-its-uid highest uid (Some kept) h = (λ descriptor e. cc, λ gone e. cc)

pub change-names-its-uid : (h : History) → IsLegal h → (mailbox : List ℕ) (uid : ℕ) → ((descriptor : Descriptor) → change_at (known h) mailbox uid ≡ Present descriptor → descriptor.uid ≡ uid) × ((gone : ℕ) → change_at (known h) mailbox uid ≡ Expunged gone → gone ≡ uid)
change-names-its-uid h legal mailbox uid = names-its-uid ((known h).highest mailbox) uid ((known h).kept mailbox uid) (kept-own-uid h legal mailbox uid)
