-- What stands under a mailbox name after an entry.
use Rattle.std.proofs.Common.{◌≡◌, ℕ, suc, Bool, true, false, cond, List, [], ◌∷◌, ◌++◌, Option, None, Some, is_some, unwrap_or, option_map, refl, sym, ◌∙◌, ap, true≢false}
use Rattle.std.specs.List.{list_all, AllByRecursion as Every}
use Rattle.std.specs.Map.{lookup, keys_of}
use Rattle.std.specs.Option.{option_map_or}
use Rattle.pc_account_history.specs.declared.kept.Listed.{Listed}
use Rattle.pc_account_history.specs.declared.entry.Entry.{Entry}
use Rattle.pc_account_history.specs.declared.entry.Entry.TheVariants.{MakeMailbox, DropMailbox, Flag, Expunge, Copy, MakeClient, DropClient, ResetClient, ResetMailbox, Forget, Pull, Password, Subscribe, Unsubscribe, Mark}
use Rattle.pc_tables.specs.Table.{same, others, map_values, is_among}
use Rattle.pc_account_history.specs.Record.{MailboxRecord, AccountRecord, mailbox_of, new_mailbox, list_of, kept_at}
use Rattle.pc_account_history.specs.Effect.{letters_to, copy_as, arrived}
use Rattle.pc_account_history.specs.Known.{said_by}
use Rattle.pc_account_history.specs.Allowed.{is_allowed}
use Rattle.pc_account_history.specs.Step.{with_message, with_flag_set, expunged, emptied, with_client, without_client, reset_for, taken_by, at_mailbox, at_all, with_letter, with_letters, after}
use Rattle.pc_account_history.specs.Legal.{IsMailbox, IsWellFormed, AreListsOf}
use Rattle.std.proofs.lemmas.Bool.{and_parts}
use Rattle.pc_tables.proofs.Lists.{Every-weaker}
use Rattle.pc_account_history.proofs.Needs.{forget-parts, pull-parts}
use Rattle.pc_tables.proofs.Booleans.{and3, cond_same}
use Rattle.pc_tables.proofs.Options.{option_or-none, unwrap_or-option_map, unwrap_or-has, unwrap_or-constant, some-from_map_or}
use Rattle.pc_tables.proofs.Table.{Every-found, same-true, same-sym, lookup-append, map_values-append, map_values-others, set_value-constant, lookup-others, lookup-map_values, lookup-set_value, is_among-keys, keys-set_value}

-- a mailbox once these messages have come, one after the other
abbrev pub with_mails : ℕ → List (List (List ℕ)) → MailboxRecord → MailboxRecord
with_mails number [] box = box
with_mails number (message ∷ messages) box = with_mails number messages (with_message number (arrived (suc box.highest) message) box)

-- what an entry makes of what stands under a mailbox name
abbrev pub box_by : AccountRecord → ℕ → Entry → List ℕ → MailboxRecord → MailboxRecord
box_by r number (DropMailbox dropped) mailbox box = cond (same dropped mailbox) (emptied number box) box
box_by r number (Flag changed uid flag on) mailbox box = cond (same changed mailbox) (with_flag_set number uid flag on box) box
box_by r number (Expunge changed) mailbox box = cond (same changed mailbox) (expunged number box) box
box_by r number (Copy original uid target) mailbox box = cond (same target mailbox) (option_map_or (λ kept. with_message number (copy_as (suc box.highest) kept) box) (kept_at uid (mailbox_of r original).messages) box) box
box_by r number (MakeClient client) mailbox box = with_client number client box
box_by r number (DropClient client) mailbox box = without_client client box
box_by r number (ResetClient client) mailbox box = reset_for number client box
box_by r number (ResetMailbox client changed) mailbox box = cond (same changed mailbox) (reset_for number client box) box
box_by r number (Forget client changed uids) mailbox box = cond (same changed mailbox) (taken_by client uids box) box
box_by r number (Pull _ letters) mailbox box = with_mails number (letters_to mailbox letters) box
box_by r number _ mailbox box = box

-- ---- mailboxes that are put somewhere

module _ (r : AccountRecord) (name asked : List ℕ) where
  mailbox_of-made : mailbox_of (record r { live = others name r.live ++ (name, mailbox_of r name) ∷ []; dropped = others name r.dropped }) asked ≡ mailbox_of r asked
  mailbox_of-made = elim (same name asked) as (λ b. same name asked ≡ b → mailbox_of (record r { live = others name r.live ++ (name, mailbox_of r name) ∷ []; dropped = others name r.dropped }) asked ≡ mailbox_of r asked) [
    | true ↦ λ h. rw (lookup-append (same asked) (others name r.live) ((name, mailbox_of r name) ∷ []), lookup-others name asked r.live, h, same-sym asked name, h) (ap (mailbox_of r) (same-true name asked h))
    | false ↦ λ h. rw (lookup-append (same asked) (others name r.live) ((name, mailbox_of r name) ∷ []), lookup-others name asked r.live, lookup-others name asked r.dropped, h, same-sym asked name, h, option_or-none (lookup (same asked) r.live))
  ] refl

  mailbox_of-dropped : (change : MailboxRecord → MailboxRecord) → mailbox_of (record r { live = others name r.live; dropped = others name r.dropped ++ (name, change (mailbox_of r name)) ∷ [] }) asked ≡ cond (same name asked) (change (mailbox_of r asked)) (mailbox_of r asked)
  mailbox_of-dropped change = elim (same name asked) as (λ b. same name asked ≡ b → mailbox_of (record r { live = others name r.live; dropped = others name r.dropped ++ (name, change (mailbox_of r name)) ∷ [] }) asked ≡ cond b (change (mailbox_of r asked)) (mailbox_of r asked)) [
    | true ↦ λ h. rw (lookup-append (same asked) (others name r.dropped) ((name, change (mailbox_of r name)) ∷ []), lookup-others name asked r.live, lookup-others name asked r.dropped, h, same-sym asked name, h) (ap (λ m. change (mailbox_of r m)) (same-true name asked h))
    | false ↦ λ h. rw (lookup-append (same asked) (others name r.dropped) ((name, change (mailbox_of r name)) ∷ []), lookup-others name asked r.live, lookup-others name asked r.dropped, h, same-sym asked name, h, option_or-none (lookup (same asked) r.dropped))
  ] refl

  found-changed : (found : Option MailboxRecord) (value rest : MailboxRecord) → is_some found ≡ true → unwrap_or (option_map (λ _. value) found) rest ≡ value
  found-changed None value rest h = absurd (true≢false (sym h))
  found-changed (Some x) value rest h = refl

  mailbox_of-at : (change : MailboxRecord → MailboxRecord) → is_some (lookup (same name) r.live) ≡ true → mailbox_of (at_mailbox name change r) asked ≡ cond (same name asked) (change (mailbox_of r asked)) (mailbox_of r asked)
  mailbox_of-at change lives = elim (same name asked) as (λ b. same name asked ≡ b → mailbox_of (at_mailbox name change r) asked ≡ cond b (change (mailbox_of r asked)) (mailbox_of r asked)) [
    | true ↦ λ h. rw (lookup-set_value name asked r.live (change (mailbox_of r name)), h) (found-changed (lookup (same name) r.live) (change (mailbox_of r name)) (unwrap_or (lookup (same asked) r.dropped) (new_mailbox r.clients)) lives ∙ ap (λ m. change (mailbox_of r m)) (same-true name asked h))
    | false ↦ λ h. rw (lookup-set_value name asked r.live (change (mailbox_of r name)), h)
  ] refl

mailbox_of-all : (r : AccountRecord) (clients : List (List ℕ × ℕ)) (change : MailboxRecord → MailboxRecord) (asked : List ℕ) → change (new_mailbox r.clients) ≡ new_mailbox clients → mailbox_of (at_all clients change r) asked ≡ change (mailbox_of r asked)
mailbox_of-all r clients change asked new =
    rw (lookup-map_values change (same asked) r.live, lookup-map_values change (same asked) r.dropped, ← new, unwrap_or-option_map change (lookup (same asked) r.dropped) (new_mailbox r.clients)) (unwrap_or-option_map change (lookup (same asked) r.live) (unwrap_or (lookup (same asked) r.dropped) (new_mailbox r.clients)))

-- ---- what holds of a table holds of what stands in it

pub mailbox_of-has : (P : MailboxRecord → Type 0) (r : AccountRecord) (mailbox : List ℕ) → Every (λ (entry : List ℕ × MailboxRecord). P entry.1) r.live → Every (λ (entry : List ℕ × MailboxRecord). P entry.1) r.dropped → P (new_mailbox r.clients) → P (mailbox_of r mailbox)
mailbox_of-has P r mailbox live dropped new = unwrap_or-has P (lookup (same mailbox) r.live) (unwrap_or (lookup (same mailbox) r.dropped) (new_mailbox r.clients)) (Every-found P (same mailbox) r.live live) (unwrap_or-has P (lookup (same mailbox) r.dropped) (new_mailbox r.clients) (Every-found P (same mailbox) r.dropped dropped) new)

pub AreListsOf-new : (number highest : ℕ) (clients : List (List ℕ × ℕ)) → AreListsOf number highest clients (map_values (λ _. []) clients)
AreListsOf-new number highest [] = tt
AreListsOf-new number highest (client ∷ clients) = (refl, record { in_order = tt; distinct = tt; changes = tt }, AreListsOf-new number highest clients)

pub IsMailbox-new : (number : ℕ) (clients : List (List ℕ × ℕ)) → IsMailbox number clients (new_mailbox clients)
IsMailbox-new number clients = record { messages = record { rising = tt; given = tt }; lists = AreListsOf-new number 0 clients }

-- in a well-formed record a mailbox is one
pub IsMailbox-mailbox_of : (r : AccountRecord) (number : ℕ) (mailbox : List ℕ) → IsWellFormed r number → IsMailbox number r.clients (mailbox_of r mailbox)
IsMailbox-mailbox_of r number mailbox formed = mailbox_of-has (IsMailbox number r.clients) r mailbox formed.live (Every-weaker (λ (entry : List ℕ × MailboxRecord). IsMailbox number r.clients entry.1 × (entry.1.messages ≡ [])) (λ (entry : List ℕ × MailboxRecord). IsMailbox number r.clients entry.1) (λ entry h. h.0) r.dropped formed.dropped) (IsMailbox-new number r.clients)

-- a mailbox in which a message lives is one that lives
pub lives-from_kept : (r : AccountRecord) (number uid : ℕ) (mailbox : List ℕ) → IsWellFormed r number → is_some (kept_at uid (mailbox_of r mailbox).messages) ≡ true → is_some (lookup (same mailbox) r.live) ≡ true
lives-from_kept r number uid mailbox formed =
    let other = unwrap_or (lookup (same mailbox) r.dropped) (new_mailbox r.clients) in
    let none : other.messages ≡ [] = unwrap_or-has (λ (box : MailboxRecord). box.messages ≡ []) (lookup (same mailbox) r.dropped) (new_mailbox r.clients) (Every-found (λ (box : MailboxRecord). box.messages ≡ []) (same mailbox) r.dropped (Every-weaker (λ (entry : List ℕ × MailboxRecord). IsMailbox number r.clients entry.1 × (entry.1.messages ≡ [])) (λ (entry : List ℕ × MailboxRecord). entry.1.messages ≡ []) (λ entry h. h.1) r.dropped formed.dropped)) refl in
    elim (lookup (same mailbox) r.live) as (λ o. is_some (kept_at uid (unwrap_or o other).messages) ≡ true → is_some o ≡ true) [
      | None ↦ λ h. absurd (true≢false (sym h ∙ ap (λ messages. is_some (kept_at uid messages)) none))
      | Some box ↦ λ h. refl
    ]

-- ---- what an entry makes of it

lives : (r : AccountRecord) (mailbox : List ℕ) → is_among mailbox (keys_of r.live) ≡ true → is_some (lookup (same mailbox) r.live) ≡ true
lives r mailbox h = sym (is_among-keys mailbox r.live) ∙ h

-- the mailboxes that live stay the same ones
still_lives : (r : AccountRecord) (name asked : List ℕ) (change : MailboxRecord → MailboxRecord) → is_among asked (keys_of (at_mailbox name change r).live) ≡ is_among asked (keys_of r.live)
still_lives r name asked change = ap (is_among asked) (keys-set_value (same name) r.live (change (mailbox_of r name)))

letter_step : (number : ℕ) (letter : List ℕ × List (List ℕ)) (asked : List ℕ) (letters : List (List ℕ × List (List ℕ))) (box : MailboxRecord) (b : Bool) → same letter.0 asked ≡ b → with_mails number (letters_to asked letters) (cond b (with_message number (arrived (suc box.highest) letter.1) box) box) ≡ with_mails number (letters_to asked (letter ∷ letters)) box
letter_step number letter asked letters box true h = rw h
letter_step number letter asked letters box false h = rw h

mailbox_of-letters : (number : ℕ) (letters : List (List ℕ × List (List ℕ))) (r : AccountRecord) (asked : List ℕ) → list_all (λ letter. is_among letter.0 (keys_of r.live)) letters ≡ true → mailbox_of (with_letters number letters r) asked ≡ with_mails number (letters_to asked letters) (mailbox_of r asked)
mailbox_of-letters number [] r asked h = refl
mailbox_of-letters number (letter ∷ letters) r asked h =
    let change = λ (box : MailboxRecord). with_message number (arrived (suc box.highest) letter.1) box in
    let parts = and_parts (is_among letter.0 (keys_of r.live)) (list_all (λ later. is_among later.0 (keys_of r.live)) letters) h in
    let kept_keys = keys-set_value (same letter.0) r.live (change (mailbox_of r letter.0)) in
    let others_live : list_all (λ later. is_among later.0 (keys_of (with_letter number letter r).live)) letters ≡ true = ap (λ names. list_all (λ (later : List ℕ × List (List ℕ)). is_among later.0 names) letters) kept_keys ∙ parts.1 in
    mailbox_of-letters number letters (with_letter number letter r) asked others_live
    ∙ ap (with_mails number (letters_to asked letters)) (mailbox_of-at r letter.0 asked change (lives r letter.0 parts.0))
    ∙ letter_step number letter asked letters (mailbox_of r asked) (same letter.0 asked) refl

no_list : (number : ℕ) (client : List ℕ) (clients : List (List ℕ × ℕ)) → reset_for number client (new_mailbox clients) ≡ new_mailbox clients
no_list number client clients =
    let empty : list_of (new_mailbox clients) client ≡ [] = ap (λ o. unwrap_or o []) (lookup-map_values (λ (_ : ℕ). []) (same client) clients) ∙ unwrap_or-constant [] (lookup (same client) clients) in
    rw (empty, set_value-constant {Y = List Listed} (same client) [] clients)

pub mailbox_of-after : (r : AccountRecord) (number : ℕ) (e : Entry) (asked : List ℕ) → IsWellFormed r number → is_allowed (said_by r number) e ≡ true → mailbox_of (after r number e) asked ≡ box_by r number e asked (mailbox_of r asked)
mailbox_of-after r number (MakeMailbox mailbox) asked formed h = mailbox_of-made r mailbox asked
mailbox_of-after r number (DropMailbox mailbox) asked formed h = mailbox_of-dropped r mailbox asked (emptied number)
mailbox_of-after r number (Flag mailbox uid flag on) asked formed h = mailbox_of-at r mailbox asked (with_flag_set number uid flag on) (lives-from_kept r number uid mailbox formed (some-from_map_or _ _ (and_parts _ _ h).1))
mailbox_of-after r number (Expunge mailbox) asked formed h = mailbox_of-at r mailbox asked (expunged number) (lives r mailbox (and_parts _ _ h).0)
mailbox_of-after r number (Copy mailbox uid target) asked formed h =
    let target_lives = lives r target (and3 _ _ _ h).1 in
    elim (kept_at uid (mailbox_of r mailbox).messages) as (λ original. mailbox_of (option_map_or (λ kept. at_mailbox target (λ box. with_message number (copy_as (suc box.highest) kept) box) r) original r) asked ≡ cond (same target asked) (option_map_or (λ kept. with_message number (copy_as (suc (mailbox_of r asked).highest) kept) (mailbox_of r asked)) original (mailbox_of r asked)) (mailbox_of r asked)) [
      | None ↦ cond_same (same target asked) (mailbox_of r asked)
      | Some kept ↦ mailbox_of-at r target asked (λ box. with_message number (copy_as (suc box.highest) kept) box) target_lives
    ]
mailbox_of-after r number (MakeClient client) asked formed h = mailbox_of-all r (others client r.clients ++ (client, number) ∷ []) (with_client number client) asked (λ i. record { highest = 0; messages = []; lists = (sym (map_values-append (λ _. []) (others client r.clients) ((client, number) ∷ []) ∙ ap (λ lists. lists ++ (client, []) ∷ []) (map_values-others (λ _. []) client r.clients))) i })
mailbox_of-after r number (DropClient client) asked formed h = mailbox_of-all r (others client r.clients) (without_client client) asked (λ i. record { highest = 0; messages = []; lists = sym (map_values-others (λ _. []) client r.clients) i })
mailbox_of-after r number (ResetClient client) asked formed h = mailbox_of-all r r.clients (reset_for number client) asked (no_list number client r.clients)
mailbox_of-after r number (ResetMailbox client mailbox) asked formed h = mailbox_of-at r mailbox asked (reset_for number client) (lives r mailbox (and_parts _ _ h).1)
mailbox_of-after r number (Forget client mailbox uids) asked formed h = mailbox_of-at r mailbox asked (taken_by client uids) (lives r mailbox (forget-parts (said_by r number) client mailbox uids h).1)
mailbox_of-after r number (Pull upto letters) asked formed h = mailbox_of-letters number letters r asked (pull-parts (said_by r number) upto letters h).4
mailbox_of-after r number (Password digest) asked formed h = refl
mailbox_of-after r number (Subscribe board) asked formed h = refl
mailbox_of-after r number (Unsubscribe board) asked formed h = refl
mailbox_of-after r number (Mark board uid) asked formed h = refl
