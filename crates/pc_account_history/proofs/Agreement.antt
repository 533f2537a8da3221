-- One entry more: what the record says after it is what is known after it.
use Rattle.std.proofs.Common.{◌≡◌, ℕ, suc, ◌+◌, ◌-◌, ◌<◌, ◌≤◌, ◌==◌, Bool, true, false, cond, not, ◌&&◌, ◌||◌, nat_lt, nat_le, List, [], ◌∷◌, ◌++◌, length, filter, Option, None, Some, is_some, unwrap_or, option_map, option_and_then, refl, sym, ◌∙◌, ap, arith, inl, inr, slice_get, add-zero, add-one, append-nil, true≢false}
use Rattle.std.specs.Map.{lookup, keys_of, set_value}
use Rattle.std.specs.Option.{option_map_or}
use Rattle.std.proofs.lemmas.Bool.{and_parts, cases_eq}
use Rattle.pc_account_history.specs.declared.kept.Kept.{Kept}
use Rattle.pc_account_history.specs.declared.kept.Listed.{Listed}
use Rattle.pc_account_history.specs.declared.entry.Entry.{Entry}
use Rattle.pc_account_history.specs.declared.entry.Entry.TheVariants.{MakeMailbox, DropMailbox, Flag, Expunge, Copy, MakeClient, DropClient, ResetClient, ResetMailbox, Forget, Pull, Password, Subscribe, Unsubscribe, Mark}
use Rattle.pc_message.specs.Flags.{flag_of}
use Rattle.pc_tables.specs.Table.{same, numbers, has_number, others}
use Rattle.pc_account_history.specs.Record.{MailboxRecord, AccountRecord, mailbox_of, list_of, kept_at, stamp_at}
use Rattle.pc_account_history.specs.Effect.{gives, letters_to, copy_as, arrived, flagged, clients_after, live_after, dropped_after, subscriptions_after, pulled_after, digest_after}
use Rattle.pc_account_history.specs.Known.{said_by, after_entry, kept_after, changes_after, listed_after, is_client_after}
use Rattle.pc_account_history.specs.Allowed.{is_allowed}
use Rattle.pc_account_history.specs.Step.{uids_of, stamped, without, touched, touched_for_all, with_message, with_flag_set, expunged, emptied, with_client, without_client, reset_for, taken_by, at_mailbox, with_letter, with_letters, after}
use Rattle.pc_account_history.specs.Legal.{IsMailbox, IsWellFormed, AreMessages}
use Rattle.pc_account_history.proofs.Needs.{copy-parts, forget-parts}
use Rattle.pc_tables.proofs.Table.{keys-others, keys-append, keys-map_values, keys-set_value, same-true, same-sym, lookup-append, lookup-others, lookup-set_value}
use Rattle.pc_tables.proofs.Options.{some-from_map_or, option_or-none}
use Rattle.pc_tables.proofs.Lists.{Every-from, Every-weaker, filter-agree, filter-true, filter-false}
use Rattle.pc_tables.proofs.Numbers.{within-none, within-true, within-next}
use Rattle.pc_account_history.proofs.Uids.{Rising}
use Rattle.pc_account_history.proofs.Changes.{changes_with, touched_uids, changes-step, listed-step}
use Rattle.pc_account_history.proofs.Mailboxes.{box_by, mailbox_of-after, IsMailbox-mailbox_of}
use Rattle.pc_account_history.proofs.Boxes.{lists-clients, reached, touched-none, list_of-touched, list_of-mails, highest-mails, kept_at-push, kept_at-mails, kept_at-left, kept_at-flagged, uids_of-one, AreUpTo}

-- ---- the highest uid

changed-highest : (b : Bool) (change : MailboxRecord → MailboxRecord) (box : MailboxRecord) → (change box).highest ≡ box.highest → (cond b (change box) box).highest ≡ box.highest + 0
changed-highest true change box h = h ∙ sym (add-zero box.highest)
changed-highest false change box h = sym (add-zero box.highest)

copied-highest : (b : Bool) (number : ℕ) (original : Option Kept) (box : MailboxRecord) → is_some original ≡ true → (cond b (option_map_or (λ kept. with_message number (copy_as (suc box.highest) kept) box) original box) box).highest ≡ box.highest + cond b 1 0
copied-highest true number None box h = absurd (true≢false (sym h))
copied-highest true number (Some kept) box h = omega arith
copied-highest false number original box h = sym (add-zero box.highest)

highest-by : (r : AccountRecord) (number : ℕ) (e : Entry) (mailbox : List ℕ) (box : MailboxRecord) → is_allowed (said_by r number) e ≡ true → (box_by r number e mailbox box).highest ≡ box.highest + gives e mailbox
highest-by r number (DropMailbox dropped) mailbox box h = changed-highest (same dropped mailbox) (emptied number) box refl
highest-by r number (Flag changed uid flag on) mailbox box h = changed-highest (same changed mailbox) (with_flag_set number uid flag on) box refl
highest-by r number (Expunge changed) mailbox box h = changed-highest (same changed mailbox) (expunged number) box refl
highest-by r number (Copy original uid target) mailbox box h = copied-highest (same target mailbox) number (kept_at uid (mailbox_of r original).messages) box (copy-parts (said_by r number) original uid target h).2
highest-by r number (ResetMailbox client changed) mailbox box h = changed-highest (same changed mailbox) (reset_for number client) box refl
highest-by r number (Forget client changed uids) mailbox box h = changed-highest (same changed mailbox) (taken_by client uids) box refl
highest-by r number (Pull upto letters) mailbox box h = highest-mails number (letters_to mailbox letters) box
highest-by r number (MakeClient client) mailbox box h = sym (add-zero box.highest)
highest-by r number _ mailbox box h = sym (add-zero box.highest)

-- ---- the messages

pub kept-idle : (highest uid : ℕ) (given found : Option Kept) → found ≡ cond (nat_lt highest uid && nat_le uid (highest + 0)) given (option_and_then (λ kept. Some kept) found)
kept-idle highest uid given None = rw (within-none highest uid)
kept-idle highest uid given (Some kept) = rw (within-none highest uid)

upto_highest : (box : MailboxRecord) → AreMessages box.highest box.messages → AreUpTo box.highest box.messages
upto_highest box good = Every-weaker (λ (kept : Kept). (0 < kept.uid) × (kept.uid ≤ box.highest)) (λ (kept : Kept). kept.uid ≤ box.highest) (λ kept h. h.1) box.messages good.given

same-kept : (b : Bool) (change : MailboxRecord → MailboxRecord) (uid : ℕ) (box : MailboxRecord) → (change box).messages ≡ box.messages → kept_at uid (cond b (change box) box).messages ≡ cond (nat_lt box.highest uid && nat_le uid (box.highest + 0)) None (option_and_then (λ kept. Some kept) (kept_at uid box.messages))
same-kept true change uid box h = ap (kept_at uid) h ∙ kept-idle box.highest uid None (kept_at uid box.messages)
same-kept false change uid box h = kept-idle box.highest uid None (kept_at uid box.messages)

none-left : (found : Option Kept) → ◌≡◌ {A = Option Kept} None (option_and_then (λ (kept : Kept). None) found)
none-left None = refl
none-left (Some kept) = refl

dropped-kept : (b : Bool) (number uid : ℕ) (box : MailboxRecord) → kept_at uid (cond b (emptied number box) box).messages ≡ cond (nat_lt box.highest uid && nat_le uid (box.highest + 0)) None (option_and_then (λ kept. cond b None (Some kept)) (kept_at uid box.messages))
dropped-kept true number uid box = rw (within-none box.highest uid) (none-left (kept_at uid box.messages))
dropped-kept false number uid box = kept-idle box.highest uid None (kept_at uid box.messages)

expunged-kept : (b : Bool) (number uid : ℕ) (box : MailboxRecord) → Rising box.messages → kept_at uid (cond b (expunged number box) box).messages ≡ cond (nat_lt box.highest uid && nat_le uid (box.highest + 0)) None (option_and_then (λ kept. cond (b && flag_of kept.flags 0) None (Some kept)) (kept_at uid box.messages))
expunged-kept true number uid box r = rw (within-none box.highest uid) (kept_at-left (λ kept. flag_of kept.flags 0) uid box.messages r)
expunged-kept false number uid box r = kept-idle box.highest uid None (kept_at uid box.messages)

flagged-kept : (b : Bool) (number uid at flag : ℕ) (on : Bool) (box : MailboxRecord) → kept_at uid (cond b (with_flag_set number at flag on box) box).messages ≡ cond (nat_lt box.highest uid && nat_le uid (box.highest + 0)) None (option_and_then (λ kept. cond (b && at == uid) (Some (flagged flag on kept)) (Some kept)) (kept_at uid box.messages))
flagged-kept true number uid at flag on box = rw (within-none box.highest uid) (kept_at-flagged at flag on uid box.messages)
flagged-kept false number uid at flag on box = kept-idle box.highest uid None (kept_at uid box.messages)

all-left : (b : Bool) (given found : Option Kept) → cond b given found ≡ cond b given (option_and_then (λ kept. Some kept) found)
all-left true given found = refl
all-left false given None = refl
all-left false given (Some kept) = refl

copied-kept : (b : Bool) (number uid : ℕ) (original : Option Kept) (box : MailboxRecord) → AreUpTo box.highest box.messages → is_some original ≡ true → kept_at uid (cond b (option_map_or (λ kept. with_message number (copy_as (suc box.highest) kept) box) original box) box).messages ≡ cond (nat_lt box.highest uid && nat_le uid (box.highest + cond b 1 0)) (option_map (copy_as uid) original) (option_and_then (λ kept. Some kept) (kept_at uid box.messages))
copied-kept true number uid None box upto h = absurd (true≢false (sym h))
copied-kept true number uid (Some kept) box upto h = kept_at-push uid box.highest box.messages (copy_as (suc box.highest) kept) upto refl ∙ rw (add-one box.highest) (elim (cases_eq (suc box.highest) uid) [
  | inl here ↦ rw (within-true box.highest (suc box.highest) uid (omega arith) (omega arith)) (ap (λ n. Some (copy_as n kept)) here)
  | inr other ↦ rw (within-next box.highest uid other) (all-left false None (kept_at uid box.messages))
])
copied-kept false number uid original box upto h = kept-idle box.highest uid (option_map (copy_as uid) original) (kept_at uid box.messages)

kept-by : (r : AccountRecord) (number : ℕ) (e : Entry) (mailbox : List ℕ) (uid : ℕ) → IsMailbox number r.clients (mailbox_of r mailbox) → is_allowed (said_by r number) e ≡ true → kept_at uid (box_by r number e mailbox (mailbox_of r mailbox)).messages ≡ kept_after (said_by r number) e mailbox uid
kept-by r number (DropMailbox dropped) mailbox uid good h = dropped-kept (same dropped mailbox) number uid (mailbox_of r mailbox)
kept-by r number (Flag changed at flag on) mailbox uid good h = flagged-kept (same changed mailbox) number uid at flag on (mailbox_of r mailbox)
kept-by r number (Expunge changed) mailbox uid good h = expunged-kept (same changed mailbox) number uid (mailbox_of r mailbox) good.messages.rising
kept-by r number (Copy original at target) mailbox uid good h = copied-kept (same target mailbox) number uid (kept_at at (mailbox_of r original).messages) (mailbox_of r mailbox) (upto_highest (mailbox_of r mailbox) good.messages) (copy-parts (said_by r number) original at target h).2
kept-by r number (ResetMailbox client changed) mailbox uid good h = same-kept (same changed mailbox) (reset_for number client) uid (mailbox_of r mailbox) refl
kept-by r number (Forget client changed uids) mailbox uid good h = same-kept (same changed mailbox) (taken_by client uids) uid (mailbox_of r mailbox) refl
kept-by r number (Pull upto letters) mailbox uid good h = kept_at-mails number uid (letters_to mailbox letters) (mailbox_of r mailbox) (upto_highest (mailbox_of r mailbox) good.messages) ∙ all-left (nat_lt (mailbox_of r mailbox).highest uid && nat_le uid ((mailbox_of r mailbox).highest + length (letters_to mailbox letters))) (option_map (arrived uid) (slice_get (letters_to mailbox letters) (uid - (mailbox_of r mailbox).highest - 1))) (kept_at uid (mailbox_of r mailbox).messages)
kept-by r number (MakeClient client) mailbox uid good h = kept-idle (mailbox_of r mailbox).highest uid None (kept_at uid (mailbox_of r mailbox).messages)
kept-by r number _ mailbox uid good h = kept-idle (mailbox_of r mailbox).highest uid None (kept_at uid (mailbox_of r mailbox).messages)

-- ---- the update lists

-- no uid is touched where none is concerned
nobody : (messages : List Kept) (uids : List ℕ) → uids_of (filter (λ _. false) messages) ++ uids ≡ uids
nobody messages uids = ap (λ left. uids_of left ++ uids) (filter-false messages)

everybody : (messages : List Kept) → uids_of (filter (λ _. true) messages) ++ [] ≡ uids_of messages
everybody messages = append-nil (uids_of (filter (λ _. true) messages)) ∙ ap uids_of (filter-true messages)

reached-none : (number : ℕ) (client : Bool) (list : List Listed) → reached number client [] list ≡ list
reached-none number true list = touched-none number list
reached-none number false list = touched-none number list

-- an entry that concerns nobody leaves the list
list-idle : (number : ℕ) (client : Bool) (messages : List Kept) (list : List Listed) → list ≡ reached number client (uids_of (filter (λ _. false) messages) ++ []) list
list-idle number client messages list = sym (ap (λ uids. reached number client uids list) (nobody messages []) ∙ reached-none number client list)

and-true : (b : Bool) → b ≡ (b && true)
and-true true = refl
and-true false = refl

found-set : (found : Option (List Listed)) (value : List Listed) → is_some found ≡ true → unwrap_or (option_map (λ _. value) found) [] ≡ value
found-set None value h = absurd (true≢false (sym h))
found-set (Some list) value h = refl

module _ (r : AccountRecord) (number : ℕ) (client mailbox : List ℕ) (good : IsMailbox number r.clients (mailbox_of r mailbox)) where
  -- what is touched for all is touched for each client
  touched-client : (uids other : List ℕ) → uids ≡ other → list_of (touched_for_all number uids (mailbox_of r mailbox)) client ≡ reached number (is_some (lookup (same client) r.clients)) other (list_of (mailbox_of r mailbox) client)
  touched-client uids other e =
      list_of-touched number uids (mailbox_of r mailbox) client
      ∙ (λ i. reached number (lists-clients number (mailbox_of r mailbox).highest r.clients (mailbox_of r mailbox).lists client good.lists i) (e i) (list_of (mailbox_of r mailbox) client))

  -- one client's list is set
  set-client : (name : List ℕ) (value : List Listed) → is_some (lookup (same name) r.clients) ≡ true → same name client ≡ true → unwrap_or (lookup (same client) (set_value (same name) (mailbox_of r mailbox).lists value)) [] ≡ value
  set-client name value there h =
      let has : is_some (lookup (same name) (mailbox_of r mailbox).lists) ≡ true = lists-clients number (mailbox_of r mailbox).highest r.clients (mailbox_of r mailbox).lists name good.lists ∙ there in
      rw (lookup-set_value name client (mailbox_of r mailbox).lists value, h) (found-set (lookup (same name) (mailbox_of r mailbox).lists) value has)

  set-other : (name : List ℕ) (value : List Listed) → same name client ≡ false → unwrap_or (lookup (same client) (set_value (same name) (mailbox_of r mailbox).lists value)) [] ≡ list_of (mailbox_of r mailbox) client
  set-other name value h = rw (lookup-set_value name client (mailbox_of r mailbox).lists value, h)

  abbrev box : MailboxRecord
  box = mailbox_of r mailbox

  -- the client is one
  abbrev is_one : Bool
  is_one = is_some (lookup (same client) r.clients)

  abbrev old_list : List Listed
  old_list = list_of (mailbox_of r mailbox) client

  idle : old_list ≡ reached number is_one (uids_of (filter (λ _. false) box.messages) ++ []) old_list
  idle = list-idle number is_one box.messages old_list

  dropped-list : (b : Bool) → list_of (cond b (emptied number box) box) client ≡ reached number is_one (uids_of (filter (λ _. b) box.messages) ++ []) old_list
  dropped-list true = touched-client (uids_of box.messages) (uids_of (filter (λ _. true) box.messages) ++ []) (sym (everybody box.messages))
  dropped-list false = idle

  flagged-list : (b : Bool) (at flag : ℕ) (on : Bool) → (b ≡ true → is_some (kept_at at box.messages) ≡ true) → list_of (cond b (with_flag_set number at flag on box) box) client ≡ reached number is_one (uids_of (filter (λ kept. b && at == kept.uid) box.messages) ++ []) old_list
  flagged-list true at flag on lives = touched-client (at ∷ []) (uids_of (filter (λ kept. at == kept.uid) box.messages) ++ []) (sym (append-nil (uids_of (filter (λ kept. at == kept.uid) box.messages)) ∙ uids_of-one at box.messages good.messages.rising (lives refl)))
  flagged-list false at flag on lives = idle

  expunged-list : (b : Bool) → list_of (cond b (expunged number box) box) client ≡ reached number is_one (uids_of (filter (λ kept. b && flag_of kept.flags 0) box.messages) ++ []) old_list
  expunged-list true = touched-client (uids_of (filter (λ kept. flag_of kept.flags 0) box.messages)) (uids_of (filter (λ kept. flag_of kept.flags 0) box.messages) ++ []) (sym (append-nil (uids_of (filter (λ kept. flag_of kept.flags 0) box.messages))))
  expunged-list false = idle

  copied-list : (b : Bool) (original : Option Kept) → is_some original ≡ true → list_of (cond b (option_map_or (λ kept. with_message number (copy_as (suc box.highest) kept) box) original box) box) client ≡ reached number is_one (uids_of (filter (λ _. false) box.messages) ++ numbers box.highest (cond b 1 0)) old_list
  copied-list true None h = absurd (true≢false (sym h))
  copied-list true (Some kept) h = touched-client (suc box.highest ∷ []) (uids_of (filter (λ _. false) box.messages) ++ suc box.highest ∷ []) (sym (nobody box.messages (suc box.highest ∷ [])))
  copied-list false original h = idle

  reset-list : (b : Bool) (name : List ℕ) → is_some (lookup (same name) r.clients) ≡ true → same name client ≡ b → list_of (reset_for number name box) client ≡ reached number is_one (uids_of (filter (λ _. b) box.messages) ++ []) old_list
  reset-list true name there h =
      let e = same-true name client h in
      let one : is_one ≡ true = ap (λ n. is_some (lookup (same n) r.clients)) (sym e) ∙ there in
      set-client name (touched number (uids_of box.messages) (list_of box name)) there h
      ∙ (λ i. touched number (sym (everybody box.messages) i) (list_of box (e i)))
      ∙ ap (λ c. reached number c (uids_of (filter (λ _. true) box.messages) ++ []) old_list) (sym one)
  reset-list false name there h = set-other name (touched number (uids_of box.messages) (list_of box name)) h ∙ idle

  reset-one : (b : Bool) (name : List ℕ) → is_some (lookup (same name) r.clients) ≡ true → list_of (cond b (reset_for number name box) box) client ≡ reached number is_one (uids_of (filter (λ _. b && same name client) box.messages) ++ []) old_list
  reset-one true name there = reset-list (same name client) name there refl
  reset-one false name there = idle

  -- the uids that an entry touches where it concerns nobody
  no_uids : Bool → List ℕ
  no_uids c = cond c (uids_of (filter (λ _. false) box.messages) ++ []) []

  no_uids-none : (c : Bool) → no_uids c ≡ []
  unfolding no_uids
  no_uids-none true = nobody box.messages []
  no_uids-none false = refl

  taken-list : (b c : Bool) (name uids : List ℕ) → is_some (lookup (same name) r.clients) ≡ true → same name client ≡ c → list_of (cond b (taken_by name uids box) box) client ≡ filter (λ listed. not (b && c && has_number listed.uid uids) && not (has_number listed.uid (no_uids is_one))) old_list ++ stamped number (no_uids is_one)
  unfolding no_uids
  taken-list true true name uids there h =
      let taken = filter-agree (λ (listed : Listed). not (has_number listed.uid uids)) (λ (listed : Listed). not (has_number listed.uid uids) && true) old_list (Every-from (λ (listed : Listed). not (has_number listed.uid uids) ≡ (not (has_number listed.uid uids) && true)) (λ listed. and-true (not (has_number listed.uid uids))) old_list) in
      set-client name (without uids (list_of box name)) there h
      ∙ ap (λ n. without uids (list_of box n)) (same-true name client h)
      ∙ taken
      ∙ sym (append-nil (filter (λ (listed : Listed). not (has_number listed.uid uids) && true) old_list))
      ∙ ap (λ us. filter (λ (listed : Listed). not (has_number listed.uid uids) && not (has_number listed.uid us)) old_list ++ stamped number us) (sym (no_uids-none is_one))
  taken-list true false name uids there h = set-other name (without uids (list_of box name)) h ∙ idle
  taken-list false c name uids there h = idle

  made-list : (b c : Bool) (name : List ℕ) → same name client ≡ b → (b ≡ true → c ≡ true) → list_of (with_client number name box) client ≡ filter (λ listed. not (b || false) && not (has_number listed.uid (cond c (uids_of (filter (λ _. b) box.messages) ++ []) []))) old_list ++ stamped number (cond c (uids_of (filter (λ _. b) box.messages) ++ []) [])
  made-list true c name h one =
      rw (lookup-append (same client) (others name box.lists) ((name, stamped number (uids_of box.messages)) ∷ []), lookup-others name client box.lists, h, same-sym client name, h, one refl, filter-false old_list) (ap (stamped number) (sym (everybody box.messages)))
  made-list false c name h one =
      rw (lookup-append (same client) (others name box.lists) ((name, stamped number (uids_of box.messages)) ∷ []), lookup-others name client box.lists, h, same-sym client name, h, option_or-none (lookup (same client) box.lists)) (list-idle number c box.messages old_list)

  unmade-list : (b c : Bool) (name : List ℕ) → same name client ≡ b → list_of (without_client name box) client ≡ filter (λ listed. not (b || false) && not (has_number listed.uid (no_uids c))) old_list ++ stamped number (no_uids c)
  unfolding no_uids
  unmade-list true c name h = rw (lookup-others name client box.lists, h) (sym ((λ i. filter-false old_list i ++ stamped number (no_uids-none c i))))
  unmade-list false c name h = rw (lookup-others name client box.lists, h) (list-idle number c box.messages old_list)

  is_one-made : (name : List ℕ) → same name client ≡ true → is_some (lookup (same client) (others name r.clients ++ (name, number) ∷ [])) ≡ true
  is_one-made name h = rw (lookup-append (same client) (others name r.clients) ((name, number) ∷ []), lookup-others name client r.clients, h, same-sym client name, h)

  list-by : (e : Entry) → is_allowed (said_by r number) e ≡ true → list_of (box_by r number e mailbox box) client ≡ changes_with e number client mailbox (cond (is_client_after (said_by r number) e client) (touched_uids e client mailbox box) []) old_list
  unfolding no_uids
  list-by (DropMailbox dropped) h = dropped-list (same dropped mailbox)
  list-by (Flag changed at flag on) h = flagged-list (same changed mailbox) at flag on (λ e. ap (λ m. is_some (kept_at at (mailbox_of r m).messages)) (sym (same-true changed mailbox e)) ∙ some-from_map_or _ _ (and_parts _ _ h).1)
  list-by (Expunge changed) h = expunged-list (same changed mailbox)
  list-by (Copy original at target) h = copied-list (same target mailbox) (kept_at at (mailbox_of r original).messages) (copy-parts (said_by r number) original at target h).2
  list-by (MakeClient name) h = made-list (same name client) (is_some (lookup (same client) (others name r.clients ++ (name, number) ∷ []))) name refl (is_one-made name)
  list-by (DropClient name) h = unmade-list (same name client) (is_some (lookup (same client) (others name r.clients))) name refl
  list-by (ResetClient name) h = reset-list (same name client) name h refl
  list-by (ResetMailbox name changed) h = reset-one (same changed mailbox) name (and_parts _ _ h).0
  list-by (Forget name changed uids) h = taken-list (same changed mailbox) (same name client) name uids (forget-parts (said_by r number) name changed uids h).0 refl
  list-by (Pull upto letters) h = list_of-mails number (letters_to mailbox letters) box client ∙ (λ i. reached number (lists-clients number box.highest r.clients box.lists client good.lists i) (sym (nobody box.messages (numbers box.highest (length (letters_to mailbox letters)))) i) old_list)
  list-by (MakeMailbox made) h = idle
  list-by _ h = idle

-- ---- what doesn't stand under a mailbox name

letters-clients : (number : ℕ) (letters : List (List ℕ × List (List ℕ))) (r : AccountRecord) → (with_letters number letters r).clients ≡ r.clients
letters-clients number [] r = refl
letters-clients number (letter ∷ letters) r = letters-clients number letters (with_letter number letter r)

letters-live : (number : ℕ) (letters : List (List ℕ × List (List ℕ))) (r : AccountRecord) → keys_of (with_letters number letters r).live ≡ keys_of r.live
letters-live number [] r = refl
letters-live number (letter ∷ letters) r = letters-live number letters (with_letter number letter r) ∙ keys-set_value (same letter.0) r.live (with_message number (arrived (suc (mailbox_of r letter.0).highest) letter.1) (mailbox_of r letter.0))

pub letters-dropped : (number : ℕ) (letters : List (List ℕ × List (List ℕ))) (r : AccountRecord) → (with_letters number letters r).dropped ≡ r.dropped
letters-dropped number [] r = refl
letters-dropped number (letter ∷ letters) r = letters-dropped number letters (with_letter number letter r)

letters-rest : (number : ℕ) (letters : List (List ℕ × List (List ℕ))) (r : AccountRecord) → ((with_letters number letters r).digest ≡ r.digest) × ((with_letters number letters r).subscriptions ≡ r.subscriptions)
letters-rest number [] r = (refl, refl)
letters-rest number (letter ∷ letters) r = letters-rest number letters (with_letter number letter r)

-- the table of those that live and the other fields after an entry
pub record Fields (r : AccountRecord) (number : ℕ) (e : Entry) (new : AccountRecord) : Type 0 where
  pub pulled : new.pulled ≡ pulled_after e r.pulled
  pub digest : new.digest ≡ digest_after e r.digest
  pub clients : new.clients ≡ clients_after e number r.clients
  pub live : keys_of new.live ≡ live_after e (keys_of r.live)
  pub dropped : keys_of new.dropped ≡ dropped_after e (keys_of r.dropped)
  pub subscriptions : new.subscriptions ≡ subscriptions_after e r.subscriptions

pub Fields-after : (r : AccountRecord) (number : ℕ) (e : Entry) → Fields r number e (after r number e)
Fields-after r number (MakeMailbox mailbox) = record { pulled = refl; digest = refl; clients = refl; live = keys-append (others mailbox r.live) ((mailbox, mailbox_of r mailbox) ∷ []) ∙ ap (λ names. names ++ mailbox ∷ []) (keys-others mailbox r.live); dropped = keys-others mailbox r.dropped; subscriptions = refl }
Fields-after r number (DropMailbox mailbox) = record { pulled = refl; digest = refl; clients = refl; live = keys-others mailbox r.live; dropped = keys-append (others mailbox r.dropped) ((mailbox, emptied number (mailbox_of r mailbox)) ∷ []) ∙ ap (λ names. names ++ mailbox ∷ []) (keys-others mailbox r.dropped); subscriptions = refl }
Fields-after r number (Flag mailbox uid flag on) = record { pulled = refl; digest = refl; clients = refl; live = keys-set_value (same mailbox) r.live (with_flag_set number uid flag on (mailbox_of r mailbox)); dropped = refl; subscriptions = refl }
Fields-after r number (Expunge mailbox) = record { pulled = refl; digest = refl; clients = refl; live = keys-set_value (same mailbox) r.live (expunged number (mailbox_of r mailbox)); dropped = refl; subscriptions = refl }
Fields-after r number (Copy mailbox uid target) = elim (kept_at uid (mailbox_of r mailbox).messages) as (λ o. Fields r number (Copy mailbox uid target) (option_map_or (λ kept. at_mailbox target (λ box. with_message number (copy_as (suc box.highest) kept) box) r) o r)) [
  | None ↦ record { pulled = refl; digest = refl; clients = refl; live = refl; dropped = refl; subscriptions = refl }
  | Some kept ↦ record { pulled = refl; digest = refl; clients = refl; live = keys-set_value (same target) r.live (with_message number (copy_as (suc (mailbox_of r target).highest) kept) (mailbox_of r target)); dropped = refl; subscriptions = refl }
]
Fields-after r number (MakeClient client) = record { pulled = refl; digest = refl; clients = refl; live = keys-map_values (with_client number client) r.live; dropped = keys-map_values (with_client number client) r.dropped; subscriptions = refl }
Fields-after r number (DropClient client) = record { pulled = refl; digest = refl; clients = refl; live = keys-map_values (without_client client) r.live; dropped = keys-map_values (without_client client) r.dropped; subscriptions = refl }
Fields-after r number (ResetClient client) = record { pulled = refl; digest = refl; clients = refl; live = keys-map_values (reset_for number client) r.live; dropped = keys-map_values (reset_for number client) r.dropped; subscriptions = refl }
Fields-after r number (ResetMailbox client mailbox) = record { pulled = refl; digest = refl; clients = refl; live = keys-set_value (same mailbox) r.live (reset_for number client (mailbox_of r mailbox)); dropped = refl; subscriptions = refl }
Fields-after r number (Forget client mailbox uids) = record { pulled = refl; digest = refl; clients = refl; live = keys-set_value (same mailbox) r.live (taken_by client uids (mailbox_of r mailbox)); dropped = refl; subscriptions = refl }
Fields-after r number (Pull upto letters) = record { pulled = refl; digest = (letters-rest number letters r).0; clients = letters-clients number letters r; live = letters-live number letters r; dropped = ap keys_of (letters-dropped number letters r); subscriptions = (letters-rest number letters r).1 }
Fields-after r number (Password digest) = record { pulled = refl; digest = refl; clients = refl; live = refl; dropped = refl; subscriptions = refl }
Fields-after r number (Subscribe board) = record { pulled = refl; digest = refl; clients = refl; live = refl; dropped = refl; subscriptions = refl }
Fields-after r number (Unsubscribe board) = record { pulled = refl; digest = refl; clients = refl; live = refl; dropped = refl; subscriptions = refl }
Fields-after r number (Mark board uid) = record { pulled = refl; digest = refl; clients = refl; live = refl; dropped = refl; subscriptions = refl }

-- ---- all together

module _ (r : AccountRecord) (number : ℕ) (e : Entry) (formed : IsWellFormed r number) (allowed : is_allowed (said_by r number) e ≡ true) where
  highest-after : (mailbox : List ℕ) → (mailbox_of r mailbox).highest + gives e mailbox ≡ (mailbox_of (after r number e) mailbox).highest
  highest-after mailbox = sym (ap (λ (box : MailboxRecord). box.highest) (mailbox_of-after r number e mailbox formed allowed) ∙ highest-by r number e mailbox (mailbox_of r mailbox) allowed)

  kept-after : (mailbox : List ℕ) (uid : ℕ) → kept_after (said_by r number) e mailbox uid ≡ kept_at uid (mailbox_of (after r number e) mailbox).messages
  kept-after mailbox uid = sym (ap (λ (box : MailboxRecord). kept_at uid box.messages) (mailbox_of-after r number e mailbox formed allowed) ∙ kept-by r number e mailbox uid (IsMailbox-mailbox_of r number mailbox formed) allowed)

  changes-after : (client mailbox : List ℕ) → changes_after (said_by r number) e client mailbox ≡ list_of (mailbox_of (after r number e) mailbox) client
  changes-after client mailbox =
      changes-step r number e client mailbox (IsMailbox-mailbox_of r number mailbox formed).messages
      ∙ sym (list-by r number client mailbox (IsMailbox-mailbox_of r number mailbox formed) e allowed)
      ∙ sym (ap (λ (box : MailboxRecord). list_of box client) (mailbox_of-after r number e mailbox formed allowed))

  listed-after : (client mailbox : List ℕ) (uid : ℕ) → listed_after (said_by r number) e client mailbox uid ≡ stamp_at uid (list_of (mailbox_of (after r number e) mailbox) client)
  listed-after client mailbox uid = sym (listed-step r number e client mailbox uid (IsMailbox-mailbox_of r number mailbox formed).messages) ∙ ap (stamp_at uid) (changes-after client mailbox)

  -- what is known after an entry is what the record says after it
  pub after-said_by : after_entry (said_by r number) e ≡ said_by (after r number e) (suc number)
  after-said_by =
      let fields = Fields-after r number e in
      λ i. record {
        next = suc number;
        pulled = sym fields.pulled i;
        digest = sym fields.digest i;
        clients = sym fields.clients i;
        live = sym fields.live i;
        dropped = sym fields.dropped i;
        subscriptions = sym fields.subscriptions i;
        highest = λ mailbox. highest-after mailbox i;
        kept = λ mailbox uid. kept-after mailbox uid i;
        listed = λ client mailbox uid. listed-after client mailbox uid i;
        changes = λ client mailbox. changes-after client mailbox i;
      }
