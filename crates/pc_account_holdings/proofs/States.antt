-- What the steps on the parts of the holdings make of the state.
use Rattle.std.proofs.Common.{◌≡◌, ℕ, suc, false, List, [], ◌∷◌, ◌++◌, Option, None, Some, unwrap_or, refl, sym, ap, ◌∙◌}
use Rattle.std.specs.Option.{option_map, option_map_or}
use Rattle.std.specs.Map.{lookup, set_value}
use Rattle.pc_mailbox.specs.Mailbox.{flags_at, message_at}
use Rattle.pc_account_history.specs.declared.kept.Kept.{Kept}
use Rattle.pc_account_history.specs.declared.entry.Entry.TheVariants as entry
use Rattle.pc_message.specs.Flags.{flags_with}
use Rattle.pc_tables.specs.Table.{same, others}
use Rattle.pc_account_history.specs.Record.{MailboxRecord, AccountRecord, mailbox_of, new_mailbox, kept_at}
use Rattle.pc_account_history.specs.Effect.{copy_as}
use Rattle.pc_account_history.specs.Step.{with_message, emptied, at_mailbox, at_all, with_letter, with_letters}
use Rattle.pc_tables.proofs.Table.{others-absent, unset}
use Rattle.pc_tables.proofs.Options.{some-same, some-none}
use Rattle.pc_account_holdings.specs.Mailboxes.{Table, changed_at, changed_for, added, delivered}
use Rattle.pc_account_holdings.specs.declared.mailboxes.ClientChange.TheVariants.{Made}
use Rattle.pc_account_holdings.specs.State.{State, entered}

-- ---- one mailbox that lives

changed-found : (name : List ℕ) (change : MailboxRecord → MailboxRecord) (table : Table) (other : MailboxRecord) (found : Option MailboxRecord) → lookup (same name) table ≡ found → option_map_or (λ box. set_value (same name) table (change box)) found table ≡ set_value (same name) table (change (unwrap_or found other))
changed-found name change table other None e = sym (unset name table (change other) (sym e))
changed-found name change table other (Some box) e = refl

pub changed-at : (name : List ℕ) (change : MailboxRecord → MailboxRecord) (r : AccountRecord) → changed_at name change r.live ≡ set_value (same name) r.live (change (mailbox_of r name))
changed-at name change r = changed-found name change r.live (unwrap_or (lookup (same name) r.dropped) (new_mailbox r.clients)) (lookup (same name) r.live) refl

pub entered-at : (s : State) (name : List ℕ) (change : MailboxRecord → MailboxRecord) (live : Table) → live ≡ changed_at name change s.held.live → ◌≡◌ {A = State} (record s { held = record s.held { live = live } }) (record s { held = at_mailbox name change s.held })
entered-at s name change live e = ap (λ (l : Table). record s { held = record s.held { live = l } }) (e ∙ changed-at name change s.held)

-- ---- letters

pub with_letters-live : (number : ℕ) (letters : List (List ℕ × List (List ℕ))) (r : AccountRecord) → with_letters number letters r ≡ record r { live = delivered number letters r.live }
with_letters-live number [] r = refl
with_letters-live number (letter ∷ letters) r =
    with_letters-live number letters (with_letter number letter r)
    ∙ ap (λ (live : Table). record r { live = delivered number letters live }) (sym (changed-at letter.0 (added number 0 letter.1) r))

pub entered-pull : (s : State) (upto : ℕ) (letters : List (List ℕ × List (List ℕ))) (live : Table) → live ≡ delivered s.next letters s.held.live → ◌≡◌ {A = State} (record s { held = record s.held { live = live; pulled = upto } }) (entered s (entry.Pull upto letters))
entered-pull s upto letters live e =
    ap (λ (l : Table). record s { held = record s.held { live = l; pulled = upto } }) e
    ∙ ap (λ (r : AccountRecord). record s { held = record r { pulled = upto } }) (sym (with_letters-live s.next letters s.held))

-- ---- a copy

copied : (s : State) (target : List ℕ) (flags : ℕ) (message : List (List ℕ)) (live : Table) (found : Option Kept)
    → Some flags ≡ option_map (λ (kept : Kept). kept.flags) found → Some message ≡ option_map (λ (kept : Kept). kept.message) found
    → live ≡ changed_at target (added s.next (flags_with flags 0 false) message) s.held.live
    → ◌≡◌ {A = State} (record s { held = record s.held { live = live } }) (record s { held = option_map_or (λ (kept : Kept). at_mailbox target (λ box. with_message s.next (copy_as (suc box.highest) kept) box) s.held) found s.held })
copied s target flags message live None f m e = absurd (some-none flags f)
copied s target flags message live (Some kept) f m e =
    let same-flags = some-same flags kept.flags f in
    let same-message = some-same message kept.message m in
    entered-at s target (added s.next (flags_with kept.flags 0 false) kept.message) live (e ∙ ap (λ (n : ℕ). changed_at target (added s.next (flags_with n 0 false) message) s.held.live) same-flags ∙ ap (λ (l : List (List ℕ)). changed_at target (added s.next (flags_with kept.flags 0 false) l) s.held.live) same-message)

pub entered-copy : (s : State) (name target : List ℕ) (uid flags : ℕ) (message : List (List ℕ)) (box : MailboxRecord) (live : Table)
    → Some box ≡ lookup (same name) s.held.live → Some flags ≡ flags_at uid box → Some message ≡ message_at uid box
    → live ≡ changed_at target (added s.next (flags_with flags 0 false) message) s.held.live
    → ◌≡◌ {A = State} (record s { held = record s.held { live = live } }) (entered s (entry.Copy name uid target))
entered-copy s name target uid flags message box live found f m e =
    copied s target flags message live (kept_at uid box.messages) f m e
    ∙ ap (λ (o : Option MailboxRecord). record s { held = option_map_or (λ (kept : Kept). at_mailbox target (λ (b : MailboxRecord). with_message s.next (copy_as (suc b.highest) kept) b) s.held) (kept_at uid (unwrap_or o (unwrap_or (lookup (same name) s.held.dropped) (new_mailbox s.held.clients))).messages) s.held }) found

-- ---- a mailbox that is dropped, or made

pub entered-drop : (s : State) (name : List ℕ) (box emptied-box : MailboxRecord) (live dropped : Table)
    → Some box ≡ lookup (same name) s.held.live → lookup (same name) s.held.dropped ≡ None
    → live ≡ others name s.held.live → emptied-box ≡ emptied s.next box → dropped ≡ s.held.dropped ++ (name, emptied-box) ∷ []
    → ◌≡◌ {A = State} (record s { held = record s.held { live = live; dropped = dropped } }) (entered s (entry.DropMailbox name))
entered-drop s name box emptied-box live dropped found absent el eb ed =
    let r = s.held in
    let other = unwrap_or (lookup (same name) r.dropped) (new_mailbox r.clients) in
    let last : (name, emptied-box) ≡ (name, emptied s.next (mailbox_of r name)) = ap (λ (b : MailboxRecord). (name, b)) (eb ∙ ap (λ (o : Option MailboxRecord). emptied s.next (unwrap_or o other)) found) in
    let ends : dropped ≡ others name r.dropped ++ (name, emptied s.next (mailbox_of r name)) ∷ [] = ed ∙ ap (λ (t : Table). t ++ (name, emptied-box) ∷ []) (sym (others-absent name r.dropped absent)) ∙ ap (λ (e : List ℕ × MailboxRecord). others name r.dropped ++ e ∷ []) last in
    λ i. record s { held = record r { live = el i; dropped = ends i } }

pub entered-make : (s : State) (name : List ℕ) (box : MailboxRecord) (live dropped : Table)
    → lookup (same name) s.held.live ≡ None
    → box ≡ unwrap_or (lookup (same name) s.held.dropped) (new_mailbox s.held.clients) → dropped ≡ others name s.held.dropped
    → live ≡ s.held.live ++ (name, box) ∷ []
    → ◌≡◌ {A = State} (record s { held = record s.held { live = live; dropped = dropped } }) (entered s (entry.MakeMailbox name))
entered-make s name box live dropped absent eb ed el =
    let r = s.held in
    let other = unwrap_or (lookup (same name) r.dropped) (new_mailbox r.clients) in
    let last : (name, box) ≡ (name, mailbox_of r name) = ap (λ (b : MailboxRecord). (name, b)) (eb ∙ ap (λ (o : Option MailboxRecord). unwrap_or o other) (sym absent)) in
    let ends : live ≡ others name r.live ++ (name, mailbox_of r name) ∷ [] = el ∙ ap (λ (t : Table). t ++ (name, box) ∷ []) (sym (others-absent name r.live absent)) ∙ ap (λ (e : List ℕ × MailboxRecord). others name r.live ++ e ∷ []) last in
    λ i. record s { held = record r { live = ends i; dropped = ed i } }

-- ---- a client that is made

pub entered-client : (s : State) (client : List ℕ) (clients : List (List ℕ × ℕ)) (new : State)
    → lookup (same client) s.held.clients ≡ None → clients ≡ s.held.clients ++ (client, s.next) ∷ []
    → new ≡ record s { held = at_all clients (changed_for Made s.next client) s.held }
    → new ≡ entered s (entry.MakeClient client)
entered-client s client clients new absent ec en =
    en ∙ ap (λ (cs : List (List ℕ × ℕ)). record s { held = at_all cs (changed_for Made s.next client) s.held }) (ec ∙ ap (λ (cs : List (List ℕ × ℕ)). cs ++ (client, s.next) ∷ []) (sym (others-absent client s.held.clients absent)))

pub entered-subscribe : (s : State) (board : List ℕ) (subscriptions : List (List ℕ × ℕ))
    → lookup (same board) s.held.subscriptions ≡ None → subscriptions ≡ s.held.subscriptions ++ (board, 0) ∷ []
    → ◌≡◌ {A = State} (record s { held = record s.held { subscriptions = subscriptions } }) (entered s (entry.Subscribe board))
entered-subscribe s board subscriptions absent e =
    ap (λ (l : List (List ℕ × ℕ)). record s { held = record s.held { subscriptions = l } }) (e ∙ ap (λ (l : List (List ℕ × ℕ)). l ++ (board, 0) ∷ []) (sym (others-absent board s.held.subscriptions absent)))
