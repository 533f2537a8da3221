-- One entry more: what the record says after it is what is known after it.
use Rattle.std.proofs.Common.{◌≡◌, ℕ, ◌<◌, ◌≤◌, Bool, true, false, cond, not, ◌&&◌, ◌||◌, nat_lt, nat_le, List, [], ◌∷◌, ◌++◌, length, map, filter, Option, None, Some, is_some, unwrap_or, option_map, MatchOption, refl, sym, ◌∙◌, ap, arith, append-nil, true≢false}
use Rattle.std.specs.Prelude.{⊤}
use Rattle.std.specs.List.{AllByRecursion as Every, list_all}
use Rattle.std.specs.Map.{lookup, keys_of}
use Rattle.std.specs.Option.{option_or}
use Rattle.std.proofs.lemmas.Bool.{and_parts}
use Rattle.pc_message.specs.declared.lists.Mail.{Mail}
use Rattle.pc_message.specs.declared.limits.TheConstants.{LAST_MAIL}
use Rattle.pc_tables.specs.Table.{same, is_among}
use Rattle.pc_tables.proofs.Booleans.{and3}
use Rattle.pc_tables.proofs.Table.{same-true, same-sym, same-refl, lookup-append, lookup-others, lookup-set_value, keys-append, keys-others, keys-set_value, is_among-keys}
use Rattle.pc_tables.proofs.Lists.{Every-weaker, Every-append}
use Rattle.pc_tables.proofs.Options.{option_or-none}
use Rattle.pc_office_history.specs.declared.kept.Target.{Target}
use Rattle.pc_office_history.specs.declared.kept.KeptMail.{KeptMail}
use Rattle.pc_office_history.specs.declared.entry.OfficeEntry.{OfficeEntry}
use Rattle.pc_office_history.specs.declared.entry.OfficeEntry.TheVariants.{AddUser, AddBoard, TakeAddress, DropAddress, Accept, Pulled}
use Rattle.pc_office_history.specs.Record.{OfficeRecord, mail_at, target_of, mail_for, mails_for}
use Rattle.pc_office_history.specs.Effect.{users_after, boards_after, addresses_after, owner_after, noted_after, accepted_after, new_messages}
use Rattle.pc_office_history.specs.Known.{Known, said_by, waiting_after, after_entry, is_past}
use Rattle.pc_office_history.specs.Allowed.{is_allowed, is_user, is_board, is_address, is_free, is_recipient, are_apart}
use Rattle.pc_office_history.specs.Step.{after, with_message, new_mail, still_waiting, pulled_by}
use Rattle.pc_office_history.specs.Legal.{IsKept, IsWellFormed}
use Rattle.pc_office_history.proofs.Mails.{mails_for-append, mails_for-left, pulled-other, pulled-own, past-all, Every-mails_for, mail-unpulled, noted-below}

-- ---- what an allowed entry has

free-parts : (a b c : Bool) → not (a || b || c) ≡ true → (a ≡ false) × (b ≡ false) × (c ≡ false)
free-parts true b c h = absurd (true≢false (sym h))
free-parts false true c h = absurd (true≢false (sym h))
free-parts false false true h = absurd (true≢false (sym h))
free-parts false false false h = (refl, refl, refl)

pub is_free-parts : (k : Known) (name : List ℕ) → is_free k name ≡ true → (is_user k name ≡ false) × (is_board k name ≡ false) × (is_address k name ≡ false)
is_free-parts k name h = free-parts (is_user k name) (is_board k name) (is_address k name) h

and4 : (a b c d : Bool) → (a && b && c && d) ≡ true → (a ≡ true) × (b ≡ true) × (c ≡ true) × (d ≡ true)
and4 true b c d h = let rest = and3 b c d h in (refl, rest.0, rest.1, rest.2)
and4 false b c d h = absurd (true≢false (sym h))

pub accept-parts : (k : Known) (names message : List (List ℕ)) → is_allowed k (Accept names message) ≡ true → (nat_lt 0 (length names) ≡ true) × (are_apart names ≡ true) × (list_all (is_recipient k) names ≡ true) × (nat_lt k.accepted LAST_MAIL ≡ true)
accept-parts k names message h = and4 (nat_lt 0 (length names)) (are_apart names) (list_all (is_recipient k) names) (nat_lt k.accepted LAST_MAIL) h

pub pulled-parts : (k : Known) (user : List ℕ) (number : ℕ) → is_allowed k (Pulled user number) ≡ true → (is_user k user ≡ true) × (nat_lt (k.noted user) number ≡ true) × (nat_le number k.accepted ≡ true)
pulled-parts k user number h = and3 (is_user k user) (nat_lt (k.noted user) number) (nat_le number k.accepted) h

pub absent : {X : Type 0} (found : Option X) → is_some found ≡ false → found ≡ None
absent None h = refl
absent (Some x) h = absurd (true≢false h)

-- ---- tables

pub lookup-push : {X : Type 0} (name asked : List ℕ) (x : X) (table : List (List ℕ × X)) → lookup (same name) table ≡ None → lookup (same asked) (table ++ (name, x) ∷ []) ≡ cond (same name asked) (Some x) (lookup (same asked) table)
lookup-push {X} name asked x table free = lookup-append (same asked) table ((name, x) ∷ []) ∙ elim (same name asked) as (λ b. same name asked ≡ b → option_or (lookup (same asked) table) (cond (same asked name) (Some x) None) ≡ cond b (Some x) (lookup (same asked) table)) [
  | true ↦ λ e. ap (λ n. option_or (lookup (same n) table) (cond (same n name) (Some x) None)) (sym (same-true name asked e)) ∙ (λ i. option_or (free i) (cond (same-refl name i) (Some x) None))
  | false ↦ λ e. ap (λ b. option_or (lookup (same asked) table) (cond b (Some x) None)) (same-sym asked name ∙ e) ∙ option_or-none (lookup (same asked) table)
] refl

-- one more name, with what a name without a value has
default-push : {X : Type 0} (asked name : List ℕ) (d : X) (table : List (List ℕ × X)) → unwrap_or (lookup (same asked) (table ++ (name, d) ∷ [])) d ≡ unwrap_or (lookup (same asked) table) d
default-push {X} asked name d table = ap (λ o. unwrap_or o d) (lookup-append (same asked) table ((name, d) ∷ [])) ∙ elim (lookup (same asked) table) as (λ o. unwrap_or (option_or o (cond (same asked name) (Some d) None)) d ≡ unwrap_or o d) [
  | None ↦ elim (same asked name) as (λ b. unwrap_or (cond b (Some d) None) d ≡ d) [ true ↦ refl | false ↦ refl ]
  | Some x ↦ refl
]

pub keys-new_messages : (names message : List (List ℕ)) (boards : List (List ℕ × List (List (List ℕ)))) → keys_of (with_message names message boards) ≡ keys_of boards
keys-new_messages names message [] = refl
keys-new_messages names message (board ∷ boards) = ap (λ keys. board.0 ∷ keys) (keys-new_messages names message boards)

lookup-new_messages : (names message : List (List ℕ)) (boards : List (List ℕ × List (List (List ℕ)))) (asked : List ℕ) → lookup (same asked) (with_message names message boards) ≡ option_map (λ messages. cond (is_among asked names) (messages ++ message ∷ []) messages) (lookup (same asked) boards)
lookup-new_messages names message [] asked = refl
lookup-new_messages names message (board ∷ boards) asked = elim (same asked board.0) as (λ b. same asked board.0 ≡ b → cond b (Some (cond (is_among board.0 names) (board.1 ++ message ∷ []) board.1)) (lookup (same asked) (with_message names message boards)) ≡ option_map (λ messages. cond (is_among asked names) (messages ++ message ∷ []) messages) (cond b (Some board.1) (lookup (same asked) boards))) [
  | true ↦ λ e. ap (λ n. Some (cond (is_among n names) (board.1 ++ message ∷ []) board.1)) (sym (same-true asked board.0 e))
  | false ↦ λ e. lookup-new_messages names message boards asked
] refl

found-new_messages : (message : List (List ℕ)) (named : Bool) (found : Option (List (List (List ℕ)))) → unwrap_or (option_map (λ messages. cond named (messages ++ message ∷ []) messages) found) [] ≡ unwrap_or found [] ++ cond (named && is_some found) (message ∷ []) []
found-new_messages message true None = refl
found-new_messages message false None = refl
found-new_messages message true (Some messages) = refl
found-new_messages message false (Some messages) = sym (append-nil messages)

-- what is noted of a user is no more than the mails
pub noted-upto : (most : ℕ) (asked : List ℕ) (users : List (List ℕ × ℕ)) → Every (λ (user : List ℕ × ℕ). user.1 ≤ most) users → unwrap_or (lookup (same asked) users) 0 ≤ most
noted-upto most asked [] h = omega arith
noted-upto most asked (user ∷ users) h = elim (same asked user.0) as (λ b. unwrap_or (cond b (Some user.1) (lookup (same asked) users)) 0 ≤ most) [ true ↦ h.0 | false ↦ noted-upto most asked users h.1 ]

-- ---- all together

module _ (r : OfficeRecord) (formed : IsWellFormed r) where
  abbrev noted_of : List ℕ → ℕ
  noted_of user = unwrap_or (lookup (same user) r.users) 0

  -- what waits for a user is for a user, who isn't noted to have pulled it
  pub waiting-unpulled : (user : List ℕ) → Every (λ (mail : Mail). MatchOption (lookup (same user) r.users) ⊥ (λ noted. noted < mail.number)) (mails_for user r.kept)
  waiting-unpulled user =
      Every-mails_for (λ (mail : Mail). MatchOption (lookup (same user) r.users) ⊥ (λ noted. noted < mail.number)) user r.kept
      (Every-weaker (IsKept r.users r.accepted) (λ (mail : KeptMail). MatchOption (mail_for user mail) ⊤ (λ waits. MatchOption (lookup (same user) r.users) ⊥ (λ noted. noted < waits.number))) (λ mail h. mail-unpulled r.users user mail h.unpulled) r.kept formed.kept)

  -- what waits for a user is past what is noted of it
  pub waiting-past : (user : List ℕ) → Every (λ (mail : Mail). noted_of user < mail.number) (mails_for user r.kept)
  waiting-past user = Every-weaker (λ (mail : Mail). MatchOption (lookup (same user) r.users) ⊥ (λ noted. noted < mail.number)) (λ (mail : Mail). noted_of user < mail.number) (λ mail h. noted-below (lookup (same user) r.users) mail.number h) (mails_for user r.kept) (waiting-unpulled user)

  absent-address : (name : List ℕ) → is_free (said_by r) name ≡ true → lookup (same name) r.addresses ≡ None
  absent-address name h = absent (lookup (same name) r.addresses) (is_free-parts (said_by r) name h).2

  users-step : (e : OfficeEntry) → users_after e (keys_of r.users) ≡ keys_of (after r e).users
  users-step (AddUser user) = sym (keys-append r.users ((user, 0) ∷ []))
  users-step (Pulled user number) = sym (keys-set_value (same user) r.users number)
  users-step (AddBoard board) = refl
  users-step _ = refl

  boards-step : (e : OfficeEntry) → boards_after e (keys_of r.boards) ≡ keys_of (after r e).boards
  boards-step (AddBoard board) = sym (keys-append r.boards ((board, []) ∷ []))
  boards-step (Accept names message) = sym (keys-new_messages names message r.boards)
  boards-step (AddUser user) = refl
  boards-step _ = refl

  addresses-step : (e : OfficeEntry) → addresses_after e (keys_of r.addresses) ≡ keys_of (after r e).addresses
  addresses-step (AddUser user) = sym (keys-append r.addresses ((user, _) ∷ []))
  addresses-step (TakeAddress address user mailbox) = sym (keys-append r.addresses ((address, record { user = user; mailbox = mailbox }) ∷ []))
  addresses-step (DropAddress address) = sym (keys-others address r.addresses)
  addresses-step (AddBoard board) = refl
  addresses-step _ = refl

  owner-step : (e : OfficeEntry) → is_allowed (said_by r) e ≡ true → (address : List ℕ) → owner_after e address (lookup (same address) r.addresses) ≡ lookup (same address) (after r e).addresses
  owner-step (AddUser user) h address = sym (lookup-push user address _ r.addresses (absent-address user h))
  owner-step (TakeAddress taken user mailbox) h address = sym (lookup-push taken address (record { user = user; mailbox = mailbox }) r.addresses (absent-address taken (and_parts _ _ h).0))
  owner-step (DropAddress dropped) h address = sym (lookup-others dropped address r.addresses)
  owner-step (AddBoard board) h address = refl
  owner-step _ h address = refl

  noted-step : (e : OfficeEntry) → is_allowed (said_by r) e ≡ true → (user : List ℕ) → noted_after e user (noted_of user) ≡ unwrap_or (lookup (same user) (after r e).users) 0
  noted-step (AddUser made) h user = sym (default-push user made 0 r.users)
  noted-step (Pulled by number) h user = sym (ap (λ o. unwrap_or o 0) (lookup-set_value by user r.users number) ∙ set-noted (same by user) (lookup (same by) r.users) (lookup (same user) r.users) (sym (is_among-keys by r.users) ∙ (pulled-parts (said_by r) by number h).0))
    where
      set-noted : (b : Bool) (one other : Option ℕ) → is_some one ≡ true → unwrap_or (cond b (option_map (λ _. number) one) other) 0 ≡ cond b number (unwrap_or other 0)
      set-noted true None other g = absurd (true≢false (sym g))
      set-noted true (Some old) other g = refl
      set-noted false one other g = refl
  noted-step (AddBoard board) h user = refl
  noted-step _ h user = refl

  accepted-step : (e : OfficeEntry) → accepted_after e r.accepted ≡ (after r e).accepted
  accepted-step (Accept names message) = refl
  accepted-step (AddUser user) = refl
  accepted-step _ = refl

  messages-step : (e : OfficeEntry) → (board : List ℕ) → unwrap_or (lookup (same board) r.boards) [] ++ new_messages e (keys_of r.boards) board ≡ unwrap_or (lookup (same board) (after r e).boards) []
  messages-step (AddBoard made) board = append-nil (unwrap_or (lookup (same board) r.boards) []) ∙ sym (default-push board made [] r.boards)
  messages-step (Accept names message) board = sym (
      ap (λ o. unwrap_or o []) (lookup-new_messages names message r.boards board)
      ∙ found-new_messages message (is_among board names) (lookup (same board) r.boards)
      ∙ ap (λ b. unwrap_or (lookup (same board) r.boards) [] ++ cond (is_among board names && b) (message ∷ []) []) (sym (is_among-keys board r.boards))
      )
  messages-step (AddUser user) board = append-nil (unwrap_or (lookup (same board) r.boards) [])
  messages-step _ board = append-nil (unwrap_or (lookup (same board) r.boards) [])

  idle : (user : List ℕ) → filter (is_past (noted_of user)) (mails_for user r.kept ++ []) ≡ mails_for user r.kept
  idle user = ap (filter (is_past (noted_of user))) (append-nil (mails_for user r.kept)) ∙ past-all (noted_of user) (mails_for user r.kept) (waiting-past user)

  new-past : (names message : List (List ℕ)) (user : List ℕ) (found : Option Target) → MatchOption (option_map (mail_at (new_mail r names message)) found) ⊤ (λ mail. noted_of user < mail.number)
  new-past names message user None = tt
  new-past names message user (Some target) = omega (arith, noted-upto r.accepted user r.users formed.noted)

  waiting-step : (e : OfficeEntry) → (user : List ℕ) → waiting_after (said_by r) e user ≡ mails_for user (after r e).kept
  waiting-step (Accept names message) user =
      let new = new_mail r names message in
      past-all (noted_of user) (mails_for user r.kept ++ mails_for user (new ∷ []))
      (Every-append (λ (mail : Mail). noted_of user < mail.number) (mails_for user r.kept) (mails_for user (new ∷ [])) (waiting-past user) (Every-mails_for (λ (mail : Mail). noted_of user < mail.number) user (new ∷ []) (new-past names message user (target_of user new.targets), tt)))
      ∙ sym (mails_for-append user r.kept (still_waiting (new ∷ [])) ∙ ap (λ mails. mails_for user r.kept ++ mails) (mails_for-left user (new ∷ [])))
  waiting-step (Pulled by number) user =
      sym (mails_for-left user (map (pulled_by by number) r.kept)
      ∙ elim (same by user) as (λ b. same by user ≡ b → mails_for user (map (pulled_by by number) r.kept) ≡ filter (is_past (cond b number (noted_of user))) (mails_for user r.kept ++ [])) [
        | true ↦ λ e. pulled-own user by number r.kept e ∙ sym (ap (filter (is_past number)) (append-nil (mails_for user r.kept)))
        | false ↦ λ e. pulled-other user by number r.kept e ∙ sym (idle user)
      ] refl)
  waiting-step (AddUser made) user = idle user
  waiting-step _ user = idle user

  -- what is known after an entry is what the record says after it
  pub after-said_by : (e : OfficeEntry) → is_allowed (said_by r) e ≡ true → after_entry (said_by r) e ≡ said_by (after r e)
  after-said_by e allowed = λ i. record {
    users = users-step e i;
    boards = boards-step e i;
    addresses = addresses-step e i;
    owner = λ address. owner-step e allowed address i;
    noted = λ user. noted-step e allowed user i;
    accepted = accepted-step e i;
    waiting = λ user. waiting-step e user i;
    messages = λ board. messages-step e board i;
  }
