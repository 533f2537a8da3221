-- The numbers of the office stay within their limits.
use Rattle.std.proofs.Common.{◌≡◌, ℕ, ◌<◌, ◌≤◌, Bool, true, false, cond, not, ◌||◌, nat_lt, List, [], ◌∷◌, ◌++◌, length, filter, Option, None, Some, unwrap_or, MatchOption, refl, sym, ◌∙◌, ap, subst, arith, append-nil, ltb-false, le-ltb}
use Rattle.std.specs.List.{AllByRecursion as Every, list_any}
use Rattle.std.specs.Map.{lookup}
use Rattle.std.proofs.lemmas.Bool.{or_parts}
use Rattle.std.proofs.lemmas.List.Folds.{list_any-append}
use Rattle.pc_base.specs.declared.refusal.LimitWord.{LimitWord}
use Rattle.pc_base.specs.declared.refusal.LimitWord.TheVariants as limit
use Rattle.pc_message.specs.declared.lists.Mail.{Mail}
use Rattle.pc_message.specs.Message.{weight_of}
use Rattle.pc_message.specs.declared.limits.TheConstants.{LAST_MAIL}
use Rattle.pc_tables.specs.Table.{same, other_names, total}
use Rattle.pc_tables.proofs.Table.{is_among-keys}
use Rattle.pc_tables.proofs.Lists.{length-filter-le, Every-weaker, none-found}
use Rattle.pc_tables.proofs.Totals.{total-append, total-filter}
use Rattle.pc_office_history.specs.declared.limits.TheConstants.{MOST_ADDRESSES, MOST_WAITING, MOST_WAITING_WEIGHT, MOST_BOARD_MESSAGES, MOST_BOARD_WEIGHT}
use Rattle.pc_office_history.specs.declared.kept.KeptMail.{KeptMail}
use Rattle.pc_office_history.specs.declared.entry.OfficeEntry.{OfficeEntry}
use Rattle.pc_office_history.specs.declared.entry.OfficeEntry.TheVariants.{AddUser, AddBoard, TakeAddress, DropAddress, Accept, Pulled}
use Rattle.pc_office_history.specs.Record.{OfficeRecord, mail_for, mails_for}
use Rattle.pc_office_history.specs.Known.{Known, said_by, is_past, after_entry}
use Rattle.pc_office_history.specs.History.{History, start, ◌▹◌, known}
use Rattle.pc_office_history.specs.Allowed.{is_allowed, is_user, is_board, is_free}
use Rattle.pc_office_history.specs.Limits.{mail_weight, are_too_many, is_passed, would_pass, limits_of, limit_passed, IsWithin, limits_of_bases}
use Rattle.pc_office_history.specs.Step.{record_of}
use Rattle.pc_office_history.specs.Legal.{IsKept, IsWellFormed, IsCanonical, IsLegal}
use Rattle.pc_office_history.proofs.Mails.{Every-mails_for, mail-unpulled}
use Rattle.pc_office_history.proofs.Agreement.{absent, is_free-parts}
use Rattle.pc_office_history.proofs.Histories.{Stands-legal}

not-more : (most count fewer : ℕ) → fewer ≤ count → nat_lt most count ≡ false → nat_lt most fewer ≡ false
not-more most count fewer le h = le-ltb most fewer (omega (arith, ltb-false most count h))

list_any-weaker : {X : Type 0} (p q : X → Bool) (xs : List X) → ((x : X) → p x ≡ false → q x ≡ false) → list_any p xs ≡ false → list_any q xs ≡ false
list_any-weaker p q [] f h = refl
list_any-weaker p q (x ∷ xs) f h = let parts = or_parts (p x) (list_any p xs) h in λ i. f x parts.0 i || list_any-weaker p q xs f parts.1 i

-- ---- mails that are fewer

pub fewer-mails : (number : ℕ) (mails : List Mail) → are_too_many mails ≡ false → are_too_many (filter (is_past number) (mails ++ [])) ≡ false
fewer-mails number mails h =
    let parts = or_parts (nat_lt MOST_WAITING (length mails)) (nat_lt MOST_WAITING_WEIGHT (mail_weight mails)) h in
    ap (λ ms. are_too_many (filter (is_past number) ms)) (append-nil mails)
    ∙ (λ i. not-more MOST_WAITING (length mails) (length (filter (is_past number) mails)) (length-filter-le (is_past number) mails) parts.0 i || not-more MOST_WAITING_WEIGHT (mail_weight mails) (mail_weight (filter (is_past number) mails)) (total-filter (λ (mail : Mail). weight_of mail.message) (is_past number) mails) parts.1 i)

-- ---- what is known of names that aren't there

pub record KnowsNames (k : Known) : Type 0 where
  pub nothing : (name : List ℕ) → is_user k name ≡ false → k.waiting name ≡ []
  pub blank : (name : List ℕ) → is_board k name ≡ false → k.messages name ≡ []

no-mail : (mails : List Mail) → Every (λ (mail : Mail). ⊥) mails → mails ≡ []
no-mail [] h = refl
no-mail (mail ∷ mails) h = absurd h.0

nobody-waits : (r : OfficeRecord) (name : List ℕ) → lookup (same name) r.users ≡ None → (kept : List KeptMail) → Every (IsKept r.users r.accepted) kept → Every (λ (mail : KeptMail). MatchOption (mail_for name mail) (Unit {0}) (λ waits. ⊥)) kept
nobody-waits r name none [] h = tt
nobody-waits r name none (mail ∷ kept) h = (found (mail_for name mail) (mail-unpulled r.users name mail h.0.unpulled), nobody-waits r name none kept h.1)
  where
    found : (o : Option Mail) → MatchOption o (Unit {0}) (λ waits. MatchOption (lookup (same name) r.users) ⊥ (λ noted. noted < waits.number)) → MatchOption o (Unit {0}) (λ waits. ⊥)
    found None g = tt
    found (Some waits) g = subst (λ (o : Option ℕ). MatchOption o ⊥ (λ noted. noted < waits.number)) none g

KnowsNames-said_by : (r : OfficeRecord) → IsWellFormed r → KnowsNames (said_by r)
KnowsNames-said_by r formed = record {
  nothing = λ name h. no-mail (mails_for name r.kept) (Every-mails_for (λ mail. ⊥) name r.kept (nobody-waits r name (absent (lookup (same name) r.users) (sym (is_among-keys name r.users) ∙ h)) r.kept formed.kept));
  blank = λ name h. ap (λ o. unwrap_or o []) (absent (lookup (same name) r.boards) (sym (is_among-keys name r.boards) ∙ h));
}

pub KnowsNames-legal : (h : History) → IsLegal h → KnowsNames (known h)
KnowsNames-legal h legal = let stands = Stands-legal h legal in subst KnowsNames (sym stands.alike) (KnowsNames-said_by (record_of h) stands.formed)

-- ---- limit by limit

-- the name of which the entry makes a user or a board is free
abbrev pub MakesNew : Known → OfficeEntry → Type 0
MakesNew k (AddUser user) = is_free k user ≡ true
MakesNew k (AddBoard board) = is_free k board ≡ true
MakesNew k _ = Unit {0}

pub makes-new : (k : Known) (e : OfficeEntry) → is_allowed k e ≡ true → MakesNew k e
makes-new k (AddUser user) allowed = allowed
makes-new k (AddBoard board) allowed = allowed
makes-new k _ allowed = tt

module _ (k : Known) (knows : KnowsNames k) where
  -- where the entry is held to this limit, it doesn't pass it
  abbrev IsHeld : OfficeEntry → LimitWord → Type 0
  IsHeld e word = Every (λ held. held ≡ word → would_pass k e word ≡ false) (limits_of e)

  pub users-within : (e : OfficeEntry) → IsHeld e limit.Users → is_passed k limit.Users ≡ false → is_passed (after_entry k e) limit.Users ≡ false
  users-within (AddUser user) held h = held.0 refl
  users-within (AddBoard board) held h = h
  users-within _ held h = h

  pub boards-within : (e : OfficeEntry) → IsHeld e limit.Boards → is_passed k limit.Boards ≡ false → is_passed (after_entry k e) limit.Boards ≡ false
  boards-within (AddBoard board) held h = held.0 refl
  boards-within (AddUser user) held h = h
  boards-within _ held h = h

  pub addresses-within : (e : OfficeEntry) → IsHeld e limit.Addresses → is_passed k limit.Addresses ≡ false → is_passed (after_entry k e) limit.Addresses ≡ false
  addresses-within (AddUser user) held h = held.1.0 refl
  addresses-within (TakeAddress address user mailbox) held h = held.0 refl
  addresses-within (DropAddress address) held h = not-more MOST_ADDRESSES (length k.addresses) (length (other_names address k.addresses)) (length-filter-le (λ other. not (same address other)) k.addresses) h
  addresses-within (AddBoard board) held h = h
  addresses-within _ held h = h

  -- no user has more than before
  fewer-users : (noted : List ℕ → ℕ) → list_any (λ user. are_too_many (k.waiting user)) k.users ≡ false → list_any (λ user. are_too_many (filter (is_past (noted user)) (k.waiting user ++ []))) k.users ≡ false
  fewer-users noted h = list_any-weaker (λ user. are_too_many (k.waiting user)) (λ user. are_too_many (filter (is_past (noted user)) (k.waiting user ++ []))) k.users (λ user g. fewer-mails (noted user) (k.waiting user) g) h

  pub waiting-within : (e : OfficeEntry) → MakesNew k e → IsHeld e limit.Waiting → is_passed k limit.Waiting ≡ false → is_passed (after_entry k e) limit.Waiting ≡ false
  waiting-within e new held h = by_entry e new held
    where
      parts : (list_any (λ user. are_too_many (k.waiting user)) k.users ≡ false) × (nat_lt LAST_MAIL k.accepted ≡ false)
      parts = or_parts (list_any (λ user. are_too_many (k.waiting user)) k.users) (nat_lt LAST_MAIL k.accepted) h

      by_entry : (e' : OfficeEntry) → MakesNew k e' → IsHeld e' limit.Waiting → is_passed (after_entry k e') limit.Waiting ≡ false
      by_entry (Accept names message) new' held' = held'.1.0 refl
      by_entry (Pulled by number) new' held' = λ i. fewer-users (λ user. cond (same by user) number (k.noted user)) parts.0 i || parts.1 i
      by_entry (AddUser user) new' held' =
          let none = knows.nothing user (is_free-parts k user new').0 in
          let q = λ (name : List ℕ). are_too_many (filter (is_past (k.noted name)) (k.waiting name ++ [])) in
          let last : q user ≡ false = ap (λ mails. are_too_many (filter (is_past (k.noted user)) (mails ++ []))) none in
          (λ i. list_any-append q k.users (user ∷ []) i || nat_lt LAST_MAIL k.accepted)
          ∙ (λ i. (fewer-users k.noted parts.0 i || (last i || false)) || parts.1 i)
      by_entry (AddBoard board) new' held' = λ i. fewer-users k.noted parts.0 i || parts.1 i
      by_entry _ new' held' = λ i. fewer-users k.noted parts.0 i || parts.1 i

  pub board-within : (e : OfficeEntry) → MakesNew k e → IsHeld e limit.Board → is_passed k limit.Board ≡ false → is_passed (after_entry k e) limit.Board ≡ false
  board-within e new held h = by_entry e new held
    where
      same_boards : (list_any (λ name. nat_lt MOST_BOARD_MESSAGES (length (k.messages name ++ []))) k.boards || nat_lt MOST_BOARD_WEIGHT (total (λ name. total weight_of (k.messages name ++ [])) k.boards)) ≡ false
      same_boards = (λ i. list_any (λ name. nat_lt MOST_BOARD_MESSAGES (length (append-nil (k.messages name) i))) k.boards || nat_lt MOST_BOARD_WEIGHT (total (λ name. total weight_of (append-nil (k.messages name) i)) k.boards)) ∙ h

      by_entry : (e' : OfficeEntry) → MakesNew k e' → IsHeld e' limit.Board → is_passed (after_entry k e') limit.Board ≡ false
      by_entry (Accept names message) new' held' = held'.1.1.0 refl
      by_entry (AddBoard board) new' held' =
          let parts = or_parts (list_any (λ name. nat_lt MOST_BOARD_MESSAGES (length (k.messages name ++ []))) k.boards) (nat_lt MOST_BOARD_WEIGHT (total (λ name. total weight_of (k.messages name ++ [])) k.boards)) same_boards in
          let none = knows.blank board (is_free-parts k board new').1 in
          let q = λ (name : List ℕ). nat_lt MOST_BOARD_MESSAGES (length (k.messages name ++ [])) in
          let w = λ (name : List ℕ). total weight_of (k.messages name ++ []) in
          let last : q board ≡ false = ap (λ (messages : List (List (List ℕ))). nat_lt MOST_BOARD_MESSAGES (length (messages ++ []))) none in
          let nothing : w board ≡ 0 = ap (λ (messages : List (List (List ℕ))). total weight_of (messages ++ [])) none in
          let same_weight : total w (k.boards ++ board ∷ []) ≡ total w k.boards = omega (arith, total-append w k.boards (board ∷ []), nothing) in
          (λ i. list_any-append q k.boards (board ∷ []) i || nat_lt MOST_BOARD_WEIGHT (same_weight i))
          ∙ (λ i. (parts.0 i || (last i || false)) || parts.1 i)
      by_entry (AddUser user) new' held' = same_boards
      by_entry _ new' held' = same_boards

  held-of : (e : OfficeEntry) (word : LimitWord) → limit_passed k e ≡ None → IsHeld e word
  held-of e word passed = Every-weaker (λ held. would_pass k e held ≡ false) (λ held. held ≡ word → would_pass k e word ≡ false) (λ held within is. subst (λ one. would_pass k e one ≡ false) is within) (limits_of e) (none-found (would_pass k e) (limits_of e) passed)

  pub within-after : (e : OfficeEntry) → is_allowed k e ≡ true → limit_passed k e ≡ None → IsWithin k limits_of_bases → IsWithin (after_entry k e) limits_of_bases
  within-after e allowed passed (users, (boards, (addresses, (waiting, (board, _))))) = (
    users-within e (held-of e limit.Users passed) users,
    (
      boards-within e (held-of e limit.Boards passed) boards,
      (
        addresses-within e (held-of e limit.Addresses passed) addresses,
        (
          waiting-within e (makes-new k e allowed) (held-of e limit.Waiting passed) waiting,
          (board-within e (makes-new k e allowed) (held-of e limit.Board passed) board, tt),
        ),
      ),
    ),
  )

pub IsWithin-legal : (h : History) → IsLegal h → IsWithin (known h) limits_of_bases
IsWithin-legal (start r number) legal = legal.within
IsWithin-legal (h ▹ e) legal = within-after (known h) (KnowsNames-legal h legal.0) e legal.1 legal.2 (IsWithin-legal h legal.0)

-- the record of a legal history is canonical
pub IsCanonical-legal : (h : History) → IsLegal h → IsCanonical (record_of h)
IsCanonical-legal h legal = let stands = Stands-legal h legal in record { well_formed = stands.formed; within = subst (λ k. IsWithin k limits_of_bases) stands.alike (IsWithin-legal h legal) }
