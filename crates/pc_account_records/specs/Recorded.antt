-- What a store relies on of records and numbers.
use Rattle.std.proofs.Common.{◌≡◌, ℕ, ◌<◌, ◌≤◌, ◌&&◌, nat_lt, Bool, true, false, List, [], ◌∷◌, length, IsTrue, refl, sym, ap, subst, ◌∙◌, arith}
use Rattle.std.specs.List.{list_all, AllByRecursion as Every}
use Rattle.std.proofs.lemmas.Bool.{lt-ltb}
use Rattle.pc_account_history.specs.declared.kept.Listed.{Listed}
use Rattle.pc_account_history.specs.Record.{MailboxRecord, AccountRecord, empty_record}
use Rattle.pc_account_history.specs.Legal.{IsChange, AreListsOf, IsMailbox, IsCanonical}
use Rattle.pc_account_spelling.specs.Spelling.{spelled_record}
use Rattle.pc_account_spelling.specs.RecordForm.{CanBeSaved, IsRecordFault}
use Rattle.pc_account_spelling.proofs.RecordLaws.{one-record, record-is-read, one-record-fault, record-is-short}
use Rattle.pc_account_holdings.specs.Mailboxes.{Table}
use Rattle.pc_account_holdings.specs.State.{State, new_state}
use Rattle.pc_account_records.specs.Legal.{IsLegalState, IsCanonicalState}
use Rattle.pc_account_records.specs.Numbered.{is_born_before, are_before, is_mailbox_before, are_mailboxes_before, suits, numbered}
use Rattle.pc_account_records.specs.Renumbered.{canonical_numbered}

-- a state that got a number that suits it is legal
pub numbered_is_legal : (state : State) (first : ℕ) → IsCanonicalState state → suits state first ≡ true → IsLegalState (numbered state first)
numbered_is_legal state first saved e = record { canonical = canonical_numbered state first saved.number saved.canonical e; fits = saved.fits }

pub legal_is_canonical : (state : State) → IsLegalState state → IsCanonicalState state
legal_is_canonical state legal = record { number = state.next; canonical = legal.canonical; fits = legal.fits }

pub legal_record_size : (state : State) → IsLegalState state → length (spelled_record state.held) ≤ 1073741824
legal_record_size state legal = record-is-short state.held (legal_is_canonical state legal)

pub state_is_read : (state : State) (place : ℕ) → IsCanonicalState state → IsRecordFault (spelled_record state.held) place → ⊥
state_is_read state place saved fault = record-is-read state.held place saved fault

pub one_state_fault : (bytes : List ℕ) (place other : ℕ) → IsRecordFault bytes place → IsRecordFault bytes other → place ≡ other
one_state_fault bytes place other fault second = one-record-fault bytes place other fault second

-- ---- the number of a legal state suits its record

both : (a b : Bool) → a ≡ true → b ≡ true → (a && b) ≡ true
both true true f g = refl
both true false f g = g
both false b f g = f

module _ (number : ℕ) where
  births-suit : (clients : List (List ℕ × ℕ)) → Every (λ (client : List ℕ × ℕ). (0 < client.1) × (client.1 < number)) clients → list_all (is_born_before number) clients ≡ true
  births-suit [] h = refl
  births-suit (client ∷ clients) h = both (is_born_before number client) (list_all (is_born_before number) clients) (lt-ltb client.1 number h.0.1) (births-suit clients h.1)

  changes-suit : (highest birth : ℕ) (list : List Listed) → Every (IsChange number highest birth) list → are_before number list ≡ true
  changes-suit highest birth [] h = refl
  changes-suit highest birth (listed ∷ list) h = both (nat_lt listed.stamp number) (are_before number list) (lt-ltb listed.stamp number h.0.so_far) (changes-suit highest birth list h.1)

  lists-suit : (highest : ℕ) (clients : List (List ℕ × ℕ)) (lists : List (List ℕ × List Listed)) → AreListsOf number highest clients lists → list_all (λ (list : List ℕ × List Listed). are_before number list.1) lists ≡ true
  lists-suit highest [] [] h = refl
  lists-suit highest [] (list ∷ lists) h = absurd h
  lists-suit highest (client ∷ clients) [] h = absurd h
  lists-suit highest (client ∷ clients) (list ∷ lists) h = both (are_before number list.1) (list_all (λ (l : List ℕ × List Listed). are_before number l.1) lists) (changes-suit highest client.1 list.1 h.1.changes) (lists-suit highest clients lists h.2)

  live-suit : (clients : List (List ℕ × ℕ)) (table : Table) → Every (λ (mailbox : List ℕ × MailboxRecord). IsMailbox number clients mailbox.1) table → are_mailboxes_before number table ≡ true
  live-suit clients [] h = refl
  live-suit clients (mailbox ∷ table) h = both (is_mailbox_before number mailbox) (are_mailboxes_before number table) (lists-suit mailbox.1.highest clients mailbox.1.lists h.0.lists) (live-suit clients table h.1)

  dropped-suit : (clients : List (List ℕ × ℕ)) (table : Table) → Every (λ (mailbox : List ℕ × MailboxRecord). IsMailbox number clients mailbox.1 × (mailbox.1.messages ≡ [])) table → are_mailboxes_before number table ≡ true
  dropped-suit clients [] h = refl
  dropped-suit clients (mailbox ∷ table) h = both (is_mailbox_before number mailbox) (are_mailboxes_before number table) (lists-suit mailbox.1.highest clients mailbox.1.lists h.0.0.lists) (dropped-suit clients table h.1)

pub canonical_suits : (state : State) (number : ℕ) → IsCanonical state.held number → suits state number ≡ true
canonical_suits state number canonical =
    let r = state.held in
    let formed = canonical.well_formed in
    both (nat_lt 0 number && list_all (is_born_before number) r.clients && are_mailboxes_before number r.live) (are_mailboxes_before number r.dropped)
    (both (nat_lt 0 number && list_all (is_born_before number) r.clients) (are_mailboxes_before number r.live) (both (nat_lt 0 number) (list_all (is_born_before number) r.clients) (lt-ltb 0 number formed.positive) (births-suit number r.clients formed.births)) (live-suit number r.clients r.live formed.live))
    (dropped-suit number r.clients r.dropped formed.dropped)

-- the record of a legal state is its alone
pub one_state : (state loaded : State) (number : ℕ) → IsLegalState state → state.next ≡ number → IsCanonicalState loaded → spelled_record loaded.held ≡ spelled_record state.held → (suits loaded number ≡ true) × (numbered loaded number ≡ state)
one_state state loaded number legal next saved e =
    let same : loaded.held ≡ state.held = one-record loaded.held state.held saved (legal_is_canonical state legal) e in
    let there : IsCanonical loaded.held number = subst (λ (r : AccountRecord). IsCanonical r number) (sym same) (subst (IsCanonical state.held) next legal.canonical) in
    (canonical_suits loaded number there, λ i. record { held = same i; next = sym next i })

-- ---- the state of no history

pub begin_is_canonical : IsCanonicalState new_state
begin_is_canonical = record {
  number = 1;
  canonical = record {
    well_formed = record { positive = omega arith; births_rise = tt; births = tt; client_names = tt; mailbox_names = tt; live = tt; dropped = tt; boards = tt; pulled = omega arith };
    within = (refl, (refl, (refl, (refl, (refl, (refl, (refl, tt)))))));
  };
  fits = refl;
}

pub begin_suits : (first : ℕ) → 0 < first → suits new_state first ≡ true
begin_suits first lt = both (nat_lt 0 first && true && true) true (both (nat_lt 0 first && true) true (both (nat_lt 0 first) true (lt-ltb 0 first lt) refl) refl) refl
