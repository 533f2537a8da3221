-- A record stays canonical under another number that is past its births and stamps.
use Rattle.std.proofs.Common.{◌≡◌, ℕ, ◌<◌, ◌&&◌, nat_lt, Bool, true, List, [], ◌∷◌, refl, sym, arith}
use Rattle.std.specs.List.{list_all, AllByRecursion as Every}
use Rattle.std.proofs.lemmas.Bool.{ltb-true, and_parts}
use Rattle.pc_account_history.specs.declared.kept.Listed.{Listed}
use Rattle.pc_account_history.specs.Record.{MailboxRecord, AccountRecord}
use Rattle.pc_account_history.specs.Legal.{IsChange, IsUpdateList, AreListsOf, IsMailbox, IsWellFormed, IsCanonical}
use Rattle.pc_account_holdings.specs.Mailboxes.{Table}
use Rattle.pc_account_holdings.specs.State.{State}
use Rattle.pc_account_records.specs.Numbered.{is_born_before, are_before, is_mailbox_before, are_mailboxes_before, suits}

module _ (old new : ℕ) where
  births-before : (clients : List (List ℕ × ℕ)) → Every (λ (client : List ℕ × ℕ). (0 < client.1) × (client.1 < old)) clients → list_all (is_born_before new) clients ≡ true → Every (λ (client : List ℕ × ℕ). (0 < client.1) × (client.1 < new)) clients
  births-before [] h e = tt
  births-before (client ∷ clients) h e = let parts = and_parts (is_born_before new client) (list_all (is_born_before new) clients) e in ((h.0.0, ltb-true client.1 new parts.0), births-before clients h.1 parts.1)

  changes-before : (highest birth : ℕ) (list : List Listed) → Every (IsChange old highest birth) list → are_before new list ≡ true → Every (IsChange new highest birth) list
  changes-before highest birth [] h e = tt
  changes-before highest birth (listed ∷ list) h e =
      let parts = and_parts (nat_lt listed.stamp new) (are_before new list) e in
      (record { positive = h.0.positive; given = h.0.given; since_birth = h.0.since_birth; so_far = ltb-true listed.stamp new parts.0 }, changes-before highest birth list h.1 parts.1)

  lists-before : (highest : ℕ) (clients : List (List ℕ × ℕ)) (lists : List (List ℕ × List Listed)) → AreListsOf old highest clients lists → list_all (λ (list : List ℕ × List Listed). are_before new list.1) lists ≡ true → AreListsOf new highest clients lists
  lists-before highest [] [] h e = tt
  lists-before highest [] (list ∷ lists) h e = absurd h
  lists-before highest (client ∷ clients) [] h e = absurd h
  lists-before highest (client ∷ clients) (list ∷ lists) h e =
      let parts = and_parts (are_before new list.1) (list_all (λ (l : List ℕ × List Listed). are_before new l.1) lists) e in
      (h.0, record { in_order = h.1.in_order; distinct = h.1.distinct; changes = changes-before highest client.1 list.1 h.1.changes parts.0 }, lists-before highest clients lists h.2 parts.1)

  mailbox-before : (clients : List (List ℕ × ℕ)) (mailbox : List ℕ × MailboxRecord) → IsMailbox old clients mailbox.1 → is_mailbox_before new mailbox ≡ true → IsMailbox new clients mailbox.1
  mailbox-before clients mailbox h e = record { messages = h.messages; lists = lists-before mailbox.1.highest clients mailbox.1.lists h.lists e }

  live-before : (clients : List (List ℕ × ℕ)) (table : Table) → Every (λ (mailbox : List ℕ × MailboxRecord). IsMailbox old clients mailbox.1) table → are_mailboxes_before new table ≡ true → Every (λ (mailbox : List ℕ × MailboxRecord). IsMailbox new clients mailbox.1) table
  live-before clients [] h e = tt
  live-before clients (mailbox ∷ table) h e = let parts = and_parts (is_mailbox_before new mailbox) (are_mailboxes_before new table) e in (mailbox-before clients mailbox h.0 parts.0, live-before clients table h.1 parts.1)

  dropped-before : (clients : List (List ℕ × ℕ)) (table : Table) → Every (λ (mailbox : List ℕ × MailboxRecord). IsMailbox old clients mailbox.1 × (mailbox.1.messages ≡ [])) table → are_mailboxes_before new table ≡ true → Every (λ (mailbox : List ℕ × MailboxRecord). IsMailbox new clients mailbox.1 × (mailbox.1.messages ≡ [])) table
  dropped-before clients [] h e = tt
  dropped-before clients (mailbox ∷ table) h e = let parts = and_parts (is_mailbox_before new mailbox) (are_mailboxes_before new table) e in ((mailbox-before clients mailbox h.0.0 parts.0, h.0.1), dropped-before clients table h.1 parts.1)

pub canonical_numbered : (state : State) (number : ℕ) (old : ℕ) → IsCanonical state.held old → suits state number ≡ true → IsCanonical state.held number
canonical_numbered state number old canonical e =
    let r = state.held in
    let last = and_parts (nat_lt 0 number && list_all (is_born_before number) r.clients && are_mailboxes_before number r.live) (are_mailboxes_before number r.dropped) e in
    let middle = and_parts (nat_lt 0 number && list_all (is_born_before number) r.clients) (are_mailboxes_before number r.live) last.0 in
    let first = and_parts (nat_lt 0 number) (list_all (is_born_before number) r.clients) middle.0 in
    let formed = canonical.well_formed in
    record {
      well_formed = record {
        positive = ltb-true 0 number first.0;
        births_rise = formed.births_rise;
        births = births-before old number r.clients formed.births first.1;
        client_names = formed.client_names;
        mailbox_names = formed.mailbox_names;
        live = live-before old number r.clients r.live formed.live middle.1;
        dropped = dropped-before old number r.clients r.dropped formed.dropped last.1;
        boards = formed.boards;
        pulled = formed.pulled;
      };
      within = canonical.within;
    }
