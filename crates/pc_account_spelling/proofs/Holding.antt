-- What fits in a record, apart from what a canonical one says.
use Rattle.std.proofs.Common.{◌≡◌, ℕ, ◌<◌, ◌≤◌, ◌&&◌, nat_le, Bool, true, List, [], ◌∷◌, refl, ap, subst, ◌∙◌, arith}
use Rattle.std.specs.List.{list_all, AllByRecursion as Every}
use Rattle.std.specs.Map.{keys_of}
use Rattle.std.proofs.lemmas.Bool.{leb-true, lt-ltb, and_parts, and_from, not-false}
use Rattle.pc_base.specs.Name.{is_name}
use Rattle.pc_account_history.specs.declared.kept.Kept.{Kept}
use Rattle.pc_account_history.specs.declared.kept.Listed.{Listed}
use Rattle.pc_account_history.specs.declared.limits.TheConstants.{MOST_UIDS}
use Rattle.pc_account_history.specs.Record.{MailboxRecord, AccountRecord, mailbox_of}
use Rattle.pc_account_history.specs.Legal.{IsChange, AreListsOf, IsMailbox, IsCanonical}
use Rattle.pc_tables.proofs.Lists.{Every-weaker, list_all-split, list_all-weaker}
use Rattle.pc_account_history.proofs.Mailboxes.{mailbox_of-has}
use Rattle.pc_fields.specs.Fitting.{is_u32, is_message, is_u16}
use Rattle.pc_account_spelling.specs.RecordForm.{is_digest, is_entry_number, client_fits, kept_fits, listed_fits, list_fits, mailbox_fits, subscription_fits, fits_record}
use Rattle.pc_account_spelling.proofs.GoodMailboxes.{Table}
use Rattle.pc_account_history.proofs.Counts.{Every-found_there}

-- the flags and the lines of a message that lives
abbrev pub kept_holds : Kept → Bool
kept_holds kept = is_u16 kept.flags && is_message kept.message

-- a name under which something stands
abbrev pub is_named : {X : Type 0} → List ℕ × X → Bool
is_named entry = is_name entry.0

-- names, the digest, flags and lines of messages, and marks
pub record Holds (r : AccountRecord) : Type 0 where
  pub digest : is_digest r.digest ≡ true
  pub clients : list_all is_named r.clients ≡ true
  pub live : list_all is_name (keys_of r.live) ≡ true
  pub dropped : list_all is_name (keys_of r.dropped) ≡ true
  pub messages : (mailbox : List ℕ) → list_all kept_holds (mailbox_of r mailbox).messages ≡ true
  pub subscriptions : list_all subscription_fits r.subscriptions ≡ true

-- ---- a record that fits holds this

kept-holds : (kept : Kept) → kept_fits kept ≡ true → kept_holds kept ≡ true
kept-holds kept fit =
    let last = and_parts (is_u32 kept.uid && is_u16 kept.flags) (is_message kept.message) fit in
    let first = and_parts (is_u32 kept.uid) (is_u16 kept.flags) last.0 in
    and_from (is_u16 kept.flags) (is_message kept.message) first.1 last.1

names-hold : (table : Table) → list_all mailbox_fits table ≡ true → list_all is_name (keys_of table) ≡ true
names-hold [] fit = refl
names-hold (mailbox ∷ table) fit =
    let parts = and_parts (mailbox_fits mailbox) (list_all mailbox_fits table) fit in
    let last = and_parts (is_name mailbox.0 && is_u32 mailbox.1.highest && list_all kept_fits mailbox.1.messages) (list_all list_fits mailbox.1.lists) parts.0 in
    let middle = and_parts (is_name mailbox.0 && is_u32 mailbox.1.highest) (list_all kept_fits mailbox.1.messages) last.0 in
    let first = and_parts (is_name mailbox.0) (is_u32 mailbox.1.highest) middle.0 in
    and_from (is_name mailbox.0) (list_all is_name (keys_of table)) first.0 (names-hold table parts.1)

messages-hold : (table : Table) → list_all mailbox_fits table ≡ true → Every (λ (mailbox : List ℕ × MailboxRecord). list_all kept_holds mailbox.1.messages ≡ true) table
messages-hold [] fit = tt
messages-hold (mailbox ∷ table) fit =
    let parts = and_parts (mailbox_fits mailbox) (list_all mailbox_fits table) fit in
    let last = and_parts (is_name mailbox.0 && is_u32 mailbox.1.highest && list_all kept_fits mailbox.1.messages) (list_all list_fits mailbox.1.lists) parts.0 in
    let middle = and_parts (is_name mailbox.0 && is_u32 mailbox.1.highest) (list_all kept_fits mailbox.1.messages) last.0 in
    (list_all-weaker kept_fits kept_holds mailbox.1.messages kept-holds middle.1, messages-hold table parts.1)

pub holds_of : (r : AccountRecord) → fits_record r ≡ true → Holds r
holds_of r fit =
    let f4 = and_parts (is_digest r.digest && list_all client_fits r.clients && list_all mailbox_fits r.live && list_all mailbox_fits r.dropped) (list_all subscription_fits r.subscriptions) fit in
    let f3 = and_parts (is_digest r.digest && list_all client_fits r.clients && list_all mailbox_fits r.live) (list_all mailbox_fits r.dropped) f4.0 in
    let f2 = and_parts (is_digest r.digest && list_all client_fits r.clients) (list_all mailbox_fits r.live) f3.0 in
    let f1 = and_parts (is_digest r.digest) (list_all client_fits r.clients) f2.0 in
    record {
      digest = f1.0;
      clients = list_all-weaker client_fits is_named r.clients (λ client e. (and_parts (is_name client.0) (is_entry_number client.1) e).0) f1.1;
      live = names-hold r.live f2.1;
      dropped = names-hold r.dropped f3.1;
      messages = λ mailbox. mailbox_of-has (λ (box : MailboxRecord). list_all kept_holds box.messages ≡ true) r mailbox (messages-hold r.live f2.1) (messages-hold r.dropped f3.1) refl;
      subscriptions = f4.1;
    }

-- ---- a canonical record that holds this fits

small : (highest uid : ℕ) → highest ≤ 1000000000 → uid ≤ highest → is_u32 uid ≡ true
small highest uid most le = lt-ltb uid 4294967296 (omega (arith, most, le))

messages-fit : (highest : ℕ) → highest ≤ 1000000000 → (messages : List Kept) → Every (λ (kept : Kept). (0 < kept.uid) × (kept.uid ≤ highest)) messages → list_all kept_holds messages ≡ true → list_all kept_fits messages ≡ true
messages-fit highest most [] given hold = refl
messages-fit highest most (kept ∷ messages) given hold =
    let parts = and_parts (kept_holds kept) (list_all kept_holds messages) hold in
    let here = and_parts (is_u16 kept.flags) (is_message kept.message) parts.0 in
    and_from (kept_fits kept) (list_all kept_fits messages)
    (and_from (is_u32 kept.uid && is_u16 kept.flags) (is_message kept.message) (and_from (is_u32 kept.uid) (is_u16 kept.flags) (small highest kept.uid most given.0.1) here.0) here.1)
    (messages-fit highest most messages given.1 parts.1)

module _ (number : ℕ) (last : number ≤ 9223372036854775808) where
  changes-fit : (highest birth : ℕ) → highest ≤ 1000000000 → (list : List Listed) → Every (IsChange number highest birth) list → list_all listed_fits list ≡ true
  changes-fit highest birth most [] changes = refl
  changes-fit highest birth most (listed ∷ list) changes =
      let before = changes.0.so_far in
      and_from (listed_fits listed) (list_all listed_fits list)
      (and_from (is_u32 listed.uid) (is_entry_number listed.stamp) (small highest listed.uid most changes.0.given) (lt-ltb listed.stamp 9223372036854775808 (omega (arith, before, last))))
      (changes-fit highest birth most list changes.1)

  lists-fit : (highest : ℕ) → highest ≤ 1000000000 → (clients : List (List ℕ × ℕ)) (lists : List (List ℕ × List Listed)) → AreListsOf number highest clients lists → list_all is_named clients ≡ true → list_all list_fits lists ≡ true
  lists-fit highest most [] [] are named = refl
  lists-fit highest most [] (list ∷ lists) are named = absurd are
  lists-fit highest most (client ∷ clients) [] are named = absurd are
  lists-fit highest most (client ∷ clients) (list ∷ lists) are named =
      let parts = and_parts (is_name client.0) (list_all is_named clients) named in
      and_from (list_fits list) (list_all list_fits lists)
      (and_from (is_name list.0) (list_all listed_fits list.1) (ap is_name are.0 ∙ parts.0) (changes-fit highest client.1 most list.1 are.1.changes))
      (lists-fit highest most clients lists are.2 parts.1)

  clients-fit : (clients : List (List ℕ × ℕ)) → Every (λ (client : List ℕ × ℕ). (0 < client.1) × (client.1 < number)) clients → list_all is_named clients ≡ true → list_all client_fits clients ≡ true
  clients-fit [] births named = refl
  clients-fit (client ∷ clients) births named =
      let parts = and_parts (is_name client.0) (list_all is_named clients) named in
      let before = births.0.1 in
      and_from (client_fits client) (list_all client_fits clients)
      (and_from (is_name client.0) (is_entry_number client.1) parts.0 (lt-ltb client.1 9223372036854775808 (omega (arith, before, last))))
      (clients-fit clients births.1 parts.1)

  module _ (r : AccountRecord) (holds : Holds r) where
    mailbox-fits : (mailbox : List ℕ × MailboxRecord) → IsMailbox number r.clients mailbox.1 → mailbox_of r mailbox.0 ≡ mailbox.1 → nat_le (mailbox_of r mailbox.0).highest MOST_UIDS ≡ true → is_name mailbox.0 ≡ true → mailbox_fits mailbox ≡ true
    mailbox-fits mailbox is there uids named =
        let box = mailbox.1 in
        let highest = ap (λ (b : MailboxRecord). b.highest) there in
        let few = leb-true (mailbox_of r mailbox.0).highest 1000000000 uids in
        let most : box.highest ≤ 1000000000 = omega (arith, highest, few) in
        let hold : list_all kept_holds box.messages ≡ true = subst (λ (b : MailboxRecord). list_all kept_holds b.messages ≡ true) there (holds.messages mailbox.0) in
        and_from (is_name mailbox.0 && is_u32 box.highest && list_all kept_fits box.messages) (list_all list_fits box.lists)
        (and_from (is_name mailbox.0 && is_u32 box.highest) (list_all kept_fits box.messages)
        (and_from (is_name mailbox.0) (is_u32 box.highest) named (lt-ltb box.highest 4294967296 (omega (arith, most))))
        (messages-fit box.highest most box.messages is.messages.given hold))
        (lists-fit box.highest most r.clients box.lists is.lists holds.clients)

    table-fits : (table : Table) → Every (λ (mailbox : List ℕ × MailboxRecord). IsMailbox number r.clients mailbox.1) table → Every (λ (mailbox : List ℕ × MailboxRecord). mailbox_of r mailbox.0 ≡ mailbox.1) table → list_all (λ (name : List ℕ). nat_le (mailbox_of r name).highest MOST_UIDS) (keys_of table) ≡ true → list_all is_name (keys_of table) ≡ true → list_all mailbox_fits table ≡ true
    table-fits [] are there uids named = refl
    table-fits (mailbox ∷ table) are there uids named =
        let uid-parts = and_parts (nat_le (mailbox_of r mailbox.0).highest MOST_UIDS) (list_all (λ (name : List ℕ). nat_le (mailbox_of r name).highest MOST_UIDS) (keys_of table)) uids in
        let name-parts = and_parts (is_name mailbox.0) (list_all is_name (keys_of table)) named in
        and_from (mailbox_fits mailbox) (list_all mailbox_fits table) (mailbox-fits mailbox are.0 there.0 uid-parts.0 name-parts.0) (table-fits table are.1 there.1 uid-parts.1 name-parts.1)

    pub fits_of : IsCanonical r number → fits_record r ≡ true
    fits_of canonical =
        let formed = canonical.well_formed in
        let uids = list_all-split (λ (name : List ℕ). nat_le (mailbox_of r name).highest MOST_UIDS) (keys_of r.live) (keys_of r.dropped) (not-false _ canonical.within.1.1.0) in
        let there = Every-found_there r formed.mailbox_names in
        let dropped = Every-weaker (λ (mailbox : List ℕ × MailboxRecord). IsMailbox number r.clients mailbox.1 × (mailbox.1.messages ≡ [])) (λ (mailbox : List ℕ × MailboxRecord). IsMailbox number r.clients mailbox.1) (λ mailbox is. is.0) r.dropped formed.dropped in
        and_from (is_digest r.digest && list_all client_fits r.clients && list_all mailbox_fits r.live && list_all mailbox_fits r.dropped) (list_all subscription_fits r.subscriptions)
        (and_from (is_digest r.digest && list_all client_fits r.clients && list_all mailbox_fits r.live) (list_all mailbox_fits r.dropped)
        (and_from (is_digest r.digest && list_all client_fits r.clients) (list_all mailbox_fits r.live)
        (and_from (is_digest r.digest) (list_all client_fits r.clients) holds.digest (clients-fit r.clients formed.births holds.clients))
        (table-fits r.live formed.live there.0 uids.0 holds.live))
        (table-fits r.dropped dropped there.1 uids.1 holds.dropped))
        holds.subscriptions
