-- Records as they are read: at each field some record goes on, and at the end the fields are those of a record that can be saved.
use Rattle.std.proofs.Common.{◌≡◌, ℕ, ◌+◌, ◌<◌, ◌≤◌, ◌&&◌, nat_lt, nat_le, Bool, true, false, cond, not, List, [], ◌∷◌, ◌++◌, length, Option, None, Some, IsTrue, refl, ap, ◌∙◌, append_assoc, arith, length-append}
use Rattle.std.specs.List.{list_all, AllByRecursion as Every}
use Rattle.std.specs.Map.{keys_of}
use Rattle.std.proofs.lemmas.Bool.{ltb-true, le-leb, and_from}
use Rattle.pc_message.specs.declared.limits.TheConstants.{LAST_MAIL}
use Rattle.pc_account_history.specs.declared.limits.TheConstants.{MOST_UIDS, MOST_MESSAGES}
use Rattle.pc_account_history.specs.Record.{MailboxRecord, AccountRecord, mailbox_of}
use Rattle.pc_account_history.specs.Known.{said_by}
use Rattle.pc_account_history.specs.Allowed.{messages}
use Rattle.pc_account_history.specs.Limits.{IsWithin, limits_of_bases}
use Rattle.pc_account_history.specs.Legal.{IsMailbox, IsWellFormed, IsCanonical}
use Rattle.pc_tables.proofs.Lists.{Every-weaker}
use Rattle.pc_account_history.proofs.Mailboxes.{mailbox_of-has}
use Rattle.pc_account_history.proofs.Counts.{messages-said_by, weight-said_by, listed_count-said_by}
use Rattle.pc_fields.specs.FieldBytes.{bool_field, u64_field, short_list}
use Rattle.pc_account_spelling.specs.Spelling.{digest_fields, client_fields, mailboxes_fields, subscription_fields, fields_of_record}
use Rattle.pc_fields.specs.Fields.{digest_kind, any}
use Rattle.pc_fields.specs.Format.{Format, ends, goes, bind}
use Rattle.pc_account_spelling.specs.RecordForm.{is_digest, client_fits, mailbox_fits, subscription_fits, fits_record}
use Rattle.pc_account_spelling.specs.RecordFormat.{digest_format, clients_format, mailboxes_format, subscriptions_format, record_format}
use Rattle.pc_tables.proofs.Table.{length-keys}
use Rattle.pc_account_spelling.proofs.GoodTables.{AreReadClients, good_clients, AreReadSubscriptions, good_subscriptions}
use Rattle.pc_fields.proofs.Good.{Good, good_bind}
use Rattle.pc_fields.proofs.Pushes.{within-parts}
use Rattle.pc_account_spelling.proofs.GoodMailboxes.{Table, AreMailboxes, IsReadTable, good_mailboxes}

-- ---- the digest

pub record IsReadDigest (front fields : List (List ℕ)) (digest : Option (List ℕ)) : Type 0 where
  pub spelled : fields ≡ front ++ digest_fields digest
  pub fits : is_digest digest ≡ true

zeros : List ℕ
zeros = 0 ∷ 0 ∷ 0 ∷ 0 ∷ 0 ∷ 0 ∷ 0 ∷ 0 ∷ 0 ∷ 0 ∷ 0 ∷ 0 ∷ 0 ∷ 0 ∷ 0 ∷ 0 ∷ 0 ∷ 0 ∷ 0 ∷ 0 ∷ 0 ∷ 0 ∷ 0 ∷ 0 ∷ 0 ∷ 0 ∷ 0 ∷ 0 ∷ 0 ∷ 0 ∷ 0 ∷ 0 ∷ []

digest-of : (front : List (List ℕ)) (on : Bool) → Good (IsReadDigest front) (cond on (goes digest_kind any (λ digest. ends (Some digest))) (ends None)) (front ++ bool_field on ∷ [])
unfolding zeros
digest-of front false = record { spelled = refl; fits = refl }
digest-of front true = ((zeros, refl, refl), λ digest fit passed. record { spelled = append_assoc front (bool_field true ∷ []) (digest ∷ []); fits = fit })

good_digest : (front : List (List ℕ)) → Good (IsReadDigest front) digest_format front
good_digest front = ((false, refl, refl), λ on fit passed. digest-of front on)

-- ---- the limits

at-most : (most n : ℕ) → n ≤ most → nat_lt most n ≡ false
at-most most n le = by_test (nat_lt most n) refl
  where
    by_test : (b : Bool) → nat_lt most n ≡ b → nat_lt most n ≡ false
    by_test true e = absurd (let lt = ltb-true most n e in omega (arith, lt, le))
    by_test false e = e

all-names : (test : List ℕ → Bool) (names : List (List ℕ)) → ((name : List ℕ) → test name ≡ true) → list_all test names ≡ true
all-names test [] h = refl
all-names test (name ∷ names) h = and_from (test name) (list_all test names) (h name) (all-names test names h)

module _ (r : AccountRecord) (formed : IsWellFormed r 9223372036854775808) (few-clients : length r.clients ≤ 16) (few-names : length r.live + length r.dropped ≤ 64) (are : AreMailboxes r.clients r.live r.dropped) (few-boards : length r.subscriptions ≤ 64) where
  few-uids : (name : List ℕ) → nat_le (mailbox_of r name).highest MOST_UIDS ≡ true
  few-uids name = le-leb (mailbox_of r name).highest 1000000000 (mailbox_of-has (λ (box : MailboxRecord). box.highest ≤ 1000000000) r name are.live_uids are.dropped_uids (omega arith))

  dropped-few : Every (λ (mailbox : List ℕ × MailboxRecord). length mailbox.1.messages ≤ 4096) r.dropped
  dropped-few = Every-weaker (λ (mailbox : List ℕ × MailboxRecord). IsMailbox 9223372036854775808 r.clients mailbox.1 × (mailbox.1.messages ≡ [])) (λ (mailbox : List ℕ × MailboxRecord). length mailbox.1.messages ≤ 4096) (λ mailbox h. let none = ap length h.1 in omega (arith, none)) r.dropped are.dropped_are

  few-messages : (name : List ℕ) → nat_le (length (messages (said_by r 9223372036854775808) name)) MOST_MESSAGES ≡ true
  few-messages name =
      let same = ap length (messages-said_by r 9223372036854775808 formed name) in
      let few = mailbox_of-has (λ (box : MailboxRecord). length box.messages ≤ 4096) r name are.live_few dropped-few (omega arith) in
      le-leb (length (messages (said_by r 9223372036854775808) name)) 4096 (omega (arith, same, few))

  pub within-limits : IsWithin (said_by r 9223372036854775808) limits_of_bases
  within-limits =
      let names = length-append (keys_of r.live) (keys_of r.dropped) in
      let live = length-keys r.live in
      let dropped = length-keys r.dropped in
      let weight = weight-said_by r 9223372036854775808 formed in
      let light = are.light in
      let changes = listed_count-said_by r 9223372036854775808 formed in
      let listed = are.listed in (
        at-most 16 (length r.clients) few-clients,
        (
          at-most 64 (length (keys_of r.live ++ keys_of r.dropped)) (omega (arith, names, live, dropped, few-names)),
          (
            ap not (all-names (λ name. nat_le (mailbox_of r name).highest MOST_UIDS) (keys_of r.live ++ keys_of r.dropped) few-uids),
            (
              ap not (all-names (λ name. nat_le (length (messages (said_by r 9223372036854775808) name)) MOST_MESSAGES) (keys_of r.live) few-messages),
              (
                at-most 16777216 _ (omega (arith, weight, light)),
                (
                  at-most 1048576 _ (omega (arith, changes, listed)),
                  (at-most 64 (length r.subscriptions) few-boards, tt),
                ),
              ),
            ),
          ),
        ),
      )

-- ---- the whole record

pub record IsReadRecord (fields : List (List ℕ)) (r : AccountRecord) : Type 0 where
  pub spelled : fields ≡ fields_of_record r
  pub canonical : IsCanonical r 9223372036854775808
  pub fits : IsTrue (fits_record r)

module _ (pulled : ℕ) (digest : Option (List ℕ)) (clients : List (List ℕ × ℕ)) (mailboxes : Table × Table) (subscriptions : List (List ℕ × ℕ)) (f1 f2 f3 f4 : List (List ℕ)) (last : pulled ≤ LAST_MAIL) (d : IsReadDigest (u64_field pulled ∷ []) f1 digest) (c : AreReadClients f1 f2 clients) (m : IsReadTable clients f2 f3 mailboxes) (s : AreReadSubscriptions f3 f4 subscriptions) where
  abbrev r : AccountRecord
  r = record { pulled = pulled; digest = digest; clients = clients; live = mailboxes.0; dropped = mailboxes.1; subscriptions = subscriptions }

  formed : IsWellFormed r 9223372036854775808
  formed =
      let low = c.are.last in
      record {
        positive = omega arith;
        births_rise = c.are.rise;
        births = Every-weaker (λ (client : List ℕ × ℕ). (0 < client.1) × (client.1 ≤ c.low)) (λ (client : List ℕ × ℕ). (0 < client.1) × (client.1 < 9223372036854775808)) (λ client h. (h.0, omega (arith, h.1, low))) clients c.are.upto;
        client_names = c.are.distinct;
        mailbox_names = m.are.distinct;
        live = m.are.live_are;
        dropped = m.are.dropped_are;
        boards = s.distinct;
        pulled = last;
      }

  record-canonical : IsCanonical r 9223372036854775808
  record-canonical = record { well_formed = formed; within = within-limits r formed c.few m.few m.are s.few }

  record-fits : IsTrue (fits_record r)
  record-fits =
      and_from (is_digest digest && list_all client_fits clients && list_all mailbox_fits mailboxes.0 && list_all mailbox_fits mailboxes.1) (list_all subscription_fits subscriptions)
      (and_from (is_digest digest && list_all client_fits clients && list_all mailbox_fits mailboxes.0) (list_all mailbox_fits mailboxes.1) (and_from (is_digest digest && list_all client_fits clients) (list_all mailbox_fits mailboxes.0) (and_from (is_digest digest) (list_all client_fits clients) d.fits c.are.fit) m.are.live_fit) m.are.dropped_fit) s.fit

  record-spelled : f4 ≡ fields_of_record r
  record-spelled =
      let second = ap (λ (t : List (List ℕ)). t ++ short_list client_fields clients) d.spelled in
      let third = ap (λ (t : List (List ℕ)). t ++ mailboxes_fields r) (c.spelled ∙ second) in
      let fourth = ap (λ (t : List (List ℕ)). t ++ short_list subscription_fields subscriptions) (m.spelled ∙ third) in
      s.spelled ∙ fourth

  pub record-read : IsReadRecord f4 r
  record-read = record { spelled = record-spelled; canonical = record-canonical; fits = record-fits }

abbrev pub with_subscriptions : ℕ → Option (List ℕ) → List (List ℕ × ℕ) → Table × Table → Format AccountRecord
with_subscriptions pulled digest clients mailboxes = bind subscriptions_format (λ subscriptions. ends (record { pulled = pulled; digest = digest; clients = clients; live = mailboxes.0; dropped = mailboxes.1; subscriptions = subscriptions }))

abbrev pub with_mailboxes : ℕ → Option (List ℕ) → List (List ℕ × ℕ) → Format AccountRecord
with_mailboxes pulled digest clients = bind (mailboxes_format clients) (with_subscriptions pulled digest clients)

abbrev pub with_clients : ℕ → Option (List ℕ) → Format AccountRecord
with_clients pulled digest = bind clients_format (with_mailboxes pulled digest)

pub good_record : Good IsReadRecord record_format []
good_record = (
  (0, refl, refl),
  λ pulled fit passed.
      good_bind (IsReadDigest (u64_field pulled ∷ [])) IsReadRecord digest_format (with_clients pulled) (u64_field pulled ∷ []) (good_digest (u64_field pulled ∷ []))
      (λ f1 digest d.
      good_bind (AreReadClients f1) IsReadRecord clients_format (with_mailboxes pulled digest) f1 (good_clients f1)
      (λ f2 clients c.
      good_bind (IsReadTable clients f2) IsReadRecord (mailboxes_format clients) (with_subscriptions pulled digest clients) f2 (good_mailboxes clients f2 c.are.fit c.few)
      (λ f3 mailboxes m.
      good_bind (AreReadSubscriptions f3) IsReadRecord subscriptions_format (λ subscriptions. ends (record { pulled = pulled; digest = digest; clients = clients; live = mailboxes.0; dropped = mailboxes.1; subscriptions = subscriptions })) f3 (good_subscriptions f3)
      (λ f4 subscriptions s. record-read pulled digest clients mailboxes subscriptions f1 f2 f3 f4 (within-parts 0 LAST_MAIL pulled passed).1 d c m s)))),
)
