-- The fields of a record that can be saved are read as it.
use Rattle.std.proofs.Common.{◌≡◌, ℕ, zero, suc, ◌+◌, ◌-◌, ◌/◌, ◌<◌, ◌≤◌, ◌&&◌, nat_lt, nat_le, min, Bool, true, false, not, List, [], ◌∷◌, ◌++◌, length, Option, None, Some, refl, sym, ap, subst, ◌∙◌, append_assoc, arith, length-append, inl, inr}
use Rattle.std.specs.List.{list_all, flat_map, AllByRecursion as Every}
use Rattle.std.specs.Map.{keys_of}
use Rattle.std.proofs.lemmas.Bool.{ltb-true, ltb-false, leb-true, lt-ltb, and_parts, not-false}
use Rattle.std.proofs.lemmas.List.{append-nil}
use Rattle.pc_base.specs.Name.{is_name}
use Rattle.pc_message.specs.Message.{weight_of}
use Rattle.pc_account_history.specs.declared.kept.Kept.{Kept}
use Rattle.pc_account_history.specs.declared.kept.Listed.{Listed}
use Rattle.pc_message.specs.declared.limits.TheConstants.{LAST_MAIL}
use Rattle.pc_account_history.specs.declared.limits.TheConstants.{MOST_UIDS, MOST_MESSAGES, MOST_WEIGHT, MOST_CHANGES}
use Rattle.pc_tables.specs.Table.{same, is_among, total}
use Rattle.pc_account_history.specs.Record.{MailboxRecord, AccountRecord, mailbox_of}
use Rattle.pc_account_history.specs.Known.{said_by}
use Rattle.pc_account_history.specs.Allowed.{messages}
use Rattle.pc_tables.specs.Order.{Ordered, AreDistinct}
use Rattle.pc_account_history.specs.Legal.{IsChange, IsUpdateList, AreListsOf, IsMailbox, IsWellFormed}
use Rattle.pc_tables.proofs.Table.{same-refl, same-sym, keys-append, length-keys}
use Rattle.pc_tables.proofs.Lists.{Every-weaker, Every-split, list_all-split}
use Rattle.pc_account_history.proofs.Counts.{messages-said_by, weight-said_by, listed_count-said_by, Every-found_there}
use Rattle.pc_tables.proofs.Totals.{total-append}
use Rattle.pc_fields.specs.FieldBytes.{u32_field, u64_field, short_list}
use Rattle.pc_account_spelling.specs.Spelling.{digest_fields, client_fields, kept_fields, listed_fields, update_list_fields, mailbox_fields, mailboxes_fields, subscription_fields, fields_of_record}
use Rattle.pc_fields.specs.Fields.{u16_kind, within, is_new}
use Rattle.pc_fields.specs.Format.{ends, goes, bind, ReadsAs}
use Rattle.pc_fields.specs.Fitting.{is_u32}
use Rattle.pc_account_spelling.specs.RecordForm.{is_digest, is_entry_number, client_fits, kept_fits, listed_fits, list_fits, mailbox_fits, subscription_fits, CanBeSaved}
use Rattle.pc_account_spelling.specs.RecordFormat.{last_number, digest_format, clients_from, clients_format, messages_from, changes_from, lists_from, mailbox_format, weight_under, changes_under, mailboxes_from, mailboxes_format, subscriptions_from, subscriptions_format, record_format}
use Rattle.pc_fields.proofs.Formats.{reads_bind}
use Rattle.pc_fields.proofs.Pushes.{is-within}
use Rattle.pc_account_spelling.proofs.GoodMailboxes.{Table, weight_of_box, changes_of_box, box_fields}
use Rattle.pc_account_spelling.proofs.GoodRecord.{with_subscriptions, with_mailboxes, with_clients}
use Rattle.pc_account_spelling.proofs.ReadsMessages.{rising-room, weight-least, reads_messages}
use Rattle.pc_account_spelling.proofs.ReadsChanges.{above-room, above-all, IsBehind, AreLeft, reads_changes}

-- ---- names

new-among : (name : List ℕ) (names more : List (List ℕ)) → AreDistinct (names ++ name ∷ more) → is_among name names ≡ false
new-among name [] more h = refl
new-among name (other ∷ names) more h =
    let here = (Every-split (λ (later : List ℕ). same other later ≡ false) names (name ∷ more) h.0).1.0 in
    rw (same-sym name other, here) (new-among name names more h.1)

pub is-new : (name : List ℕ) (names more : List (List ℕ)) → AreDistinct (names ++ name ∷ more) → is_new names name ≡ true
is-new name names more h = ap not (new-among name names more h)

keys-middle : {X : Type 0} (before : List (List ℕ × X)) (entry : List ℕ × X) (rest : List (List ℕ × X)) → keys_of (before ++ entry ∷ rest) ≡ keys_of before ++ entry.0 ∷ keys_of rest
keys-middle before entry rest = keys-append before (entry ∷ rest)

-- ---- the digest

reads-digest : (digest : Option (List ℕ)) → is_digest digest ≡ true → ReadsAs digest_format (digest_fields digest) digest
reads-digest None fits = (false, [], refl, refl, refl, (refl, refl))
reads-digest (Some digest) fits = (true, digest ∷ [], refl, refl, refl, (digest, [], fits, refl, refl, (refl, refl)))

-- ---- clients

births-room : (birth : ℕ) (clients : List (List ℕ × ℕ)) → birth ≤ last_number → Every (λ (client : List ℕ × ℕ). birth < client.1) clients → Ordered (λ (client later : List ℕ × ℕ). client.1 < later.1) clients → list_all client_fits clients ≡ true → birth + length clients ≤ last_number
births-room birth [] le behind rise fit = omega (arith, le)
births-room birth (client ∷ clients) le behind rise fit =
    let parts = and_parts (client_fits client) (list_all client_fits clients) fit in
    let inner = and_parts (is_name client.0) (is_entry_number client.1) parts.0 in
    let lt = ltb-true client.1 9223372036854775808 inner.1 in
    let rest = births-room client.1 clients (omega (arith, lt)) rise.0 rise.1 parts.1 in
    let here = behind.0 in
    omega (arith, rest, here)

reads-clients : (rest : List (List ℕ × ℕ)) (low : ℕ) (before : List (List ℕ × ℕ)) → Every (λ (client : List ℕ × ℕ). low < client.1) rest → Ordered (λ (client later : List ℕ × ℕ). client.1 < later.1) rest → list_all client_fits rest ≡ true → AreDistinct (keys_of (before ++ rest)) → ReadsAs (clients_from (length rest) low before) (flat_map client_fields rest) (before ++ rest)
reads-clients [] low before behind rise fit distinct = (refl, append-nil before)
reads-clients (client ∷ rest) low before behind rise fit distinct =
    let parts = and_parts (client_fits client) (list_all client_fits rest) fit in
    let inner = and_parts (is_name client.0) (is_entry_number client.1) parts.0 in
    let lt = ltb-true client.1 9223372036854775808 inner.1 in
    let room = births-room client.1 rest (omega (arith, lt)) rise.0 rise.1 parts.1 in
    let above = behind.0 in (
      client.0,
      u64_field client.1 ∷ flat_map client_fields rest,
      inner.0,
      is-new client.0 (keys_of before) (keys_of rest) (subst AreDistinct (keys-middle before client rest) distinct),
      refl,
      (
        client.1,
        flat_map client_fields rest,
        lt-ltb client.1 18446744073709551616 (omega (arith, lt)),
        is-within (suc low) (last_number - length rest) client.1 (omega (arith, above)) (omega (arith, room)),
        refl,
        subst (ReadsAs (clients_from (length rest) client.1 (before ++ client ∷ [])) (flat_map client_fields rest)) (append_assoc before (client ∷ []) rest)
            (reads-clients rest client.1 (before ++ client ∷ []) rise.0 rise.1 parts.1 (subst (λ (t : List (List ℕ × ℕ)). AreDistinct (keys_of t)) (sym (append_assoc before (client ∷ []) rest)) distinct)),
      ),
    )

-- ---- subscriptions

reads-subscriptions : (rest before : List (List ℕ × ℕ)) → list_all subscription_fits rest ≡ true → AreDistinct (keys_of (before ++ rest)) → ReadsAs (subscriptions_from (length rest) before) (flat_map subscription_fields rest) (before ++ rest)
reads-subscriptions [] before fit distinct = (refl, append-nil before)
reads-subscriptions (subscription ∷ rest) before fit distinct =
    let parts = and_parts (subscription_fits subscription) (list_all subscription_fits rest) fit in
    let inner = and_parts (is_name subscription.0) (is_u32 subscription.1) parts.0 in
    let lt = ltb-true subscription.1 4294967296 inner.1 in (
      subscription.0,
      u32_field subscription.1 ∷ flat_map subscription_fields rest,
      inner.0,
      is-new subscription.0 (keys_of before) (keys_of rest) (subst AreDistinct (keys-middle before subscription rest) distinct),
      refl,
      (
        subscription.1,
        flat_map subscription_fields rest,
        inner.1,
        is-within 0 4294967295 subscription.1 (omega arith) (omega (arith, lt)),
        refl,
        subst (ReadsAs (subscriptions_from (length rest) (before ++ subscription ∷ [])) (flat_map subscription_fields rest)) (append_assoc before (subscription ∷ []) rest)
            (reads-subscriptions rest (before ++ subscription ∷ []) parts.1 (subst (λ (t : List (List ℕ × ℕ)). AreDistinct (keys_of t)) (sym (append_assoc before (subscription ∷ []) rest)) distinct)),
      ),
    )

-- ---- update lists

change-given : (number highest birth : ℕ) (listed : Listed) → IsChange number highest birth listed → (0 < listed.uid) × (listed.uid ≤ highest)
change-given number highest birth listed change = (change.positive, change.given)

change-behind : (number highest birth : ℕ) (listed : Listed) → IsChange number highest birth listed → IsBehind birth 0 listed
change-behind number highest birth listed change = by_test (nat_lt birth listed.stamp) refl
  where
    by_test : (b : Bool) → nat_lt birth listed.stamp ≡ b → IsBehind birth 0 listed
    by_test true e = inl (ltb-true birth listed.stamp e)
    by_test false e = let le = ltb-false birth listed.stamp e in let ge = change.since_birth in inr (omega (arith, le, ge), change.positive)

list-left : (number highest birth : ℕ) (list : List Listed) → IsUpdateList number highest birth list → list_all listed_fits list ≡ true → AreLeft highest birth 0 [] list
list-left number highest birth list is fit = record {
  in_order = is.in_order;
  behind = Every-weaker (IsChange number highest birth) (IsBehind birth 0) (change-behind number highest birth) list is.changes;
  distinct = is.distinct;
  given = Every-weaker (IsChange number highest birth) (λ (listed : Listed). (0 < listed.uid) × (listed.uid ≤ highest)) (change-given number highest birth) list is.changes;
  fit = fit;
}

list-short : (number highest birth : ℕ) (list : List Listed) → IsUpdateList number highest birth list → length list ≤ highest
list-short number highest birth list is =
    let all = above-all 0 list (Every-weaker (IsChange number highest birth) (λ (listed : Listed). 0 < listed.uid) (λ listed change. change.positive) list is.changes) in
    let room = above-room highest 0 list is.distinct (Every-weaker (IsChange number highest birth) (λ (listed : Listed). listed.uid ≤ 0 + highest) (λ listed change. let given = change.given in omega (arith, given)) list is.changes) in
    omega (arith, all, room)

abbrev Lists : Type 0
Lists = List (List ℕ × List Listed)

reads-lists : (number highest : ℕ) (clients : List (List ℕ × ℕ)) (rest : Lists) (room : ℕ) (before : Lists) → highest < 4294967296 → AreListsOf number highest clients rest → list_all list_fits rest ≡ true → total (λ (list : List ℕ × List Listed). length list.1) rest ≤ room
    → ReadsAs (lists_from highest room clients before) (flat_map update_list_fields rest) (before ++ rest)
reads-lists number highest [] [] room before small are fit light = (refl, append-nil before)
reads-lists number highest [] (list ∷ rest) room before small are fit light = absurd are
reads-lists number highest (client ∷ clients) [] room before small are fit light = absurd are
reads-lists number highest (client ∷ clients) (list ∷ rest) room before small are fit light =
    let parts = and_parts (list_fits list) (list_all list_fits rest) fit in
    let inner = and_parts (is_name list.0) (list_all listed_fits list.1) parts.0 in
    let short = list-short number highest client.1 list.1 are.1 in (
      list.0,
      u32_field (length list.1) ∷ (flat_map listed_fields list.1 ++ flat_map update_list_fields rest),
      inner.0,
      ap (same client.0) are.0 ∙ same-refl client.0,
      refl,
      (
        length list.1,
        flat_map listed_fields list.1 ++ flat_map update_list_fields rest,
        lt-ltb (length list.1) 4294967296 (omega (arith, short, small)),
        is-within 0 (min highest room) (length list.1) (omega arith) (omega (arith, short, light)),
        refl,
        reads_bind (changes_from highest (length list.1) client.1 0 []) (λ changes. lists_from highest (room - length changes) clients (before ++ (client.0, changes) ∷ [])) (flat_map listed_fields list.1) (flat_map update_list_fields rest) list.1 (before ++ list ∷ rest)
            (reads_changes highest list.1 client.1 0 [] (list-left number highest client.1 list.1 are.1 inner.1))
            (subst (ReadsAs (lists_from highest (room - length list.1) clients (before ++ (client.0, list.1) ∷ [])) (flat_map update_list_fields rest)) (append_assoc before ((client.0, list.1) ∷ []) rest ∙ ap (λ (name : List ℕ). before ++ (name, list.1) ∷ rest) (sym are.0))
            (reads-lists number highest clients rest (room - length list.1) (before ++ (client.0, list.1) ∷ []) small are.2 parts.1 (omega (arith, light)))),
      ),
    )

-- ---- mailboxes

lists-length : (number highest : ℕ) (clients : List (List ℕ × ℕ)) (lists : Lists) → AreListsOf number highest clients lists → length lists ≡ length clients
lists-length number highest [] [] h = refl
lists-length number highest [] (list ∷ lists) h = absurd h
lists-length number highest (client ∷ clients) [] h = absurd h
lists-length number highest (client ∷ clients) (list ∷ lists) h = ap suc (lists-length number highest clients lists h.2)

-- what a mailbox is within the room that there is
pub record Fits (number : ℕ) (clients : List (List ℕ × ℕ)) (most weight changes : ℕ) (mailbox : List ℕ × MailboxRecord) : Type 0 where
  pub is : IsMailbox number clients mailbox.1
  pub uids : mailbox.1.highest ≤ 1000000000
  pub few : length mailbox.1.messages ≤ most
  pub light : weight_of_box mailbox.1 ≤ weight
  pub listed : changes_of_box mailbox.1 ≤ changes
  pub fit : mailbox_fits mailbox ≡ true

reads-mailbox : (number : ℕ) (clients : List (List ℕ × ℕ)) (most weight changes : ℕ) (mailbox : List ℕ × MailboxRecord) → length clients ≤ 16 → Fits number clients most weight changes mailbox → ReadsAs (mailbox_format clients most weight changes) (box_fields mailbox.1) mailbox.1
reads-mailbox number clients most weight changes mailbox few-clients fits =
    let box = mailbox.1 in
    let uids = fits.uids in
    let few = fits.few in
    let light = fits.light in
    let last = and_parts (is_name mailbox.0 && is_u32 box.highest && list_all kept_fits box.messages) (list_all list_fits box.lists) fits.fit in
    let middle = and_parts (is_name mailbox.0 && is_u32 box.highest) (list_all kept_fits box.messages) last.0 in
    let given = fits.is.messages.given in
    let positive = Every-weaker (λ (kept : Kept). (0 < kept.uid) × (kept.uid ≤ box.highest)) (λ (kept : Kept). 0 < kept.uid) (λ kept h. h.0) box.messages given in
    let upto = Every-weaker (λ (kept : Kept). (0 < kept.uid) × (kept.uid ≤ box.highest)) (λ (kept : Kept). kept.uid ≤ box.highest) (λ kept h. h.1) box.messages given in
    let room = rising-room box.highest 0 box.messages (omega arith) positive fits.is.messages.rising upto in
    let least = weight-least box.messages in
    let size = lists-length number box.highest clients box.lists fits.is.lists in (
      box.highest,
      _,
      lt-ltb box.highest 4294967296 (omega (arith, uids)),
      is-within 0 1000000000 box.highest (omega arith) uids,
      refl,
      (
        length box.messages,
        _,
        lt-ltb (length box.messages) 4294967296 (omega (arith, room, uids)),
        is-within 0 (min most (min box.highest (weight / 256))) (length box.messages) (omega arith) (omega (arith, few, room, least, light)),
        refl,
        reads_bind (messages_from box.highest (length box.messages) 0 weight []) (λ messages. goes u16_kind (within (length clients) (length clients)) (λ _. bind (lists_from box.highest changes clients []) (λ lists. ends (record { highest = box.highest; messages = messages; lists = lists })))) (flat_map kept_fields box.messages) (short_list update_list_fields box.lists) box.messages box
            (reads_messages box.highest box.messages 0 weight [] positive fits.is.messages.rising upto middle.1 light) (
              length box.lists,
              flat_map update_list_fields box.lists,
              lt-ltb (length box.lists) 65536 (omega (arith, size, few-clients)),
              is-within (length clients) (length clients) (length box.lists) (omega (arith, size)) (omega (arith, size)),
              refl,
              subst (λ (fields : List (List ℕ)). ReadsAs (bind (lists_from box.highest changes clients []) (λ lists. ends (record { highest = box.highest; messages = box.messages; lists = lists }))) fields box) (append-nil (flat_map update_list_fields box.lists))
                  (reads_bind (lists_from box.highest changes clients []) (λ lists. ends (record { highest = box.highest; messages = box.messages; lists = lists })) (flat_map update_list_fields box.lists) [] box.lists box
                  (reads-lists number box.highest clients box.lists changes [] (omega (arith, uids)) fits.is.lists last.1 fits.listed) (refl, refl)),
            ),
      ),
    )

-- a mailbox in a record that can be saved
pub record Stands (number : ℕ) (clients : List (List ℕ × ℕ)) (mailbox : List ℕ × MailboxRecord) : Type 0 where
  pub is : IsMailbox number clients mailbox.1
  pub uids : mailbox.1.highest ≤ 1000000000
  pub few : length mailbox.1.messages ≤ 4096
  pub fit : mailbox_fits mailbox ≡ true

abbrev StandsDropped : ℕ → List (List ℕ × ℕ) → List ℕ × MailboxRecord → Type 0
StandsDropped number clients mailbox = Stands number clients mailbox × (mailbox.1.messages ≡ [])

name-fits : (mailbox : List ℕ × MailboxRecord) → mailbox_fits mailbox ≡ true → is_name mailbox.0 ≡ true
name-fits mailbox fit =
    let last = and_parts (is_name mailbox.0 && is_u32 mailbox.1.highest && list_all kept_fits mailbox.1.messages) (list_all list_fits mailbox.1.lists) fit in
    let middle = and_parts (is_name mailbox.0 && is_u32 mailbox.1.highest) (list_all kept_fits mailbox.1.messages) last.0 in
    (and_parts (is_name mailbox.0) (is_u32 mailbox.1.highest) middle.0).0

module _ (number : ℕ) (clients : List (List ℕ × ℕ)) (few-clients : length clients ≤ 16) where
  reads-dropped : (rest live dropped : Table) → Every (StandsDropped number clients) rest → changes_under live + changes_under dropped + changes_under rest ≤ 1048576 → AreDistinct (keys_of live ++ keys_of (dropped ++ rest))
      → ReadsAs (mailboxes_from clients (length rest) live dropped) (flat_map (mailbox_fields false) rest) (live, dropped ++ rest)
  reads-dropped [] live dropped stand few distinct = (refl, ap (λ (t : Table). (live, t)) (append-nil dropped))
  reads-dropped (mailbox ∷ rest) live dropped stand few distinct =
      let here = stand.0.0 in
      let none = ap length stand.0.1 in
      let no-weight = ap (λ (messages : List Kept). total (λ (kept : Kept). weight_of kept.message) messages) stand.0.1 in
      let longer = total-append (λ (entry : List ℕ × MailboxRecord). changes_of_box entry.1) dropped (mailbox ∷ []) in
      let again = append_assoc dropped (mailbox ∷ []) rest in
      let weight = MOST_WEIGHT - weight_under live in
      let changes = MOST_CHANGES - (changes_under live + changes_under dropped) in (
        mailbox.0,
        _,
        name-fits mailbox here.fit,
        is-new mailbox.0 (keys_of live ++ keys_of dropped) (keys_of rest) (subst AreDistinct (ap (λ (names : List (List ℕ)). keys_of live ++ names) (keys-middle dropped mailbox rest) ∙ sym (append_assoc (keys_of live) (keys_of dropped) (mailbox.0 ∷ keys_of rest))) distinct),
        refl,
        (
          false,
          box_fields mailbox.1 ++ flat_map (mailbox_fields false) rest,
          refl,
          refl,
          refl,
          reads_bind (mailbox_format clients 0 weight changes) (λ box. mailboxes_from clients (length rest) live (dropped ++ (mailbox.0, box) ∷ [])) (box_fields mailbox.1) (flat_map (mailbox_fields false) rest) mailbox.1 (live, dropped ++ mailbox ∷ rest)
              (reads-mailbox number clients 0 weight changes mailbox few-clients (record { is = here.is; uids = here.uids; few = omega (arith, none); light = omega (arith, no-weight); listed = omega (arith, few); fit = here.fit }))
              (subst (ReadsAs (mailboxes_from clients (length rest) live (dropped ++ mailbox ∷ [])) (flat_map (mailbox_fields false) rest)) (ap (λ (t : Table). (live, t)) again)
              (reads-dropped rest live (dropped ++ mailbox ∷ []) stand.1 (omega (arith, longer, few)) (subst (λ (t : Table). AreDistinct (keys_of live ++ keys_of t)) (sym again) distinct))),
        ),
      )

  reads-live : (rest : Table) (count : ℕ) (live out : Table) → count ≡ length rest + length out → Every (Stands number clients) rest → Every (StandsDropped number clients) out → weight_under live + weight_under rest ≤ 16777216 → changes_under live + changes_under rest + changes_under out ≤ 1048576 → AreDistinct (keys_of (live ++ rest) ++ keys_of out)
      → ReadsAs (mailboxes_from clients count live []) (flat_map (mailbox_fields true) rest ++ flat_map (mailbox_fields false) out) (live ++ rest, out)
  reads-live [] count live out is stand gone light few distinct =
      subst (λ (n : ℕ). ReadsAs (mailboxes_from clients n live []) (flat_map (mailbox_fields false) out) (live ++ [], out)) (let same : length out ≡ count = omega (arith, is) in same)
      (subst (λ (t : Table). ReadsAs (mailboxes_from clients (length out) live []) (flat_map (mailbox_fields false) out) (t, out)) (sym (append-nil live))
      (reads-dropped out live [] gone (omega (arith, few)) (subst (λ (t : Table). AreDistinct (keys_of t ++ keys_of out)) (append-nil live) distinct)))
  reads-live (mailbox ∷ rest) zero live out is stand gone light few distinct = absurd (omega (arith, is))
  reads-live (mailbox ∷ rest) (suc count) live out is stand gone light few distinct =
      let here = stand.0 in
      let heavier = total-append (λ (entry : List ℕ × MailboxRecord). weight_of_box entry.1) live (mailbox ∷ []) in
      let longer = total-append (λ (entry : List ℕ × MailboxRecord). changes_of_box entry.1) live (mailbox ∷ []) in
      let again = append_assoc live (mailbox ∷ []) rest in
      let more = flat_map (mailbox_fields false) out in
      let weight = MOST_WEIGHT - weight_under live in
      let changes = MOST_CHANGES - (changes_under live + 0) in (
        mailbox.0,
        _,
        name-fits mailbox here.fit,
        is-new mailbox.0 (keys_of live ++ []) (keys_of rest ++ keys_of out) (subst AreDistinct (split-keys mailbox rest live out) distinct),
        refl,
        (
          true,
          (box_fields mailbox.1 ++ flat_map (mailbox_fields true) rest) ++ more,
          refl,
          refl,
          refl,
          subst (λ (fields : List (List ℕ)). ReadsAs (bind (mailbox_format clients MOST_MESSAGES weight changes) (λ box. mailboxes_from clients count (live ++ (mailbox.0, box) ∷ []) [])) fields (live ++ mailbox ∷ rest, out)) (sym (append_assoc (box_fields mailbox.1) (flat_map (mailbox_fields true) rest) more))
              (reads_bind (mailbox_format clients MOST_MESSAGES weight changes) (λ box. mailboxes_from clients count (live ++ (mailbox.0, box) ∷ []) []) (box_fields mailbox.1) (flat_map (mailbox_fields true) rest ++ more) mailbox.1 (live ++ mailbox ∷ rest, out)
              (reads-mailbox number clients MOST_MESSAGES weight changes mailbox few-clients (record { is = here.is; uids = here.uids; few = here.few; light = omega (arith, light); listed = omega (arith, few); fit = here.fit }))
              (subst (λ (t : Table). ReadsAs (mailboxes_from clients count (live ++ mailbox ∷ []) []) (flat_map (mailbox_fields true) rest ++ more) (t, out)) again
              (reads-live rest count (live ++ mailbox ∷ []) out (omega (arith, is)) stand.1 gone (omega (arith, heavier, light)) (omega (arith, longer, few)) (subst (λ (t : Table). AreDistinct (keys_of t ++ keys_of out)) (sym again) distinct)))),
        ),
      )
    where
      split-keys : (mailbox : List ℕ × MailboxRecord) (rest live out : Table) → keys_of (live ++ mailbox ∷ rest) ++ keys_of out ≡ (keys_of live ++ []) ++ mailbox.0 ∷ (keys_of rest ++ keys_of out)
      split-keys mailbox rest live out = ap (λ (names : List (List ℕ)). names ++ keys_of out) (keys-middle live mailbox rest) ∙ append_assoc (keys_of live) (mailbox.0 ∷ keys_of rest) (keys_of out) ∙ ap (λ (names : List (List ℕ)). names ++ mailbox.0 ∷ (keys_of rest ++ keys_of out)) (sym (append-nil (keys_of live)))

-- ---- what a record that can be saved says of its parts

module _ (r : AccountRecord) (number : ℕ) (formed : IsWellFormed r number) where
  all-stand : (table : Table) → Every (λ (mailbox : List ℕ × MailboxRecord). IsMailbox number r.clients mailbox.1) table → Every (λ (mailbox : List ℕ × MailboxRecord). mailbox_of r mailbox.0 ≡ mailbox.1) table → list_all (λ (name : List ℕ). nat_le (mailbox_of r name).highest MOST_UIDS) (keys_of table) ≡ true → list_all (λ (name : List ℕ). nat_le (length (messages (said_by r number) name)) MOST_MESSAGES) (keys_of table) ≡ true → list_all mailbox_fits table ≡ true → Every (Stands number r.clients) table
  all-stand [] are there uids few fit = tt
  all-stand (mailbox ∷ table) are there uids few fit =
      let uid-parts = and_parts (nat_le (mailbox_of r mailbox.0).highest MOST_UIDS) (list_all (λ (name : List ℕ). nat_le (mailbox_of r name).highest MOST_UIDS) (keys_of table)) uids in
      let few-parts = and_parts (nat_le (length (messages (said_by r number) mailbox.0)) MOST_MESSAGES) (list_all (λ (name : List ℕ). nat_le (length (messages (said_by r number) name)) MOST_MESSAGES) (keys_of table)) few in
      let fit-parts = and_parts (mailbox_fits mailbox) (list_all mailbox_fits table) fit in
      let highest = ap (λ (box : MailboxRecord). box.highest) there.0 in
      let count = ap length (messages-said_by r number formed mailbox.0 ∙ ap (λ (box : MailboxRecord). box.messages) there.0) in
      let most-uids = leb-true (mailbox_of r mailbox.0).highest 1000000000 uid-parts.0 in
      let most-messages = leb-true (length (messages (said_by r number) mailbox.0)) 4096 few-parts.0 in
      (record { is = are.0; uids = omega (arith, highest, most-uids); few = omega (arith, count, most-messages); fit = fit-parts.0 }, all-stand table are.1 there.1 uid-parts.1 few-parts.1 fit-parts.1)

  all-dropped : (table : Table) → Every (λ (mailbox : List ℕ × MailboxRecord). IsMailbox number r.clients mailbox.1 × (mailbox.1.messages ≡ [])) table → Every (λ (mailbox : List ℕ × MailboxRecord). mailbox_of r mailbox.0 ≡ mailbox.1) table → list_all (λ (name : List ℕ). nat_le (mailbox_of r name).highest MOST_UIDS) (keys_of table) ≡ true → list_all mailbox_fits table ≡ true → Every (StandsDropped number r.clients) table
  all-dropped [] are there uids fit = tt
  all-dropped (mailbox ∷ table) are there uids fit =
      let uid-parts = and_parts (nat_le (mailbox_of r mailbox.0).highest MOST_UIDS) (list_all (λ (name : List ℕ). nat_le (mailbox_of r name).highest MOST_UIDS) (keys_of table)) uids in
      let fit-parts = and_parts (mailbox_fits mailbox) (list_all mailbox_fits table) fit in
      let highest = ap (λ (box : MailboxRecord). box.highest) there.0 in
      let none = ap length are.0.1 in
      let most-uids = leb-true (mailbox_of r mailbox.0).highest 1000000000 uid-parts.0 in
      ((record { is = are.0.0; uids = omega (arith, highest, most-uids); few = omega (arith, none); fit = fit-parts.0 }, are.0.1), all-dropped table are.1 there.1 uid-parts.1 fit-parts.1)

grouped : (pulled : List ℕ) (ds cs ms ss : List (List ℕ)) → (((pulled ∷ ds) ++ cs) ++ ms) ++ ss ≡ pulled ∷ (ds ++ (cs ++ (ms ++ (ss ++ []))))
grouped pulled ds cs ms ss = append_assoc ((pulled ∷ ds) ++ cs) ms ss ∙ append_assoc (pulled ∷ ds) cs (ms ++ ss) ∙ ap (λ (t : List (List ℕ)). pulled ∷ (ds ++ (cs ++ (ms ++ t)))) (sym (append-nil ss))

pub reads_record : (r : AccountRecord) → CanBeSaved r → ReadsAs record_format (fields_of_record r) r
reads_record r saved =
    let number = saved.number in
    let formed = saved.canonical.well_formed in
    let within-limits = saved.canonical.within in
    let f4 = and_parts (is_digest r.digest && list_all client_fits r.clients && list_all mailbox_fits r.live && list_all mailbox_fits r.dropped) (list_all subscription_fits r.subscriptions) saved.fits in
    let f3 = and_parts (is_digest r.digest && list_all client_fits r.clients && list_all mailbox_fits r.live) (list_all mailbox_fits r.dropped) f4.0 in
    let f2 = and_parts (is_digest r.digest && list_all client_fits r.clients) (list_all mailbox_fits r.live) f3.0 in
    let f1 = and_parts (is_digest r.digest) (list_all client_fits r.clients) f2.0 in
    let few-clients = ltb-false 16 (length r.clients) within-limits.0 in
    let few-names = ltb-false 64 (length (keys_of r.live ++ keys_of r.dropped)) within-limits.1.0 in
    let names = length-append (keys_of r.live) (keys_of r.dropped) in
    let live-names = length-keys r.live in
    let dropped-names = length-keys r.dropped in
    let uids = list_all-split (λ (name : List ℕ). nat_le (mailbox_of r name).highest MOST_UIDS) (keys_of r.live) (keys_of r.dropped) (not-false _ within-limits.1.1.0) in
    let few-messages = not-false (list_all (λ (name : List ℕ). nat_le (length (messages (said_by r number) name)) MOST_MESSAGES) (keys_of r.live)) within-limits.1.1.1.0 in
    let light = ltb-false 16777216 _ within-limits.1.1.1.1.0 in
    let weighed = weight-said_by r number formed in
    let few-changes = ltb-false 1048576 _ within-limits.1.1.1.1.1.0 in
    let counted = listed_count-said_by r number formed in
    let few-boards = ltb-false 64 (length r.subscriptions) within-limits.1.1.1.1.1.1.0 in
    let there = Every-found_there r formed.mailbox_names in
    let live = all-stand r number formed r.live formed.live there.0 uids.0 few-messages f2.1 in
    let dropped = all-dropped r number formed r.dropped formed.dropped there.1 uids.1 f3.1 in
    let pulled = formed.pulled in (
      r.pulled,
      _,
      lt-ltb r.pulled 18446744073709551616 (omega (arith, pulled)),
      is-within 0 LAST_MAIL r.pulled (omega arith) pulled,
      grouped (u64_field r.pulled) (digest_fields r.digest) (short_list client_fields r.clients) (mailboxes_fields r) (short_list subscription_fields r.subscriptions),
      reads_bind digest_format (with_clients r.pulled) (digest_fields r.digest) (short_list client_fields r.clients ++ (mailboxes_fields r ++ (short_list subscription_fields r.subscriptions ++ []))) r.digest r (reads-digest r.digest f1.0)
          (reads_bind clients_format (with_mailboxes r.pulled r.digest) (short_list client_fields r.clients) (mailboxes_fields r ++ (short_list subscription_fields r.subscriptions ++ [])) r.clients r (
            length r.clients,
            flat_map client_fields r.clients,
            lt-ltb (length r.clients) 65536 (omega (arith, few-clients)),
            is-within 0 16 (length r.clients) (omega arith) few-clients,
            refl,
            reads-clients r.clients 0 [] (Every-weaker (λ (client : List ℕ × ℕ). (0 < client.1) × (client.1 < number)) (λ (client : List ℕ × ℕ). 0 < client.1) (λ client h. h.0) r.clients formed.births) formed.births_rise f1.1 formed.client_names,
          )
          (reads_bind (mailboxes_format r.clients) (with_subscriptions r.pulled r.digest r.clients) (mailboxes_fields r) (short_list subscription_fields r.subscriptions ++ []) (r.live, r.dropped) r (
            length r.live + length r.dropped,
            flat_map (mailbox_fields true) r.live ++ flat_map (mailbox_fields false) r.dropped,
            lt-ltb (length r.live + length r.dropped) 65536 (omega (arith, few-names, names, live-names, dropped-names)),
            is-within 0 64 (length r.live + length r.dropped) (omega arith) (omega (arith, few-names, names, live-names, dropped-names)),
            refl,
            reads-live number r.clients few-clients r.live (length r.live + length r.dropped) [] r.dropped refl live dropped (omega (arith, light, weighed)) (omega (arith, few-changes, counted)) formed.mailbox_names,
          )
          (reads_bind subscriptions_format (λ subscriptions. ends (record { pulled = r.pulled; digest = r.digest; clients = r.clients; live = r.live; dropped = r.dropped; subscriptions = subscriptions })) (short_list subscription_fields r.subscriptions) [] r.subscriptions r
          (length r.subscriptions, flat_map subscription_fields r.subscriptions, lt-ltb (length r.subscriptions) 65536 (omega (arith, few-boards)), is-within 0 64 (length r.subscriptions) (omega arith) few-boards, refl, reads-subscriptions r.subscriptions [] f4.1 formed.boards)
          (refl, refl)))),
    )
