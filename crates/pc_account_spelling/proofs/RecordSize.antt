-- How many bytes a record takes.
use Rattle.std.proofs.Common.{◌≡◌, ℕ, suc, ◌+◌, ◌*◌, ◌≤◌, ◌&&◌, Bool, true, false, List, [], ◌∷◌, ◌++◌, length, Option, None, Some, refl, ap, arith, length-append}
use Rattle.std.specs.List.{list_all, flat_map, AllByRecursion as Every}
use Rattle.std.specs.Map.{keys_of}
use Rattle.std.proofs.lemmas.Bool.{ltb-false, eqb-true, and_parts}
use Rattle.pc_base.specs.Name.{is_name}
use Rattle.pc_message.specs.Message.{weight_of}
use Rattle.pc_account_history.specs.declared.kept.Kept.{Kept}
use Rattle.pc_account_history.specs.declared.kept.Listed.{Listed}
use Rattle.pc_tables.specs.Table.{total}
use Rattle.pc_account_history.specs.Record.{MailboxRecord, AccountRecord}
use Rattle.pc_account_history.specs.Legal.{AreListsOf, IsMailbox}
use Rattle.pc_account_history.proofs.Counts.{weight-said_by, listed_count-said_by}
use Rattle.pc_fields.specs.FieldBytes.{u16_field, u32_field, u64_field, name_field, bool_field, message_fields, short_list, long_list}
use Rattle.pc_account_spelling.specs.Spelling.{digest_fields, client_fields, kept_fields, listed_fields, update_list_fields, mailbox_fields, mailboxes_fields, subscription_fields, spelled_record}
use Rattle.pc_fields.specs.Fitting.{is_u32}
use Rattle.pc_account_spelling.specs.RecordForm.{is_digest, is_entry_number, client_fits, kept_fits, listed_fits, list_fits, mailbox_fits, subscription_fits, CanBeSaved}
use Rattle.pc_fields.proofs.FieldLengths.{u16-long, u32-long, u64-long, name-short, bytes, bytes-more, bytes-both, message-long}
use Rattle.pc_account_spelling.proofs.GoodMailboxes.{Table, weight_of_box, changes_of_box}
use Rattle.pc_tables.proofs.Table.{length-keys}

bytes-kept : (kept : Kept) → bytes (kept_fields kept) ≤ weight_of kept.message
bytes-kept kept =
    let first = bytes-more (u32_field kept.uid) (u16_field kept.flags ∷ message_fields kept.message) in
    let second = bytes-more (u16_field kept.flags) (message_fields kept.message) in
    let four = u32-long kept.uid in
    let two = u16-long kept.flags in
    let rest = message-long kept.message in
    omega (arith, first, second, four, two, rest)

bytes-messages : (messages : List Kept) → bytes (flat_map kept_fields messages) ≤ total (λ (kept : Kept). weight_of kept.message) messages
bytes-messages [] = omega arith
bytes-messages (kept ∷ messages) =
    let both = bytes-both (kept_fields kept) (flat_map kept_fields messages) in
    let here = bytes-kept kept in
    let rest = bytes-messages messages in
    omega (arith, both, here, rest)

bytes-changes : (list : List Listed) → bytes (flat_map listed_fields list) ≡ 12 * length list
bytes-changes [] = refl
bytes-changes (listed ∷ list) =
    let both = bytes-both (listed_fields listed) (flat_map listed_fields list) in
    let first = bytes-more (u32_field listed.uid) (u64_field listed.stamp ∷ []) in
    let second = bytes-more (u64_field listed.stamp) [] in
    let four = u32-long listed.uid in
    let eight = u64-long listed.stamp in
    let rest = bytes-changes list in
    omega (arith, both, first, second, four, eight, rest)

bytes-lists : (lists : List (List ℕ × List Listed)) → list_all list_fits lists ≡ true → bytes (flat_map update_list_fields lists) ≤ 37 * length lists + 12 * total (λ (list : List ℕ × List Listed). length list.1) lists
bytes-lists [] fit = omega arith
bytes-lists (list ∷ lists) fit =
    let parts = and_parts (list_fits list) (list_all list_fits lists) fit in
    let inner = and_parts (is_name list.0) (list_all listed_fits list.1) parts.0 in
    let short = name-short list.0 inner.0 in
    let both = bytes-both (update_list_fields list) (flat_map update_list_fields lists) in
    let first = bytes-more (name_field list.0) (u32_field (length list.1) ∷ flat_map listed_fields list.1) in
    let second = bytes-more (u32_field (length list.1)) (flat_map listed_fields list.1) in
    let four = u32-long (length list.1) in
    let changes = bytes-changes list.1 in
    let rest = bytes-lists lists parts.1 in
    omega (arith, short, both, first, second, four, changes, rest)

lists-as-many : (number highest : ℕ) (clients : List (List ℕ × ℕ)) (lists : List (List ℕ × List Listed)) → AreListsOf number highest clients lists → length lists ≡ length clients
lists-as-many number highest [] [] h = refl
lists-as-many number highest [] (list ∷ lists) h = absurd h
lists-as-many number highest (client ∷ clients) [] h = absurd h
lists-as-many number highest (client ∷ clients) (list ∷ lists) h = ap suc (lists-as-many number highest clients lists h.2)

module _ (number : ℕ) (clients : List (List ℕ × ℕ)) (few : length clients ≤ 16) where
  bytes-mailbox : (lives : Bool) (mailbox : List ℕ × MailboxRecord) → IsMailbox number clients mailbox.1 → mailbox_fits mailbox ≡ true → bytes (mailbox_fields lives mailbox) ≤ 636 + weight_of_box mailbox.1 + 12 * changes_of_box mailbox.1
  bytes-mailbox lives mailbox is fit =
      let box = mailbox.1 in
      let last = and_parts (is_name mailbox.0 && is_u32 box.highest && list_all kept_fits box.messages) (list_all list_fits box.lists) fit in
      let middle = and_parts (is_name mailbox.0 && is_u32 box.highest) (list_all kept_fits box.messages) last.0 in
      let first = and_parts (is_name mailbox.0) (is_u32 box.highest) middle.0 in
      let short = name-short mailbox.0 first.0 in
      let as-many = lists-as-many number box.highest clients box.lists is.lists in
      let split = bytes-both (name_field mailbox.0 ∷ bool_field lives ∷ u32_field box.highest ∷ long_list kept_fields box.messages) (short_list update_list_fields box.lists) in
      let a = bytes-more (name_field mailbox.0) (bool_field lives ∷ u32_field box.highest ∷ long_list kept_fields box.messages) in
      let b = bytes-more (bool_field lives) (u32_field box.highest ∷ long_list kept_fields box.messages) in
      let c = bytes-more (u32_field box.highest) (long_list kept_fields box.messages) in
      let c-four = u32-long box.highest in
      let d = bytes-more (u32_field (length box.messages)) (flat_map kept_fields box.messages) in
      let d-four = u32-long (length box.messages) in
      let messages = bytes-messages box.messages in
      let e = bytes-more (u16_field (length box.lists)) (flat_map update_list_fields box.lists) in
      let e-two = u16-long (length box.lists) in
      let lists = bytes-lists box.lists last.1 in
      omega (arith, short, as-many, split, a, b, c, c-four, d, d-four, messages, e, e-two, lists, few)

  bytes-mailboxes : (lives : Bool) (table : Table) → Every (λ (mailbox : List ℕ × MailboxRecord). IsMailbox number clients mailbox.1) table → list_all mailbox_fits table ≡ true
      → bytes (flat_map (mailbox_fields lives) table) ≤ 636 * length table + total (λ (mailbox : List ℕ × MailboxRecord). weight_of_box mailbox.1) table + 12 * total (λ (mailbox : List ℕ × MailboxRecord). changes_of_box mailbox.1) table
  bytes-mailboxes lives [] are fit = omega arith
  bytes-mailboxes lives (mailbox ∷ table) are fit =
      let parts = and_parts (mailbox_fits mailbox) (list_all mailbox_fits table) fit in
      let both = bytes-both (mailbox_fields lives mailbox) (flat_map (mailbox_fields lives) table) in
      let here = bytes-mailbox lives mailbox are.0 parts.0 in
      let rest = bytes-mailboxes lives table are.1 parts.1 in
      omega (arith, both, here, rest)

bytes-clients : (clients : List (List ℕ × ℕ)) → list_all client_fits clients ≡ true → bytes (flat_map client_fields clients) ≤ 41 * length clients
bytes-clients [] fit = omega arith
bytes-clients (client ∷ clients) fit =
    let parts = and_parts (client_fits client) (list_all client_fits clients) fit in
    let inner = and_parts (is_name client.0) (is_entry_number client.1) parts.0 in
    let short = name-short client.0 inner.0 in
    let both = bytes-both (client_fields client) (flat_map client_fields clients) in
    let first = bytes-more (name_field client.0) (u64_field client.1 ∷ []) in
    let second = bytes-more (u64_field client.1) [] in
    let eight = u64-long client.1 in
    let rest = bytes-clients clients parts.1 in
    omega (arith, short, both, first, second, eight, rest)

bytes-subscriptions : (subscriptions : List (List ℕ × ℕ)) → list_all subscription_fits subscriptions ≡ true → bytes (flat_map subscription_fields subscriptions) ≤ 37 * length subscriptions
bytes-subscriptions [] fit = omega arith
bytes-subscriptions (subscription ∷ subscriptions) fit =
    let parts = and_parts (subscription_fits subscription) (list_all subscription_fits subscriptions) fit in
    let inner = and_parts (is_name subscription.0) (is_u32 subscription.1) parts.0 in
    let short = name-short subscription.0 inner.0 in
    let both = bytes-both (subscription_fields subscription) (flat_map subscription_fields subscriptions) in
    let first = bytes-more (name_field subscription.0) (u32_field subscription.1 ∷ []) in
    let second = bytes-more (u32_field subscription.1) [] in
    let four = u32-long subscription.1 in
    let rest = bytes-subscriptions subscriptions parts.1 in
    omega (arith, short, both, first, second, four, rest)

bytes-digest : (digest : Option (List ℕ)) → is_digest digest ≡ true → bytes (digest_fields digest) ≤ 33
bytes-digest None fits = omega arith
bytes-digest (Some digest) fits =
    let size = eqb-true (length digest) 32 fits in
    let more = bytes-more digest [] in
    omega (arith, size, more)

no-weight : (number : ℕ) (clients : List (List ℕ × ℕ)) (table : Table) → Every (λ (mailbox : List ℕ × MailboxRecord). IsMailbox number clients mailbox.1 × (mailbox.1.messages ≡ [])) table → total (λ (mailbox : List ℕ × MailboxRecord). weight_of_box mailbox.1) table ≡ 0
no-weight number clients [] h = refl
no-weight number clients (mailbox ∷ table) h =
    let here = ap (λ (messages : List Kept). total (λ (kept : Kept). weight_of kept.message) messages) h.0.1 in
    let rest = no-weight number clients table h.1 in
    omega (arith, here, rest)

all-first : (number : ℕ) (clients : List (List ℕ × ℕ)) (table : Table) → Every (λ (mailbox : List ℕ × MailboxRecord). IsMailbox number clients mailbox.1 × (mailbox.1.messages ≡ [])) table → Every (λ (mailbox : List ℕ × MailboxRecord). IsMailbox number clients mailbox.1) table
all-first number clients [] h = tt
all-first number clients (mailbox ∷ table) h = (h.0.0, all-first number clients table h.1)

-- a record that can be saved takes at most 1,073,741,824 bytes
pub record_size : (r : AccountRecord) → CanBeSaved r → length (spelled_record r) ≤ 1073741824
record_size r saved =
    let number = saved.number in
    let formed = saved.canonical.well_formed in
    let within-limits = saved.canonical.within in
    let f4 = and_parts (is_digest r.digest && list_all client_fits r.clients && list_all mailbox_fits r.live && list_all mailbox_fits r.dropped) (list_all subscription_fits r.subscriptions) saved.fits in
    let f3 = and_parts (is_digest r.digest && list_all client_fits r.clients && list_all mailbox_fits r.live) (list_all mailbox_fits r.dropped) f4.0 in
    let f2 = and_parts (is_digest r.digest && list_all client_fits r.clients) (list_all mailbox_fits r.live) f3.0 in
    let f1 = and_parts (is_digest r.digest) (list_all client_fits r.clients) f2.0 in
    let few-clients = ltb-false 16 (length r.clients) within-limits.0 in
    let few-names = ltb-false 64 (length (keys_of r.live ++ keys_of r.dropped)) within-limits.1.0 in
    let names = length-append (keys_of r.live) (keys_of r.dropped) in
    let live-names = length-keys r.live in
    let dropped-names = length-keys r.dropped in
    let light = ltb-false 16777216 _ within-limits.1.1.1.1.0 in
    let weighed = weight-said_by r number formed in
    let few-changes = ltb-false 1048576 _ within-limits.1.1.1.1.1.0 in
    let counted = listed_count-said_by r number formed in
    let few-boards = ltb-false 64 (length r.subscriptions) within-limits.1.1.1.1.1.1.0 in
    parts-size r number (length r.clients) (length r.live) (length r.dropped) (length r.subscriptions)
    (bytes-digest r.digest f1.0) (bytes-clients r.clients f1.1) (bytes-mailboxes number r.clients few-clients true r.live formed.live f2.1) (bytes-mailboxes number r.clients few-clients false r.dropped (all-first number r.clients r.dropped formed.dropped) f3.1) (bytes-subscriptions r.subscriptions f4.1)
    few-clients (omega (arith, few-names, names, live-names, dropped-names)) few-boards
    (omega (arith, light, weighed)) (no-weight number r.clients r.dropped formed.dropped) (omega (arith, few-changes, counted))
  where
    parts-size : (r : AccountRecord) (number c l d s : ℕ)
        → bytes (digest_fields r.digest) ≤ 33 → bytes (flat_map client_fields r.clients) ≤ 41 * c
        → bytes (flat_map (mailbox_fields true) r.live) ≤ 636 * l + total (λ (mailbox : List ℕ × MailboxRecord). weight_of_box mailbox.1) r.live + 12 * total (λ (mailbox : List ℕ × MailboxRecord). changes_of_box mailbox.1) r.live
        → bytes (flat_map (mailbox_fields false) r.dropped) ≤ 636 * d + total (λ (mailbox : List ℕ × MailboxRecord). weight_of_box mailbox.1) r.dropped + 12 * total (λ (mailbox : List ℕ × MailboxRecord). changes_of_box mailbox.1) r.dropped
        → bytes (flat_map subscription_fields r.subscriptions) ≤ 37 * s
        → c ≤ 16 → l + d ≤ 64 → s ≤ 64 → total (λ (mailbox : List ℕ × MailboxRecord). weight_of_box mailbox.1) r.live ≤ 16777216 → total (λ (mailbox : List ℕ × MailboxRecord). weight_of_box mailbox.1) r.dropped ≡ 0
        → total (λ (mailbox : List ℕ × MailboxRecord). changes_of_box mailbox.1) r.live + total (λ (mailbox : List ℕ × MailboxRecord). changes_of_box mailbox.1) r.dropped ≤ 1048576
        → length (spelled_record r) ≤ 1073741824
    parts-size r number c l d s digest clients live dropped subscriptions few-c few-m few-s light none listed =
        let head = u64_field r.pulled ∷ digest_fields r.digest in
        let one = bytes-both (head ++ short_list client_fields r.clients ++ mailboxes_fields r) (short_list subscription_fields r.subscriptions) in
        let two = bytes-both (head ++ short_list client_fields r.clients) (mailboxes_fields r) in
        let three = bytes-both head (short_list client_fields r.clients) in
        let four = bytes-more (u64_field r.pulled) (digest_fields r.digest) in
        let eight = u64-long r.pulled in
        let c-count = bytes-more (u16_field (length r.clients)) (flat_map client_fields r.clients) in
        let c-two = u16-long (length r.clients) in
        let m-count = bytes-more (u16_field (length r.live + length r.dropped)) (flat_map (mailbox_fields true) r.live ++ flat_map (mailbox_fields false) r.dropped) in
        let m-two = u16-long (length r.live + length r.dropped) in
        let m-both = bytes-both (flat_map (mailbox_fields true) r.live) (flat_map (mailbox_fields false) r.dropped) in
        let s-count = bytes-more (u16_field (length r.subscriptions)) (flat_map subscription_fields r.subscriptions) in
        let s-two = u16-long (length r.subscriptions) in
        omega (arith, one, two, three, four, eight, c-count, c-two, m-count, m-two, m-both, s-count, s-two)
