-- Records as they are read: at each field what goes on to a record.
use Rattle.std.specs.Prelude.{ℕ, zero, suc, ◌+◌, ◌-◌, ◌*◌, ◌/◌, min, Bool, true, false, not, ◌&&◌, ◌||◌, ◌==◌, nat_lt, nat_le, List, [], ◌∷◌, ◌++◌, length, Option, None, Some, if◌then◌else◌}
use Rattle.std.specs.List.{filter, list_any}
use Rattle.std.specs.Map.{keys_of}
use Rattle.pc_message.specs.Message.{weight_of}
use Rattle.pc_account_history.specs.declared.kept.Kept.{Kept}
use Rattle.pc_account_history.specs.declared.kept.Listed.{Listed}
use Rattle.pc_message.specs.declared.limits.TheConstants.{LAST_MAIL}
use Rattle.pc_account_history.specs.declared.limits.TheConstants.{MOST_CLIENTS, MOST_MAILBOXES, MOST_SUBSCRIPTIONS, MOST_UIDS, MOST_MESSAGES, MOST_WEIGHT, MOST_CHANGES}
use Rattle.pc_tables.specs.Table.{same, total}
use Rattle.pc_account_history.specs.Record.{MailboxRecord, AccountRecord}
use Rattle.pc_fields.specs.Format.{Format, ends, goes, bind}
use Rattle.pc_fields.specs.Fields.{is_new, name_kind, u16_kind, u32_kind, u64_kind, bool_kind, digest_kind, any, within}
use Rattle.pc_fields.specs.MessageFormat.{message_within}

-- the last number that an entry can have had
abbrev pub last_number : ℕ
last_number = 9223372036854775807

abbrev pub digest_format : Format (Option (List ℕ))
digest_format = goes bool_kind any (λ on. if on then goes digest_kind any (λ digest. ends (Some digest)) else ends None)

-- so many clients more, born behind this number, each with room for the births of those behind it
abbrev pub clients_from : ℕ → ℕ → List (List ℕ × ℕ) → Format (List (List ℕ × ℕ))
clients_from zero low before = ends before
clients_from (suc count) low before = goes name_kind (is_new (keys_of before)) (λ name. goes u64_kind (within (suc low) (last_number - count)) (λ birth. clients_from count birth (before ++ (name, birth) ∷ [])))

abbrev pub clients_format : Format (List (List ℕ × ℕ))
clients_format = goes u16_kind (within 0 MOST_CLIENTS) (λ count. clients_from count 0 [])

-- a message of a uid behind this one and up to that one, with no more bytes than there is space
abbrev pub kept_format : ℕ → ℕ → ℕ → Format Kept
kept_format low high space =
    goes u32_kind (within (low + 1) high) (λ uid.
    goes u16_kind (within 0 65535) (λ flags.
    bind (message_within (min 65536 space)) (λ message.
    ends (record { uid = uid; flags = flags; message = message }))))

-- so many messages more, of uids behind this one, which weigh no more than there is room
abbrev pub messages_from : ℕ → ℕ → ℕ → ℕ → List Kept → Format (List Kept)
messages_from highest zero low room before = ends before
messages_from highest (suc count) low room before =
    goes u32_kind (within (suc low) (highest - count)) (λ uid.
    goes u16_kind (within 0 65535) (λ flags.
    bind (message_within (min 65536 (room - 256 * suc count))) (λ message.
    messages_from highest count uid (room - weight_of message) (before ++ record { uid = uid; flags = flags; message = message } ∷ []))))

-- the least stamp with which a uid can stand behind this stamp and uid
abbrev pub least_stamp : ℕ → ℕ → ℕ → ℕ
least_stamp stamp uid next = if nat_lt uid next then stamp else suc stamp

-- how many of these changes have higher uids
abbrev pub above : ℕ → List Listed → ℕ
above uid list = length (filter (λ (listed : Listed). nat_lt uid listed.uid) list)

abbrev pub is_listed : ℕ → List Listed → Bool
is_listed uid list = list_any (λ (listed : Listed). listed.uid == uid) list

-- so many changes can come behind this one: the last stamp serves all of them, but behind that stamp itself uids rise
abbrev pub can_follow : ℕ → ℕ → List Listed → ℕ → ℕ → Bool
can_follow highest count before uid stamp = nat_lt stamp last_number || (stamp == last_number && nat_le (count + above uid before + uid) highest)

-- so many changes more, behind this stamp and uid
abbrev pub changes_from : ℕ → ℕ → ℕ → ℕ → List Listed → Format (List Listed)
changes_from highest zero stamp uid before = ends before
changes_from highest (suc count) stamp uid before =
    goes u32_kind (λ next. within 1 highest next && not (is_listed next before) && can_follow highest count before next (least_stamp stamp uid next)) (λ next.
    goes u64_kind (λ at. nat_le (least_stamp stamp uid next) at && can_follow highest count before next at) (λ at.
    changes_from highest count at next (before ++ record { uid = next; stamp = at } ∷ [])))

-- the lists of the clients that are left, with no more changes than there is room
abbrev pub lists_from : ℕ → ℕ → List (List ℕ × ℕ) → List (List ℕ × List Listed) → Format (List (List ℕ × List Listed))
lists_from highest room [] before = ends before
lists_from highest room (client ∷ clients) before =
    goes name_kind (same client.0) (λ _.
    goes u32_kind (within 0 (min highest room)) (λ count.
    bind (changes_from highest count client.1 0 []) (λ list.
    lists_from highest (room - length list) clients (before ++ (client.0, list) ∷ []))))

-- what stands under a mailbox name: at most so many messages, of this weight, and so many changes
abbrev pub mailbox_format : List (List ℕ × ℕ) → ℕ → ℕ → ℕ → Format MailboxRecord
mailbox_format clients most weight changes =
    goes u32_kind (within 0 MOST_UIDS) (λ highest.
    goes u32_kind (within 0 (min most (min highest (weight / 256)))) (λ count.
    bind (messages_from highest count 0 weight []) (λ messages.
    goes u16_kind (within (length clients) (length clients)) (λ _.
    bind (lists_from highest changes clients []) (λ lists.
    ends (record { highest = highest; messages = messages; lists = lists }))))))

-- what all messages under these names weigh, and how many changes there are
abbrev pub weight_under : List (List ℕ × MailboxRecord) → ℕ
weight_under table = total (λ (mailbox : List ℕ × MailboxRecord). total (λ (kept : Kept). weight_of kept.message) mailbox.1.messages) table

abbrev pub changes_under : List (List ℕ × MailboxRecord) → ℕ
changes_under table = total (λ (mailbox : List ℕ × MailboxRecord). total (λ (list : List ℕ × List Listed). length list.1) mailbox.1.lists) table

abbrev pub has_none : List (List ℕ × MailboxRecord) → Bool
has_none [] = true
has_none (mailbox ∷ table) = false

-- so many mailbox names more: those that live, and then the others, which have no messages
abbrev pub mailboxes_from : List (List ℕ × ℕ) → ℕ → List (List ℕ × MailboxRecord) → List (List ℕ × MailboxRecord) → Format (List (List ℕ × MailboxRecord) × List (List ℕ × MailboxRecord))
mailboxes_from clients zero live dropped = ends (live, dropped)
mailboxes_from clients (suc count) live dropped =
    goes name_kind (is_new (keys_of live ++ keys_of dropped)) (λ name.
    goes bool_kind (λ lives. not lives || has_none dropped) (λ lives.
    bind (mailbox_format clients (if lives then MOST_MESSAGES else 0) (MOST_WEIGHT - weight_under live) (MOST_CHANGES - (changes_under live + changes_under dropped))) (λ box.
    if lives then mailboxes_from clients count (live ++ (name, box) ∷ []) dropped else mailboxes_from clients count live (dropped ++ (name, box) ∷ []))))

abbrev pub mailboxes_format : List (List ℕ × ℕ) → Format (List (List ℕ × MailboxRecord) × List (List ℕ × MailboxRecord))
mailboxes_format clients = goes u16_kind (within 0 MOST_MAILBOXES) (λ count. mailboxes_from clients count [] [])

abbrev pub subscriptions_from : ℕ → List (List ℕ × ℕ) → Format (List (List ℕ × ℕ))
subscriptions_from zero before = ends before
subscriptions_from (suc count) before = goes name_kind (is_new (keys_of before)) (λ board. goes u32_kind (within 0 4294967295) (λ mark. subscriptions_from count (before ++ (board, mark) ∷ [])))

abbrev pub subscriptions_format : Format (List (List ℕ × ℕ))
subscriptions_format = goes u16_kind (within 0 MOST_SUBSCRIPTIONS) (λ count. subscriptions_from count [])

abbrev pub record_format : Format AccountRecord
record_format =
    goes u64_kind (within 0 LAST_MAIL) (λ pulled.
    bind digest_format (λ digest.
    bind clients_format (λ clients.
    bind (mailboxes_format clients) (λ mailboxes.
    bind subscriptions_format (λ subscriptions.
    ends (record { pulled = pulled; digest = digest; clients = clients; live = mailboxes.0; dropped = mailboxes.1; subscriptions = subscriptions }))))))
