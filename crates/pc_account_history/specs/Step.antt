-- What an entry makes of the record of an account.
use Rattle.std.specs.Prelude.{ℕ, suc, ◌==◌, Bool, not, List, [], ◌∷◌, ◌++◌, map, Some, if◌then◌else◌}
use Rattle.std.specs.Option.{option_map_or}
use Rattle.std.specs.List.{filter}
use Rattle.std.specs.Map.{set_value}
use Rattle.pc_account_history.specs.declared.kept.Kept.{Kept}
use Rattle.pc_account_history.specs.declared.kept.Listed.{Listed}
use Rattle.pc_account_history.specs.declared.entry.Entry.{Entry}
use Rattle.pc_account_history.specs.declared.entry.Entry.TheVariants.{MakeMailbox, DropMailbox, Flag, Expunge, Copy, MakeClient, DropClient, ResetClient, ResetMailbox, Forget, Pull, Password, Subscribe, Unsubscribe, Mark}
use Rattle.pc_message.specs.Flags.{flag_of}
use Rattle.pc_tables.specs.Table.{same, others, map_values, has_number}
use Rattle.pc_account_history.specs.Record.{MailboxRecord, AccountRecord, mailbox_of, list_of, kept_at}
use Rattle.pc_account_history.specs.Effect.{copy_as, arrived, flagged}
use Rattle.pc_account_history.specs.History.{History, start, ◌▸◌, next}

-- uids with this stamp
abbrev pub stamped : ℕ → List ℕ → List Listed
stamped stamp uids = map (λ uid. record { uid = uid; stamp = stamp }) uids

-- an update list without these uids
abbrev pub without : List ℕ → List Listed → List Listed
without uids list = filter (λ listed. not (has_number listed.uid uids)) list

-- an update list once these uids, which rise, are touched by the entry with this number
abbrev pub touched : ℕ → List ℕ → List Listed → List Listed
touched number uids list = without uids list ++ stamped number uids

abbrev pub uids_of : List Kept → List ℕ
uids_of messages = map (λ kept. kept.uid) messages

-- a mailbox once these uids are touched for every client
abbrev pub touched_for_all : ℕ → List ℕ → MailboxRecord → MailboxRecord
touched_for_all number uids box = record box { lists = map_values (touched number uids) box.lists }

-- a mailbox once all that lives is touched for one client
abbrev pub reset_for : ℕ → List ℕ → MailboxRecord → MailboxRecord
reset_for number client box = record box { lists = set_value (same client) box.lists (touched number (uids_of box.messages) (list_of box client)) }

-- a mailbox with one more message
abbrev pub with_message : ℕ → Kept → MailboxRecord → MailboxRecord
with_message number kept box = record (touched_for_all number (kept.uid ∷ []) box) { highest = kept.uid; messages = box.messages ++ kept ∷ [] }

-- a mailbox with one flag of one message set
abbrev pub with_flag_set : ℕ → ℕ → ℕ → Bool → MailboxRecord → MailboxRecord
with_flag_set number uid flag on box = record (touched_for_all number (uid ∷ []) box) { messages = map (λ kept. if kept.uid == uid then flagged flag on kept else kept) box.messages }

-- a mailbox without the messages whose flag 0 is on
abbrev pub expunged : ℕ → MailboxRecord → MailboxRecord
expunged number box = record (touched_for_all number (uids_of (filter (λ kept. flag_of kept.flags 0) box.messages)) box) { messages = filter (λ kept. not (flag_of kept.flags 0)) box.messages }

-- a mailbox without its messages
abbrev pub emptied : ℕ → MailboxRecord → MailboxRecord
emptied number box = record (touched_for_all number (uids_of box.messages) box) { messages = [] }

-- a mailbox with a list for a new client, on which is all that lives
abbrev pub with_client : ℕ → List ℕ → MailboxRecord → MailboxRecord
with_client number client box = record box { lists = others client box.lists ++ (client, stamped number (uids_of box.messages)) ∷ [] }

-- a mailbox without the list of a client
abbrev pub without_client : List ℕ → MailboxRecord → MailboxRecord
without_client client box = record box { lists = others client box.lists }

-- a mailbox once a client has taken the changes of these uids
abbrev pub taken_by : List ℕ → List ℕ → MailboxRecord → MailboxRecord
taken_by client uids box = record box { lists = set_value (same client) box.lists (without uids (list_of box client)) }

-- the record once a mailbox that lives is changed
abbrev pub at_mailbox : List ℕ → (MailboxRecord → MailboxRecord) → AccountRecord → AccountRecord
at_mailbox mailbox change r = record r { live = set_value (same mailbox) r.live (change (mailbox_of r mailbox)) }

-- the record once every mailbox is changed, and the clients with it
abbrev pub at_all : List (List ℕ × ℕ) → (MailboxRecord → MailboxRecord) → AccountRecord → AccountRecord
at_all clients change r = record r { clients = clients; live = map_values change r.live; dropped = map_values change r.dropped }

-- the record with a letter in its mailbox
abbrev pub with_letter : ℕ → List ℕ × List (List ℕ) → AccountRecord → AccountRecord
with_letter number letter r = at_mailbox letter.0 (λ box. with_message number (arrived (suc box.highest) letter.1) box) r

-- the record with letters, one after the other
abbrev pub with_letters : ℕ → List (List ℕ × List (List ℕ)) → AccountRecord → AccountRecord
with_letters number [] r = r
with_letters number (letter ∷ letters) r = with_letters number letters (with_letter number letter r)

-- the record after an entry with this number
abbrev pub after : AccountRecord → ℕ → Entry → AccountRecord
after r number (MakeMailbox mailbox) = record r { live = others mailbox r.live ++ (mailbox, mailbox_of r mailbox) ∷ []; dropped = others mailbox r.dropped }
after r number (DropMailbox mailbox) = record r { live = others mailbox r.live; dropped = others mailbox r.dropped ++ (mailbox, emptied number (mailbox_of r mailbox)) ∷ [] }
after r number (Flag mailbox uid flag on) = at_mailbox mailbox (with_flag_set number uid flag on) r
after r number (Expunge mailbox) = at_mailbox mailbox (expunged number) r
after r number (Copy mailbox uid target) = option_map_or (λ kept. at_mailbox target (λ box. with_message number (copy_as (suc box.highest) kept) box) r) (kept_at uid (mailbox_of r mailbox).messages) r
after r number (MakeClient client) = at_all (others client r.clients ++ (client, number) ∷ []) (with_client number client) r
after r number (DropClient client) = at_all (others client r.clients) (without_client client) r
after r number (ResetClient client) = at_all r.clients (reset_for number client) r
after r number (ResetMailbox client mailbox) = at_mailbox mailbox (reset_for number client) r
after r number (Forget client mailbox uids) = at_mailbox mailbox (taken_by client uids) r
after r number (Pull upto letters) = record (with_letters number letters r) { pulled = upto }
after r number (Password digest) = record r { digest = Some digest }
after r number (Subscribe board) = record r { subscriptions = others board r.subscriptions ++ (board, 0) ∷ [] }
after r number (Unsubscribe board) = record r { subscriptions = others board r.subscriptions }
after r number (Mark board uid) = record r { subscriptions = set_value (same board) r.subscriptions uid }

-- the record that stands for a history
abbrev pub record_of : History → AccountRecord
record_of (start r number) = r
record_of (h ▸ e) = after (record_of h) (next h) e
