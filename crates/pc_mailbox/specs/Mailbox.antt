-- What is asked of a mailbox, and what holds of each.
use Rattle.std.specs.Prelude.{◌≡◌, ℕ, ◌*◌, ◌<◌, ◌≤◌, ◌&&◌, nat_lt, nat_le, ◌==◌, not, Bool, List, [], map, length, Option, if◌then◌else◌}
use Rattle.std.specs.Option.{option_map}
use Rattle.std.specs.List.{filter}
use Rattle.pc_message.specs.declared.descriptor.Change.{Change}
use Rattle.pc_message.specs.declared.descriptor.Change.TheVariants.{Present}
use Rattle.pc_message.specs.Message.{weight_of}
use Rattle.pc_account_history.specs.declared.kept.Kept.{Kept}
use Rattle.pc_account_history.specs.declared.limits.TheConstants.{MOST_UIDS, MOST_MESSAGES}
use Rattle.pc_message.specs.Flags.{flag_of}
use Rattle.pc_tables.specs.Table.{total}
use Rattle.pc_account_history.specs.Record.{MailboxRecord, kept_at}
use Rattle.pc_account_history.specs.Effect.{flagged}
use Rattle.pc_tables.specs.Order.{Ordered}
use Rattle.pc_account_history.specs.Legal.{AreMessages}
use Rattle.pc_account_history.specs.Answers.{descriptor_at}

-- a mailbox that was never made, without clients
abbrev pub empty_mailbox : MailboxRecord
empty_mailbox = record { highest = 0; messages = []; lists = [] }

-- a message under a uid, with these flags
abbrev pub kept_as : ℕ → ℕ → List (List ℕ) → Kept
kept_as uid flags message = record { uid = uid; flags = flags; message = message }

-- what all messages count for
abbrev pub weight_of_all : List Kept → ℕ
weight_of_all messages = total (λ (kept : Kept). weight_of kept.message) messages

-- the flags of the message with this uid
abbrev pub flags_at : ℕ → MailboxRecord → Option ℕ
flags_at uid box = option_map (λ (kept : Kept). kept.flags) (kept_at uid box.messages)

-- the message with this uid
abbrev pub message_at : ℕ → MailboxRecord → Option (List (List ℕ))
message_at uid box = option_map (λ (kept : Kept). kept.message) (kept_at uid box.messages)

-- flag 0 of a message is on
abbrev pub is_deleted : Kept → Bool
is_deleted kept = flag_of kept.flags 0

-- the messages whose flag 0 is on
abbrev pub deleted : List Kept → List Kept
deleted messages = filter is_deleted messages

-- the messages whose flag 0 is off
abbrev pub remaining : List Kept → List Kept
remaining messages = filter (λ (kept : Kept). not (is_deleted kept)) messages

-- the message with one flag set, if it has this uid
abbrev pub with_flag_at : ℕ → ℕ → Bool → Kept → Kept
with_flag_at uid flag on kept = if kept.uid == uid then flagged flag on kept else kept

-- uids that rise from one message to the next
abbrev pub UidsRise : List Kept → Type 0
UidsRise messages = Ordered (λ (kept later : Kept). kept.uid < later.uid) messages

-- the uid is below a bound
abbrev pub is_below : ℕ → Kept → Bool
is_below bound kept = nat_lt kept.uid bound

-- the uid is one from low to high
abbrev pub is_between : ℕ → ℕ → Kept → Bool
is_between low high kept = nat_le low kept.uid && nat_le kept.uid high

-- the descriptors of the messages from low to high, by rising uid
abbrev pub described : ℕ → ℕ → List Kept → List Change
described low high messages = map (λ (kept : Kept). Present (descriptor_at kept)) (filter (is_between low high) messages)

-- messages of given uids, which rise, within the limits, and what they weigh, each at most 65,792
pub record IsMailbox (highest weight : ℕ) (messages : List Kept) : Type 0 where
  pub rising : AreMessages highest messages
  pub uids : highest ≤ MOST_UIDS
  pub few : length messages ≤ MOST_MESSAGES
  pub weighed : weight ≡ weight_of_all messages
  pub light : weight ≤ 65792 * length messages
