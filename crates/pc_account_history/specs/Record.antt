-- The record of an account: all that later answers depend on. The base of a store spells it.
use Rattle.std.specs.Prelude.{ℕ, ◌==◌, List, [], Option, None, unwrap_or}
use Rattle.std.specs.Option.{option_map}
use Rattle.std.specs.List.{find}
use Rattle.std.specs.Map.{lookup}
use Rattle.pc_account_history.specs.declared.kept.Kept.{Kept}
use Rattle.pc_account_history.specs.declared.kept.Listed.{Listed}
use Rattle.pc_tables.specs.Table.{same, map_values}

-- what stands under a mailbox name: the last uid given, the messages that live by rising uid,
-- and under each client's name the changes that it hasn't taken, the longest untouched first
pub record MailboxRecord : Type 0 where
  pub highest : ℕ
  pub messages : List Kept
  pub lists : List (List ℕ × List Listed)

-- the number of the last mail pulled; the digest of the password; the clients with their births, in order of making;
-- the mailboxes that live, in order of making, and the others, in order of their drops; the subscriptions with their marks
pub record AccountRecord : Type 0 where
  pub pulled : ℕ
  pub digest : Option (List ℕ)
  pub clients : List (List ℕ × ℕ)
  pub live : List (List ℕ × MailboxRecord)
  pub dropped : List (List ℕ × MailboxRecord)
  pub subscriptions : List (List ℕ × ℕ)

-- the record of a new account
abbrev pub empty_record : AccountRecord
empty_record = record { pulled = 0; digest = None; clients = []; live = []; dropped = []; subscriptions = [] }

-- a mailbox that was never made
abbrev pub new_mailbox : List (List ℕ × ℕ) → MailboxRecord
new_mailbox clients = record { highest = 0; messages = []; lists = map_values (λ _. []) clients }

-- what stands under a mailbox name
abbrev pub mailbox_of : AccountRecord → List ℕ → MailboxRecord
mailbox_of r mailbox = unwrap_or (lookup (same mailbox) r.live) (unwrap_or (lookup (same mailbox) r.dropped) (new_mailbox r.clients))

-- the update list of a client in a mailbox
abbrev pub list_of : MailboxRecord → List ℕ → List Listed
list_of box client = unwrap_or (lookup (same client) box.lists) []

-- the message with this uid
abbrev pub kept_at : ℕ → List Kept → Option Kept
kept_at uid messages = find (λ kept. kept.uid == uid) messages

-- the stamp that a list has for this uid
abbrev pub stamp_at : ℕ → List Listed → Option ℕ
stamp_at uid list = option_map (λ listed. listed.stamp) (find (λ listed. listed.uid == uid) list)
