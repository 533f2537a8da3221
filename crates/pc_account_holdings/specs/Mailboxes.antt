-- Mailboxes under their names, and what is counted over them.
use Rattle.std.specs.Prelude.{◌≡◌, ℕ, zero, suc, ◌%◌, ◌^◌, ◌<◌, List, [], ◌∷◌, map, length, IfSome, ⊤}
use Rattle.std.specs.Option.{option_map_or}
use Rattle.std.specs.Map.{lookup, set_value}
use Rattle.pc_message.specs.Message.{weight_of}
use Rattle.pc_account_history.specs.declared.kept.Kept.{Kept}
use Rattle.pc_account_history.specs.declared.kept.Listed.{Listed}
use Rattle.pc_account_history.specs.declared.limits.TheConstants.{MOST_UIDS, MOST_MESSAGES}
use Rattle.pc_tables.specs.Table.{same, total}
use Rattle.pc_account_history.specs.Record.{MailboxRecord}
use Rattle.pc_account_history.specs.Step.{with_message, with_client, without_client, reset_for}
use Rattle.pc_account_holdings.specs.declared.mailboxes.ClientChange.{ClientChange}
use Rattle.pc_account_holdings.specs.declared.mailboxes.ClientChange.TheVariants.{Made, Dropped, Reset}

-- what stands under mailbox names
abbrev pub Table : Type 0
Table = List (List ℕ × MailboxRecord)

-- what all messages of a mailbox count for
abbrev pub weight_in : MailboxRecord → ℕ
weight_in box = total (λ (kept : Kept). weight_of kept.message) box.messages

-- how many changes are on the lists of a mailbox
abbrev pub listed_in : MailboxRecord → ℕ
listed_in box = total (λ (list : List ℕ × List Listed). length list.1) box.lists

-- the same over a table
abbrev pub weight_held : Table → ℕ
weight_held table = total (λ (entry : List ℕ × MailboxRecord). weight_in entry.1) table

abbrev pub listed_held : Table → ℕ
listed_held table = total (λ (entry : List ℕ × MailboxRecord). listed_in entry.1) table

-- sums over a table, as far as 64 bits hold them
pub record AreCounted (weight changes : ℕ) (table : Table) : Type 0 where
  pub weighed : weight ≡ weight_held table % 2 ^ 64
  pub listed : changes ≡ listed_held table % 2 ^ 64

-- the table once the mailbox of this name is changed; where there is none, as it was
abbrev pub changed_at : List ℕ → (MailboxRecord → MailboxRecord) → Table → Table
changed_at name change table = option_map_or (λ box. set_value (same name) table (change box)) (lookup (same name) table) table

-- the table with the first so many mailboxes changed
abbrev pub front_changed : (MailboxRecord → MailboxRecord) → ℕ → Table → Table
front_changed change zero table = table
front_changed change (suc count) [] = []
front_changed change (suc count) (entry ∷ table) = (entry.0, change entry.1) ∷ front_changed change count table

-- what an entry with this number makes of a mailbox for a client
abbrev pub changed_for : ClientChange → ℕ → List ℕ → MailboxRecord → MailboxRecord
changed_for Made number client box = with_client number client box
changed_for Dropped number client box = without_client client box
changed_for Reset number client box = reset_for number client box

-- a mailbox can take one message more
pub record HasRoom (box : MailboxRecord) : Type 0 where
  pub uids : box.highest < MOST_UIDS
  pub messages : length box.messages < MOST_MESSAGES

-- a mailbox with a message under the next uid
abbrev pub added : ℕ → ℕ → List (List ℕ) → MailboxRecord → MailboxRecord
added number flags message box = with_message number (record { uid = suc box.highest; flags = flags; message = message }) box

-- the table with letters in their mailboxes, one after the other
abbrev pub delivered : ℕ → List (List ℕ × List (List ℕ)) → Table → Table
delivered number [] table = table
delivered number (letter ∷ letters) table = delivered number letters (changed_at letter.0 (added number 0 letter.1) table)

-- each letter finds room in its mailbox, once those before it are there
abbrev pub AreRoomFor : ℕ → List (List ℕ × List (List ℕ)) → Table → Type 0
AreRoomFor number [] table = ⊤
AreRoomFor number (letter ∷ letters) table = IfSome (lookup (same letter.0) table) HasRoom × AreRoomFor number letters (changed_at letter.0 (added number 0 letter.1) table)

-- a mailbox without messages, with an empty list for each of these clients
abbrev pub empty_for : List (List ℕ) → MailboxRecord
empty_for clients = record { highest = 0; messages = []; lists = map (λ client. (client, [])) clients }
