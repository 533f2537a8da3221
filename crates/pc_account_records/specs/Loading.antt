-- The mailboxes of a record while they are read.
use Rattle.std.specs.Prelude.{ℕ, ◌+◌, ◌-◌, ◌/◌, ◌≤◌, min, Bool, not, ◌||◌, List, [], ◌∷◌, ◌++◌, length, if◌then◌else◌}
use Rattle.std.specs.Map.{keys_of}
use Rattle.pc_message.specs.Message.{weight_of}
use Rattle.pc_account_history.specs.declared.kept.Kept.{Kept}
use Rattle.pc_account_history.specs.declared.kept.Listed.{Listed}
use Rattle.pc_account_history.specs.declared.limits.TheConstants.{MOST_MESSAGES, MOST_WEIGHT, MOST_CHANGES}
use Rattle.pc_tables.specs.Table.{total}
use Rattle.pc_account_history.specs.Record.{MailboxRecord}
use Rattle.pc_account_history.specs.Legal.{AreMessages}
use Rattle.pc_fields.specs.Fields.{name_kind, u16_kind, u32_kind, bool_kind, within, is_new}
use Rattle.pc_fields.specs.Format.{Format, ends, goes, bind}
use Rattle.pc_account_spelling.specs.RecordFormat.{has_none, messages_from, lists_from, mailbox_format}
use Rattle.pc_account_holdings.specs.Mailboxes.{Table, weight_held, listed_held}

-- at most so many messages, of this weight
abbrev pub messages_format : ℕ → ℕ → ℕ → Format (List Kept)
messages_format highest most weight = goes u32_kind (within 0 (min most (min highest (weight / 256)))) (λ count. messages_from highest count 0 weight [])

-- they can stand in a mailbox
pub record AreMessagesWithin (highest most weight : ℕ) (messages : List Kept) : Type 0 where
  pub are : AreMessages highest messages
  pub few : length messages ≤ most
  pub light : total (λ (kept : Kept). weight_of kept.message) messages ≤ weight

-- a list for each client, with no more changes than there is room
abbrev pub lists_format : List (List ℕ × ℕ) → ℕ → ℕ → Format (List (List ℕ × List Listed))
lists_format clients highest room = goes u16_kind (within (length clients) (length clients)) (λ _. lists_from highest room clients [])

-- a mailbox more behind these: its name, whether it lives, and what stands under the name
abbrev pub next_format : List (List ℕ × ℕ) → Table → Table → Format (List ℕ × Bool × MailboxRecord)
next_format clients live dropped =
    goes name_kind (is_new (keys_of live ++ keys_of dropped)) (λ name.
    goes bool_kind (λ lives. not lives || has_none dropped) (λ lives.
    bind (mailbox_format clients (if lives then MOST_MESSAGES else 0) (MOST_WEIGHT - weight_held live) (MOST_CHANGES - (listed_held live + listed_held dropped))) (λ box.
    ends (name, lives, box))))

-- the mailboxes that live, and the others, once one more was read
abbrev pub live_with : List ℕ × Bool × MailboxRecord → Table → Table
live_with next live = if next.1 then live ++ (next.0, next.2) ∷ [] else live

abbrev pub dropped_with : List ℕ × Bool × MailboxRecord → Table → Table
dropped_with next dropped = if next.1 then dropped else dropped ++ (next.0, next.2) ∷ []

-- they are within the limits
pub record AreWithin (live dropped : Table) : Type 0 where
  pub light : weight_held live ≤ MOST_WEIGHT
  pub listed : listed_held live + listed_held dropped ≤ MOST_CHANGES
