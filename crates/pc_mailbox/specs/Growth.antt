-- How many changes more a touch would put on update lists.
use Rattle.std.specs.Prelude.{ℕ, Bool, false, not, ◌&&◌, ◌||◌, List, length}
use Rattle.std.specs.List.{filter}
use Rattle.std.specs.Map.{lookup}
use Rattle.std.specs.Option.{option_map_or}
use Rattle.pc_account_history.specs.declared.kept.Kept.{Kept}
use Rattle.pc_account_history.specs.declared.kept.Listed.{Listed}
use Rattle.pc_tables.specs.Table.{same, total}
use Rattle.pc_account_history.specs.Record.{MailboxRecord}
use Rattle.pc_mailbox.specs.UpdateList.{is_on}
use Rattle.pc_mailbox.specs.Mailbox.{is_deleted}

-- the message is touched where all are, or where only those are whose flag 0 is on
abbrev pub is_touched : Bool → Kept → Bool
is_touched deleted_only kept = not deleted_only || is_deleted kept

-- how many of the messages that are touched aren't on a list
abbrev pub unlisted : Bool → List Kept → List Listed → ℕ
unlisted deleted_only messages list = length (filter (λ (kept : Kept). is_touched deleted_only kept && not (is_on list kept.uid)) messages)

-- how many of the messages that are touched aren't on each of these lists
abbrev pub unlisted_by_all : Bool → List Kept → List (List ℕ × List Listed) → ℕ
unlisted_by_all deleted_only messages lists = total (λ (entry : List ℕ × List Listed). unlisted deleted_only messages entry.1) lists

-- how many of the messages of a mailbox aren't on the list that a client has there
abbrev pub unlisted_for : List ℕ → MailboxRecord → ℕ
unlisted_for client box = option_map_or (unlisted false box.messages) (lookup (same client) box.lists) 0
