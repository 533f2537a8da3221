-- Histories of an account, and their answers.
use Rattle.std.specs.Prelude.{ℕ, List, [], ◌∷◌, Option}
use Rattle.std.specs.Map.{lookup}
use Rattle.pc_account_history.specs.declared.entry.Entry.{Entry}
use Rattle.pc_tables.specs.Table.{same}
use Rattle.pc_account_history.specs.Record.{AccountRecord, empty_record}
use Rattle.pc_account_history.specs.Known.{Known, said_by, after_entry}

infixl 20 ◌▸◌
-- a base, which is a record with the number of the first entry behind it, and entries, the newest last
pub data History : Type 0 where
  start : AccountRecord → ℕ → History
  ◌▸◌ : History → Entry → History

-- the history of a new account
abbrev pub new_account : History
new_account = start empty_record 1

-- the history with these entries behind it
infixl 20 ◌▸▸◌
abbrev pub ◌▸▸◌ : History → List Entry → History
h ▸▸ [] = h
h ▸▸ (e ∷ es) = (h ▸ e) ▸▸ es

-- what is known at the end of a history
abbrev pub known : History → Known
known (start r number) = said_by r number
known (h ▸ e) = after_entry (known h) e

-- the number of the next entry
abbrev pub next : History → ℕ
next h = (known h).next

-- the birth of a client: the number of the entry that made it last
abbrev pub birth : History → List ℕ → Option ℕ
birth h client = lookup (same client) (known h).clients
