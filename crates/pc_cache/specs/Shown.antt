-- Which queued changes are shown in a mailbox.
use Rattle.std.specs.Prelude.{ℕ, Bool, List}
use Rattle.pc_tables.specs.Table.{same}
use Rattle.pc_cache_history.specs.declared.item.Item.{Item}

-- the change is of a message of this mailbox
abbrev pub is_of : List ℕ → Item → Bool
is_of mailbox item = same item.mailbox mailbox
