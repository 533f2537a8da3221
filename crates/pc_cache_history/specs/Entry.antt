-- The kinds of entries, by their numbers, and what a change says.
use Rattle.std.specs.Prelude.{ℕ, Option, None, Some}
use Rattle.pc_message.specs.declared.descriptor.Descriptor.{Descriptor}
use Rattle.pc_message.specs.declared.descriptor.Change.{Change}
use Rattle.pc_message.specs.declared.descriptor.Change.TheVariants.{Present, Expunged}
use Rattle.pc_cache_history.specs.declared.entry.CacheEntry.{CacheEntry}
use Rattle.pc_cache_history.specs.declared.entry.CacheEntry.TheVariants.{Begin, Synced, Took, Kept, Queue, Answered}

-- the number that stands for a kind of entry
abbrev pub tag_of : CacheEntry → ℕ
tag_of (Begin _) = 1
tag_of Synced = 2
tag_of (Took _ _) = 3
tag_of (Kept _) = 4
tag_of (Queue _ _ _ _) = 5
tag_of (Answered _) = 6

-- the uid that a change names
abbrev pub uid_of : Change → ℕ
uid_of (Present descriptor) = descriptor.uid
uid_of (Expunged uid) = uid

-- what a change says of its uid
abbrev pub shown_by : Change → Option Descriptor
shown_by (Present descriptor) = Some descriptor
shown_by (Expunged _) = None
