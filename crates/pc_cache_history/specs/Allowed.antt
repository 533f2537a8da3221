-- Which entries are allowed, and how much a cache may have.
use Rattle.std.specs.Prelude.{ℕ, ◌+◌, ◌==◌, ◌≤◌, Bool, true, not, ◌&&◌, nat_lt, nat_le, List, [], ◌∷◌, map, length}
use Rattle.std.specs.List.{list_any, list_all}
use Rattle.pc_message.specs.declared.descriptor.Change.{Change}
use Rattle.pc_message.specs.declared.descriptor.Change.TheVariants.{Present, Expunged}
use Rattle.pc_tables.specs.Table.{same, total}
use Rattle.pc_cache_history.specs.declared.limits.TheConstants.{MOST_CACHED, MOST_DESCRIPTORS, MOST_TAKEN, MOST_TAKEN_BYTES, MOST_NAMES, MOST_QUEUED, LAST_QUEUED}
use Rattle.pc_cache_history.specs.declared.entry.CacheEntry.{CacheEntry}
use Rattle.pc_cache_history.specs.declared.entry.CacheEntry.TheVariants.{Begin, Synced, Took, Kept, Queue, Answered}
use Rattle.pc_cache_history.specs.Entry.{uid_of}
use Rattle.pc_cache_history.specs.Known.{Known, has, after_entry}

-- how many descriptors there are in the whole base
abbrev pub descriptor_count : Known → ℕ
descriptor_count k = total (λ mailbox. length (k.descriptors mailbox)) k.mailboxes

-- the base is empty: there is no descriptor, whatever mailboxes there are
abbrev pub base_is_empty : Known → Bool
base_is_empty k = descriptor_count k == 0

-- the mailboxes and their descriptors are not too many
abbrev pub has_room : Known → Bool
has_room k = nat_le (length k.mailboxes) MOST_CACHED && nat_le (descriptor_count k) MOST_DESCRIPTORS

-- nothing comes twice
abbrev pub are_different : {X : Type 0} → (X → X → Bool) → List X → Bool
are_different equal [] = true
are_different equal (x ∷ xs) = not (list_any (equal x) xs) && are_different equal xs

-- the flags of a change are sixteen, as those of each change that can be spelled
abbrev pub has_flags : Change → Bool
has_flags (Present descriptor) = nat_lt descriptor.flags 65536
has_flags (Expunged _) = true

-- these changes may be taken at once
abbrev pub are_changes : List Change → Bool
are_changes changes = nat_le (length changes) MOST_TAKEN && are_different ◌==◌ (map uid_of changes) && list_all has_flags changes

-- in how many bytes a change is written: 5 where a message is gone; of one that is there 23, and its four texts
abbrev pub change_bytes : Change → ℕ
change_bytes (Present descriptor) = 23 + length descriptor.date + length descriptor.from + length descriptor.to + length descriptor.subject
change_bytes (Expunged _) = 5

-- in how many bytes a Took is written: 4 for its kind and the lengths of its two parts, the name of the mailbox, and the changes
abbrev pub took_bytes : List ℕ → List Change → ℕ
took_bytes mailbox changes = 4 + length mailbox + total change_bytes changes

-- these changes are written in few enough bytes
abbrev pub is_short : List ℕ → List Change → Bool
is_short mailbox changes = nat_le (took_bytes mailbox changes) MOST_TAKEN_BYTES

-- a change with this number is in the queue
abbrev pub is_queued : Known → ℕ → Bool
is_queued k number = list_any (λ item. item.number == number) k.queue

-- no more changes fit into the queue
abbrev pub queue_is_full : Known → Bool
queue_is_full k = nat_le MOST_QUEUED (length k.queue)

-- no number is left for one more change
abbrev pub no_number_is_left : Known → Bool
no_number_is_left k = nat_le LAST_QUEUED k.last

-- what an entry needs
abbrev pub is_allowed : Known → CacheEntry → Bool
is_allowed k (Begin birth) = true
is_allowed k Synced = k.resetting
is_allowed k (Took mailbox changes) = not k.resetting && are_changes changes && is_short mailbox changes && has_room (after_entry k (Took mailbox changes))
is_allowed k (Kept names) = not k.resetting && nat_le (length names) MOST_NAMES && are_different same names
is_allowed k (Queue mailbox uid flag on) = has k mailbox uid && nat_le flag 15 && not (queue_is_full k) && not (no_number_is_left k)
is_allowed k (Answered number) = is_queued k number

-- what holds at every place of a legal history, in its base too
pub record IsWithin (k : Known) : Type 0 where
  pub mailboxes : length k.mailboxes ≤ MOST_CACHED
  pub descriptors : descriptor_count k ≤ MOST_DESCRIPTORS
  pub queue : length k.queue ≤ MOST_QUEUED
  pub last : k.last ≤ LAST_QUEUED
