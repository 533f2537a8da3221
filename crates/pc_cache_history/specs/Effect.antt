-- What one entry does, as small functions of it.
use Rattle.std.specs.Prelude.{ℕ, suc, ◌==◌, Bool, true, false, not, nat_lt, List, [], ◌∷◌, ◌++◌, Option, None, if◌then◌else◌}
use Rattle.std.specs.Option.{option_map_or}
use Rattle.std.specs.List.{filter, find}
use Rattle.pc_message.specs.declared.descriptor.Descriptor.{Descriptor}
use Rattle.pc_message.specs.declared.descriptor.Change.{Change}
use Rattle.pc_message.specs.declared.descriptor.Change.TheVariants.{Present, Expunged}
use Rattle.pc_tables.specs.Table.{same, is_among}
use Rattle.pc_cache_history.specs.declared.item.Item.{Item}
use Rattle.pc_cache_history.specs.declared.entry.CacheEntry.{CacheEntry}
use Rattle.pc_cache_history.specs.declared.entry.CacheEntry.TheVariants.{Begin, Synced, Took, Kept, Queue, Answered}
use Rattle.pc_cache_history.specs.Entry.{uid_of, shown_by}

-- ---- lists of descriptors by rising uid

-- a descriptor in its place, instead of one with its uid
abbrev pub with_descriptor : Descriptor → List Descriptor → List Descriptor
with_descriptor new descriptors = filter (λ descriptor. nat_lt descriptor.uid new.uid) descriptors ++ new ∷ filter (λ descriptor. nat_lt new.uid descriptor.uid) descriptors

-- the descriptors with other uids
abbrev pub other_descriptors : ℕ → List Descriptor → List Descriptor
other_descriptors uid descriptors = filter (λ descriptor. not (descriptor.uid == uid)) descriptors

-- the descriptors once a change is taken
abbrev pub with_change : Change → List Descriptor → List Descriptor
with_change (Present descriptor) descriptors = with_descriptor descriptor descriptors
with_change (Expunged uid) descriptors = other_descriptors uid descriptors

-- the descriptors once these changes are taken, one after the other
abbrev pub with_changes : List Change → List Descriptor → List Descriptor
with_changes [] descriptors = descriptors
with_changes (change ∷ changes) descriptors = with_changes changes (with_change change descriptors)

-- ---- what is known after an entry, of what was known before it

-- the number of the last Begin
abbrev pub birth_after : CacheEntry → ℕ → ℕ
birth_after (Begin birth) before = birth
birth_after _ before = before

-- the copies were begun, and the repository hasn't yet begun its lists anew
abbrev pub resetting_after : CacheEntry → Bool → Bool
resetting_after (Begin _) before = true
resetting_after Synced before = false
resetting_after _ before = before

-- the mailboxes that were taken since the last Begin and not left out since, in order of their first taking since then: since the last Begin, or since they were left out
abbrev pub mailboxes_after : CacheEntry → List (List ℕ) → List (List ℕ)
mailboxes_after (Begin _) names = []
mailboxes_after (Took mailbox _) names = if is_among mailbox names then names else names ++ mailbox ∷ []
mailboxes_after (Kept kept) names = filter (λ name. is_among name kept) names
mailboxes_after _ names = names

-- what these changes say of a uid, or what was known of it where none names it
abbrev pub shown : List Change → ℕ → Option Descriptor → Option Descriptor
shown changes uid before = option_map_or shown_by (find (λ change. uid_of change == uid) changes) before

-- what the last entry that says something of a message of a mailbox says of it
abbrev pub base_after : CacheEntry → List ℕ → ℕ → Option Descriptor → Option Descriptor
base_after (Begin _) mailbox uid before = None
base_after (Took taken changes) mailbox uid before = if same taken mailbox then shown changes uid before else before
base_after (Kept names) mailbox uid before = if is_among mailbox names then before else None
base_after _ mailbox uid before = before

-- the descriptors of a mailbox, by rising uid
abbrev pub descriptors_after : CacheEntry → List ℕ → List Descriptor → List Descriptor
descriptors_after (Begin _) mailbox before = []
descriptors_after (Took taken changes) mailbox before = if same taken mailbox then with_changes changes before else before
descriptors_after (Kept names) mailbox before = if is_among mailbox names then before else []
descriptors_after _ mailbox before = before

-- the number of the last change that was queued
abbrev pub last_after : CacheEntry → ℕ → ℕ
last_after (Queue _ _ _ _) last = suc last
last_after _ last = last

-- the change that the entry queues, where it does, behind the last one
abbrev pub new_items : CacheEntry → ℕ → List Item
new_items (Queue mailbox uid flag on) last = record { number = suc last; mailbox = mailbox; uid = uid; flag = flag; on = on } ∷ []
new_items _ last = []

-- the changes with other numbers
abbrev pub other_items : ℕ → List Item → List Item
other_items number items = filter (λ item. not (item.number == number)) items

-- the changes that were queued and not answered, in order
abbrev pub queue_after : CacheEntry → ℕ → List Item → List Item
queue_after (Queue mailbox uid flag on) last items = items ++ new_items (Queue mailbox uid flag on) last
queue_after (Answered number) last items = other_items number items
queue_after _ last items = items
