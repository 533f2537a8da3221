-- The record of a cache: all that later answers depend on. The base of a store spells it.
use Rattle.std.specs.Prelude.{ℕ, ◌==◌, Bool, true, ◌&&◌, List, [], Option, unwrap_or}
use Rattle.std.specs.List.{find}
use Rattle.std.specs.Map.{lookup}
use Rattle.pc_message.specs.declared.descriptor.Descriptor.{Descriptor}
use Rattle.pc_tables.specs.Table.{same}
use Rattle.pc_cache_history.specs.declared.item.Item.{Item}

-- the birth of the client; whether its copies were begun and the repository hasn't yet begun its lists anew; the mailboxes,
-- each with the descriptors of its messages by rising uid, in order of their first taking since the last Begin or since they
-- were left out; the number of the last change that was queued; and the changes that were queued and not answered, in order
pub record CacheRecord : Type 0 where
  pub birth : ℕ
  pub resetting : Bool
  pub mailboxes : List (List ℕ × List Descriptor)
  pub last : ℕ
  pub queue : List Item

-- the record of a new cache
abbrev pub empty_record : CacheRecord
empty_record = record { birth = 0; resetting = true; mailboxes = []; last = 0; queue = [] }

-- the descriptors of a mailbox
abbrev pub descriptors_in : CacheRecord → List ℕ → List Descriptor
descriptors_in r mailbox = unwrap_or (lookup (same mailbox) r.mailboxes) []

-- the descriptor with this uid
abbrev pub descriptor_at : ℕ → List Descriptor → Option Descriptor
descriptor_at uid descriptors = find (λ descriptor. descriptor.uid == uid) descriptors

-- a queued change is of this message
abbrev pub is_for : List ℕ → ℕ → Item → Bool
is_for mailbox uid item = same item.mailbox mailbox && item.uid == uid
