-- What is known of a cache at a place of its history: at the beginning what the record says,
-- and after an entry what the entry decides, or else what was known before it.
use Rattle.std.specs.Prelude.{ℕ, Bool, List, Option, is_some}
use Rattle.std.specs.Map.{keys_of}
use Rattle.pc_message.specs.declared.descriptor.Descriptor.{Descriptor}
use Rattle.pc_cache_history.specs.declared.item.Item.{Item}
use Rattle.pc_cache_history.specs.declared.entry.CacheEntry.{CacheEntry}
use Rattle.pc_cache_history.specs.Record.{CacheRecord, descriptors_in, descriptor_at}
use Rattle.pc_cache_history.specs.Effect.{birth_after, resetting_after, mailboxes_after, base_after, descriptors_after, last_after, queue_after}

pub record Known : Type 0 where
  -- the birth of the client, or 0
  pub birth : ℕ
  -- whether the copies were begun and the repository hasn't yet begun its lists anew
  pub resetting : Bool
  -- the mailboxes, in order of their first taking since the last Begin or since they were left out
  pub mailboxes : List (List ℕ)
  -- of a mailbox and a uid: the descriptor that was taken, where the message is there
  pub base : List ℕ → ℕ → Option Descriptor
  -- of a mailbox: the descriptors of its base, by rising uid
  pub descriptors : List ℕ → List Descriptor
  -- the number of the last change that was queued, or 0
  pub last : ℕ
  -- the changes that were queued and not answered, in order
  pub queue : List Item

-- the mailbox has a message with this uid
abbrev pub has : Known → List ℕ → ℕ → Bool
has k mailbox uid = is_some (k.base mailbox uid)

-- what a record says
abbrev pub said_by : CacheRecord → Known
said_by r = record {
  birth = r.birth;
  resetting = r.resetting;
  mailboxes = keys_of r.mailboxes;
  base = λ mailbox uid. descriptor_at uid (descriptors_in r mailbox);
  descriptors = λ mailbox. descriptors_in r mailbox;
  last = r.last;
  queue = r.queue;
}

-- what is known after one more entry
abbrev pub after_entry : Known → CacheEntry → Known
after_entry k e = record {
  birth = birth_after e k.birth;
  resetting = resetting_after e k.resetting;
  mailboxes = mailboxes_after e k.mailboxes;
  base = λ mailbox uid. base_after e mailbox uid (k.base mailbox uid);
  descriptors = λ mailbox. descriptors_after e mailbox (k.descriptors mailbox);
  last = last_after e k.last;
  queue = queue_after e k.last k.queue;
}
