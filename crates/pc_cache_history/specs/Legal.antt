-- Canonical records, and legal histories.
use Rattle.std.specs.Prelude.{◌≡◌, ℕ, ◌<◌, ◌≤◌, true, List}
use Rattle.std.specs.List.{AllByRecursion}
use Rattle.std.specs.Map.{keys_of}
use Rattle.pc_message.specs.declared.descriptor.Descriptor.{Descriptor}
use Rattle.pc_tables.specs.Order.{Ordered, AreDistinct}
use Rattle.pc_cache_history.specs.declared.item.Item.{Item}
use Rattle.pc_cache_history.specs.Record.{CacheRecord}
use Rattle.pc_cache_history.specs.Known.{said_by}
use Rattle.pc_cache_history.specs.History.{History, start, ◌▻◌, known}
use Rattle.pc_cache_history.specs.Allowed.{is_allowed, IsWithin}

-- by rising uid
abbrev pub AreRising : List Descriptor → Type 0
AreRising descriptors = Ordered (λ (descriptor later : Descriptor). descriptor.uid < later.uid) descriptors

-- descriptors by rising uid, each with sixteen flags
pub record AreDescriptors (descriptors : List Descriptor) : Type 0 where
  pub rising : AreRising descriptors
  pub flags : AllByRecursion (λ (descriptor : Descriptor). descriptor.flags < 65536) descriptors

-- a change of one of the sixteen flags, with a number that was given
pub record IsItem (last : ℕ) (item : Item) : Type 0 where
  pub positive : 0 < item.number
  pub given : item.number ≤ last
  pub flag : item.flag ≤ 15

-- by rising number
abbrev pub AreInOrder : List Item → Type 0
AreInOrder items = Ordered (λ (item later : Item). item.number < later.number) items

-- a canonical record
pub record IsCanonical (r : CacheRecord) : Type 0 where
  pub names : AreDistinct (keys_of r.mailboxes)
  pub mailboxes : AllByRecursion (λ (mailbox : List ℕ × List Descriptor). AreDescriptors mailbox.1) r.mailboxes
  pub rising : AreInOrder r.queue
  pub items : AllByRecursion (IsItem r.last) r.queue
  pub within : IsWithin (said_by r)

-- the base is canonical, and each entry was allowed
abbrev pub IsLegal : History → Type 0
IsLegal (start r number) = IsCanonical r
IsLegal (h ▻ e) = IsLegal h × (is_allowed (known h) e ≡ true)
