-- What a client shows: what it took, with its own changes that aren't answered laid over it.
use Rattle.std.specs.Prelude.{ℕ, List, [], ◌∷◌, map, Option, if◌then◌else◌}
use Rattle.std.specs.Option.{option_map}
use Rattle.pc_message.specs.declared.descriptor.Descriptor.{Descriptor}
use Rattle.pc_message.specs.declared.descriptor.Change.{Change}
use Rattle.pc_message.specs.declared.descriptor.Change.TheVariants.{Present}
use Rattle.pc_message.specs.Flags.{flags_with}
use Rattle.pc_cache_history.specs.declared.item.Item.{Item}
use Rattle.pc_cache_history.specs.Record.{is_for}
use Rattle.pc_cache_history.specs.Known.{Known}

-- the flags of a message with a queued change laid over them, if it is of this message
abbrev pub flags_with_item : List ℕ → ℕ → ℕ → Item → ℕ
flags_with_item mailbox uid flags item = if is_for mailbox uid item then flags_with flags item.flag item.on else flags

-- the flags of a message with queued changes laid over them, one after the other
abbrev pub flags_over : List ℕ → ℕ → List Item → ℕ → ℕ
flags_over mailbox uid [] flags = flags
flags_over mailbox uid (item ∷ items) flags = flags_over mailbox uid items (flags_with_item mailbox uid flags item)

-- a descriptor with the flags that a client shows
abbrev pub laid_over : List ℕ → List Item → Descriptor → Descriptor
laid_over mailbox items descriptor = record descriptor { flags = flags_over mailbox descriptor.uid items descriptor.flags }

-- the messages that a client shows of a mailbox, by rising uid
abbrev pub view : Known → List ℕ → List Descriptor
view k mailbox = map (laid_over mailbox k.queue) (k.descriptors mailbox)

-- the same as changes, each of a message that is there
abbrev pub shown_changes : Known → List ℕ → List Change
shown_changes k mailbox = map Present (view k mailbox)

-- the message that a client shows under a uid
abbrev pub view_at : Known → List ℕ → ℕ → Option Descriptor
view_at k mailbox uid = option_map (laid_over mailbox k.queue) (k.base mailbox uid)
