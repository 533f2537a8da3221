-- What a history answers of messages and changes.
use Rattle.std.specs.Prelude.{ℕ, List, map, take}
use Rattle.std.specs.Option.{option_map_or}
use Rattle.pc_message.specs.declared.descriptor.Descriptor.{Descriptor}
use Rattle.pc_message.specs.declared.descriptor.Change.{Change}
use Rattle.pc_message.specs.declared.descriptor.Change.TheVariants.{Present, Expunged}
use Rattle.pc_message.specs.Descriptor.{descriptor_of}
use Rattle.pc_account_history.specs.declared.kept.Kept.{Kept}
use Rattle.pc_account_history.specs.declared.kept.Listed.{Listed}
use Rattle.pc_account_history.specs.Known.{Known}
use Rattle.pc_account_history.specs.Allowed.{messages}

-- the descriptor of a message that lives
abbrev pub descriptor_at : Kept → Descriptor
descriptor_at kept = descriptor_of kept.message kept.uid kept.flags

-- the descriptors of a mailbox, by rising uid
abbrev pub descriptors : Known → List ℕ → List Descriptor
descriptors k mailbox = map descriptor_at (messages k mailbox)

-- what a client is told of a uid: the descriptor where the message lives, else that it is gone
abbrev pub change_at : Known → List ℕ → ℕ → Change
change_at k mailbox uid = option_map_or (λ kept. Present (descriptor_at kept)) (k.kept mailbox uid) (Expunged uid)

-- the first so many changes that are listed
abbrev pub first_changes : Known → List ℕ → List ℕ → ℕ → List Listed
first_changes k client mailbox count = take count (k.changes client mailbox)

-- what a client is told of them
abbrev pub changed : Known → List ℕ → List ℕ → ℕ → List Change
changed k client mailbox count = map (λ listed. change_at k mailbox listed.uid) (first_changes k client mailbox count)
