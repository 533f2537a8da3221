-- What a mailbox answers, said of the histories for which its record stands.
use Rattle.std.specs.Prelude.{◌≡◌, ℕ, ◌&&◌, nat_le, List, map, length, Option, is_some}
use Rattle.std.specs.Option.{option_map}
use Rattle.std.specs.List.{filter}
use Rattle.pc_message.specs.declared.descriptor.Descriptor.{Descriptor}
use Rattle.pc_message.specs.declared.descriptor.Change.{Change}
use Rattle.pc_message.specs.declared.descriptor.Change.TheVariants.{Present}
use Rattle.pc_account_history.specs.declared.kept.Kept.{Kept}
use Rattle.pc_account_history.specs.Record.{MailboxRecord, mailbox_of}
use Rattle.pc_account_history.specs.Known.{Known}
use Rattle.pc_account_history.specs.History.{History, known}
use Rattle.pc_account_history.specs.Step.{record_of}
use Rattle.pc_account_history.specs.Legal.{IsLegal}
use Rattle.pc_account_history.specs.Answers.{descriptors}

-- a legal history whose record has this mailbox under a name
pub record StandsFor (h : History) (name : List ℕ) (box : MailboxRecord) : Type 0 where
  pub legal : IsLegal h
  pub found : mailbox_of (record_of h) name ≡ box

-- this is so of what is known after each legal history, and of each name under which its record has the mailbox
abbrev pub InEachHistory : MailboxRecord → (Known → List ℕ → Type 0) → Type 0
InEachHistory box holds = (h : History) (name : List ℕ) → StandsFor h name box → holds (known h) name

-- the descriptors of a mailbox from one uid to another, by rising uid
abbrev pub descriptors_between : ℕ → ℕ → Known → List ℕ → List Change
descriptors_between low high k mailbox = map (λ (descriptor : Descriptor). Present descriptor) (filter (λ (descriptor : Descriptor). nat_le low descriptor.uid && nat_le descriptor.uid high) (descriptors k mailbox))

-- the message that lives at a uid
abbrev pub message_in : ℕ → Known → List ℕ → Option (List (List ℕ))
message_in uid k mailbox = option_map (λ (kept : Kept). kept.message) (k.kept mailbox uid)

-- the flags of the message that lives at a uid
abbrev pub flags_in : ℕ → Known → List ℕ → Option ℕ
flags_in uid k mailbox = option_map (λ (kept : Kept). kept.flags) (k.kept mailbox uid)

-- how many clients have the uid listed
abbrev pub takers_in : ℕ → Known → List ℕ → ℕ
takers_in uid k mailbox = length (filter (λ (client : List ℕ × ℕ). is_some (k.listed client.0 mailbox uid)) k.clients)
