-- Lists and the lines that they are sent as.
use Rattle.std.specs.Prelude.{◌≡◌, ℕ, suc, zero, ◌+◌, ◌^◌, ◌/◌, ◌%◌, ◌<◌, ◌≤◌, ◌==◌, IsTrue, List, [], ◌∷◌, ◌++◌, length, map, take, codes, decimal}
use Rattle.std.specs.Str.{bytes_eq}
use Rattle.pc_base.specs.Name.{is_name}
use Rattle.pc_message.specs.declared.descriptor.Descriptor.{Descriptor}
use Rattle.pc_message.specs.declared.descriptor.Change.{Change}
use Rattle.pc_message.specs.declared.descriptor.Change.TheVariants.{Present, Expunged}
use Rattle.pc_reply.specs.Lists.{AreItems}
use Rattle.pc_reply.specs.declared.items.Mode.{Mode}
use Rattle.pc_reply.specs.declared.items.Mode.TheVariants.{Away, Interactive, Batch}

-- so many flags as characters 0 and 1, from the lowest bit on
unfoldable pub flag_digits : ℕ → ℕ → List ℕ
flag_digits zero flags = []
flag_digits (suc count) flags = (48 + flags % 2) ∷ flag_digits count (flags / 2)

-- the first line of a message that is there: its uid, its 16 flags, its bytes and its lines
abbrev pub counts_text : ℕ → ℕ → ℕ → ℕ → List ℕ
counts_text uid flags bytes lines =
    decimal uid ++ 32 ∷ flag_digits 16 flags ++ 32 ∷ decimal bytes ++ 32 ∷ decimal lines

-- the line of a message that is gone
abbrev pub gone_text : ℕ → List ℕ
gone_text uid = decimal uid ++ codes " EXPUNGED"

-- the lines of a descriptor
abbrev pub descriptor_lines : Descriptor → List (List ℕ)
descriptor_lines d =
    counts_text d.uid d.flags d.bytes d.lines ∷ d.date ∷ d.from ∷ d.to ∷ d.subject ∷ []

-- the lines of a change
abbrev pub change_lines : Change → List (List ℕ)
change_lines (Present descriptor) = descriptor_lines descriptor
change_lines (Expunged uid) = gone_text uid ∷ []

-- some of these lines were put behind the old ones, from the first on
abbrev pub AddsFront : List (List ℕ) → List (List ℕ) → List (List ℕ) → Type 0
AddsFront old new lines = (count : ℕ) × (new ≡ old ++ take count lines)

-- the uid that a change is of
abbrev pub uid_of : Change → ℕ
uid_of (Present descriptor) = descriptor.uid
uid_of (Expunged uid) = uid

-- a text of at most 128 bytes
abbrev pub IsShort : List ℕ → Type 0
IsShort text = length text ≤ 128

-- numbers of 32 bits, 16 flags, and texts of at most 128 bytes
pub record DescriptorFits (d : Descriptor) : Type 0 where
  pub uid : d.uid < 2 ^ 32
  pub flags : d.flags < 2 ^ 16
  pub bytes : d.bytes < 2 ^ 32
  pub lines : d.lines < 2 ^ 32
  pub date : IsShort d.date
  pub from : IsShort d.from
  pub to : IsShort d.to
  pub subject : IsShort d.subject

abbrev pub ChangeFits : Change → Type 0
ChangeFits (Present descriptor) = DescriptorFits descriptor
ChangeFits (Expunged uid) = uid < 2 ^ 32

-- these are the lines of the changes, no two of one uid
abbrev pub AreChangeLines : List Change → List (List ℕ) → Type 0
AreChangeLines changes lines = AreItems change_lines ChangeFits ◌==◌ uid_of changes lines

-- a name and two numbers, as of a mailbox (live, highest) or a subscription (mark, highest)
abbrev pub counted_text : List ℕ → ℕ → ℕ → List ℕ
counted_text name first second = name ++ 32 ∷ decimal first ++ 32 ∷ decimal second

-- a mailbox: its name, how many messages are live, and the highest uid
pub record MailboxRow : Type 0 where
  pub name : List ℕ
  pub live : ℕ
  pub highest : ℕ

abbrev pub mailbox_line : MailboxRow → List ℕ
mailbox_line row = counted_text row.name row.live row.highest

pub record RowFits (row : MailboxRow) : Type 0 where
  pub name : IsTrue (is_name row.name)
  pub live : row.live < 2 ^ 32
  pub highest : row.highest < 2 ^ 32

-- the line is just the mailbox's
abbrev pub IsRow : MailboxRow → List ℕ → Type 0
IsRow row line = (line ≡ mailbox_line row) × RowFits row

abbrev pub row_name : MailboxRow → List ℕ
row_name row = row.name

-- a mailbox has one line
abbrev pub row_lines : MailboxRow → List (List ℕ)
row_lines row = mailbox_line row ∷ []

-- these are the lines of mailboxes, no two of one name
abbrev pub AreRows : List MailboxRow → List (List ℕ) → Type 0
AreRows rows lines = AreItems row_lines RowFits bytes_eq row_name rows lines

-- these are the lines of mailboxes with these names
abbrev pub AreMailboxLines : List (List ℕ) → List (List ℕ) → Type 0
AreMailboxLines names lines =
    (rows : List MailboxRow) × ((names ≡ map row_name rows) × AreRows rows lines)

-- how a client is used
abbrev pub mode_word : Mode → List ℕ
mode_word Away = codes "away"
mode_word Interactive = codes "interactive"
mode_word Batch = codes "batch"

-- a client: its name, its birth and how it is used
abbrev pub client_text : List ℕ → ℕ → Mode → List ℕ
client_text name birth mode = name ++ 32 ∷ decimal birth ++ 32 ∷ mode_word mode
