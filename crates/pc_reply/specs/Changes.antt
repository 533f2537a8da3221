-- The parts of reading changes.
use Rattle.std.specs.Prelude.{◌≡◌, ℕ, ◌+◌, ◌<◌, ◌≤◌, ◌==◌, ◌^◌, ⊤, Bool, true, false, ◌||◌, List, [], ◌++◌, length, Result, Ok, Err}
use Rattle.std.specs.List.{slice_index_or}
use Rattle.pc_message.specs.declared.descriptor.Descriptor.{Descriptor}
use Rattle.pc_reply.specs.Items.{IsShort}
use Rattle.pc_reply.specs.FirstLine.{IsFirst, first_uid}
use Rattle.pc_reply.specs.Lists.{IsNew, IsBadItem}
use Rattle.pc_reply.specs.declared.first_line.FirstLine.{FirstLine}
use Rattle.pc_reply.specs.declared.items.ItemFault.{ItemFault}
use Rattle.pc_reply.specs.declared.items.ItemFault.TheVariants.{Bad, Memory}

-- the uids that are known after one more
abbrev pub Learns : (ℕ → Bool) → (ℕ → Bool) → ℕ → Type 0
Learns before after uid = (other : ℕ) → after other ≡ (uid == other || before other)

-- a new item and how many lines it has, or the line at which none goes on
abbrev pub ReadsItem : {T : Type 0} → (T → List (List ℕ)) → (T → Type 0) → (T → ℕ) → (ℕ → Bool) → List (List ℕ) → Result (T × ℕ) ItemFault → Type 0
ReadsItem lines_of Fits key_of known lines (Ok read) =
    IsNew Fits key_of known read.0 × ((rest : List (List ℕ)) × ((lines ≡ lines_of read.0 ++ rest) × (read.1 ≡ length (lines_of read.0))))
ReadsItem lines_of Fits key_of known lines (Err (Bad line)) =
    IsBadItem lines_of Fits key_of known lines line
ReadsItem lines_of Fits key_of known lines (Err Memory) = ⊤

-- the first line of a change with a new uid, or no such line
abbrev pub ReadsFirst : (ℕ → Bool) → List ℕ → Result FirstLine ItemFault → Type 0
ReadsFirst known line (Ok first) = IsFirst first line × (known (first_uid first) ≡ false)
ReadsFirst known line (Err (Bad at)) =
    (at ≡ 0) × ((first : FirstLine) → IsFirst first line → known (first_uid first) ≡ true)
ReadsFirst known line (Err Memory) = ⊤

-- so many of the first four lines are short texts, and the next one isn't
pub record HasShort (lines : List (List ℕ)) (count : ℕ) : Type 0 where
  pub few : count ≤ 4
  pub within : count ≤ length lines
  pub short : (place : ℕ) → place < count → IsShort (slice_index_or lines place [])
  pub long : count < 4 → count < length lines → 128 < length (slice_index_or lines count [])

-- the descriptor of these counts and the first four texts
abbrev pub descriptor_with : ℕ → ℕ → ℕ → ℕ → List (List ℕ) → Descriptor
descriptor_with uid flags bytes lines texts = record {
  uid = uid;
  flags = flags;
  bytes = bytes;
  lines = lines;
  date = slice_index_or texts 0 [];
  from = slice_index_or texts 1 [];
  to = slice_index_or texts 2 [];
  subject = slice_index_or texts 3 [];
}

-- a fault, with its line counted from so many lines before
abbrev pub fault_after : ℕ → ItemFault → ItemFault
fault_after place (Bad line) = Bad (place + line)
fault_after place Memory = Memory

abbrev pub IsInReach : ℕ → ItemFault → Type 0
IsInReach place (Bad line) = place + line < 2 ^ 64
IsInReach place Memory = ⊤
