-- How the deeds of a disk in memory are noted: the calls, oldest first, and the written bytes.
use Rattle.std.specs.Prelude.{◌≡◌, ℕ, ◌+◌, ◌≤◌, List, [], ◌∷◌, ◌++◌, length, take, drop}
use Rattle.pc_disk.specs.declared.note.Note.{Note}
use Rattle.pc_disk.specs.declared.note.NotedCall.{NotedCall}
use Rattle.pc_disk.specs.declared.note.NotedCall.TheVariants as noted
use Rattle.pc_disk.specs.Deeds.{Call, Write, Cut, Sync, Deed, deed_of, pending, pends}
use Rattle.pc_disk.specs.Images.{Images}
use Rattle.pc_disk.specs.declared.choice.Choice.{Choice}

-- the call that is noted
abbrev pub call_of : List ℕ → NotedCall → Call
call_of pool (noted.Write area at start count) = Write area at (take count (drop start pool))
call_of pool (noted.Cut area to) = Cut area to
call_of pool noted.Sync = Sync

-- the deed that is noted
abbrev pub told_one : List ℕ → Note → Deed
told_one pool note = deed_of note.fate (call_of pool note.call)

-- the deeds that are noted, newest first
abbrev pub told : List ℕ → List Note → List Deed
told pool [] = []
told pool (note ∷ notes) = told pool notes ++ told_one pool note ∷ []

-- the bytes of a call are among the first so many
abbrev pub IsWithin : ℕ → NotedCall → Type 0
IsWithin written (noted.Write area at start count) = start + count ≤ written
IsWithin written (noted.Cut area to) = Unit {0}
IsWithin written noted.Sync = Unit {0}

-- those of each note are
abbrev pub AreWithin : ℕ → List Note → Type 0
AreWithin written [] = Unit {0}
AreWithin written (note ∷ notes) = IsWithin written note.call × AreWithin written notes

-- the deeds, how many bytes were written, and the room for both
pub record Noted : Type 0 where
  pub deeds : List Deed
  pub written : ℕ
  pub call_room : ℕ
  pub byte_room : ℕ

-- the notes can be told, and those from a place on come after the last sync that was made
pub record AreNoted (pool : List ℕ) (notes : List Note) (settled : ℕ) : Type 0 where
  pub within : AreWithin (length pool) notes
  pub rest : settled + pending (told pool notes) ≡ length notes

-- what a crash makes of deeds of which none is a sync that was made
abbrev pub pended : Choice → Images → List Deed → Images
pended choice left [] = left
pended choice left (deed ∷ deeds) = pends choice deed (pended choice left deeds) (pended choice left deeds)
