-- The device calls of a disk in memory, newest first, and what follows from them: what a read gives,
-- what a crash may leave, and what it does leave by choice.
use Rattle.std.specs.Prelude.{◌≡◌, ℕ, ◌+◌, ◌≤◌, List, [], ◌∷◌, length, take, drop, replicate}
use Rattle.pc_disk.specs.declared.choice.Choice.{Choice}
use Rattle.pc_disk.specs.declared.choice.Choice.TheVariants.{Keep, Lose, Fill}
use Rattle.pc_disk.specs.declared.fate.Fate.{Fate}
use Rattle.pc_disk.specs.declared.fate.Fate.TheVariants as fate
use Rattle.pc_disk.specs.Images.{Images, area_of, with_area, overwritten, Torn, TornCut, InArea}

-- a device call: a write of bytes in an area from a place on, a cut of an area to a length, a sync
pub data Call : Type 0 where
  Write : ℕ → ℕ → List ℕ → Call
  Cut : ℕ → ℕ → Call
  Sync : Call

-- a call that was made, one at which the disk stopped, one that failed
pub data Deed : Type 0 where
  Made : Call → Deed
  Stopped : Call → Deed
  Failed : Deed

-- what a call became
abbrev pub deed_of : Fate → Call → Deed
deed_of fate.Made call = Made call
deed_of fate.Stopped call = Stopped call
deed_of fate.Failed call = Failed

-- what a call makes of what stands
abbrev pub effect : Call → Images → Images
effect (Write area at bytes) images = with_area area (overwritten at bytes (area_of area images)) images
effect (Cut area to) images = with_area area (take to (area_of area images)) images
effect Sync images = images

-- what a deed makes of what a read gives
abbrev pub made : Deed → Images → Images
made (Made call) images = effect call images
made (Stopped _) images = images
made Failed images = images

-- what a read gives
abbrev pub reads : Images → List Deed → Images
reads first [] = first
reads first (deed ∷ deeds) = made deed (reads first deeds)

-- what a crash may make of a call that isn't synced
abbrev pub tears : Call → Images → Images → Type 0
tears (Write area at bytes) old new = InArea area (Torn at (length bytes)) old new
tears (Cut area to) old new = InArea area (TornCut to) old new
tears Sync old new = new ≡ old

-- what a crash may leave after a deed, where a read before it gave the first images
abbrev pub LeavesAfter : Deed → Images → (Images → Type 0) → Images → Type 0
LeavesAfter (Made Sync) read old left = left ≡ read
LeavesAfter (Made call) read old left = (before : Images) × old before × tears call before left
LeavesAfter (Stopped call) read old left = (before : Images) × old before × tears call before left
LeavesAfter Failed read old left = old left

-- what a crash may leave
abbrev pub MayLeave : Images → List Deed → Images → Type 0
MayLeave first [] left = left ≡ first
MayLeave first (deed ∷ deeds) left = LeavesAfter deed (reads first deeds) (MayLeave first deeds) left

-- what a crash may have left when at least so many deeds were done
abbrev pub LeftSince : Images → List Deed → ℕ → Images → Type 0
LeftSince first deeds earlier left = (back : ℕ) × (back + earlier ≤ length deeds) × MayLeave first (drop back deeds) left

-- a call whose written bytes are all this one
abbrev pub filled : ℕ → Call → Call
filled byte (Write area at bytes) = Write area at (replicate (length bytes) byte)
filled byte (Cut area to) = Cut area to
filled byte Sync = Sync

-- what a crash makes of a call that isn't synced
abbrev pub stands : Choice → Call → Images → Images
stands Keep call images = effect call images
stands Lose call images = images
stands (Fill byte) call images = effect (filled byte call) images

-- what a crash leaves after a deed, of what a read gave before it and what a crash then left
abbrev pub pends : Choice → Deed → Images → Images → Images
pends choice (Made Sync) read left = read
pends choice (Made call) read left = stands choice call left
pends choice (Stopped call) read left = stands choice call left
pends choice Failed read left = left

-- what a crash leaves by choice
abbrev pub chosen : Choice → Images → List Deed → Images
chosen choice first [] = first
chosen choice first (deed ∷ deeds) = pends choice deed (reads first deeds) (chosen choice first deeds)

-- how many deeds come after the last sync that was made
abbrev pub pending : List Deed → ℕ
pending [] = 0
pending (Made Sync ∷ deeds) = 0
pending (deed ∷ deeds) = 1 + pending deeds

-- how far a call reaches
abbrev pub reach : Call → ℕ
reach (Write area at bytes) = at + length bytes
reach (Cut area to) = 0
reach Sync = 0

-- how far a deed reaches
abbrev pub deed_reach : Deed → ℕ
deed_reach (Made call) = reach call
deed_reach (Stopped call) = reach call
deed_reach Failed = 0

-- no deed reaches past this
abbrev pub Fits : ℕ → List Deed → Type 0
Fits limit [] = Unit {0}
Fits limit (deed ∷ deeds) = (deed_reach deed ≤ limit) × Fits limit deeds
