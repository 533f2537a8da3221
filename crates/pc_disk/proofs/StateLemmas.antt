-- What a device call makes of a record, by what becomes of the call.
use Rattle.std.proofs.Common.{◌≡◌, ◌⊎◌, inl, inr, ℕ, zero, suc, ◌+◌, ◌≤◌, List, [], ◌∷◌, ◌++◌, length, take, drop, refl, sym, subst, arith, length-append}
use Rattle.std.proofs.lemmas.List.{length-take, length-drop, length-replicate}
use Rattle.pc_disk.specs.declared.choice.Choice.{Choice}
use Rattle.pc_disk.specs.declared.choice.Choice.TheVariants.{Keep, Lose, Fill}
use Rattle.pc_disk.specs.declared.fate.Fate.{Fate}
use Rattle.pc_disk.specs.declared.fate.Fate.TheVariants as fate
use Rattle.pc_disk.specs.Images.{Images}
use Rattle.pc_disk.specs.Outcomes.{Follows, Keeps, Elapses, IsStill}
use Rattle.pc_disk.specs.Alarm.{fate_of}
use Rattle.pc_disk.specs.Areas.{longest}
use Rattle.pc_disk.specs.Deeds.{Call, Write, Cut, Sync, Deed, Made, Stopped, Failed, deed_of, effect, reads, tears, MayLeave, LeftSince, stands, chosen, reach, Fits}
use Rattle.pc_disk.specs.Memory.{DiskState, passed, IsSound}
use Rattle.pc_disk.specs.MemoryLaws.{tears_same, reads_possible}

longest-write : (limit area at : ℕ) (bytes : List ℕ) (images : Images) → longest images ≤ limit → at + length bytes ≤ limit → longest (effect (Write area at bytes) images) ≤ limit
longest-write limit zero at bytes images fits le =
    omega (arith, length-append (take at images.0) bytes, length-append (take at images.0 ++ bytes) (drop (at + length bytes) images.0), length-take at images.0, length-drop (at + length bytes) images.0)
longest-write limit (suc area) at bytes images fits le =
    omega (arith, length-append (take at images.1) bytes, length-append (take at images.1 ++ bytes) (drop (at + length bytes) images.1), length-take at images.1, length-drop (at + length bytes) images.1)

longest-cut : (limit area to : ℕ) (images : Images) → longest images ≤ limit → longest (effect (Cut area to) images) ≤ limit
longest-cut limit zero to images fits = omega (arith, length-take to images.0)
longest-cut limit (suc area) to images fits = omega (arith, length-take to images.1)

longest-stands : (limit : ℕ) (choice : Choice) (call : Call) (images : Images) → longest images ≤ limit → reach call ≤ limit → longest (stands choice call images) ≤ limit
longest-stands limit Keep (Write area at bytes) images fits le = longest-write limit area at bytes images fits le
longest-stands limit Keep (Cut area to) images fits le = longest-cut limit area to images fits
longest-stands limit Keep Sync images fits le = fits
longest-stands limit Lose call images fits le = fits
longest-stands limit (Fill byte) (Write area at bytes) images fits le = longest-write limit area at _ images fits (omega (arith, length-replicate (length bytes) byte))
longest-stands limit (Fill byte) (Cut area to) images fits le = longest-cut limit area to images fits
longest-stands limit (Fill byte) Sync images fits le = fits

longest-reads : (limit : ℕ) (first : Images) (deeds : List Deed) → longest first ≤ limit → Fits limit deeds → longest (reads first deeds) ≤ limit
longest-reads limit first [] le fits = le
longest-reads limit first (Made call ∷ deeds) le fits = longest-stands limit Keep call (reads first deeds) (longest-reads limit first deeds le fits.1) fits.0
longest-reads limit first (Stopped call ∷ deeds) le fits = longest-reads limit first deeds le fits.1
longest-reads limit first (Failed ∷ deeds) le fits = longest-reads limit first deeds le fits.1

-- no area is longer after a crash than the record allows
pub longest_chosen : (limit : ℕ) (choice : Choice) (first : Images) (deeds : List Deed) → longest first ≤ limit → Fits limit deeds → longest (chosen choice first deeds) ≤ limit
longest_chosen limit choice first [] le fits = le
longest_chosen limit choice first (Made Sync ∷ deeds) le fits = longest-reads limit first deeds le fits.1
longest_chosen limit choice first (Made (Write area at bytes) ∷ deeds) le fits =
    longest-stands limit choice (Write area at bytes) (chosen choice first deeds) (longest_chosen limit choice first deeds le fits.1) fits.0
longest_chosen limit choice first (Made (Cut area to) ∷ deeds) le fits =
    longest-stands limit choice (Cut area to) (chosen choice first deeds) (longest_chosen limit choice first deeds le fits.1) fits.0
longest_chosen limit choice first (Stopped call ∷ deeds) le fits =
    longest-stands limit choice call (chosen choice first deeds) (longest_chosen limit choice first deeds le fits.1) fits.0
longest_chosen limit choice first (Failed ∷ deeds) le fits = longest_chosen limit choice first deeds le fits.1

pub longest_left : (limit : ℕ) (choice : Choice) (first left : Images) (deeds : List Deed) → longest first ≤ limit → Fits limit deeds → left ≡ chosen choice first deeds → longest left ≤ limit
longest_left limit choice first left deeds le fits is = rw is (longest_chosen limit choice first deeds le fits)

pub crashed_sound : (first present : Images) (deeds : List Deed) (written call_room byte_room first_room present_room limit : ℕ) → present ≡ first → deeds ≡ [] → written ≡ 0
    → longest first ≤ limit → limit ≤ first_room → limit ≤ present_room → IsSound first present deeds written call_room byte_room first_room present_room limit 0 0
crashed_sound first present deeds written call_room byte_room first_room present_room limit same none nothing short first_holds present_holds = rw (same, none, nothing) record {
  reading = refl;
  fits = tt;
  first_fits = short;
  present_fits = omega arith;
  first_holds = first_holds;
  present_holds = present_holds;
  calls_fit = omega arith;
  bytes_fit = omega arith;
}

-- what a crash may leave after a call
follows : (met : Fate) (call : Call) (first : Images) (deeds : List Deed) → Follows (tears call) (MayLeave first deeds) (MayLeave first (deed_of met call ∷ deeds))
follows fate.Made (Write area at bytes) first deeds left may = may
follows fate.Made (Cut area to) first deeds left may = may
follows fate.Made Sync first deeds left may = (reads first deeds, reads_possible first deeds, may)
follows fate.Stopped call first deeds left may = may
follows fate.Failed call first deeds left may = (left, may, tears_same call left)

pub passed_follows : (call : Call) (old new : DiskState) → new ≡ passed call old → Follows (tears call) (MayLeave old.first old.deeds) (MayLeave new.first new.deeds)
passed_follows call old new state = rw state (follows (fate_of old.alarm) call old.first old.deeds)

pub synced_keeps : (old new : DiskState) → new ≡ passed Sync old → Keeps (MayLeave old.first old.deeds) (MayLeave new.first new.deeds)
synced_keeps old new state left may =
    let before = passed_follows Sync old new state left may in
    subst (λ images. MayLeave old.first old.deeds images) (sym before.2) before.1

-- a moment passes
elapses-split : (first : Images) (deed : Deed) (deeds : List Deed) (earlier : ℕ) (left : Images) (back : ℕ) → back + earlier ≤ length (deed ∷ deeds) → MayLeave first (drop back (deed ∷ deeds)) left
    → LeftSince first deeds earlier left ⊎ MayLeave first (deed ∷ deeds) left
elapses-split first deed deeds earlier left zero le may = inr may
elapses-split first deed deeds earlier left (suc back) le may = inl (back, omega arith, may)

elapses : (first : Images) (deed : Deed) (deeds : List Deed) → Elapses (length deeds) (LeftSince first deeds) (LeftSince first (deed ∷ deeds)) (MayLeave first (deed ∷ deeds))
elapses first deed deeds = record {
  nothing_else = λ earlier left le since. elapses-split first deed deeds earlier left since.0 since.1 since.2;
  keeps = λ earlier left le since. (suc since.0, omega (arith, since.1), since.2);
}

pub passed_elapses : (call : Call) (old new : DiskState) → new ≡ passed call old
    → Elapses (length old.deeds) (LeftSince old.first old.deeds) (LeftSince new.first new.deeds) (MayLeave new.first new.deeds)
passed_elapses call old new state = rw state (elapses old.first (deed_of (fate_of old.alarm) call) old.deeds)

-- the same record tells the same
pub still_same : (first new_first : Images) (deeds new_deeds : List Deed) → new_first ≡ first → new_deeds ≡ deeds
    → IsStill (reads first deeds) (reads new_first new_deeds) (MayLeave first deeds) (MayLeave new_first new_deeds) (LeftSince first deeds) (LeftSince new_first new_deeds)
still_same first new_first deeds new_deeds same none = rw (same, none) record {
  seen = refl;
  leaves = λ left may. may;
  left = λ left may. may;
  nothing_else = λ earlier left since. since;
  keeps = λ earlier left since. since;
}
