-- A disk in memory: its state, and what a device call and a crash make of it.
use Rattle.std.specs.Prelude.{◌≡◌, ℕ, ◌+◌, ◌-◌, ◌^◌, ◌≤◌, min, List, [], ◌∷◌, length, Result, MatchResult}
use Rattle.pc_disk.specs.declared.alarm.Alarm.{Alarm}
use Rattle.pc_disk.specs.declared.fate.Fate.{Fate}
use Rattle.pc_disk.specs.declared.fate.Fate.TheVariants as fate
use Rattle.pc_disk.specs.Alarm.{fate_of, counted, unarmed}
use Rattle.pc_disk.specs.Areas.{longest}
use Rattle.pc_disk.specs.Deeds.{Call, Write, Cut, Sync, Deed, deed_of, reads, chosen, Fits}
use Rattle.pc_disk.specs.Images.{Images}

pub record DiskState : Type 0 where
  -- what stood when the record began
  pub first : Images
  -- the device calls since, newest first
  pub deeds : List Deed
  -- what is armed
  pub alarm : Alarm
  -- the count of faults
  pub faults : ℕ
  -- how much was read
  pub taken : ℕ
  -- how many device calls, and how many written bytes, find room
  pub spare_calls : ℕ
  pub spare_bytes : ℕ

-- an empty disk on which nothing is armed
abbrev pub empty_disk : DiskState
empty_disk = record { first = ([], []); deeds = []; alarm = unarmed; faults = 0; taken = 0; spare_calls = 0; spare_bytes = 0 }

-- the count of faults after a call
abbrev pub faulted : Fate → ℕ → ℕ
faulted fate.Made faults = faults
faulted fate.Stopped faults = min (faults + 1) (2 ^ 64 - 1)
faulted fate.Failed faults = min (faults + 1) (2 ^ 64 - 1)

-- how many bytes a call writes
abbrev pub size : Call → ℕ
size (Write area at bytes) = length bytes
size (Cut area to) = 0
size Sync = 0

-- the state after a device call
abbrev pub passed : Call → DiskState → DiskState
passed call s = record {
  first = s.first;
  deeds = deed_of (fate_of s.alarm) call ∷ s.deeds;
  alarm = counted s.alarm;
  faults = faulted (fate_of s.alarm) s.faults;
  taken = s.taken;
  spare_calls = s.spare_calls - 1;
  spare_bytes = s.spare_bytes - size call;
}

-- the state after a crash
abbrev pub after_crash : DiskState → DiskState
after_crash s = record {
  first = chosen s.alarm.choice s.first s.deeds;
  deeds = [];
  alarm = unarmed;
  faults = s.faults;
  taken = s.taken;
  spare_calls = 0;
  spare_bytes = 0;
}

-- what reads give follows from the record, and what is spare finds room
pub record IsSound (first present : Images) (deeds : List Deed) (written call_room byte_room first_room present_room limit spare_calls spare_bytes : ℕ) : Type 0 where
  pub reading : present ≡ reads first deeds
  pub fits : Fits limit deeds
  pub first_fits : longest first ≤ limit
  pub present_fits : longest present + spare_bytes ≤ limit
  pub first_holds : limit ≤ first_room
  pub present_holds : limit ≤ present_room
  pub calls_fit : length deeds + spare_calls ≤ call_room
  pub bytes_fit : written + spare_bytes ≤ byte_room

-- a call succeeds exactly where it is made
abbrev pub Answers : {T E : Type 0} → Fate → Result T E → Type 0
Answers met result = MatchResult result (λ _. met ≡ fate.Made) (λ _. met ≡ fate.Made → ⊥)
