-- Which device calls fail: an armed failure, an armed stop, and all calls after it.
use Rattle.std.specs.Prelude.{◌≡◌, ◌⊎◌, ℕ, ◌+◌, ◌-◌, ◌<◌, ◌≤◌, true, false, if◌then◌else◌, ◌==◌, ◌||◌}
use Rattle.pc_disk.specs.declared.alarm.Alarm.{Alarm}
use Rattle.pc_disk.specs.declared.choice.Choice.TheVariants.{Lose}
use Rattle.pc_disk.specs.declared.fate.Fate.{Fate}
use Rattle.pc_disk.specs.declared.fate.Fate.TheVariants.{Made, Stopped, Failed}

-- what becomes of the next device call
abbrev pub fate_of : Alarm → Fate
fate_of alarm = if alarm.is_stopped then Failed else (if alarm.stopping == 1 then Stopped else (if alarm.failing == 1 then Failed else Made))

-- the alarm after a device call
abbrev pub counted : Alarm → Alarm
counted alarm = record {
  failing = alarm.failing - 1;
  stopping = alarm.stopping - 1;
  choice = alarm.choice;
  is_stopped = alarm.is_stopped || (alarm.stopping == 1);
}

-- the device call after so many others fails
abbrev pub IsDue : Alarm → ℕ → Type 0
IsDue alarm ahead = (alarm.is_stopped ≡ true) ⊎ (((0 < alarm.stopping) × (alarm.stopping ≤ ahead + 1)) ⊎ (alarm.failing ≡ ahead + 1))

-- nothing is armed
abbrev pub unarmed : Alarm
unarmed = record { failing = 0; stopping = 0; choice = Lose; is_stopped = false }
