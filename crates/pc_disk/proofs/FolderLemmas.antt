-- What a folder in memory hands out, and what then stands under its names.
use Rattle.std.proofs.Common.{◌≡◌, ◌∙◌, ℕ, ◌+◌, ◌-◌, ⊎_elim, length, refl, sym, ap, subst, arith}
use Rattle.std.specs.Prelude.{Option, None, Some, Result, Ok, Err, IfOk, OnOk, OnErr}
use Rattle.pc_base.specs.declared.name.StoreName.{StoreName}
use Rattle.pc_disk.specs.Alarm.{IsDue}
use Rattle.pc_disk.specs.Deeds.{reads, MayLeave}
use Rattle.pc_disk.specs.Folder.{standing, without, IsHanded, IsDueAlike, SameBut}
use Rattle.pc_disk.specs.FolderLaws.{others-without, others-put}
use Rattle.pc_disk.specs.Memory.{DiskState, empty_disk}
use Rattle.pc_disk.specs.MemoryFolder.{FolderState, handed, taken_from, refused_by, given_to}

is_handed : (stood : Option DiskState) → IsHanded (λ (s : DiskState). reads s.first s.deeds) (λ (s : DiskState) left. MayLeave s.first s.deeds left) stood (handed stood)
is_handed None = (refl, λ left may. may)
is_handed (Some stood) = (refl, λ left may. may, λ left may. may)

not_due : (ahead : ℕ) → IsDue empty_disk.alarm (0 + ahead - 0) → ⊥
not_due ahead due = ⊎_elim (λ stopped. cc stopped) (λ later. ⊎_elim (λ stops. omega (arith, stops.0)) (λ fails. omega (arith, fails)) later) due

is_due_alike : (stood : Option DiskState) → IsDueAlike (λ (s : DiskState). length s.deeds) (λ (s : DiskState) moment. IsDue s.alarm (moment - length s.deeds)) stood (handed stood)
is_due_alike None = not_due
is_due_alike (Some stood) = λ ahead. (λ due. due, λ due. due)

pub all_handed : {E : Type 0} (result : Result DiskState E) (stood : Option DiskState) → IfOk result (λ disk. disk ≡ handed stood)
    → IfOk result (λ disk. IsHanded (λ (s : DiskState). reads s.first s.deeds) (λ (s : DiskState) left. MayLeave s.first s.deeds left) stood disk)
all_handed (Ok disk) stood is = subst (λ given. IsHanded (λ (s : DiskState). reads s.first s.deeds) (λ (s : DiskState) left. MayLeave s.first s.deeds left) stood given) (sym is) (is_handed stood)
all_handed (Err error) stood is = tt

pub all_due_alike : {E : Type 0} (result : Result DiskState E) (stood : Option DiskState) → IfOk result (λ disk. disk ≡ handed stood)
    → IfOk result (λ disk. IsDueAlike (λ (s : DiskState). length s.deeds) (λ (s : DiskState) moment. IsDue s.alarm (moment - length s.deeds)) stood disk)
all_due_alike (Ok disk) stood is =
    subst (λ given. IsDueAlike (λ (s : DiskState). length s.deeds) (λ (s : DiskState) moment. IsDue s.alarm (moment - length s.deeds)) stood given) (sym is) (is_due_alike stood)
all_due_alike (Err error) stood is = tt

pub others_taken : {E : Type 0} (result : Result DiskState E) (name : StoreName) (old new : FolderState) → OnOk result (new ≡ taken_from name old) → OnErr result (new ≡ refused_by old)
    → SameBut name (λ other. standing other old.disks) (λ other. standing other new.disks)
others_taken (Ok disk) name old new taken refused = λ other differ. ap (λ (f : FolderState). standing other f.disks) taken ∙ others-without name other old.disks differ
others_taken (Err error) name old new taken refused = λ other differ. ap (λ (f : FolderState). standing other f.disks) refused

pub others_given : (name : StoreName) (disk : DiskState) (old new : FolderState) → new ≡ given_to name disk old → SameBut name (λ other. standing other old.disks) (λ other. standing other new.disks)
others_given name disk old new given =
    λ other differ. ap (λ (f : FolderState). standing other f.disks) given ∙ (others-put name other disk (without name old.disks) differ ∙ others-without name other old.disks differ)
