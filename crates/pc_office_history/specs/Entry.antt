-- The kinds of entries, by their numbers.
use Rattle.std.specs.Prelude.{ℕ}
use Rattle.pc_office_history.specs.declared.entry.OfficeEntry.{OfficeEntry}
use Rattle.pc_office_history.specs.declared.entry.OfficeEntry.TheVariants.{AddUser, AddBoard, TakeAddress, DropAddress, Accept, Pulled}

-- the number that stands for a kind of entry
abbrev pub tag_of : OfficeEntry → ℕ
tag_of (AddUser _) = 1
tag_of (AddBoard _) = 2
tag_of (TakeAddress _ _ _) = 3
tag_of (DropAddress _) = 4
tag_of (Accept _ _) = 5
tag_of (Pulled _ _) = 6
