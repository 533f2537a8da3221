-- A folder of disks in memory: its state, and what is taken and given back.
use Rattle.std.specs.Prelude.{ℕ, ◌+◌, ◌-◌, ◌^◌, min, List, [], ◌∷◌, Option, Some, None}
use Rattle.pc_base.specs.declared.name.StoreName.{StoreName}
use Rattle.pc_disk.specs.Folder.{without}
use Rattle.pc_disk.specs.Memory.{DiskState, empty_disk}

pub record FolderState : Type 0 where
  -- the disks with their names, that of the last given back first
  pub disks : List (StoreName × DiskState)
  -- in how many calls of `take` one fails (0: never)
  pub failing : ℕ
  -- the count of faults
  pub faults : ℕ

-- no disk stands there, and nothing is armed
abbrev pub empty_folder : FolderState
empty_folder = record { disks = []; failing = 0; faults = 0 }

-- the disk that is handed out where this one stood, or none
abbrev pub handed : Option DiskState → DiskState
handed None = empty_disk
handed (Some stood) = record stood { faults = 0 }

-- the folder once the disk of a name was taken out
abbrev pub taken_from : StoreName → FolderState → FolderState
taken_from name f = record { disks = without name f.disks; failing = f.failing - 1; faults = f.faults }

-- the folder once taking failed
abbrev pub refused_by : FolderState → FolderState
refused_by f = record { disks = f.disks; failing = f.failing - 1; faults = min (f.faults + 1) (2 ^ 64 - 1) }

-- the folder once a disk was given back under a name
abbrev pub given_to : StoreName → DiskState → FolderState → FolderState
given_to name disk f = record { disks = (name, disk) ∷ without name f.disks; failing = f.failing; faults = min (f.faults + disk.faults) (2 ^ 64 - 1) }
