-- The disks that stand in a folder in memory, as a list.
use Rattle.std.specs.Prelude.{List, [], ◌∷◌}
use Rattle.pc_base.specs.declared.name.StoreName.{StoreName}
use Rattle.pc_disk.specs.Memory.{DiskState}
use Rattle.pc_disk.specs.declared.shelf.Link.{Link}
use Rattle.pc_disk.specs.declared.shelf.Link.TheVariants.{End, Then}

-- the disks with their names, that of the last put first
abbrev pub listed : Link → List (StoreName × DiskState)
listed End = []
listed (Then name disk below) = (name, disk) ∷ below.value
