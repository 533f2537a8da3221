-- The two areas as they are kept in memory.
use Rattle.std.specs.Prelude.{ℕ, min, max, length}
use Rattle.std.specs.Vec.{vec_capacity}
use Rattle.pc_disk.specs.declared.areas.Areas.{Areas}
use Rattle.pc_disk.specs.Images.{Images}

-- what they hold
abbrev pub held : Areas → Images
held areas = (areas.zero.items, areas.one.items)

-- how many bytes each of them has room for
abbrev pub room : Areas → ℕ
room areas = min (vec_capacity areas.zero) (vec_capacity areas.one)

-- the length of the longer one
abbrev pub longest : Images → ℕ
longest images = max (length images.0) (length images.1)
