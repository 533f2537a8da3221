-- What stands in the two areas of a disk, and what calls and crashes make of it.
use Rattle.std.specs.Prelude.{◌≡◌, ℕ, zero, suc, ◌+◌, ◌-◌, ◌≤◌, min, List, ◌++◌, length, take, drop}

-- the bytes of area 0 and those of area 1
abbrev pub Images : Type 0
Images = List ℕ × List ℕ

-- the bytes of an area
abbrev pub area_of : ℕ → Images → List ℕ
area_of zero images = images.0
area_of (suc _) images = images.1

-- the bytes of the other area
abbrev pub other_of : ℕ → Images → List ℕ
other_of zero images = images.1
other_of (suc _) images = images.0

-- the images with these bytes in an area
abbrev pub with_area : ℕ → List ℕ → Images → Images
with_area zero bytes images = (bytes, images.1)
with_area (suc _) bytes images = (images.0, bytes)

-- the bytes with these ones over them, from a place on
abbrev pub overwritten : ℕ → List ℕ → List ℕ → List ℕ
overwritten at bytes old = take at old ++ bytes ++ drop (at + length bytes) old

-- after a write that a crash may cut short: in its range, and past the old end in it, may stand any
-- bytes
pub record Torn (at count : ℕ) (old new : List ℕ) : Type 0 where
  pub middle : List ℕ
  pub bytes : new ≡ take at old ++ middle ++ drop (at + count) old
  pub at_least : min count (length old - at) ≤ length middle
  pub at_most : length middle ≤ count

-- after a cut that a crash may undo: past the new end may stand any bytes, or none
pub record TornCut (to : ℕ) (old new : List ℕ) : Type 0 where
  pub tail : List ℕ
  pub bytes : new ≡ take to old ++ tail
  pub at_most : length tail ≤ length old - to

-- a step in one area, the other as it was
pub record InArea (area : ℕ) (step : List ℕ → List ℕ → Type 0) (old new : Images) : Type 0 where
  pub here : step (area_of area old) (area_of area new)
  pub there : other_of area new ≡ other_of area old
