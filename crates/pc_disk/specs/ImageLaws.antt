-- An area of images in which an area was set.
use Rattle.std.proofs.Common.{◌≡◌, ℕ, zero, suc, List, refl}
use Rattle.pc_disk.specs.Images.{Images, area_of, other_of, with_area}

pub area_of-with_area : (area : ℕ) (bytes : List ℕ) (images : Images) → area_of area (with_area area bytes images) ≡ bytes
area_of-with_area zero bytes images = refl
area_of-with_area (suc area) bytes images = refl

pub other_of-with_area : (area : ℕ) (bytes : List ℕ) (images : Images) → other_of area (with_area area bytes images) ≡ other_of area images
other_of-with_area zero bytes images = refl
other_of-with_area (suc area) bytes images = refl

pub with_area-same : (area : ℕ) (images : Images) → with_area area (area_of area images) images ≡ images
with_area-same zero images = refl
with_area-same (suc area) images = refl
