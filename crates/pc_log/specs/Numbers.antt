-- The numbers of an area's head, as they are spelled.
use Rattle.std.specs.Prelude.{◌≡◌, ℕ, ◌-◌, ◌^◌, ◌≤◌, List, ◌++◌}
use Rattle.std.specs.Int.{to_be_bytes, w8, w32, w64}
use Rattle.pc_log.specs.declared.head.Numbers.{Numbers}
use Rattle.pc_log.specs.Area.{magic}

-- the bytes of the numbers of a head of this kind
abbrev pub numbers_bytes : ℕ → Numbers → List ℕ
numbers_bytes kind n = to_be_bytes w64 magic ++ (to_be_bytes w8 kind ++ (to_be_bytes w64 n.generation ++ (to_be_bytes w64 n.first ++ to_be_bytes w32 n.size)))

-- numbers that a head may have
pub record AreNumbers (kind : ℕ) (n : Numbers) : Type 0 where
  pub kind_least : 1 ≤ kind
  pub kind_most : kind ≤ 3
  pub generation_least : 1 ≤ n.generation
  pub generation_most : n.generation ≤ 2 ^ 63 - 1
  pub first_least : 1 ≤ n.first
  pub first_most : n.first ≤ 2 ^ 63
  pub size_most : n.size ≤ 1073741824

-- the bytes begin with these numbers, and a head may have them
pub record SpellsNumbers (kind : ℕ) (bytes : List ℕ) (n : Numbers) : Type 0 where
  pub rest : List ℕ
  pub parts : bytes ≡ numbers_bytes kind n ++ rest
  pub right : AreNumbers kind n
