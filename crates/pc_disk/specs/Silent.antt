-- A disk that tells no bytes: its numbers.
use Rattle.std.specs.Prelude.{ℕ, ◌+◌, ◌^◌, ◌<◌, ◌≤◌}

pub record SilentState : Type 0 where
  -- the number of device calls so far
  pub moment : ℕ
  -- the count of faults
  pub faults : ℕ
  -- how much was read
  pub taken : ℕ
  -- how many device calls, and how many written bytes, find room
  pub spare_calls : ℕ
  pub spare_bytes : ℕ

-- the calls that find room find it in the disk below too, and can be counted
pub record IsCounted (moment spare_calls below : ℕ) : Type 0 where
  pub finds : spare_calls ≤ below
  pub small : moment + spare_calls < 2 ^ 64
