-- Byte streams in memory.
use Rattle.std.specs.Prelude.{ℕ, List}

-- a source or a sink
pub record MemoryStream : Type 0 where
  -- the bytes left to read, or those written
  pub bytes : List ℕ
  -- the most bytes that a call moves
  pub piece : ℕ
  -- which call from now on fails, or 0
  pub failing : ℕ
  -- the count of faults
  pub faults : ℕ

-- one end of a connection
pub record MemoryEnd : Type 0 where
  -- the bytes left to read
  pub unread : List ℕ
  -- the bytes written
  pub bytes : List ℕ
  -- how many bytes can be written in all before memory is wanted
  pub room : ℕ
  -- the most bytes that a call moves
  pub piece : ℕ
  -- which call from now on fails, or 0
  pub failing : ℕ
  -- the count of faults
  pub faults : ℕ
