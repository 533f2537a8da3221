-- Bytes in the frame that a log writes them in.
use Rattle.std.specs.Prelude.{◌≡◌, ◌⊎◌, ℕ, ◌+◌, ◌-◌, List, [], ◌∷◌, ◌++◌, length, take, drop}
use Rattle.std.specs.Int.{to_be_bytes, w32}

-- four bytes of length, the highest first, the content, and a closed gate
abbrev pub framed : List ℕ → List ℕ
framed content = to_be_bytes w32 (length content) ++ content ++ 0 ∷ []

-- what stands in a frame; nothing in no bytes
abbrev pub content_of : List ℕ → List ℕ
content_of frame = take (length frame - 5) (drop 4 frame)

-- the bytes are a frame, or nothing
abbrev pub IsFrame : List ℕ → Type 0
IsFrame frame = (frame ≡ []) ⊎ (frame ≡ framed (content_of frame))

-- the bytes with these ones written from a place on, and in front the length of the content up to their end
abbrev pub filled : ℕ → List ℕ → List ℕ → List ℕ
filled at bytes old = to_be_bytes w32 (at + length bytes - 4) ++ drop 4 (take at old) ++ bytes ++ drop (at + length bytes) old
