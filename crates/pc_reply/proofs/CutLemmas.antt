-- Lines that go on or are cut, and the limit that they pass.
use Rattle.std.proofs.Common.{ℕ, ◌+◌, ◌<◌, ◌≤◌, ◌↔◌, inl, inr, List, [], ◌∷◌, ◌++◌, length, take, ap, arith, append-nil, length-append}
use Rattle.std.proofs.lemmas.List.{take_all, length-take-le}
use Rattle.std.proofs.lemmas.Bool.{cases_lt}
use Rattle.pc_wire.specs.Lines.{without_return}
use Rattle.pc_wire.proofs.FeedLemmas.{length-without_return}

-- a longer line with one CR taken off is no shorter
pub without_return-append : (bytes more : List ℕ) → length (without_return bytes) ≤ length (without_return (bytes ++ more))
without_return-append bytes [] = omega (arith, ap (λ all. length (without_return all)) (append-nil bytes))
without_return-append bytes (b ∷ bs) =
    omega (arith, length-without_return bytes, length-without_return (bytes ++ b ∷ bs), length-append bytes (b ∷ bs))

-- the cut leaves what tells whether the line passes the limit
pub past_cut : (limit : ℕ) (line : List ℕ) → limit < length (without_return (take (limit + 2) line)) ↔ limit < length (without_return line)
past_cut limit line = elim (cases_lt (limit + 2) (length line)) [
  | inl h ↦ (λ _. omega (arith, length-without_return line), λ _. omega (arith, length-take-le (limit + 2) line (omega arith), length-without_return (take (limit + 2) line)))
  | inr h ↦ rw (take_all (limit + 2) line h) (λ p. p, λ p. p)
]
