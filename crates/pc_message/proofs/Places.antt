-- What follows the first place of a byte.
use Rattle.std.proofs.Common.{◌≡◌, ℕ, ◌+◌, Bool, List, [], drop, Some, None, arith}
use Rattle.std.specs.List.{position, position_or_len, after_first}
use Rattle.std.proofs.lemmas.List.{drop_all}
use Rattle.std.proofs.lemmas.Bool.Decides.{nat_tests}

pub after_first-some : (p : ℕ → Bool) (bytes : List ℕ) (place : ℕ) → position p bytes ≡ Some place → after_first p bytes ≡ drop (place + 1) bytes
after_first-some p bytes place found = grind (arith, nat_tests)

pub after_first-none : (p : ℕ → Bool) (bytes : List ℕ) → position p bytes ≡ None → after_first p bytes ≡ []
after_first-none p bytes found = drop_all (position_or_len p bytes + 1) bytes (grind (arith, nat_tests))
