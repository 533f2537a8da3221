-- What an account keeps of a password.
use Rattle.std.specs.Prelude.{ℕ, List, [], ◌∷◌, ◌++◌}
use Rattle.sha2.specs.Sha256.{sha256}

-- the digest of the user's name, a zero byte and the password
abbrev pub digest_of : List ℕ → List ℕ → List ℕ
digest_of user password = sha256 (user ++ 0 ∷ [] ++ password)
