-- What is in front of each reply to a user in a transcript.
use Rattle.std.specs.Prelude.{ℕ, List, ◌++◌, codes}

abbrev pub heading_of : List ℕ → List ℕ
heading_of user = codes "ask " ++ user ++ codes ": "
