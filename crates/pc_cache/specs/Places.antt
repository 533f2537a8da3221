-- Where descriptors stand, and which uids changes name.
use Rattle.std.specs.Prelude.{◌≡◌, ℕ, ◌==◌, Bool, not, nat_lt, List}
use Rattle.std.specs.List.{filter, list_any}
use Rattle.pc_message.specs.declared.descriptor.Descriptor.{Descriptor}
use Rattle.pc_message.specs.declared.descriptor.Change.{Change}
use Rattle.pc_cache_history.specs.Laws.{is_named}

-- the descriptor has a uid below this one
abbrev pub is_below : ℕ → Descriptor → Bool
is_below uid descriptor = nat_lt descriptor.uid uid

-- these are the uids that the changes name
abbrev pub AreNamed : List ℕ → List Change → Type 0
AreNamed uids changes = (uid : ℕ) → list_any (λ other. uid == other) uids ≡ is_named uid changes

-- the descriptors that no change names
abbrev pub unnamed : List Change → List Descriptor → List Descriptor
unnamed changes descriptors = filter (λ descriptor. not (is_named descriptor.uid changes)) descriptors
