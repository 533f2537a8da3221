-- The latest sessions of clients, as a list.
use Rattle.std.specs.Prelude.{ℕ, Bool, List, Option, None, Some, if◌then◌else◌}
use Rattle.std.specs.Option.{option_map_or}
use Rattle.std.specs.Map.{lookup}
use Rattle.pc_account_history.specs.declared.entry.Entry.{Entry}
use Rattle.pc_account_history.specs.declared.entry.Entry.TheVariants.{DropClient, MakeMailbox}
use Rattle.pc_tables.specs.Table.{same}
use Rattle.pc_session.specs.declared.access.Latest.{Latest}

-- the latest session of a client
abbrev pub latest_in : List (List ℕ × Latest) → List ℕ → Option Latest
latest_in sessions client = lookup (same client) sessions

-- the client that an entry takes away
abbrev pub dropped_by : Entry → Option (List ℕ)
dropped_by (DropClient client) = Some client
dropped_by (MakeMailbox mailbox) = None
dropped_by _ = None

-- a client that was taken away, if one was, has no latest session; others have what they had
abbrev pub latest_but : Option (List ℕ) → (List ℕ → Option Latest) → List ℕ → Option Latest
latest_but dropped latest other = option_map_or (λ (client : List ℕ). if same client other then None else latest other) dropped (latest other)

-- the client, where the entry that takes it away came
abbrev pub dropped_if : Bool → Option (List ℕ) → Option (List ℕ)
dropped_if came dropped = if came then dropped else None
