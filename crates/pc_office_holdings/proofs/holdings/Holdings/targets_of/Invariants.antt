use Rattle.std.proofs.Common.{◌≡◌, take}
use Rattle.std.specs.Map.{lookup}
use Rattle.pc_tables.specs.Table.{same}
use Rattle.pc_office_history.specs.Effect.{targets_of}
use Rattle.pc_office_holdings.proofs.holdings.Holdings.targets_of.Given as goal

abbrev pub invariant-loop-name : goal.invariant-loop-name
invariant-loop-name l = l.targets ≡ targets_of (λ name. lookup (same name) l.self.addresses) (take l.name-index l.names)
