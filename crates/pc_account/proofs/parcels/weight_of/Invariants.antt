use Rattle.std.proofs.Common.{◌≡◌, ◌≤◌, ◌*◌, take}
use Rattle.pc_tables.specs.Table.{total}
use Rattle.pc_account.specs.Limits.{weight_in}
use Rattle.pc_account.proofs.parcels.weight_of.Given as goal

abbrev pub invariant-loop-parcel : goal.invariant-loop-parcel
invariant-loop-parcel l = record { so_far : l.weight ≡ total weight_in (take l.parcel-index l.parcels); bound : l.weight ≤ 4294967551 * l.parcel-index }
