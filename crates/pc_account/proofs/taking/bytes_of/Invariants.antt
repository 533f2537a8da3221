use Rattle.std.proofs.Common.{◌≡◌, ◌≤◌, ◌+◌, ◌*◌, take}
use Rattle.pc_account.specs.Taking.{bytes_of_parcels}
use Rattle.pc_account.proofs.taking.bytes_of.Given as goal

abbrev pub invariant-loop-parcel : goal.invariant-loop-parcel
invariant-loop-parcel l = record { so_far : l.bytes ≡ bytes_of_parcels (take l.parcel-index l.parcels); bound : l.bytes ≤ 11 + 4294967332 * l.parcel-index }
