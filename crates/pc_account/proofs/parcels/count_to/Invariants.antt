use Rattle.std.proofs.Common.{◌≡◌, ◌≤◌, length, take}
use Rattle.pc_account.specs.Limits.{parcels_to}
use Rattle.pc_account.proofs.parcels.count_to.Given as goal

abbrev pub invariant-loop-parcel : goal.invariant-loop-parcel
invariant-loop-parcel l = record { so_far : l.count ≡ length (parcels_to l.mailbox (take l.parcel-index l.parcels)); bound : l.count ≤ l.parcel-index }
