use Rattle.std.proofs.Common.{◌≡◌, ◌≤◌, length}
use Rattle.pc_account_holdings.specs.State.{said}
use Rattle.pc_account.specs.Taking.{front_count}
use Rattle.pc_account.proofs.taking.longest_front.Given as goal

-- the longest front is one of so many parcels
abbrev pub invariant-loop-count : goal.invariant-loop-count
invariant-loop-count l = record { bound : l.count ≤ length l.parcels; same : front_count (said l.holdings) l.room (length l.parcels) l.parcels ≡ front_count (said l.holdings) l.room l.count l.parcels }

abbrev pub decreases-loop-count : goal.decreases-loop-count
decreases-loop-count l = l.count
