use Rattle.std.proofs.Common.{◌≡◌, map, take}
use Rattle.pc_account.specs.Limits.{parcel_of}
use Rattle.pc_account.proofs.parcels.Parcels.of_letters.Given as goal

abbrev pub invariant-loop-letter : goal.invariant-loop-letter
invariant-loop-letter l = l.parcels ≡ map parcel_of (take l.letter-index l.letters)
