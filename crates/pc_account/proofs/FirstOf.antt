-- The first of four limits that is passed.
use Rattle.std.proofs.Common.{◌≡◌, Bool, true, false, Option, Some, None, refl}
use Rattle.pc_base.specs.declared.refusal.LimitWord.{LimitWord}
use Rattle.pc_base.specs.declared.refusal.LimitWord.TheVariants.{Uids, Messages, Bytes, Changes}
use Rattle.pc_account.specs.Limits.{limit_where}

-- the limit of four that is passed first
abbrev pub first_of : Bool → Bool → Bool → Bool → Option LimitWord
first_of uids places bytes changes = limit_where uids Uids (limit_where places Messages (limit_where bytes Bytes (limit_where changes Changes None)))

pub first-uids : (uids places bytes changes : Bool) → uids ≡ true → Some Uids ≡ first_of uids places bytes changes
first-uids uids places bytes changes a = rw a refl

pub first-places : (uids places bytes changes : Bool) → uids ≡ false → places ≡ true → Some Messages ≡ first_of uids places bytes changes
first-places uids places bytes changes a b = rw (a, b) refl

pub first-bytes : (uids places bytes changes : Bool) → uids ≡ false → places ≡ false → bytes ≡ true → Some Bytes ≡ first_of uids places bytes changes
first-bytes uids places bytes changes a b c = rw (a, b, c) refl

pub last-changes : (uids places bytes changes : Bool) (told : Option LimitWord) → uids ≡ false → places ≡ false → bytes ≡ false → told ≡ limit_where changes Changes None → told ≡ first_of uids places bytes changes
last-changes uids places bytes changes told a b c e = rw (a, b, c) e
