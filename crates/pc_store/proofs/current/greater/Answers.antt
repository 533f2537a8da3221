use Rattle.std.proofs.Common.{◌≡◌, ℕ, Option, Ok, refl, subst, arith}
use Rattle.pc_disk.specs.Images.{Images, area_of}
use Rattle.pc_log.specs.declared.head.Numbers.{Numbers}
use Rattle.pc_store.specs.Current.NoneCounts.{of_one_generation}
use Rattle.pc_store.specs.Reading.{Peeked}
use Rattle.pc_store.proofs.current.greater.Goals as goal

pub returns-then-first-second-clause-counts : goal.returns-then-first-second-clause-counts
returns-then-first-second-clause-counts c kind images first second =
    let has = subst (λ (o : Option Numbers). Peeked kind 0 (area_of 0 images) (Ok o)) c.in-Some-Some.is-0 first in
    let has' = subst (λ (o : Option Numbers). Peeked kind 1 (area_of 1 images) (Ok o)) c.in-Some-Some.is-1 second in
    of_one_generation c.in-Some-Some.first c.in-Some-Some.second has has' (omega arith) refl refl
