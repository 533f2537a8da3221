-- A run of no call only reads, and so do two such runs, one behind the other.
use Rattle.std.proofs.Common.{◌∙◌, refl, arith}
use Rattle.pc_disk.specs.declared.disk.Disk.{Ghosts}
use Rattle.pc_disk.specs.StillLaws.{still-same, still-again}
use Rattle.pc_log.specs.Untouched.{Untouched}

pub untouched-same : {D : Type 0} (d : Ghosts D) (disk : D) → Untouched d disk disk
untouched-same d disk = record {
  still = λ told. still-same (d.seen disk) (d.may_leave disk) (d.left_since disk);
  same_moment = refl;
  ahead = λ told k later. (λ is. is, λ is. is);
  no_fewer_faults = omega arith;
  no_fewer_calls = omega arith;
  no_fewer_bytes = omega arith;
}

pub untouched-again : {D : Type 0} (d : Ghosts D) (old mid new : D) → Untouched d old mid → Untouched d mid new → Untouched d old new
untouched-again d old mid new first second = record {
  still = λ told. still-again (d.seen old) (d.seen mid) (d.seen new) (d.may_leave old) (d.may_leave mid) (d.may_leave new) (d.left_since old) (d.left_since mid) (d.left_since new) (first.still told) (second.still told);
  same_moment = second.same_moment ∙ first.same_moment;
  ahead = λ told k later.
      let here = second.ahead told k (omega (arith, first.same_moment)) in
      let there = first.ahead told k later in
      (λ is. there.0 (here.0 is), λ is. here.1 (there.1 is));
  no_fewer_faults = omega (arith, first.no_fewer_faults, second.no_fewer_faults);
  no_fewer_calls = omega (arith, first.no_fewer_calls, second.no_fewer_calls);
  no_fewer_bytes = omega (arith, first.no_fewer_bytes, second.no_fewer_bytes);
}
