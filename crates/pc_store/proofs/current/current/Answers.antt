use Rattle.std.proofs.Common.{Ok, subst}
use Rattle.pc_disk.specs.Images.{Images, area_of}
use Rattle.pc_store.specs.Reading.{Peeked}
use Rattle.pc_store.proofs.current.current.Goals as goal

pub returns-clause-counts : goal.returns-clause-counts
returns-clause-counts g c told =
    let second = subst (λ (i : Images). Peeked c.args.kind 1 (area_of 1 i) (Ok c.in_ok-second.second)) (c.in_ok-first.ensures.untouched.still told).seen (c.in_ok-second.ensures.peeked told) in
    c.greater.ensures.counts c.args.kind (g.D.Disk.seen c.args.disk.now) (c.in_ok-first.ensures.peeked told) second
