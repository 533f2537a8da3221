use Rattle.std.proofs.Common.{ℕ, List, subst}
use Rattle.std.proofs.lemmas.Result.{err_from_is_err_and}
use Rattle.pc_disk.specs.Images.{area_of}
use Rattle.pc_log.specs.Numbers.{SpellsNumbers}
use Rattle.pc_log.proofs.Starts.{front_read, are_read, peeks_fault, peeks}
use Rattle.pc_log.proofs.head.peek.Goals as goal

pub returns-in_err-numbers-clause-exact : goal.returns-in_err-numbers-clause-exact
returns-in_err-numbers-clause-exact g c told =
    let area = area_of c.args.area (g.D.Disk.seen c.args.disk.now) in
    let front = front_read area c.read.new.into c.in_ok-count.count c.read.auto.into (c.in_ok-count.ensures.bytes told) in
    let are = are_read area _ c.in-Some.head.now front c.in-Some.ensures in
    let p = err_from_is_err_and c.from_residual-in_err-numbers.result c.from_residual-in_err-numbers.ensures.1 in
    rw (p.1, p.2) (peeks_fault c.in_err-numbers.field-0.0 c.args.kind area c.in-Some.head.now are c.in_err-numbers.ensures.exact)

pub returns-clause-exact : goal.returns-clause-exact
returns-clause-exact g c told =
    let area = area_of c.args.area (g.D.Disk.seen c.args.disk.now) in
    let front = front_read area c.read.new.into c.in_ok-count.count c.read.auto.into (c.in_ok-count.ensures.bytes told) in
    let are = are_read area _ c.in-Some.head.now front c.in-Some.ensures in
    peeks c.args.kind area c.in-Some.head.now c.in_ok-numbers.numbers are c.in_ok-numbers.ensures.exact

pub returns-clause-found : goal.returns-clause-found
returns-clause-found g c told =
    let area = area_of c.args.area (g.D.Disk.seen c.args.disk.now) in
    let front = front_read area c.read.new.into c.in_ok-count.count c.read.auto.into (c.in_ok-count.ensures.bytes told) in
    let are = are_read area _ c.in-Some.head.now front c.in-Some.ensures in
    subst (λ (xs : List ℕ). SpellsNumbers c.args.kind xs c.in_ok-numbers.numbers) are.behind c.in_ok-numbers.ensures.spelled
