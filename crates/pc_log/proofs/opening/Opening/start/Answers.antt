use Rattle.std.proofs.Common.{◌∙◌, ℕ, List, take, drop, Option, Result, Ok, Err, IfSome, sym, ap, subst}
use Rattle.std.proofs.lemmas.Result.{err_from_is_err_and}
use Rattle.pc_disk.specs.Images.{Images, area_of}
use Rattle.pc_log.specs.declared.fault.LogFault.{LogFault}
use Rattle.pc_log.specs.declared.head.Numbers.{Numbers}
use Rattle.pc_log.specs.Numbers.{AreNumbers, SpellsNumbers}
use Rattle.pc_log.specs.Reading.{bytes_at}
use Rattle.pc_log.specs.Opening.{Gives, Peeks}
use Rattle.pc_log.proofs.Starts.{numbers_fault, base_fault, head_read, head_right, begins}
use Rattle.pc_log.proofs.opening.Opening.start.Goals as goal

abbrev answer : Option Numbers → Result (Option Numbers) LogFault
answer o = Ok o

pub returns-in_err-numbers-clause-exact : goal.returns-in_err-numbers-clause-exact
returns-in_err-numbers-clause-exact g c told =
    let area = area_of c.args.area (g.D.Disk.seen c.args.disk.now) in
    let p = err_from_is_err_and c.from_residual.result c.from_residual.ensures.1 in
    rw (p.1, p.2) (numbers_fault c.in_err-numbers.field-0.0 c.args.kind area (c.in_err-numbers.ensures.exact told))

pub returns-in_err-base-clause-exact : goal.returns-in_err-base-clause-exact
returns-in_err-base-clause-exact g c told =
    let area = area_of c.args.area (g.D.Disk.seen c.args.disk.now) in
    let peeked = subst (λ (o : Option Numbers). Peeks (answer o) c.args.kind area) c.in-Some.is (c.in_ok-numbers.ensures.exact told) in
    let gives = subst (λ (images : Images). Gives {X = List ℕ} {Y = List ℕ} (λ bytes. bytes) (Err c.in_err-base.field-0.0) (bytes_at 30 c.in-Some.numbers.size (area_of c.args.area images))) (c.in_ok-numbers.ensures.untouched.still told).seen (c.in_err-base.ensures.bytes told) in
    let p = err_from_is_err_and c.from_residual-in_err-base.result c.from_residual-in_err-base.ensures.1 in
    rw (p.1, p.2) (base_fault c.in_err-base.field-0.0 c.args.kind area c.in-Some.numbers peeked gives)

pub returns-clause-exact : goal.returns-clause-exact
returns-clause-exact g c told =
    let area = area_of c.args.area (g.D.Disk.seen c.args.disk.now) in
    let peeked = subst (λ (o : Option Numbers). Peeks (answer o) c.args.kind area) c.in-Some.is (c.in_ok-numbers.ensures.exact told) in
    let based = ap (λ (images : Images). bytes_at 30 c.in-Some.numbers.size (area_of c.args.area images)) (sym (c.in_ok-numbers.ensures.untouched.still told).seen) ∙ c.in_ok-base.ensures.bytes told in
    head_read c.args.kind area c.in-Some.numbers c.in_ok-base.base peeked based

pub returns-clause-found : goal.returns-clause-found
returns-clause-found g c told =
    let area = area_of c.args.area (g.D.Disk.seen c.args.disk.now) in
    let peeked = subst (λ (o : Option Numbers). Peeks (answer o) c.args.kind area) c.in-Some.is (c.in_ok-numbers.ensures.exact told) in
    let spelled = subst (λ (o : Option Numbers). IfSome o (SpellsNumbers c.args.kind (take 29 (drop 1 area)))) c.in-Some.is (c.in_ok-numbers.ensures.found told) in
    let based = ap (λ (images : Images). bytes_at 30 c.in-Some.numbers.size (area_of c.args.area images)) (sym (c.in_ok-numbers.ensures.untouched.still told).seen) ∙ c.in_ok-base.ensures.bytes told in
    begins c.args.kind area c.in-Some.numbers c.in_ok-base.base peeked.0 spelled based

pub returns-clause-right : goal.returns-clause-right
returns-clause-right g c =
    let right = subst (λ (o : Option Numbers). IfSome o (AreNumbers c.args.kind)) c.in-Some.is c.in_ok-numbers.ensures.right in
    head_right c.args.kind c.in-Some.numbers c.in_ok-base.base right c.in_ok-base.ensures.size
