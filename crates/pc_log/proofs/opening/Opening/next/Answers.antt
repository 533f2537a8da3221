use Rattle.std.proofs.Common.{◌≡◌, ◌∙◌, ℕ, ◌+◌, List, ◌++◌, length, drop, take, Option, Result, Ok, Err, sym, ap, subst, arith}
use Rattle.std.specs.Prelude.{IfSome}
use Rattle.std.proofs.lemmas.Result.{err_from_is_err_and}
use Rattle.pc_disk.specs.Images.{Images, area_of}
use Rattle.pc_log.specs.Area.{SpellsSize, entry_bytes}
use Rattle.pc_log.specs.Reading.{OpeningState, bytes_at}
use Rattle.pc_log.specs.Opening.{Gives}
use Rattle.pc_log.proofs.Starts.{given, gate_fault, closed_read, entry_fault, entry_read}
use Rattle.pc_log.proofs.Entries.{entry_takes}
use Rattle.pc_log.proofs.opening.Opening.next.Goals as goal

pub returns-in_err-size-clause-exact : goal.returns-in_err-size-clause-exact
returns-in_err-size-clause-exact g c told =
    let view = c.self.view_is in
    let seen = g.D.Disk.seen c.args.disk.now in
    let front = given (drop c.self.inside.gate (area_of c.self.inside.area seen)) c.read.new.into c.in_ok-count.count 5 c.read.auto.into (c.in_ok-count.ensures.bytes told)
    ∙ ap (λ (s : OpeningState). take 5 (drop s.reached.gate (area_of s.area seen))) view in
    let area = area_of c.args.self.now.area seen in
    let p = err_from_is_err_and c.from_residual-in_err-size.result c.from_residual-in_err-size.ensures.1 in
    rw (p.1, p.2) (gate_fault c.in_err-size.field-0.0 c.args.self.now.reached area (take c.in_ok-count.count c.read.new.into) front c.in_err-size.ensures.exact)

pub returns-in_default-clause-exact : goal.returns-in_default-clause-exact
returns-in_default-clause-exact g c told =
    let view = c.self.view_is in
    let seen = g.D.Disk.seen c.args.disk.now in
    let front = given (drop c.self.inside.gate (area_of c.self.inside.area seen)) c.read.new.into c.in_ok-count.count 5 c.read.auto.into (c.in_ok-count.ensures.bytes told)
    ∙ ap (λ (s : OpeningState). take 5 (drop s.reached.gate (area_of s.area seen))) view in
    let area = area_of c.args.self.now.area seen in
    closed_read c.args.self.now.reached area (take c.in_ok-count.count c.read.new.into) front (c.in_ok-size.ensures.exact ∙ ap (λ (o : Option ℕ). let r : Result (Option ℕ) ℕ = Ok o in r) c.in_default.is)

pub returns-in_err-bytes-clause-exact : goal.returns-in_err-bytes-clause-exact
returns-in_err-bytes-clause-exact g c told =
    let view = c.self.view_is in
    let seen = g.D.Disk.seen c.args.disk.now in
    let front = given (drop c.self.inside.gate (area_of c.self.inside.area seen)) c.read.new.into c.in_ok-count.count 5 c.read.auto.into (c.in_ok-count.ensures.bytes told)
    ∙ ap (λ (s : OpeningState). take 5 (drop s.reached.gate (area_of s.area seen))) view in
    let area = area_of c.args.self.now.area seen in
    let sized = c.in_ok-size.ensures.exact ∙ ap (λ (o : Option ℕ). let r : Result (Option ℕ) ℕ = Ok o in r) c.in-Some.is in
    let gives = subst (λ (s : OpeningState). Gives {X = List ℕ} {Y = List ℕ} (λ bytes. bytes) (Err c.in_err-bytes.field-0.0) (bytes_at (s.reached.gate + 5) c.in-Some.size (area_of s.area seen))) view
    (subst (λ (images : Images). Gives {X = List ℕ} {Y = List ℕ} (λ bytes. bytes) (Err c.in_err-bytes.field-0.0) (bytes_at (c.self.inside.gate + 5) c.in-Some.size (area_of c.self.inside.area images))) (c.in_ok-count.ensures.still told).seen (c.in_err-bytes.ensures.bytes told)) in
    let p = err_from_is_err_and c.from_residual-in_err-bytes.result c.from_residual-in_err-bytes.ensures.1 in
    rw (p.1, p.2) (entry_fault c.in_err-bytes.field-0.0 c.args.self.now.reached area (take c.in_ok-count.count c.read.new.into) c.in-Some.size front sized gives)

pub returns-clause-exact : goal.returns-clause-exact
returns-clause-exact g c told =
    let view = c.self.view_is in
    let seen = g.D.Disk.seen c.args.disk.now in
    let front = given (drop c.self.inside.gate (area_of c.self.inside.area seen)) c.read.new.into c.in_ok-count.count 5 c.read.auto.into (c.in_ok-count.ensures.bytes told)
    ∙ ap (λ (s : OpeningState). take 5 (drop s.reached.gate (area_of s.area seen))) view in
    let area = area_of c.args.self.now.area seen in
    let sized = c.in_ok-size.ensures.exact ∙ ap (λ (o : Option ℕ). let r : Result (Option ℕ) ℕ = Ok o in r) c.in-Some.is in
    let based = ap (λ (s : OpeningState). bytes_at (s.reached.gate + 5) c.in-Some.size (area_of s.area seen)) (sym view)
    ∙ ap (λ (images : Images). bytes_at (c.self.inside.gate + 5) c.in-Some.size (area_of c.self.inside.area images)) (sym (c.in_ok-count.ensures.still told).seen) ∙ c.in_ok-bytes.ensures.bytes told in
    entry_read c.args.self.now.reached area (take c.in_ok-count.count c.read.new.into) c.in-Some.size c.in_ok-bytes.bytes front sized based

pub returns-clause-found : goal.returns-clause-found
returns-clause-found g c told =
    let view = c.self.view_is in
    let seen = g.D.Disk.seen c.args.disk.now in
    let front = given (drop c.self.inside.gate (area_of c.self.inside.area seen)) c.read.new.into c.in_ok-count.count 5 c.read.auto.into (c.in_ok-count.ensures.bytes told)
    ∙ ap (λ (s : OpeningState). take 5 (drop s.reached.gate (area_of s.area seen))) view in
    let area = area_of c.args.self.now.area seen in
    let based = ap (λ (s : OpeningState). bytes_at (s.reached.gate + 5) c.in-Some.size (area_of s.area seen)) (sym view)
    ∙ ap (λ (images : Images). bytes_at (c.self.inside.gate + 5) c.in-Some.size (area_of c.self.inside.area images)) (sym (c.in_ok-count.ensures.still told).seen) ∙ c.in_ok-bytes.ensures.bytes told in
    let spelled = subst (λ (xs : List ℕ). SpellsSize xs c.in-Some.size) front
    (subst (λ (o : Option ℕ). IfSome o (λ size. SpellsSize (take c.in_ok-count.count c.read.new.into) size)) c.in-Some.is c.in_ok-size.ensures.spelled) in
    let gate_is : c.self.inside.gate ≡ c.args.self.now.reached.gate = ap (λ (s : OpeningState). s.reached.gate) view in
    let place : c.args.self.now.reached.gate + 5 + length c.in_ok-bytes.bytes ≡ c.self.inside.gate + 5 + c.from.result = omega (arith, gate_is, c.from.ensures, c.in_ok-bytes.ensures.size) in
    entry_takes c.args.self.now.reached area c.in-Some.size c.in_ok-bytes.bytes spelled based ∙ ap (λ (k : ℕ). entry_bytes c.in_ok-bytes.bytes ++ drop k area) place
