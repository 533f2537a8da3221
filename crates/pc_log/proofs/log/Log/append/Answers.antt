use Rattle.std.proofs.Common.{◌∙◌, ℕ, ◌+◌, ◌<◌, ◌≤◌, List, [], ◌∷◌, length, refl, sym, ap, subst, arith, length-append}
use Rattle.pc_disk.specs.Images.{Images, area_of, with_area, overwritten, Torn, InArea}
use Rattle.pc_disk.specs.Outcomes.{LeavesFirst, LeavesOnly}
use Rattle.pc_disk.specs.Outcomes.LeavesFirst.{ended, went_on}
use Rattle.pc_disk.specs.StepFaults.{LeadsOn}
use Rattle.pc_disk.proofs.Runs.{weakened, followed}
use Rattle.pc_log.specs.Logs.{LogState, Stands, Without, WithOrWithout}
use Rattle.pc_log.proofs.Appends.{first_step, without_counts, second_step, appended, second_due}
use Rattle.pc_log.proofs.log.Log.append.Goals as goal

pub returns-in-Err-clause-any_moment : goal.returns-in-Err-clause-any_moment
returns-in-Err-clause-any_moment g c told head entries stands =
    let disk = g.D.Disk in
    let view = c.self.view_is in
    let area = c.self.inside.area in
    let gate = c.self.inside.gate in
    let log : LogState = record { area = area; gate = gate } in
    let frame = c.framed-frame.result.now in
    let bytes = c.args.bytes.now in
    let old = c.args.disk.now in
    let mid = c.put.new.disk in
    let seen = disk.seen old in
    let may = disk.may_leave old in
    let here = subst (λ (s : LogState). Stands s head entries seen may) (sym view) stands in
    let torn : Images → Type 0 = LeadsOn (InArea area (Torn (gate + 1) (length frame))) may in
    let without : Images → Type 0 = LeadsOn (InArea area (Without head entries)) may in
    let either : Images → Type 0 = LeadsOn (InArea area (WithOrWithout head entries bytes)) may in
    let early = weakened disk.moment disk.left_since old mid torn without (first_step log head entries seen may (length frame) here) (c.put.ensures.any_moment told) in
    let begun = weakened disk.moment disk.left_since old mid without either (without_counts log head entries bytes may) early in
    subst (λ (s : LogState). LeavesOnly disk.moment disk.left_since old mid (LeadsOn (InArea s.area (WithOrWithout head entries bytes)) may)) view begun

pub returns-in-Err-clause-first_two : goal.returns-in-Err-clause-first_two
returns-in-Err-clause-first_two g c told head entries stands =
    let disk = g.D.Disk in
    let view = c.self.view_is in
    let area = c.self.inside.area in
    let gate = c.self.inside.gate in
    let log : LogState = record { area = area; gate = gate } in
    let frame = c.framed-frame.result.now in
    let bytes = c.args.bytes.now in
    let old = c.args.disk.now in
    let mid = c.put.new.disk in
    let seen = disk.seen old in
    let may = disk.may_leave old in
    let here = subst (λ (s : LogState). Stands s head entries seen may) (sym view) stands in
    let torn : Images → Type 0 = LeadsOn (InArea area (Torn (gate + 1) (length frame))) may in
    let without : Images → Type 0 = LeadsOn (InArea area (Without head entries)) may in
    let either : Images → Type 0 = LeadsOn (InArea area (WithOrWithout head entries bytes)) may in
    let early = weakened disk.moment disk.left_since old mid torn without (first_step log head entries seen may (length frame) here) (c.put.ensures.any_moment told) in
    let calls = c.append_fault.ensures in
    let few : disk.moment mid ≤ disk.moment old + 2 = omega (arith, c.in-Err.ensures.moment, calls.call, calls.high) in
    subst (λ (s : LogState). LeavesFirst disk.moment disk.left_since 2 old mid (LeadsOn (InArea s.area (Without head entries)) may) (LeadsOn (InArea s.area (WithOrWithout head entries bytes)) may)) view (ended few early)

pub returns-in-Err-put-clause-any_moment : goal.returns-in-Err-put-clause-any_moment
returns-in-Err-put-clause-any_moment g c told head entries stands =
    let disk = g.D.Disk in
    let view = c.self.view_is in
    let area = c.self.inside.area in
    let gate = c.self.inside.gate in
    let log : LogState = record { area = area; gate = gate } in
    let frame = c.framed-frame.result.now in
    let bytes = c.args.bytes.now in
    let old = c.args.disk.now in
    let mid = c.put.new.disk in
    let seen = disk.seen old in
    let may = disk.may_leave old in
    let here = subst (λ (s : LogState). Stands s head entries seen may) (sym view) stands in
    let written = c.in_default.ensures.written told ∙ ap (λ (xs : List ℕ). with_area area (overwritten (gate + 1) xs (area_of area seen)) seen) c.framed-frame.ensures in
    let torn : Images → Type 0 = LeadsOn (InArea area (Torn (gate + 1) (length frame))) may in
    let without : Images → Type 0 = LeadsOn (InArea area (Without head entries)) may in
    let either : Images → Type 0 = LeadsOn (InArea area (WithOrWithout head entries bytes)) may in
    let early = weakened disk.moment disk.left_since old mid torn without (first_step log head entries seen may (length frame) here) (c.put.ensures.any_moment told) in
    let begun = weakened disk.moment disk.left_since old mid without either (without_counts log head entries bytes may) early in
    let gated : Images → Type 0 = LeadsOn (InArea area (Torn gate 1)) (disk.may_leave mid) in
    let ended = weakened disk.moment disk.left_since mid c.put-2.new.disk gated either (second_step log head entries bytes seen (disk.seen mid) may (disk.may_leave mid) here (g.met.D.Disk.present told old) written (c.in_default.ensures.settled told)) (c.put-2.ensures.any_moment told) in
    let whole = followed disk.moment disk.left_since old mid c.put-2.new.disk either begun ended in
    subst (λ (s : LogState). LeavesOnly disk.moment disk.left_since old c.put-2.new.disk (LeadsOn (InArea s.area (WithOrWithout head entries bytes)) may)) view whole

pub returns-in-Err-put-clause-first_two : goal.returns-in-Err-put-clause-first_two
returns-in-Err-put-clause-first_two g c told head entries stands =
    let disk = g.D.Disk in
    let view = c.self.view_is in
    let area = c.self.inside.area in
    let gate = c.self.inside.gate in
    let log : LogState = record { area = area; gate = gate } in
    let frame = c.framed-frame.result.now in
    let bytes = c.args.bytes.now in
    let old = c.args.disk.now in
    let mid = c.put.new.disk in
    let seen = disk.seen old in
    let may = disk.may_leave old in
    let here = subst (λ (s : LogState). Stands s head entries seen may) (sym view) stands in
    let written = c.in_default.ensures.written told ∙ ap (λ (xs : List ℕ). with_area area (overwritten (gate + 1) xs (area_of area seen)) seen) c.framed-frame.ensures in
    let torn : Images → Type 0 = LeadsOn (InArea area (Torn (gate + 1) (length frame))) may in
    let without : Images → Type 0 = LeadsOn (InArea area (Without head entries)) may in
    let either : Images → Type 0 = LeadsOn (InArea area (WithOrWithout head entries bytes)) may in
    let early = weakened disk.moment disk.left_since old mid torn without (first_step log head entries seen may (length frame) here) (c.put.ensures.any_moment told) in
    let gated : Images → Type 0 = LeadsOn (InArea area (Torn gate 1)) (disk.may_leave mid) in
    let later = weakened disk.moment disk.left_since mid c.put-2.new.disk gated either (second_step log head entries bytes seen (disk.seen mid) may (disk.may_leave mid) here (g.met.D.Disk.present told old) written (c.in_default.ensures.settled told)) (c.put-2.ensures.any_moment told) in
    let calls = c.append_fault-in-Err-put.ensures in
    let more : disk.moment mid < disk.moment c.put-2.new.disk = omega (arith, c.in-Err-put.ensures.moment, calls.call, calls.low) in
    subst (λ (s : LogState). LeavesFirst disk.moment disk.left_since 2 old c.put-2.new.disk (LeadsOn (InArea s.area (Without head entries)) may) (LeadsOn (InArea s.area (WithOrWithout head entries bytes)) may)) view (went_on mid c.in_default.ensures.moment more early later)

pub returns-in-Err-put-clause-due : goal.returns-in-Err-put-clause-due
returns-in-Err-put-clause-due g c told =
    let disk = g.D.Disk in
    second_due c.in-Err-put.fault c.append_fault-in-Err-put.result.call (disk.moment c.args.disk.now) (disk.moment c.put.new.disk) (disk.due c.args.disk.now) (disk.due c.put.new.disk)
    (c.in_default.ensures.due told) c.in_default.ensures.moment (c.in_default.ensures.ahead told) (c.in-Err-put.ensures.due told) c.append_fault-in-Err-put.ensures.call

pub returns-clause-stands : goal.returns-clause-stands
returns-clause-stands g c told head entries stands =
    let disk = g.D.Disk in
    let view = c.self.view_is in
    let area = c.self.inside.area in
    let gate = c.self.inside.gate in
    let log : LogState = record { area = area; gate = gate } in
    let frame = c.framed-frame.result.now in
    let bytes = c.args.bytes.now in
    let old = c.args.disk.now in
    let mid = c.put.new.disk in
    let seen = disk.seen old in
    let may = disk.may_leave old in
    let here = subst (λ (s : LogState). Stands s head entries seen may) (sym view) stands in
    let written = c.in_default.ensures.written told ∙ ap (λ (xs : List ℕ). with_area area (overwritten (gate + 1) xs (area_of area seen)) seen) c.framed-frame.ensures in
    let log' : LogState = record { area = area; gate = gate + length frame } in
    appended log log' head entries bytes seen (disk.seen mid) (disk.seen c.put-2.new.disk) may (disk.may_leave c.put-2.new.disk) here written (c.in_default-put.ensures.written told) (c.in_default-put.ensures.settled told)
    refl (omega (arith, ap length c.framed-frame.ensures, length-append bytes (0 ∷ [])))

pub returns-clause-any_moment : goal.returns-clause-any_moment
returns-clause-any_moment g c told head entries stands =
    let disk = g.D.Disk in
    let view = c.self.view_is in
    let area = c.self.inside.area in
    let gate = c.self.inside.gate in
    let log : LogState = record { area = area; gate = gate } in
    let frame = c.framed-frame.result.now in
    let bytes = c.args.bytes.now in
    let old = c.args.disk.now in
    let mid = c.put.new.disk in
    let seen = disk.seen old in
    let may = disk.may_leave old in
    let here = subst (λ (s : LogState). Stands s head entries seen may) (sym view) stands in
    let written = c.in_default.ensures.written told ∙ ap (λ (xs : List ℕ). with_area area (overwritten (gate + 1) xs (area_of area seen)) seen) c.framed-frame.ensures in
    let torn : Images → Type 0 = LeadsOn (InArea area (Torn (gate + 1) (length frame))) may in
    let without : Images → Type 0 = LeadsOn (InArea area (Without head entries)) may in
    let either : Images → Type 0 = LeadsOn (InArea area (WithOrWithout head entries bytes)) may in
    let early = weakened disk.moment disk.left_since old mid torn without (first_step log head entries seen may (length frame) here) (c.put.ensures.any_moment told) in
    let begun = weakened disk.moment disk.left_since old mid without either (without_counts log head entries bytes may) early in
    let gated : Images → Type 0 = LeadsOn (InArea area (Torn gate 1)) (disk.may_leave mid) in
    let ended = weakened disk.moment disk.left_since mid c.put-2.new.disk gated either (second_step log head entries bytes seen (disk.seen mid) may (disk.may_leave mid) here (g.met.D.Disk.present told old) written (c.in_default.ensures.settled told)) (c.put-2.ensures.any_moment told) in
    let whole = followed disk.moment disk.left_since old mid c.put-2.new.disk either begun ended in
    subst (λ (s : LogState). LeavesOnly disk.moment disk.left_since old c.put-2.new.disk (LeadsOn (InArea s.area (WithOrWithout head entries bytes)) may)) view whole

pub returns-clause-first_two : goal.returns-clause-first_two
returns-clause-first_two g c told head entries stands =
    let disk = g.D.Disk in
    let view = c.self.view_is in
    let area = c.self.inside.area in
    let gate = c.self.inside.gate in
    let log : LogState = record { area = area; gate = gate } in
    let frame = c.framed-frame.result.now in
    let bytes = c.args.bytes.now in
    let old = c.args.disk.now in
    let mid = c.put.new.disk in
    let seen = disk.seen old in
    let may = disk.may_leave old in
    let here = subst (λ (s : LogState). Stands s head entries seen may) (sym view) stands in
    let written = c.in_default.ensures.written told ∙ ap (λ (xs : List ℕ). with_area area (overwritten (gate + 1) xs (area_of area seen)) seen) c.framed-frame.ensures in
    let torn : Images → Type 0 = LeadsOn (InArea area (Torn (gate + 1) (length frame))) may in
    let without : Images → Type 0 = LeadsOn (InArea area (Without head entries)) may in
    let either : Images → Type 0 = LeadsOn (InArea area (WithOrWithout head entries bytes)) may in
    let early = weakened disk.moment disk.left_since old mid torn without (first_step log head entries seen may (length frame) here) (c.put.ensures.any_moment told) in
    let gated : Images → Type 0 = LeadsOn (InArea area (Torn gate 1)) (disk.may_leave mid) in
    let later = weakened disk.moment disk.left_since mid c.put-2.new.disk gated either (second_step log head entries bytes seen (disk.seen mid) may (disk.may_leave mid) here (g.met.D.Disk.present told old) written (c.in_default.ensures.settled told)) (c.put-2.ensures.any_moment told) in
    let more : disk.moment mid < disk.moment c.put-2.new.disk = omega (arith, c.in_default-put.ensures.moment) in
    subst (λ (s : LogState). LeavesFirst disk.moment disk.left_since 2 old c.put-2.new.disk (LeadsOn (InArea s.area (Without head entries)) may) (LeadsOn (InArea s.area (WithOrWithout head entries bytes)) may)) view (went_on mid c.in_default.ensures.moment more early later)
