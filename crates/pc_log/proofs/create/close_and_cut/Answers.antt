use Rattle.std.proofs.Common.{◌≡◌, ◌∙◌, ℕ, List, [], ◌∷◌, drop, refl, ap, arith, inr}
use Rattle.pc_disk.specs.Images.{Images, area_of, with_area, overwritten, Torn, TornCut, InArea}
use Rattle.pc_disk.specs.StepFaults.{LeadsOn}
use Rattle.pc_disk.proofs.Runs.{weakened, followed}
use Rattle.pc_log.specs.Making.{OldOrUnmade}
use Rattle.pc_log.proofs.Makings.{in_area, in_area_next, gate_torn, cut_closed}
use Rattle.pc_log.proofs.create.close_and_cut.Goals as goal

pub returns-in_err-put-clause-any_moment : goal.returns-in_err-put-clause-any_moment
returns-in_err-put-clause-any_moment g c told settled =
    let disk = g.D.Disk in
    let area = c.args.area in
    let old = c.args.disk.now in
    let mid = c.put.new.disk in
    let seen = disk.seen old in
    let rest : List ℕ = drop 1 (area_of area seen) in
    let is = c.requires.open_gate told in
    let outcome : Images → Type 0 = InArea area OldOrUnmade seen in
    let torn : Images → Type 0 = LeadsOn (InArea area (Torn 0 1)) (disk.may_leave old) in
    let begun = weakened disk.moment disk.left_since old mid torn outcome
    (in_area area seen (disk.may_leave old) (Torn 0 1) OldOrUnmade (1 ∷ rest) settled is (λ new step. gate_torn 1 rest new refl step)) (c.put.ensures.any_moment told) in
    begun

pub returns-in_err-trim-clause-any_moment : goal.returns-in_err-trim-clause-any_moment
returns-in_err-trim-clause-any_moment g c told settled =
    let disk = g.D.Disk in
    let area = c.args.area in
    let old = c.args.disk.now in
    let mid = c.put.new.disk in
    let seen = disk.seen old in
    let rest : List ℕ = drop 1 (area_of area seen) in
    let is = c.requires.open_gate told in
    let outcome : Images → Type 0 = InArea area OldOrUnmade seen in
    let torn : Images → Type 0 = LeadsOn (InArea area (Torn 0 1)) (disk.may_leave old) in
    let begun = weakened disk.moment disk.left_since old mid torn outcome
    (in_area area seen (disk.may_leave old) (Torn 0 1) OldOrUnmade (1 ∷ rest) settled is (λ new step. gate_torn 1 rest new refl step)) (c.put.ensures.any_moment told) in
    let written = c.in_ok-put.ensures.written told ∙ ap (λ (xs : List ℕ). with_area area (overwritten 0 (0 ∷ []) xs) seen) is in
    let shut : 0 ≡ 1 → ⊥ = λ e. omega (arith, e) in
    let cut : Images → Type 0 = LeadsOn (InArea area (TornCut 1)) (disk.may_leave mid) in
    let ended = weakened disk.moment disk.left_since mid c.trim.new.disk cut outcome
    (in_area_next area seen (disk.seen mid) (disk.may_leave mid) (TornCut 1) OldOrUnmade (0 ∷ rest) (c.in_ok-put.ensures.settled told) written (λ new step. inr (cut_closed 0 rest new shut step))) (c.trim.ensures.any_moment told) in
    followed disk.moment disk.left_since old mid c.trim.new.disk outcome begun ended

pub returns-clause-any_moment : goal.returns-clause-any_moment
returns-clause-any_moment g c told settled =
    let disk = g.D.Disk in
    let area = c.args.area in
    let old = c.args.disk.now in
    let mid = c.put.new.disk in
    let seen = disk.seen old in
    let rest : List ℕ = drop 1 (area_of area seen) in
    let is = c.requires.open_gate told in
    let outcome : Images → Type 0 = InArea area OldOrUnmade seen in
    let torn : Images → Type 0 = LeadsOn (InArea area (Torn 0 1)) (disk.may_leave old) in
    let begun = weakened disk.moment disk.left_since old mid torn outcome
    (in_area area seen (disk.may_leave old) (Torn 0 1) OldOrUnmade (1 ∷ rest) settled is (λ new step. gate_torn 1 rest new refl step)) (c.put.ensures.any_moment told) in
    let written = c.in_ok-put.ensures.written told ∙ ap (λ (xs : List ℕ). with_area area (overwritten 0 (0 ∷ []) xs) seen) is in
    let shut : 0 ≡ 1 → ⊥ = λ e. omega (arith, e) in
    let cut : Images → Type 0 = LeadsOn (InArea area (TornCut 1)) (disk.may_leave mid) in
    let ended = weakened disk.moment disk.left_since mid c.trim.new.disk cut outcome
    (in_area_next area seen (disk.seen mid) (disk.may_leave mid) (TornCut 1) OldOrUnmade (0 ∷ rest) (c.in_ok-put.ensures.settled told) written (λ new step. inr (cut_closed 0 rest new shut step))) (c.trim.ensures.any_moment told) in
    followed disk.moment disk.left_since old mid c.trim.new.disk outcome begun ended
