use Rattle.std.proofs.Common.{◌∙◌, ℕ, List, [], ◌∷◌, length, ap, inl}
use Rattle.pc_disk.specs.Images.{Images, with_area, overwritten, Torn, InArea}
use Rattle.pc_disk.specs.StepFaults.{LeadsOn}
use Rattle.pc_disk.proofs.Runs.{weakened, followed}
use Rattle.pc_log.specs.Making.{UnmadeOrNew}
use Rattle.pc_log.proofs.Makings.{in_area, in_area_next, written_closed, behind_closed, gate_opens}
use Rattle.pc_log.proofs.create.fill.Goals as goal

pub returns-in_err-put-2-clause-any_moment : goal.returns-in_err-put-2-clause-any_moment
returns-in_err-put-2-clause-any_moment g c told =
    let disk = g.D.Disk in
    let area = c.args.area in
    let bytes = c.args.bytes.now in
    let old = c.args.disk.now in
    let mid = c.put.new.disk in
    let seen = disk.seen old in
    let cleared = c.requires.cleared told in
    let outcome : Images → Type 0 = InArea area (UnmadeOrNew bytes) seen in
    let torn : Images → Type 0 = LeadsOn (InArea area (Torn 1 (length bytes))) (disk.may_leave old) in
    let begun = weakened disk.moment disk.left_since old mid torn outcome
    (in_area area seen (disk.may_leave old) (Torn 1 (length bytes)) (UnmadeOrNew bytes) (cleared.0 ∷ []) (c.requires.settled told) cleared.2 (λ new step. inl (written_closed cleared.0 (length bytes) new cleared.1 step))) (c.put.ensures.any_moment told) in
    let written = c.in_ok-put.ensures.written told ∙ ap (λ (xs : List ℕ). with_area area (overwritten 1 bytes xs) seen) cleared.2 ∙ ap (λ (xs : List ℕ). with_area area xs seen) (behind_closed cleared.0 bytes) in
    let gated : Images → Type 0 = LeadsOn (InArea area (Torn 0 1)) (disk.may_leave mid) in
    let ended = weakened disk.moment disk.left_since mid c.put-2.new.disk gated outcome
    (in_area_next area seen (disk.seen mid) (disk.may_leave mid) (Torn 0 1) (UnmadeOrNew bytes) (cleared.0 ∷ bytes) (c.in_ok-put.ensures.settled told) written (λ new step. gate_opens cleared.0 bytes new step)) (c.put-2.ensures.any_moment told) in
    followed disk.moment disk.left_since old mid c.put-2.new.disk outcome begun ended

pub returns-clause-any_moment : goal.returns-clause-any_moment
returns-clause-any_moment g c told =
    let disk = g.D.Disk in
    let area = c.args.area in
    let bytes = c.args.bytes.now in
    let old = c.args.disk.now in
    let mid = c.put.new.disk in
    let seen = disk.seen old in
    let cleared = c.requires.cleared told in
    let outcome : Images → Type 0 = InArea area (UnmadeOrNew bytes) seen in
    let torn : Images → Type 0 = LeadsOn (InArea area (Torn 1 (length bytes))) (disk.may_leave old) in
    let begun = weakened disk.moment disk.left_since old mid torn outcome
    (in_area area seen (disk.may_leave old) (Torn 1 (length bytes)) (UnmadeOrNew bytes) (cleared.0 ∷ []) (c.requires.settled told) cleared.2 (λ new step. inl (written_closed cleared.0 (length bytes) new cleared.1 step))) (c.put.ensures.any_moment told) in
    let written = c.in_ok-put.ensures.written told ∙ ap (λ (xs : List ℕ). with_area area (overwritten 1 bytes xs) seen) cleared.2 ∙ ap (λ (xs : List ℕ). with_area area xs seen) (behind_closed cleared.0 bytes) in
    let gated : Images → Type 0 = LeadsOn (InArea area (Torn 0 1)) (disk.may_leave mid) in
    let ended = weakened disk.moment disk.left_since mid c.put-2.new.disk gated outcome
    (in_area_next area seen (disk.seen mid) (disk.may_leave mid) (Torn 0 1) (UnmadeOrNew bytes) (cleared.0 ∷ bytes) (c.in_ok-put.ensures.settled told) written (λ new step. gate_opens cleared.0 bytes new step)) (c.put-2.ensures.any_moment told) in
    followed disk.moment disk.left_since old mid c.put-2.new.disk outcome begun ended
