use Rattle.std.proofs.Common.{ℕ, List, Ok, Err, refl, ap, subst, ◌∙◌}
use Rattle.std.proofs.lemmas.Result.{err_from_is_err_and}
use Rattle.pc_account_history.specs.History.{known}
use Rattle.pc_account.specs.Digest.{digest_of}
use Rattle.pc_account.specs.Plan.{planned}
use Rattle.pc_account.specs.declared.wish.Wish.TheVariants.{MakeMailbox, Password}
use Rattle.pc_house.specs.Desk.{DeskValue, told_by}
use Rattle.pc_house.specs.Enrolling.{Carries, set, unset}
use Rattle.pc_house.proofs.Enrolments.{both_enrolled}
use Rattle.pc_house.proofs.desk.Desk.enrol.Goals as goal

pub returns-in_err-carry_out-clause-enrols : goal.returns-in_err-carry_out-clause-enrols
returns-in_err-carry_out-clause-enrols g c =
    let before = told_by g.D.Disk.faults c.args.self.now in
    let fault = c.in_err-carry_out.field-0.0 in
    let p = err_from_is_err_and c.from_residual.result c.from_residual.ensures.1 in
    let digest = c.digest-digest.ensures ∙ ap (λ (d : DeskValue g.row.D.Denot). digest_of d.user c.args.password.now) c.self.view_is in
    rw (p.1, p.2) (unset fault refl (subst (λ (digest : List ℕ). Carries (planned (known before.history) (Password digest)) before (Err fault) (told_by g.D.Disk.faults c.carry_out.new.self)) digest c.in_err-carry_out.ensures.carries))

pub returns-clause-enrols : goal.returns-clause-enrols
returns-clause-enrols g c =
    let before = told_by g.D.Disk.faults c.args.self.now in
    let mid = told_by g.D.Disk.faults c.carry_out.new.self in
    let new = told_by g.D.Disk.faults c.carry_out-2.new.self in
    let digest = c.digest-digest.ensures ∙ ap (λ (d : DeskValue g.row.D.Denot). digest_of d.user c.args.password.now) c.self.view_is in
    let first = subst (λ (digest : List ℕ). Carries (planned (known before.history) (Password digest)) before (Ok tt) mid) digest c.in_ok-carry_out.ensures.carries in
    let second = subst (λ (mailbox : List ℕ). Carries (planned (known mid.history) (MakeMailbox mailbox)) mid c.carry_out-2.result new) c.inbox-mailbox.ensures c.carry_out-2.ensures.carries in
    set mid first second

pub returns-clause-there : goal.returns-clause-there
returns-clause-there g c =
    let before = told_by g.D.Disk.faults c.args.self.now in
    let mid = told_by g.D.Disk.faults c.carry_out.new.self in
    let new = told_by g.D.Disk.faults c.carry_out-2.new.self in
    let digest = c.digest-digest.ensures ∙ ap (λ (d : DeskValue g.row.D.Denot). digest_of d.user c.args.password.now) c.self.view_is in
    let first = subst (λ (digest : List ℕ). Carries (planned (known before.history) (Password digest)) before (Ok tt) mid) digest c.in_ok-carry_out.ensures.carries in
    let second = subst (λ (mailbox : List ℕ). Carries (planned (known mid.history) (MakeMailbox mailbox)) mid c.carry_out-2.result new) c.inbox-mailbox.ensures c.carry_out-2.ensures.carries in
    both_enrolled c.args.self.now.user c.args.password.now before mid new c.carry_out-2.result first second
