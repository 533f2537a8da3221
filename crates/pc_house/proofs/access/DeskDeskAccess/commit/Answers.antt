use Rattle.std.proofs.Common.{ℕ, ◌-◌, List, Option, Ok, Err, ap, subst, ◌∙◌}
use Rattle.std.proofs.lemmas.Result.{err_from_is_err_and}
use Rattle.pc_account_records.specs.Legal.{accepts}
use Rattle.pc_session.specs.Desk.{Are}
use Rattle.pc_house.specs.Desk.{DeskValue}
use Rattle.pc_house.specs.Sessions.{latest_but, latest_in}
use Rattle.pc_house.proofs.Standing.{committed_desk}
use Rattle.pc_house.proofs.Commits.{desk_commits, desk_fails}
use Rattle.pc_house.proofs.access.DeskDeskAccess.commit.Goals as goal

pub invariant_of-self : goal.invariant_of-self
invariant_of-self g c =
    let inside = c.self.inside in
    let whole = ap (λ (d : DeskValue g.row.D.Denot). d.store.broken) c.self.view_is ∙ c.requires.whole in
    let accepted = ap (λ (d : DeskValue g.row.D.Denot). accepts d.store.state c.args.entry) c.self.view_is ∙ c.requires.accepted in
    committed_desk inside.user inside.store c.commit.new.self inside.base _ inside.drawn inside.sessions inside.sessions c.args.entry (Err c.in_err-number.field-0.0) c.self.invariant whole accepted c.in_err-number.ensures.leaves

pub invariant_of-self-2 : goal.invariant_of-self-2
invariant_of-self-2 g c =
    let inside = c.self.inside in
    let whole = ap (λ (d : DeskValue g.row.D.Denot). d.store.broken) c.self.view_is ∙ c.requires.whole in
    let accepted = ap (λ (d : DeskValue g.row.D.Denot). accepts d.store.state c.args.entry) c.self.view_is ∙ c.requires.accepted in
    committed_desk inside.user inside.store c.commit.new.self inside.base _ inside.drawn inside.sessions c.forget.new.self c.args.entry (Ok c.in_ok-number.number) c.self.invariant whole accepted c.in_ok-number.ensures.leaves

pub returns-in_err-number-clause-commits : goal.returns-in_err-number-clause-commits
returns-in_err-number-clause-commits g c =
    let inside = c.self.inside in
    let whole = ap (λ (d : DeskValue g.row.D.Denot). d.store.broken) c.self.view_is ∙ c.requires.whole in
    let failed = c.in_err-number.ensures in
    let calls = g.D.Disk.moment c.commit.new.self.disk - g.D.Disk.moment inside.store.disk in
    let p = err_from_is_err_and c.from_residual.result c.from_residual.ensures.1 in
    rw (p.1, p.2) (desk_fails g.D.Disk.faults inside.user inside.store c.commit.new.self inside.base _ inside.drawn inside.sessions inside.sessions c.args.entry c.args.self.now c.self.view_is c.in_err-number.field-0.0 c.self.invariant whole failed.leaves failed.full calls failed.doubt failed.cause)

pub returns-clause-commits : goal.returns-clause-commits
returns-clause-commits g c =
    let inside = c.self.inside in
    let whole = ap (λ (d : DeskValue g.row.D.Denot). d.store.broken) c.self.view_is ∙ c.requires.whole in
    let are = subst (λ (o : Option (List ℕ)). Are (latest_in c.forget.new.self) (latest_but o (latest_in inside.sessions))) c.client_dropped-dropped.ensures c.forget.ensures in
    rw (← c.self.view_is) (desk_commits g.D.Disk.faults inside.user inside.store c.commit.new.self inside.base _ inside.drawn inside.sessions c.forget.new.self c.args.entry c.in_ok-number.number are whole c.in_ok-number.ensures.leaves c.in_ok-number.ensures.full)
