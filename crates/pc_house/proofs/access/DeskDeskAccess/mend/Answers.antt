use Rattle.std.proofs.Common.{◌≡◌, ℕ, nat_lt, List, length, Option, subst, ◌∙◌}
use Rattle.std.specs.Option.{option_and_then}
use Rattle.std.proofs.lemmas.Result.{err_from_is_err_and}
use Rattle.pc_session.specs.Desk.{Are}
use Rattle.pc_house.specs.Sessions.{latest_but, latest_in, dropped_by, dropped_if}
use Rattle.pc_house.proofs.Standing.{replay_saved, shut_desk, opened_desk}
use Rattle.pc_house.proofs.Opens.{desk_opens, desk_stays_shut}
use Rattle.pc_house.proofs.access.DeskDeskAccess.mend.Goals as goal

pub invariant_of-self : goal.invariant_of-self
invariant_of-self g c =
    let inside = c.self.inside in
    shut_desk inside.user inside.store c.reopen.new.self inside.base _ inside.drawn inside.sessions inside.sessions c.self.invariant c.in_err-reopen.ensures.err

pub returns-in_err-reopen-clause-opens : goal.returns-in_err-reopen-clause-opens
returns-in_err-reopen-clause-opens g c =
    let inside = c.self.inside in
    let failed = c.in_err-reopen.ensures in
    let p = err_from_is_err_and c.from_residual.result c.from_residual.ensures.1 in
    rw (p.1, p.2) (desk_stays_shut g.D.Disk.faults g.D.Disk.tells inside.user inside.store c.reopen.new.self inside.base _ inside.drawn inside.sessions inside.sessions c.args.self.now c.self.view_is c.in_err-reopen.field-0.0 failed.err failed.outside failed.cause)

pub invariant_of-self-inside-2 : goal.invariant_of-self-inside-2
invariant_of-self-inside-2 g c =
    let replay = c.in_ok-reopen.ensures.replay in
    (record { base = replay.history.base.held; is_saved = ∣ replay_saved c.reopen.new.self replay ∣₁ }, tt)

pub invariant_of-self-2 : goal.invariant_of-self-2
invariant_of-self-2 g c =
    let inside = c.self.inside in
    opened_desk inside.user inside.store c.reopen.new.self inside.base _ inside.drawn inside.sessions c.forget.new.self c.self.invariant c.in_ok-reopen.ensures.replay (c.in_ok-reopen.ensures.mended.1, c.in_ok-reopen.ensures.mended.2)

pub returns-clause-opens : goal.returns-clause-opens
returns-clause-opens g c =
    let inside = c.self.inside in
    let gone : c.only_if_longer-gone.result ≡ dropped_if (nat_lt (length inside.store.trail) (length c.reopen.new.self.trail)) (option_and_then dropped_by inside.store.doubt) =
    c.only_if_longer-gone.ensures ∙ (λ i. dropped_if (nat_lt (length (c.trail-count.ensures i)) (length c.reopen.new.self.trail)) (c.dropped_in_doubt-dropped.ensures i)) in
    let are = subst (λ (o : Option (List ℕ)). Are (latest_in c.forget.new.self) (latest_but o (latest_in inside.sessions))) gone c.forget.ensures in
    desk_opens g.D.Disk.faults g.D.Disk.tells inside.user inside.store c.reopen.new.self inside.base _ inside.drawn inside.sessions c.forget.new.self c.args.self.now c.self.view_is c.self.invariant.kept.no_renewal c.in_ok-reopen.ensures.same c.in_ok-reopen.ensures.mended are
