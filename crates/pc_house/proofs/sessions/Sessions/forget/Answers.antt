use Rattle.std.proofs.Common.{ℕ, List, Option, Some, sym, ap, ◌∙◌}
use Rattle.pc_session.specs.declared.access.Latest.{Latest}
use Rattle.pc_house.specs.Sessions.{latest_but, latest_in}
use Rattle.pc_house.proofs.sessions.Sessions.forget.Goals as goal

pub returns-in-Some : goal.returns-in-Some
returns-in-Some c client =
    c.shift_remove.ensures.updates.0 client
    ∙ ap (λ (sessions : List (List ℕ × Latest)). latest_but (Some c.in-Some.client) (latest_in sessions) client) c.self.view_is
    ∙ ap (λ (dropped : Option (List ℕ)). latest_but dropped (latest_in c.args.self.now) client) (sym c.in-Some.is)
