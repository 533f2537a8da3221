use Rattle.std.proofs.Common.{ℕ, List, ap, ◌∙◌}
use Rattle.pc_session.specs.declared.access.Latest.{Latest}
use Rattle.pc_session.specs.Desk.{latest_with}
use Rattle.pc_house.specs.Sessions.{latest_in}
use Rattle.pc_house.proofs.sessions.Sessions.put.Goals as goal

pub returns-clause-ok : goal.returns-clause-ok
returns-clause-ok c client = c.in_ok-insert.ensures.updates.0 client ∙ ap (λ (sessions : List (List ℕ × Latest)). latest_with c.args.client c.args.session (latest_in sessions) client) c.self.view_is
