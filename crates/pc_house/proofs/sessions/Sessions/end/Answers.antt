use Rattle.std.proofs.Common.{ℕ, List, Option, IsSome, refl, sym, ap, subst, ◌∙◌}
use Rattle.pc_session.specs.declared.access.Latest.{Latest}
use Rattle.pc_session.specs.Desk.{latest_without}
use Rattle.pc_house.specs.Sessions.{latest_in}
use Rattle.pc_house.proofs.Ended.{ended_at, none_ends}
use Rattle.pc_house.proofs.sessions.Sessions.end.Goals as goal

pub returns : goal.returns
returns c client =
    let found = c.in-Some.ensures.value in
    let written = (c.get_mut.follows.holds c.ended.result).3 (subst (λ (o : Option Latest). IsSome o) found refl) in
    written.0 client
    ∙ ended_at c.args.client.now c.args.number c.self.inside.table.entries client c.in-Some.session.now c.ended.result found c.ended.ensures
    ∙ ap (λ (sessions : List (List ℕ × Latest)). latest_without c.args.client.now c.args.number (latest_in sessions) client) c.self.view_is

pub returns-in_default : goal.returns-in_default
returns-in_default c client =
    ap (λ m. latest_in m.entries client) c.get_mut.follows.holds-at-none
    ∙ none_ends c.args.client.now c.args.number c.self.inside.table.entries client (sym c.in_default.ensures.value)
    ∙ ap (λ (sessions : List (List ℕ × Latest)). latest_without c.args.client.now c.args.number (latest_in sessions) client) c.self.view_is
