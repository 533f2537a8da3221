use Rattle.std.proofs.Common.{◌≡◌, ◌∙◌, ℕ, Result, Ok, sym, ap, subst}
use Rattle.pc_disk.specs.Images.{Images, area_of}
use Rattle.pc_log.specs.declared.fault.LogFault.{LogFault}
use Rattle.pc_log.specs.declared.found.Start.{Start}
use Rattle.pc_log.specs.Logs.{LogState}
use Rattle.pc_log.specs.Reading.{OpeningState, behind_head}
use Rattle.pc_log.specs.Opening.{BeginsWith, IfMade, ReadsAll, FindsMade}
use Rattle.pc_log.proofs.Finds.{finds_made}
use Rattle.pc_log.proofs.log.Log.read_log.Goals as goal

abbrev answer : Start → Result Start LogFault
answer start = Ok start

pub returns-clause-found : goal.returns-clause-found
returns-clause-found g c told =
    let seen = g.D.Disk.seen c.args.disk.now in
    let bytes = area_of c.args.area seen in
    let opening = c.in-Made.opening in
    let to = c.rest.new.self.reached in
    let items = c.in_ok-entries.entries.items in
    let state = subst (λ (s : Start). IfMade (answer s) (λ opening generation first base. opening ≡ record { area = c.args.area; reached = behind_head base })) c.in-Made.is c.in_ok-start.ensures.state in
    let begins = subst (λ (s : Start). IfMade (answer s) (λ opening generation first base. BeginsWith (record { kind = c.args.kind; generation = generation; first = first; base = base }) bytes)) c.in-Made.is (c.in_ok-start.ensures.found told) in
    let there = subst (λ (images : Images). ReadsAll (area_of opening.area images) opening.reached to items) (c.in_ok-start.ensures.untouched.still told).seen (c.in_ok-entries.ensures.found told) in
    let all = subst (λ (o : OpeningState). ReadsAll (area_of o.area seen) o.reached to items) state there in
    let made = finds_made c.args.area c.args.kind bytes c.in-Made.generation c.in-Made.first c.in-Made.base to items begins all in
    let area_is = c.rest.ensures.area ∙ ap (λ (o : OpeningState). o.area) state in
    let log_is = c.into_log.ensures ∙ ap (λ (a : ℕ). let log : LogState = record { area = a; gate = to.gate } in log) area_is in
    subst (λ (log : LogState). FindsMade c.args.area c.args.kind bytes log c.in-Made.generation c.in-Made.first c.in-Made.base items) (sym log_is) made
