use Rattle.std.proofs.Common.{◌≡◌, ◌∙◌, ℕ, ◌+◌, ◌-◌, ◌<◌, ◌≤◌, true, List, [], Some, rules, refl, sym, ap, subst, arith}
use Rattle.pc_disk.specs.Outcomes.{LeavesOnly}
use Rattle.pc_log.specs.Area.{Head}
use Rattle.pc_log.specs.Logs.{LogState}
use Rattle.pc_log.specs.Untouched.{Untouched}
use Rattle.pc_store.specs.History.{IsReplay}
use Rattle.pc_store.specs.Store.{IsSound, StoreState}
use Rattle.pc_store.specs.Fold.{OpensOldOrNew, next_head}
use Rattle.pc_store.proofs.SameLemmas.{Lawful}
use Rattle.pc_store.proofs.OpenedLemmas.{replayed}
use Rattle.pc_store.proofs.CommitLemmas.{sound_broken, sound_rested}
use Rattle.pc_store.proofs.FoldLemmas.{may_renew, renew_leaves, renew_run, renewed_acknowledged, renewed_opens, same_head, sound_renewed}
use Rattle.pc_store.proofs.store.Store.renew.Goals as goal

pub invariant_of-self : goal.invariant_of-self
invariant_of-self g c =
    let machine = g.M.Machine in
    let disk = g.D.Disk in
    let inside = c.self.inside in
    let old : StoreState g.row.M.Denot g.row.D.Denot g.row.M-Entry.Denot = record { disk = inside.disk; area = inside.log.area; head = record { kind = machine.KIND; generation = inside.generation; first = inside.first; base = inside.base }; trail = inside.trail.items; state = inside.state; broken = inside.is_broken; doubt = inside.doubt; renewal = inside.renewal } in
    let sound = c.self.invariant in
    let view = c.self.view_is in
    let known = may_renew machine disk.tells disk.seen disk.may_leave old c.args.self.now inside.log inside.bytes c.args.first c.args.base sound view c.requires.whole (omega (arith, sound.right.generation)) c.requires.number c.requires.size c.requires.history in
    let new = c.create-made.new.disk in
    let head = next_head machine old c.args.first c.args.base in
    let given : Head = record { kind = c.KIND-kind.result; generation = inside.generation + 1; first = c.args.first; base = c.as_slice.result.now } in
    let same = same_head c.KIND-kind.result machine.KIND (inside.generation + 1) c.args.first c.as_slice.result.now c.args.base c.KIND-kind.ensures c.as_slice.ensures in
    let other : 1 - c.area-area.result ≡ 1 - old.area = ap (λ (a : ℕ). 1 - a) c.area-area.ensures.area in
    let in_doubt = same_head c.KIND-kind.result machine.KIND (inside.generation + 1) c.args.first c.args.base c.args.base c.KIND-kind.ensures refl in
    let broken = sound_broken machine disk.tells disk.seen disk.may_leave old inside.log inside.log inside.bytes new inside.trail.items inside.state inside.doubt (Some head) sound refl refl
    (λ told left may.
    let run = renew_run machine disk.tells disk.seen disk.may_leave disk.moment disk.left_since old inside.log inside.bytes new (1 - c.area-area.result) given head inside.state sound known.whole told other same known.may (c.create-made.ensures.any_moment told (sound.settled told known.whole)) in
    renew_leaves machine old head left (run.each left (g.met.D.Disk.counts_now told new (disk.moment inside.disk) left run.later may))) in
    subst (λ (h : Head). IsSound machine disk.tells disk.seen disk.may_leave (record old { disk = new; broken = true; renewal = Some h }) inside.log inside.bytes) (sym in_doubt) broken

pub returns-in-Err-Device-clause-any_moment : goal.returns-in-Err-Device-clause-any_moment
returns-in-Err-Device-clause-any_moment g c told =
    let machine = g.M.Machine in
    let disk = g.D.Disk in
    let inside = c.self.inside in
    let old : StoreState g.row.M.Denot g.row.D.Denot g.row.M-Entry.Denot = record { disk = inside.disk; area = inside.log.area; head = record { kind = machine.KIND; generation = inside.generation; first = inside.first; base = inside.base }; trail = inside.trail.items; state = inside.state; broken = inside.is_broken; doubt = inside.doubt; renewal = inside.renewal } in
    let sound = c.self.invariant in
    let view = c.self.view_is in
    let known = may_renew machine disk.tells disk.seen disk.may_leave old c.args.self.now inside.log inside.bytes c.args.first c.args.base sound view c.requires.whole (omega (arith, sound.right.generation)) c.requires.number c.requires.size c.requires.history in
    let new = c.create-made.new.disk in
    let head = next_head machine old c.args.first c.args.base in
    let given : Head = record { kind = c.KIND-kind.result; generation = inside.generation + 1; first = c.args.first; base = c.as_slice.result.now } in
    let same = same_head c.KIND-kind.result machine.KIND (inside.generation + 1) c.args.first c.as_slice.result.now c.args.base c.KIND-kind.ensures c.as_slice.ensures in
    let other : 1 - c.area-area.result ≡ 1 - old.area = ap (λ (a : ℕ). 1 - a) c.area-area.ensures.area in
    let run = renew_run machine disk.tells disk.seen disk.may_leave disk.moment disk.left_since old inside.log inside.bytes new (1 - c.area-area.result) given head inside.state sound known.whole told other same known.may (c.create-made.ensures.any_moment told (sound.settled told known.whole)) in
    subst (λ (s : StoreState g.row.M.Denot g.row.D.Denot g.row.M-Entry.Denot). LeavesOnly disk.moment disk.left_since s.disk new (OpensOldOrNew machine s (next_head machine s c.args.first c.args.base))) view run

pub returns-clause-any_moment : goal.returns-clause-any_moment
returns-clause-any_moment g c told =
    let machine = g.M.Machine in
    let disk = g.D.Disk in
    let inside = c.self.inside in
    let old : StoreState g.row.M.Denot g.row.D.Denot g.row.M-Entry.Denot = record { disk = inside.disk; area = inside.log.area; head = record { kind = machine.KIND; generation = inside.generation; first = inside.first; base = inside.base }; trail = inside.trail.items; state = inside.state; broken = inside.is_broken; doubt = inside.doubt; renewal = inside.renewal } in
    let sound = c.self.invariant in
    let view = c.self.view_is in
    let known = may_renew machine disk.tells disk.seen disk.may_leave old c.args.self.now inside.log inside.bytes c.args.first c.args.base sound view c.requires.whole (omega (arith, sound.right.generation)) c.requires.number c.requires.size c.requires.history in
    let new = c.create-made.new.disk in
    let head = next_head machine old c.args.first c.args.base in
    let given : Head = record { kind = c.KIND-kind.result; generation = inside.generation + 1; first = c.args.first; base = c.as_slice.result.now } in
    let same = same_head c.KIND-kind.result machine.KIND (inside.generation + 1) c.args.first c.as_slice.result.now c.args.base c.KIND-kind.ensures c.as_slice.ensures in
    let other : 1 - c.area-area.result ≡ 1 - old.area = ap (λ (a : ℕ). 1 - a) c.area-area.ensures.area in
    let run = renew_run machine disk.tells disk.seen disk.may_leave disk.moment disk.left_since old inside.log inside.bytes new (1 - c.area-area.result) given head inside.state sound known.whole told other same known.may (c.create-made.ensures.any_moment told (sound.settled told known.whole)) in
    subst (λ (s : StoreState g.row.M.Denot g.row.D.Denot g.row.M-Entry.Denot). LeavesOnly disk.moment disk.left_since s.disk new (OpensOldOrNew machine s (next_head machine s c.args.first c.args.base))) view run

pub returns-in-Err-Memory-clause-any_moment : goal.returns-in-Err-Memory-clause-any_moment
returns-in-Err-Memory-clause-any_moment g c told =
    let machine = g.M.Machine in
    let disk = g.D.Disk in
    let inside = c.self.inside in
    let old : StoreState g.row.M.Denot g.row.D.Denot g.row.M-Entry.Denot = record { disk = inside.disk; area = inside.log.area; head = record { kind = machine.KIND; generation = inside.generation; first = inside.first; base = inside.base }; trail = inside.trail.items; state = inside.state; broken = inside.is_broken; doubt = inside.doubt; renewal = inside.renewal } in
    let sound = c.self.invariant in
    let view = c.self.view_is in
    let known = may_renew machine disk.tells disk.seen disk.may_leave old c.args.self.now inside.log inside.bytes c.args.first c.args.base sound view c.requires.whole (omega (arith, sound.right.generation)) c.requires.number c.requires.size c.requires.history in
    let new = c.create-made.new.disk in
    let head = next_head machine old c.args.first c.args.base in
    let given : Head = record { kind = c.KIND-kind.result; generation = inside.generation + 1; first = c.args.first; base = c.as_slice.result.now } in
    let same = same_head c.KIND-kind.result machine.KIND (inside.generation + 1) c.args.first c.as_slice.result.now c.args.base c.KIND-kind.ensures c.as_slice.ensures in
    let other : 1 - c.area-area.result ≡ 1 - old.area = ap (λ (a : ℕ). 1 - a) c.area-area.ensures.area in
    let run = renew_run machine disk.tells disk.seen disk.may_leave disk.moment disk.left_since old inside.log inside.bytes new (1 - c.area-area.result) given head inside.state sound known.whole told other same known.may (c.create-made.ensures.any_moment told (sound.settled told known.whole)) in
    subst (λ (s : StoreState g.row.M.Denot g.row.D.Denot g.row.M-Entry.Denot). LeavesOnly disk.moment disk.left_since s.disk new (OpensOldOrNew machine s (next_head machine s c.args.first c.args.base))) view run

pub invariant_of-self-2 : goal.invariant_of-self-2
invariant_of-self-2 g c =
    let machine = g.M.Machine in
    let disk = g.D.Disk in
    let inside = c.self.inside in
    let old : StoreState g.row.M.Denot g.row.D.Denot g.row.M-Entry.Denot = record { disk = inside.disk; area = inside.log.area; head = record { kind = machine.KIND; generation = inside.generation; first = inside.first; base = inside.base }; trail = inside.trail.items; state = inside.state; broken = inside.is_broken; doubt = inside.doubt; renewal = inside.renewal } in
    let sound = c.self.invariant in
    let view = c.self.view_is in
    let known = may_renew machine disk.tells disk.seen disk.may_leave old c.args.self.now inside.log inside.bytes c.args.first c.args.base sound view c.requires.whole (omega (arith, sound.right.generation)) c.requires.number c.requires.size c.requires.history in
    let new = c.create-made.new.disk in
    let head = next_head machine old c.args.first c.args.base in
    let given : Head = record { kind = c.KIND-kind.result; generation = inside.generation + 1; first = c.args.first; base = c.as_slice.result.now } in
    let same = same_head c.KIND-kind.result machine.KIND (inside.generation + 1) c.args.first c.as_slice.result.now c.args.base c.KIND-kind.ensures c.as_slice.ensures in
    let other : 1 - c.area-area.result ≡ 1 - old.area = ap (λ (a : ℕ). 1 - a) c.area-area.ensures.area in
    let opens = λ (told : disk.tells). renewed_opens machine disk.tells disk.seen disk.may_leave old inside.log inside.bytes new (1 - c.area-area.result) given head inside.state sound known.whole other same known.may told (c.in-Ok.ensures.made told) in
    sound_renewed machine disk.tells disk.seen disk.may_leave old inside.log c.in-Ok.log inside.bytes new given head c.new.result.items sound (ap (λ (l : LogState). l.area) c.in-Ok.ensures.log ∙ other) same c.new.ensures.items known.may known.whole c.in-Ok.ensures.stands c.in-Ok.ensures.settled opens

pub returns-clause-acknowledged : goal.returns-clause-acknowledged
returns-clause-acknowledged g c told =
    let machine = g.M.Machine in
    let disk = g.D.Disk in
    let inside = c.self.inside in
    let old : StoreState g.row.M.Denot g.row.D.Denot g.row.M-Entry.Denot = record { disk = inside.disk; area = inside.log.area; head = record { kind = machine.KIND; generation = inside.generation; first = inside.first; base = inside.base }; trail = inside.trail.items; state = inside.state; broken = inside.is_broken; doubt = inside.doubt; renewal = inside.renewal } in
    let sound = c.self.invariant in
    let view = c.self.view_is in
    let known = may_renew machine disk.tells disk.seen disk.may_leave old c.args.self.now inside.log inside.bytes c.args.first c.args.base sound view c.requires.whole (omega (arith, sound.right.generation)) c.requires.number c.requires.size c.requires.history in
    let new = c.create-made.new.disk in
    let head = next_head machine old c.args.first c.args.base in
    let given : Head = record { kind = c.KIND-kind.result; generation = inside.generation + 1; first = c.args.first; base = c.as_slice.result.now } in
    let same = same_head c.KIND-kind.result machine.KIND (inside.generation + 1) c.args.first c.as_slice.result.now c.args.base c.KIND-kind.ensures c.as_slice.ensures in
    let other : 1 - c.area-area.result ≡ 1 - old.area = ap (λ (a : ℕ). 1 - a) c.area-area.ensures.area in
    let opens = λ (told : disk.tells). renewed_opens machine disk.tells disk.seen disk.may_leave old inside.log inside.bytes new (1 - c.area-area.result) given head inside.state sound known.whole other same known.may told (c.in-Ok.ensures.made told) in
    renewed_acknowledged machine disk.seen disk.may_leave old new head c.new.result.items c.in-Ok.log.area (ap (λ (l : LogState). l.area) c.in-Ok.ensures.log ∙ other) c.new.ensures.items (c.in-Ok.ensures.settled told) (opens told)

pub invariant_of-self-in-Err-Memory : goal.invariant_of-self-in-Err-Memory
invariant_of-self-in-Err-Memory g c =
    let machine = g.M.Machine in
    let disk = g.D.Disk in
    let inside = c.self.inside in
    let old : StoreState g.row.M.Denot g.row.D.Denot g.row.M-Entry.Denot = record { disk = inside.disk; area = inside.log.area; head = record { kind = machine.KIND; generation = inside.generation; first = inside.first; base = inside.base }; trail = inside.trail.items; state = inside.state; broken = inside.is_broken; doubt = inside.doubt; renewal = inside.renewal } in
    let new = c.create-made.new.disk in
    let untouched : Untouched disk inside.disk new = search rules in
    sound_rested machine disk.tells disk.seen disk.may_leave old inside.log inside.bytes new inside.trail.items _ _ c.self.invariant refl untouched.still

pub returns-clause-replay : goal.returns-clause-replay
returns-clause-replay g c =
    let machine = g.M.Machine in
    let disk = g.D.Disk in
    let inside = c.self.inside in
    let old : StoreState g.row.M.Denot g.row.D.Denot g.row.M-Entry.Denot = record { disk = inside.disk; area = inside.log.area; head = record { kind = machine.KIND; generation = inside.generation; first = inside.first; base = inside.base }; trail = inside.trail.items; state = inside.state; broken = inside.is_broken; doubt = inside.doubt; renewal = inside.renewal } in
    let sound = c.self.invariant in
    let view = c.self.view_is in
    let known = may_renew machine disk.tells disk.seen disk.may_leave old c.args.self.now inside.log inside.bytes c.args.first c.args.base sound view c.requires.whole (omega (arith, sound.right.generation)) c.requires.number c.requires.size c.requires.history in
    let new = c.create-made.new.disk in
    let head = next_head machine old c.args.first c.args.base in
    let given : Head = record { kind = c.KIND-kind.result; generation = inside.generation + 1; first = c.args.first; base = c.as_slice.result.now } in
    let same = same_head c.KIND-kind.result machine.KIND (inside.generation + 1) c.args.first c.as_slice.result.now c.args.base c.KIND-kind.ensures c.as_slice.ensures in
    let other : 1 - c.area-area.result ≡ 1 - old.area = ap (λ (a : ℕ). 1 - a) c.area-area.ensures.area in
    let laws = g.met.M.Machine in
    let lawful : Lawful machine = record { fits = laws.allowed_fits; one = laws.one_entry; keeps = laws.step_is_legal; counts = laws.step_next; begins = laws.numbered_is_legal; numbered = laws.numbered_next; saved = laws.numbered_saved; entry_is_read = laws.entry_is_read; one_entry_fault = laws.one_entry_fault; one_record_fault = laws.one_record_fault; record_is_read = laws.record_is_read; one_record = laws.one_record } in
    subst (λ (es : List g.row.M-Entry.Denot). IsReplay machine head es inside.state) (sym c.new.ensures.items) (replayed machine lawful head [] inside.state inside.state refl known.may.history)
