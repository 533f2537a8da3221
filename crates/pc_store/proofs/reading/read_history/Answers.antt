use Rattle.std.proofs.Common.{◌≡◌, ℕ, ◌+◌, ◌≤◌, List, length, Ok, Err, ap, subst, arith}
use Rattle.std.proofs.lemmas.Result.{err_from_is_err_and}
use Rattle.pc_disk.specs.Images.{area_of}
use Rattle.pc_log.specs.Area.{IsHead}
use Rattle.pc_log.specs.declared.found.Start.{Start}
use Rattle.pc_log.specs.declared.found.Start.TheVariants.{Made}
use Rattle.pc_log.specs.Opening.{BeginsWith, Starts, IfMade}
use Rattle.pc_log.specs.Reading.{OpeningState, behind_head}
use Rattle.pc_store.specs.Reading.{BaseFault, LoadsBase, EntriesAre}
use Rattle.pc_store.proofs.FoundLemmas.{base_refused, entries_in, entries_refused_in, history_held}
use Rattle.pc_log.specs.Logs.{LogState}
use Rattle.pc_store.proofs.DueLemmas.{due_before, if_device, if_log_device, more_taken}
use Rattle.pc_store.proofs.reading.read_history.Goals as goal

pub returns-in_err-state-clause-fault : goal.returns-in_err-state-clause-fault
returns-in_err-state-clause-fault g c told =
    let area = area_of c.args.area (g.D.Disk.seen c.args.disk.now) in
    let begun = subst (λ (s : Start). Starts (Ok s) c.KIND.result area) c.in-Made.is (c.in-Ok.ensures.exact told) in
    let starts = subst (λ (k : ℕ). Starts (Ok (Made c.in-Made.opening c.in-Made.generation c.in-Made.first c.in-Made.base)) k area) c.KIND.ensures begun in
    let bad = subst (λ (xs : List ℕ). BaseFault g.M.Machine c.args.area xs c.in-Made.first c.in_err-state.field-0.0) c.as_slice.ensures c.in_err-state.ensures.fault in
    let p = err_from_is_err_and c.from_residual.result c.from_residual.ensures.1 in
    rw (p.1, p.2) (base_refused g.M.Machine c.args.area area c.in-Made.generation c.in-Made.first c.in-Made.base c.in_err-state.field-0.0 starts.0 starts.1 bad)

pub returns-in_err-entries-clause-fault : goal.returns-in_err-entries-clause-fault
returns-in_err-entries-clause-fault g c told =
    let area = area_of c.args.area (g.D.Disk.seen c.args.disk.now) in
    let begun = subst (λ (s : Start). Starts (Ok s) c.KIND.result area) c.in-Made.is (c.in-Ok.ensures.exact told) in
    let starts = subst (λ (k : ℕ). Starts (Ok (Made c.in-Made.opening c.in-Made.generation c.in-Made.first c.in-Made.base)) k area) c.KIND.ensures begun in
    let state = subst (λ (s : Start). IfMade (Ok s) (λ opening generation first base. opening ≡ record { area = c.args.area; reached = behind_head base })) c.in-Made.is c.in-Ok.ensures.state in
    let loads = subst (λ (xs : List ℕ). LoadsBase g.M.Machine xs c.in-Made.first c.in_ok-state.state) c.as_slice.ensures c.in_ok-state.ensures.ok in
    let same = ap (area_of c.args.area) (c.in-Ok.ensures.untouched.still told).seen in
    let bad = subst (λ (a : List ℕ). EntriesAre g.M.Machine g.D.Disk.tells a c.in-Made.opening c.read_entries.new.opening c.in_ok-state.state c.read_entries.new.state c.in-Made.first (Err c.in_err-entries.field-0.0)) same c.in_err-entries.ensures.entries in
    let p = err_from_is_err_and c.from_residual-in_err-entries.result c.from_residual-in_err-entries.ensures.1 in
    rw (p.1, p.2) (entries_refused_in g.M.Machine g.D.Disk.tells c.args.area area c.in-Made.generation c.in-Made.first c.in-Made.base c.in-Made.opening c.read_entries.new.opening c.in_ok-state.state c.read_entries.new.state c.in_err-entries.field-0.0
    starts.0 starts.1 (ap (λ (o : OpeningState). o.area) state) (ap (λ (o : OpeningState). o.reached) state) loads bad told)

pub returns-clause-found : goal.returns-clause-found
returns-clause-found g c =
    let area = area_of c.args.area (g.D.Disk.seen c.args.disk.now) in
    let state = subst (λ (s : Start). IfMade (Ok s) (λ opening generation first base. opening ≡ record { area = c.args.area; reached = behind_head base })) c.in-Made.is c.in-Ok.ensures.state in
    let righted = subst (λ (s : Start). IfMade (Ok s) (λ opening generation first base. IsHead (record { kind = c.KIND.result; generation = generation; first = first; base = base }))) c.in-Made.is c.in-Ok.ensures.right in
    let right = subst (λ (k : ℕ). IsHead (record { kind = k; generation = c.in-Made.generation; first = c.in-Made.first; base = c.in-Made.base })) c.KIND.ensures righted in
    let begins = λ (told : g.D.Disk.tells).
    subst (λ (k : ℕ). BeginsWith (record { kind = k; generation = c.in-Made.generation; first = c.in-Made.first; base = c.in-Made.base }) area) c.KIND.ensures
    (subst (λ (s : Start). IfMade (Ok s) (λ opening generation first base. BeginsWith (record { kind = c.KIND.result; generation = generation; first = first; base = base }) area)) c.in-Made.is (c.in-Ok.ensures.found told)) in
    let loads = subst (λ (xs : List ℕ). LoadsBase g.M.Machine xs c.in-Made.first c.in_ok-state.state) c.as_slice.ensures c.in_ok-state.ensures.ok in
    let same = λ (told : g.D.Disk.tells). ap (area_of c.args.area) (c.in-Ok.ensures.untouched.still told).seen in
    let are = entries_in g.M.Machine g.D.Disk.tells area (area_of c.args.area (g.D.Disk.seen c.start.new.disk)) c.in-Made.opening c.read_entries.new.opening c.in_ok-state.state c.read_entries.new.state c.in-Made.first c.in_ok-entries.entries same c.in_ok-entries.ensures.entries in
    history_held g.M.Machine g.D.Disk.tells c.args.area area c.in-Made.generation c.in-Made.first c.in-Made.base c.in-Made.opening c.read_entries.new.opening c.in_ok-state.state c.read_entries.new.state c.in_ok-entries.entries c.into_log.result
    right begins state loads are c.into_log.ensures

pub returns-in-Err-clause-due : goal.returns-in-Err-clause-due
returns-in-Err-clause-due g c told =
    let old = c.args.disk.now in
    if_log_device Start c.args.area c.in-Err.fault c.in_area.result _ _ c.in_area.ensures (more_taken (g.D.Disk.due old) (g.D.Disk.moment old) (g.D.Disk.taken old) 1107296286 1073741854 (omega arith)) (c.in-Err.ensures.due told)

pub returns-in_err-entries-clause-due : goal.returns-in_err-entries-clause-due
returns-in_err-entries-clause-due g c told =
    let old = c.args.disk.now in
    let mid = c.start.new.disk in
    let taken = subst (λ (s : Start). IfMade (Ok s) (λ opening generation first base. g.D.Disk.taken mid ≤ g.D.Disk.taken old + 30 + length base)) c.in-Made.is c.in-Ok.ensures.taken in
    let short = subst (λ (s : Start). IfMade (Ok s) (λ opening generation first base. length base ≤ 1073741824)) c.in-Made.is c.in-Ok.ensures.base in
    let most : g.D.Disk.taken mid + 33554432 ≤ g.D.Disk.taken old + 1107296286 = omega (arith, taken, short) in
    let p = err_from_is_err_and c.from_residual-in_err-entries.result c.from_residual-in_err-entries.ensures.1 in
    rw (p.1, p.2) (if_device c.in_err-entries.field-0.0 _ _
    (due_before (g.D.Disk.due old) (g.D.Disk.due mid) (g.D.Disk.moment old) (g.D.Disk.moment mid) (g.D.Disk.taken old) (g.D.Disk.taken mid) 1107296286 33554432 c.in-Ok.ensures.untouched.same_moment (c.in-Ok.ensures.untouched.ahead told) most)
    (c.in_err-entries.ensures.due told))

pub returns-clause-taken : goal.returns-clause-taken
returns-clause-taken g c =
    let mid = c.start.new.disk in
    let taken = subst (λ (s : Start). IfMade (Ok s) (λ opening generation first base. g.D.Disk.taken mid ≤ g.D.Disk.taken c.args.disk.now + 30 + length base)) c.in-Made.is c.in-Ok.ensures.taken in
    let state = subst (λ (s : Start). IfMade (Ok s) (λ opening generation first base. opening ≡ record { area = c.args.area; reached = behind_head base })) c.in-Made.is c.in-Ok.ensures.state in
    let gate : c.in-Made.opening.reached.gate ≡ 30 + length c.in-Made.base = ap (λ (o : OpeningState). o.reached.gate) state in
    let at : c.into_log.result.gate ≡ c.read_entries.new.opening.reached.gate = ap (λ (l : LogState). l.gate) c.into_log.ensures in
    omega (arith, taken, gate, at, c.in_ok-entries.ensures.taken)
