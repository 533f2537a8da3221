use Rattle.std.proofs.Common.{◌≡◌, ℕ, ◌+◌, ◌<◌, ◌≤◌, ◌++◌, false, List, [], length, refl, sym, ap, ◌∙◌, subst, arith, inl}
use Rattle.std.proofs.lemmas.Result.{err_from_is_err_and}
use Rattle.pc_disk.specs.Images.{Images, area_of, other_of, with_area}
use Rattle.pc_disk.specs.Outcomes.{SameDue}
use Rattle.pc_log.specs.Area.{Spelled, fresh, is_made}
use Rattle.pc_log.specs.Making.{clear_calls}
use Rattle.pc_log.specs.Logs.{LogState}
use Rattle.pc_store.specs.declared.reading.History.{History}
use Rattle.pc_store.specs.Current.{IsOlder}
use Rattle.pc_store.proofs.MadeLemmas.{numbered_from, made_holds}
use Rattle.pc_store.proofs.DueLemmas.{same_due_again}
use Rattle.pc_store.proofs.MakingLemmas.{making_due, none_more, sync_calls, sync_due}
use Rattle.pc_store.proofs.making.make.Goals as goal

pub returns-clause-holds : goal.returns-clause-holds
returns-clause-holds g c =
    let machine = g.M.Machine in
    let laws = g.met.M.Machine in
    let suits = laws.begin_suits 1 (omega arith) in
    let state = numbered_from machine c.in_ok-state.state c.number_from.new.self c.in_ok-state.ensures c.number_from.ensures.state suits in
    let legal = laws.numbered_is_legal machine.begin 1 laws.begin_is_canonical suits in
    let saved = laws.numbered_saved machine.begin 1 in
    let short : length (machine.saved machine.begin) ≤ 1073741824 = omega (arith, laws.record_size (machine.numbered machine.begin 1) legal, ap length saved) in
    let base : c.save.new.out ≡ machine.saved machine.begin = c.in_ok-save.ensures ∙ ap (λ (xs : List ℕ). xs ++ machine.saved c.number_from.new.self) c.new-base.ensures ∙ ap machine.saved state ∙ saved in
    let zeroth : c.in-Ok.log.area ≡ 0 = ap (λ (l : LogState). l.area) c.in-Ok.ensures.log in
    let gate : c.in-Ok.log.gate ≡ 30 + length c.save.new.out = ap (λ (l : LogState). l.gate) c.in-Ok.ensures.log ∙ ap (λ (xs : List ℕ). 30 + length xs) c.as_slice.ensures in
    let now = g.D.Disk.seen c.create-made.new.disk in
    let history : History g.row.M.Denot g.row.M-Entry.Denot = record { log = c.in-Ok.log; generation = 1; first = 1; base = c.save.new.out; trail = c.new.result; bytes = 0; state = c.number_from.new.self } in
    let spelled = λ (told : g.D.Disk.tells).
    let made = (c.in-Ok.ensures.stands told).reads.spelled in
    let two = subst (λ (k : ℕ). Spelled (record { kind = k; generation = 1; first = 1; base = c.as_slice.result.now }) [] (area_of c.in-Ok.log.area now)) c.KIND.ensures made in
    subst (λ (xs : List ℕ). Spelled (record { kind = machine.KIND; generation = 1; first = 1; base = xs }) [] (area_of c.in-Ok.log.area now)) c.as_slice.ensures two in
    let unmade = λ (told : g.D.Disk.tells).
    let there = ap (λ (i : Images). other_of 0 i) (c.in-Ok.ensures.made told) ∙ ap (λ (i : Images). other_of 0 i) (c.settle.ensures.seen told) in
    let not : is_made (other_of 0 now) ≡ false = ap is_made there ∙ (c.requires told).1 in
    subst (λ (k : ℕ). IsOlder machine.KIND 1 (other_of k now)) (sym zeroth) (inl not) in
    record {
      holds = record {
        within = omega (arith, zeroth);
        holds = made_holds machine g.D.Disk.tells (area_of c.in-Ok.log.area now) history laws.kinds laws.begin_is_canonical suits short refl refl base c.new.ensures.items refl state gate spelled;
        older = unmade;
      };
      settled = c.in-Ok.ensures.settled;
    }

pub returns-clause-seen : goal.returns-clause-seen
returns-clause-seen g c told =
    let machine = g.M.Machine in
    let laws = g.met.M.Machine in
    let suits = laws.begin_suits 1 (omega arith) in
    let state = numbered_from machine c.in_ok-state.state c.number_from.new.self c.in_ok-state.ensures c.number_from.ensures.state suits in
    let base : c.save.new.out ≡ machine.saved machine.begin = c.in_ok-save.ensures ∙ ap (λ (xs : List ℕ). xs ++ machine.saved c.number_from.new.self) c.new-base.ensures ∙ ap machine.saved state ∙ laws.numbered_saved machine.begin 1 in
    c.in-Ok.ensures.made told
    ∙ ap (λ (k : ℕ). with_area 0 (fresh (record { kind = k; generation = 1; first = 1; base = c.as_slice.result.now })) (g.D.Disk.seen c.settle.new.disk)) c.KIND.ensures
    ∙ ap (λ (xs : List ℕ). with_area 0 (fresh (record { kind = machine.KIND; generation = 1; first = 1; base = xs })) (g.D.Disk.seen c.settle.new.disk)) (c.as_slice.ensures ∙ base)
    ∙ ap (λ (i : Images). with_area 0 (fresh (record { kind = machine.KIND; generation = 1; first = 1; base = machine.saved machine.begin })) i) (c.settle.ensures.seen told)

pub returns-clause-calls : goal.returns-clause-calls
returns-clause-calls g c told =
    omega (arith, c.in-Ok.ensures.calls told, c.in_ok-settle.ensures.calls, ap (λ (i : Images). clear_calls (area_of 0 i)) (c.settle.ensures.seen told))

pub returns-in-Err-clause-calls : goal.returns-in-Err-clause-calls
returns-in-Err-clause-calls g c told =
    let same = ap (λ (i : Images). clear_calls (area_of 0 i)) (c.settle.ensures.seen told) in
    (omega (arith, c.create-made.ensures.later, c.in_ok-settle.ensures.calls), omega (arith, c.create-made.ensures.most_calls told, c.in_ok-settle.ensures.calls, same))

pub returns-in_err-settle-clause-calls : goal.returns-in_err-settle-clause-calls
returns-in_err-settle-clause-calls g c told =
    let p = err_from_is_err_and c.from_residual-in_err-settle.result c.from_residual-in_err-settle.ensures.1 in
    rw p.1 (sync_calls ℕ ℕ c.in_err-settle.field-0.0 (area_of 0 (g.D.Disk.seen c.args.disk.now)) _ _ c.in_err-settle.ensures.calls)

pub returns-clause-due : goal.returns-clause-due
returns-clause-due g c told =
    let old = c.args.disk.now in
    let mid = c.settle.new.disk in
    let same = c.settle.ensures.ahead told in
    none_more (g.D.Disk.moment old) (g.D.Disk.moment mid) (g.D.Disk.moment c.create-made.new.disk) (g.D.Disk.due old) (g.D.Disk.due mid) c.in_ok-settle.ensures.calls (c.in_ok-settle.ensures.due told) same (c.in-Ok.ensures.due told)

pub returns-in-Err-clause-due : goal.returns-in-Err-clause-due
returns-in-Err-clause-due g c told =
    let old = c.args.disk.now in
    let mid = c.settle.new.disk in
    making_due ℕ ℕ 0 c.in-Err.fault c.in_area.result (g.D.Disk.moment old) (g.D.Disk.moment mid) (g.D.Disk.moment c.create-made.new.disk) (g.D.Disk.due old) (g.D.Disk.due mid) (g.D.Disk.taken old) (g.D.Disk.taken mid)
    c.in_area.ensures c.in_ok-settle.ensures.calls c.settle.ensures.taken (c.in_ok-settle.ensures.due told) (c.settle.ensures.ahead told) (c.in-Err.ensures.due told)

pub returns-in_err-settle-clause-due : goal.returns-in_err-settle-clause-due
returns-in_err-settle-clause-due g c told =
    let p = err_from_is_err_and c.from_residual-in_err-settle.result c.from_residual-in_err-settle.ensures.1 in
    rw (p.1, p.2) (sync_due ℕ ℕ ℕ c.in_err-settle.field-0.0 _ _ _ _ c.in_err-settle.ensures.outside c.in_err-settle.ensures.calls (c.in_err-settle.ensures.due told))

pub returns-clause-ahead : goal.returns-clause-ahead
returns-clause-ahead g c told =
    let old = g.D.Disk.due c.args.disk.now in
    let mid = g.D.Disk.due c.settle.new.disk in
    let new = g.D.Disk.due c.create-made.new.disk in
    same_due_again (g.D.Disk.moment c.settle.new.disk) (g.D.Disk.moment c.create-made.new.disk) old mid new c.create-made.ensures.later (c.settle.ensures.ahead told) (c.create-made.ensures.ahead told)

pub returns-in-Err-clause-ahead : goal.returns-in-Err-clause-ahead
returns-in-Err-clause-ahead g c told =
    let old = g.D.Disk.due c.args.disk.now in
    let mid = g.D.Disk.due c.settle.new.disk in
    let new = g.D.Disk.due c.create-made.new.disk in
    same_due_again (g.D.Disk.moment c.settle.new.disk) (g.D.Disk.moment c.create-made.new.disk) old mid new c.create-made.ensures.later (c.settle.ensures.ahead told) (c.create-made.ensures.ahead told)
