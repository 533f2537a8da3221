use Rattle.std.proofs.Common.{◌∙◌, ap}
use Rattle.pc_store.specs.Store.{StoreState}
use Rattle.pc_store.proofs.SameLemmas.{Lawful}
use Rattle.pc_store.proofs.OpenedLemmas.{replayed}
use Rattle.pc_store.proofs.store.Store.state.Goals as goal

pub returns-clause-replay : goal.returns-clause-replay
returns-clause-replay g c =
    let laws : Lawful g.M.Machine = record {
      fits = g.met.M.Machine.allowed_fits;
      one = g.met.M.Machine.one_entry;
      keeps = g.met.M.Machine.step_is_legal;
      counts = g.met.M.Machine.step_next;
      begins = g.met.M.Machine.numbered_is_legal;
      numbered = g.met.M.Machine.numbered_next;
      saved = g.met.M.Machine.numbered_saved;
      entry_is_read = g.met.M.Machine.entry_is_read;
      one_entry_fault = g.met.M.Machine.one_entry_fault;
      one_record_fault = g.met.M.Machine.one_record_fault;
      record_is_read = g.met.M.Machine.record_is_read;
      one_record = g.met.M.Machine.one_record;
    } in
    let sound = c.self.invariant in
    let whole = ap (λ (s : StoreState _ _ _). s.broken) c.self.view_is ∙ c.requires in
    rw (← c.self.view_is) (replayed g.M.Machine laws _ _ c.self.inside.state sound.at (sound.state whole) sound.history)
