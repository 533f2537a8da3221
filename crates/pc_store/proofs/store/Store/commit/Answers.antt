use Rattle.std.proofs.Common.{◌∙◌, ℕ, ◌≤◌, List, ◌++◌, length, rules, ap, arith}
use Rattle.pc_store.proofs.CommitLemmas.{legal_now}
use Rattle.pc_store.proofs.SameLemmas.{Lawful}
use Rattle.pc_store.proofs.store.Store.commit.Goals as goal

pub write_entry-requires : goal.write_entry-requires
write_entry-requires g c =
    let machine = g.M.Machine in
    let disk = g.D.Disk in
    let laws = g.met.M.Machine in
    let lawful : Lawful machine = record { fits = laws.allowed_fits; one = laws.one_entry; keeps = laws.step_is_legal; counts = laws.step_next; begins = laws.numbered_is_legal; numbered = laws.numbered_next; saved = laws.numbered_saved; entry_is_read = laws.entry_is_read; one_entry_fault = laws.one_entry_fault; one_record_fault = laws.one_record_fault; record_is_read = laws.record_is_read; one_record = laws.one_record } in
    let legal = legal_now machine lawful disk.tells disk.seen disk.may_leave _ c.args.self.now c.self.inside.log c.self.inside.bytes c.self.invariant c.self.view_is c.requires.whole in
    laws.allowed_fits c.args.self.now.state c.args.entry legal c.requires.allowed

pub overflow_cast-as_slice : goal.overflow_cast-as_slice
overflow_cast-as_slice g c =
    let machine = g.M.Machine in
    let disk = g.D.Disk in
    let laws = g.met.M.Machine in
    let lawful : Lawful machine = record { fits = laws.allowed_fits; one = laws.one_entry; keeps = laws.step_is_legal; counts = laws.step_next; begins = laws.numbered_is_legal; numbered = laws.numbered_next; saved = laws.numbered_saved; entry_is_read = laws.entry_is_read; one_entry_fault = laws.one_entry_fault; one_record_fault = laws.one_record_fault; record_is_read = laws.record_is_read; one_record = laws.one_record } in
    let legal = legal_now machine lawful disk.tells disk.seen disk.may_leave _ c.args.self.now c.self.inside.log c.self.inside.bytes c.self.invariant c.self.view_is c.requires.whole in
    let size = laws.entry_size c.args.self.now.state c.args.entry legal c.requires.allowed in
    let same = c.as_slice.ensures ∙ c.in_ok-write_entry.ensures ∙ ap (λ (xs : List ℕ). xs ++ machine.written c.args.entry) c.new-bytes.ensures in
    let short : length c.as_slice.result.now ≤ 8388608 = omega (arith, ap length same, size) in
    search rules

pub enter-requires-clause-size : goal.enter-requires-clause-size
enter-requires-clause-size g c =
    let machine = g.M.Machine in
    let disk = g.D.Disk in
    let laws = g.met.M.Machine in
    let lawful : Lawful machine = record { fits = laws.allowed_fits; one = laws.one_entry; keeps = laws.step_is_legal; counts = laws.step_next; begins = laws.numbered_is_legal; numbered = laws.numbered_next; saved = laws.numbered_saved; entry_is_read = laws.entry_is_read; one_entry_fault = laws.one_entry_fault; one_record_fault = laws.one_record_fault; record_is_read = laws.record_is_read; one_record = laws.one_record } in
    let legal = legal_now machine lawful disk.tells disk.seen disk.may_leave _ c.args.self.now c.self.inside.log c.self.inside.bytes c.self.invariant c.self.view_is c.requires.whole in
    let size = laws.entry_size c.args.self.now.state c.args.entry legal c.requires.allowed in
    let same = c.in_ok-write_entry.ensures ∙ ap (λ (xs : List ℕ). xs ++ machine.written c.args.entry) c.new-bytes.ensures in
    (omega (arith, ap length same, size), omega (arith, ap length same, size))
