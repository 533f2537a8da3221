use Rattle.std.proofs.Common.{◌≡◌, ◌∙◌, ℕ, ◌≤◌, List, [], ◌++◌, length, sym, ap, subst, arith}
use Rattle.pc_store.specs.History.{IsHistory}
use Rattle.pc_store.specs.Store.{StoreState, next_number}
use Rattle.pc_store.specs.Fold.{next_head}
use Rattle.pc_store.proofs.SameLemmas.{Lawful}
use Rattle.pc_store.proofs.FoldLemmas.{may_fold}
use Rattle.pc_store.proofs.store.Store.fold.Goals as goal

pub renew-requires-clause-size : goal.renew-requires-clause-size
renew-requires-clause-size g c =
    let machine = g.M.Machine in
    let disk = g.D.Disk in
    let laws = g.met.M.Machine in
    let lawful : Lawful machine = record { fits = laws.allowed_fits; one = laws.one_entry; keeps = laws.step_is_legal; counts = laws.step_next; begins = laws.numbered_is_legal; numbered = laws.numbered_next; saved = laws.numbered_saved; entry_is_read = laws.entry_is_read; one_entry_fault = laws.one_entry_fault; one_record_fault = laws.one_record_fault; record_is_read = laws.record_is_read; one_record = laws.one_record } in
    let may = may_fold machine lawful laws.legal_is_canonical laws.record_size disk.tells disk.seen disk.may_leave _ c.args.self.now c.self.inside.log c.self.inside.bytes c.self.invariant c.self.view_is c.requires.whole in
    let saved : c.save.new.out ≡ machine.saved c.args.self.now.state = c.in_ok-save.ensures ∙ ap (λ (xs : List ℕ). xs ++ machine.saved c.self.inside.state) c.new-base.ensures ∙ ap (λ (s : StoreState _ _ _). machine.saved s.state) c.self.view_is in
    omega (arith, ap length saved, may.size)

pub renew-requires-clause-history : goal.renew-requires-clause-history
renew-requires-clause-history g c =
    let machine = g.M.Machine in
    let disk = g.D.Disk in
    let laws = g.met.M.Machine in
    let lawful : Lawful machine = record { fits = laws.allowed_fits; one = laws.one_entry; keeps = laws.step_is_legal; counts = laws.step_next; begins = laws.numbered_is_legal; numbered = laws.numbered_next; saved = laws.numbered_saved; entry_is_read = laws.entry_is_read; one_entry_fault = laws.one_entry_fault; one_record_fault = laws.one_record_fault; record_is_read = laws.record_is_read; one_record = laws.one_record } in
    let now = c.args.self.now in
    let may = may_fold machine lawful laws.legal_is_canonical laws.record_size disk.tells disk.seen disk.may_leave _ now c.self.inside.log c.self.inside.bytes c.self.invariant c.self.view_is c.requires.whole in
    let saved : c.save.new.out ≡ machine.saved now.state = c.in_ok-save.ensures ∙ ap (λ (xs : List ℕ). xs ++ machine.saved c.self.inside.state) c.new-base.ensures ∙ ap (λ (s : StoreState _ _ _). machine.saved s.state) c.self.view_is in
    subst (λ (n : ℕ). IsHistory machine (next_head machine now n c.save.new.out) [] now.state) (sym c.next-first.ensures.value)
    (subst (λ (xs : List ℕ). IsHistory machine (next_head machine now (next_number now) xs) [] now.state) (sym saved) may.history)
