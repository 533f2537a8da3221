use Rattle.std.proofs.Common.{List, ap, length, sym, ◌∙◌}
use Rattle.std.specs.Map.{set_value}
use Rattle.pc_message.specs.declared.descriptor.Descriptor.{Descriptor}
use Rattle.pc_tables.specs.Table.{same}
use Rattle.pc_cache_history.specs.Effect.{with_changes}
use Rattle.pc_cache.specs.Mailboxes.{Table, found_in}
use Rattle.pc_tables.proofs.Table.{unset}
use Rattle.pc_cache.proofs.Counted.{kept-set}
use Rattle.pc_cache.proofs.mailboxes.Mailboxes.take_there.Goals as goal

pub returns-in_default : goal.returns-in_default
returns-in_default c =
    let new = λ (table : Table). with_changes c.args.changes.now (found_in c.args.mailbox.now table) in
    ap (λ m. m.entries) c.get_mut.follows.holds-at-none
    ∙ sym (unset c.args.mailbox.now c.self.inside.table.entries (new c.self.inside.table.entries) c.in_default.ensures.value)
    ∙ ap (λ (table : Table). set_value (same c.args.mailbox.now) table (new table)) c.self.view_is

pub invariant_of-self-2 : goal.invariant_of-self-2
invariant_of-self-2 c = kept-set c.self.inside.names c.self.inside.count _ _ _ c.self.inside.table.entries (c.get_mut.follows.lender c.take_all.new.self).entries c.args.mailbox.now c.in-Some.descriptors.now c.take_all.new.self
    c.in-Some.ensures.value (c.get_mut.follows.holds c.take_all.new.self).0
    (ap (λ (l : List Descriptor). length l) c.as_slice.ensures.value) (ap (λ (l : List Descriptor). length l) c.as_slice-2.ensures.value)
    c.replaced-self-inside.ensures c.self.invariant
