use Rattle.std.proofs.Common.{sym, ap, ◌∙◌}
use Rattle.pc_tables.proofs.Table.{unset}
use Rattle.pc_tables.proofs.tables.set.Goals as goal

pub returns-in_default : goal.returns-in_default
returns-in_default g c = ap (λ m. m.entries) c.get_mut.follows.holds-at-none ∙ sym (unset c.args.name.now c.args.table.now.entries c.args.value c.in_default.ensures.value)
