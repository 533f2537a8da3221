use Rattle.std.proofs.Common.{◌∙◌}
use Rattle.pc_tables.proofs.Table.{remove_entry-others}
use Rattle.pc_tables.proofs.tables.take.Goals as goal

pub returns-clause-others : goal.returns-clause-others
returns-clause-others g c = c.shift_remove.ensures.entries ∙ remove_entry-others c.args.name.now c.args.table.now.entries c.len-no_name_twice.ensures.unique
