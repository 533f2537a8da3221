use Rattle.std.proofs.Common.{sym, ap, ◌∙◌}
use Rattle.std.specs.Map.{keys_of}
use Rattle.pc_tables.specs.Table.{same}
use Rattle.pc_tables.proofs.Table.{keys-set_value}
use Rattle.pc_office_holdings.proofs.users.Users.set.Goals as goal

pub invariant_of-self : goal.invariant_of-self
invariant_of-self c = c.self.invariant ∙ sym (ap keys_of c.set.ensures ∙ keys-set_value (same c.args.user.now) c.self.inside.table.entries c.args.standing)
