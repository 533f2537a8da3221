use Rattle.std.proofs.Common.{◌∙◌, sym, ap, is_some}
use Rattle.std.specs.Map.{lookup}
use Rattle.pc_tables.specs.Table.{same}
use Rattle.pc_office_holdings.proofs.Noted.{is_among-noted}
use Rattle.pc_office.proofs.allowing.is_user.Goals as goal

pub returns : goal.returns
returns c = c.is_some.ensures ∙ ap is_some (c.get.ensures ∙ ap (lookup (same c.args.name.now)) c.users.ensures) ∙ sym (is_among-noted c.args.name.now c.args.holdings.now.users)
