use Rattle.std.proofs.Common.{◌≡◌, ◌∙◌, refl, sym, ap, is_some, Some, None, option_copied}
use Rattle.std.specs.Map.{lookup}
use Rattle.pc_tables.specs.Table.{same}
use Rattle.pc_tables.proofs.Table.{is_among-keys}
use Rattle.pc_office.proofs.allowing.is_board.Goals as goal

pub returns : goal.returns
returns c =
    c.is_some.ensures
    ∙ elim c.get.result as (λ found. is_some found ≡ is_some (option_copied found)) [ None ↦ refl | Some messages ↦ refl ]
    ∙ ap is_some (c.get.ensures ∙ ap (lookup (same c.args.name.now)) c.boards.ensures)
    ∙ sym (is_among-keys c.args.name.now c.args.holdings.now.boards)
