use Rattle.std.proofs.Common.{◌≡◌, true, subst, ap, ◌∙◌}
use Rattle.std.specs.Map.{lookup}
use Rattle.pc_tables.specs.Table.{same}
use Rattle.pc_office_history.specs.declared.entry.OfficeEntry.{OfficeEntry}
use Rattle.pc_office_history.specs.declared.entry.OfficeEntry.TheVariants as entry
use Rattle.pc_office_history.specs.Known.{said_by}
use Rattle.pc_office_holdings.specs.Held.{Held, record_in}
use Rattle.pc_office_holdings.specs.State.{may_follow}
use Rattle.pc_office_holdings.proofs.FreeNames.{allowed-next, free-user, free-board}
use Rattle.pc_office_holdings.proofs.holdings.Holdings.step.Goals as goal

pub add_user-requires-clause-user : goal.add_user-requires-clause-user
add_user-requires-clause-user c =
    let held = c.args.self.now in
    let next : may_follow (said_by (record_in held)) (entry.AddUser c.in-AddUser.user) ≡ true = subst (λ (e : OfficeEntry). may_follow (said_by (record_in held)) e ≡ true) c.in-AddUser.is c.requires.allowed in
    free-user held c.in-AddUser.user (allowed-next held (entry.AddUser c.in-AddUser.user) next)

pub add-requires : goal.add-requires
add-requires c =
    let held = c.args.self.now in
    let next : may_follow (said_by (record_in held)) (entry.AddBoard c.in-AddBoard.board) ≡ true = subst (λ (e : OfficeEntry). may_follow (said_by (record_in held)) e ≡ true) c.in-AddBoard.is c.requires.allowed in
    ap (λ (h : Held). lookup (same c.in-AddBoard.board) h.boards) c.self.view_is ∙ free-board held c.in-AddBoard.board (allowed-next held (entry.AddBoard c.in-AddBoard.board) next)
