use Rattle.std.proofs.Common.{◌≡◌, ℕ, List, Option, None, Some, option_copied, sym, ap, ◌∙◌}
use Rattle.std.specs.Map.{lookup}
use Rattle.pc_tables.specs.Table.{same}
use Rattle.pc_office_history.specs.Record.{OfficeRecord}
use Rattle.pc_office_history.specs.Known.{Known, said_by}
use Rattle.pc_office_history.specs.Answers.{board_of}
use Rattle.pc_office_holdings.specs.Held.{Held, record_in}
use Rattle.pc_office.proofs.Told.{board-said}
use Rattle.pc_office.proofs.Standing.{said_is_known}
use Rattle.pc_office.proofs.office.Office.board.Goals as goal

-- what is found of a board is what is said of it
found-board : (held : Held) (r : OfficeRecord) (name : List ℕ) (boards : List (List ℕ × List (List (List ℕ)))) (found : Option (List (List (List ℕ)))) → record_in held ≡ r → boards ≡ held.boards → found ≡ lookup (same name) boards → found ≡ board_of (said_by r) name
found-board held r name boards found is e f = f ∙ ap (lookup (same name)) e ∙ ap (λ (s : OfficeRecord). lookup (same name) s.boards) is ∙ sym (board-said r name)

pub returns-in_err-messages-clause-held : goal.returns-in_err-messages-clause-held
returns-in_err-messages-clause-held c = ap (λ o. option_copied o) c.from_residual.ensures ∙ found-board c.self.inside.holdings c.args.self.now c.args.board.now c.boards.result.now None c.self.view_is c.boards.ensures c.in_err-messages.ensures

pub returns-in_err-messages-clause-history : goal.returns-in_err-messages-clause-history
returns-in_err-messages-clause-history c = λ h stands. returns-in_err-messages-clause-held c ∙ ap (λ (k : Known). board_of k c.args.board.now) (said_is_known c.args.self.now h stands)

pub returns-clause-held : goal.returns-clause-held
returns-clause-held c = ap Some c.as_slice.ensures ∙ found-board c.self.inside.holdings c.args.self.now c.args.board.now c.boards.result.now (Some c.in_ok-messages.messages.now) c.self.view_is c.boards.ensures c.in_ok-messages.ensures

pub returns-clause-history : goal.returns-clause-history
returns-clause-history c = λ h stands. returns-clause-held c ∙ ap (λ (k : Known). board_of k c.args.board.now) (said_is_known c.args.self.now h stands)
