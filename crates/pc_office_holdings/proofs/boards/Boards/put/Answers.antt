use Rattle.std.proofs.Common.{sym, ap, ◌∙◌, ◌++◌, ◌∷◌, []}
use Rattle.std.specs.Map.{keys_of}
use Rattle.pc_tables.proofs.Table.{keys-append}
use Rattle.pc_office_holdings.proofs.Posts.{weighed-put}
use Rattle.pc_office_holdings.proofs.boards.Boards.put.Goals as goal

pub invariant_of-self-2 : goal.invariant_of-self-2
invariant_of-self-2 c = (
  c.in-Ok-push.ensures.ok ∙ ap (λ names. names ++ c.args.board ∷ []) c.self.invariant.0 ∙ sym (ap keys_of c.in-Ok.ensures.ok ∙ keys-append c.self.inside.table.entries ((c.args.board, c.args.messages) ∷ [])),
  weighed-put c.self.inside.sum c.weight-weight.result c.self.inside.table.entries c.args.board c.args.messages c.put.new.table.entries c.weight-weight.ensures c.in-Ok.ensures.ok c.self.invariant.1,
)
