use Rattle.std.proofs.Common.{◌≡◌, length}
use Rattle.pc_tables.specs.Fronts.{front_mapped}
use Rattle.pc_office_holdings.specs.Step.{posted}
use Rattle.pc_office_holdings.proofs.boards.Boards.post.Given as goal

abbrev pub invariant-loop-index : goal.invariant-loop-index
invariant-loop-index l = (l.self ≡ front_mapped (posted l.names l.message) l.index l.initial.self) × (length l.self ≡ length l.initial.self)
