use Rattle.std.proofs.Common.{IsTrue, List, ℕ, sym, subst}
use Rattle.pc_base.specs.Line.{is_line}
use Rattle.pc_session.proofs.Words.{word-line}
use Rattle.pc_session.proofs.asking.lines_of_help.Goals as goal

pub of-requires : goal.of-requires
of-requires c = subst (λ (bytes : List ℕ). IsTrue (is_line bytes)) (sym c.word.ensures.value) (word-line _)
