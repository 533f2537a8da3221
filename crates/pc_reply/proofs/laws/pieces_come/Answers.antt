use Rattle.pc_reply.proofs.ExactLemmas.{begun_comes, piece_comes}
use Rattle.pc_reply.proofs.laws.pieces_come.Goals as goal

pub returns-clause-none : goal.returns-clause-none
returns-clause-none c = begun_comes

pub returns-clause-more : goal.returns-clause-more
returns-clause-more c = piece_comes
