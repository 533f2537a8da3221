-- The lines that end in what was taken of the piece were answered.
use Rattle.std.proofs.Common.{◌≡◌, ℕ, ◌≤◌, false, List, length}
use Rattle.pc_wire.specs.LineFeed.{fed}
use Rattle.pc_wire.specs.Lines.{has_feed}
use Rattle.pc_session.proofs.Pieces.{InPiece}
use Rattle.pc_session.proofs.conversing.answer_piece.Given as goal

abbrev pub invariant-loop-rest : goal.invariant-loop-rest
invariant-loop-rest g l = record {
  piece : (begun : List ℕ) → has_feed begun ≡ false → l.initial.feed ≡ fed 512 begun → InPiece g.R.Repository.tells g.R.Repository.disks_tell (g.R.Repository.users l.initial.repository) begun l.initial.piece (g.R.Repository.desks l.initial.repository) l.initial.session (g.L.Link.written l.initial.link) (g.R.Repository.desks l.repository) l.session (g.L.Link.written l.link) l.feed l.rest;
  limit : l.feed.limit ≡ 512;
  unended : l.feed.is_whole ≡ false;
  beside : g.L.Link.left l.link ≡ g.L.Link.left l.initial.link;
  faults : g.L.Link.faults l.initial.link ≤ g.L.Link.faults l.link;
  users : g.R.Repository.users l.repository ≡ g.R.Repository.users l.initial.repository;
}

abbrev pub decreases-loop-rest : goal.decreases-loop-rest
decreases-loop-rest g l = length l.rest
