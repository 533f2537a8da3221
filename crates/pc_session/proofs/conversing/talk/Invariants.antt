-- The lines so far were answered, and what is left may still be read.
use Rattle.std.proofs.Common.{◌≡◌, ◌≤◌}
use Rattle.pc_session.proofs.Connections.{Going}
use Rattle.pc_session.proofs.conversing.talk.Given as goal

abbrev pub invariant-loop-rest : goal.invariant-loop-rest
invariant-loop-rest g l = record {
  going : Going g.R.Repository.tells g.R.Repository.disks_tell (g.R.Repository.users l.fn.repository) (g.R.Repository.desks l.fn.repository) (g.L.Link.left l.fn.link) (g.L.Link.written l.fn.link) (g.R.Repository.desks l.repository) l.session (g.L.Link.left l.link) (g.L.Link.written l.link) l.feed l.rest;
  limit : l.feed.limit ≡ 512;
  faults : g.L.Link.faults l.fn.link ≤ g.L.Link.faults l.link;
  users : g.R.Repository.users l.repository ≡ g.R.Repository.users l.fn.repository;
}

abbrev pub decreases-loop-rest : goal.decreases-loop-rest
decreases-loop-rest g l = l.rest
