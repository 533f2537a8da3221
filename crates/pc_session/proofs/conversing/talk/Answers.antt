use Rattle.std.proofs.Common.{rules, ◌∙◌, arith}
use Rattle.pc_session.proofs.Connections.{read_ends, read_goes_on}
use Rattle.pc_session.proofs.conversing.talk.Goals as goal

pub returns-in-Some-clause-talked : goal.returns-in-Some-clause-talked
returns-in-Some-clause-talked g c =
    let going = c.loop-rest.invariant.going in
    read_ends g.R.Repository.tells g.R.Repository.disks_tell _ _ _ _ _ _ _ _ _ _ going _ c.loop-rest.invariant.users c.in-Ok.count c.read.new.into _ c.in-Ok.ensures.bound.0 (search rules) _ _ c.in-Ok.ensures.bytes.0 c.answer_piece.ensures.beside _ c.read.ensures.beside c.answer_piece.result _ _ _ _ (c.answer_piece.ensures.piece going.tail going.no_feed going.holds) c.in-Some.cause c.in-Some.is

pub loop-rest-preserved : goal.loop-rest-preserved
loop-rest-preserved g c =
    let going = c.loop-rest.invariant.going in
    record {
      going = read_goes_on g.R.Repository.tells g.R.Repository.disks_tell _ _ _ _ _ _ _ _ _ _ going _ c.loop-rest.invariant.users c.in-Ok.count c.read.new.into _ c.in-Ok.ensures.bound.0 (search rules) _ _ c.in-Ok.ensures.bytes.0 c.answer_piece.ensures.beside _ c.read.ensures.beside c.answer_piece.result _ _ _ _ (c.answer_piece.ensures.piece going.tail going.no_feed going.holds) c.in_default-answer_piece.is;
      limit = c.answer_piece.ensures.limit;
      faults = omega (arith, c.loop-rest.invariant.faults, c.read.ensures.cause.later, c.answer_piece.ensures.faults);
      users = c.answer_piece.ensures.users ∙ c.loop-rest.invariant.users;
    }
