use Rattle.std.proofs.Common.{ℕ, List, Bool, refl, ap, subst, ◌∙◌, arith}
use Rattle.std.proofs.lemmas.List.{take_rest}
use Rattle.pc_session.specs.Talking.{AnswersNext}
use Rattle.pc_session.proofs.Pieces.{FeedLaws, none_left, piece_begins, piece_done, turn_ends, turn_goes_on, turn_smaller}
use Rattle.pc_session.proofs.conversing.answer_piece.Goals as goal

pub loop-rest-init : goal.loop-rest-init
loop-rest-init g c = record {
  piece = λ begun none holds. piece_begins _ _ _ begun c.args.piece.now _ _ _ c.args.feed.now none holds;
  limit = c.requires.limit;
  unended = c.requires.open;
  beside = refl;
  faults = omega arith;
  users = refl;
}

pub answer_next-requires : goal.answer_next-requires
answer_next-requires g c = ap (λ f. f.limit) (c.feed-count.ensures.feeds.takes c.loop-rest.invariant.unended).1 ∙ c.loop-rest.invariant.limit

pub returns-in-Some-clause-piece : goal.returns-in-Some-clause-piece
returns-in-Some-clause-piece g c begun none holds =
    let laws : FeedLaws = record { spelled = c.lines_are_spelled.ensures; shown = c.line_comes.ensures.shown; goes_on = c.line_goes_on.ensures } in
    let next = subst (λ (users : List ℕ → Bool). AnswersNext g.R.Repository.tells g.R.Repository.disks_tell users c.feed-count.new.self (g.R.Repository.desks c.loop-rest.repository) c.loop-rest.session (g.L.Link.written c.loop-rest.link) c.answer_next.result (g.R.Repository.desks c.answer_next.new.repository) c.answer_next.new.session (g.L.Link.written c.answer_next.new.link) c.answer_next.new.feed) c.loop-rest.invariant.users c.answer_next.ensures.next in
    turn_ends laws _ _ _ begun c.args.piece.now _ _ _ _ _ _ c.loop-rest.feed c.feed-count.new.self c.loop-rest.rest.now (c.loop-rest.invariant.piece begun none holds) c.feed-count.result c.feed-count.ensures.feeds c.answer_next.result _ _ _ _ next c.in-Some.cause c.in-Some.is

pub returns-in-Some-clause-beside : goal.returns-in-Some-clause-beside
returns-in-Some-clause-beside g c = c.answer_next.ensures.beside ∙ c.loop-rest.invariant.beside

pub returns-in-Some-clause-fault : goal.returns-in-Some-clause-fault
returns-in-Some-clause-fault g c is =
    let rose = c.answer_next.ensures.fault (c.in-Some.is ∙ is) in
    omega (arith, rose, c.loop-rest.invariant.faults)

pub returns-in-Some-clause-faults : goal.returns-in-Some-clause-faults
returns-in-Some-clause-faults g c = omega (arith, c.loop-rest.invariant.faults, c.answer_next.ensures.faults)

pub returns-in-Some-clause-users : goal.returns-in-Some-clause-users
returns-in-Some-clause-users g c = c.answer_next.ensures.users ∙ c.loop-rest.invariant.users

pub loop-rest-smaller : goal.loop-rest-smaller
loop-rest-smaller g c = rw take_rest (turn_smaller c.loop-rest.rest.now c.feed-count.result c.is_empty.result c.is_empty.ensures c.loop-rest-test.true (c.feed-count.ensures.some c.loop-rest.invariant.unended) c.feed-count.ensures.within)

pub loop-rest-preserved : goal.loop-rest-preserved
loop-rest-preserved g c =
    let laws : FeedLaws = record { spelled = c.lines_are_spelled.ensures; shown = c.line_comes.ensures.shown; goes_on = c.line_goes_on.ensures } in
    let next = subst (λ (users : List ℕ → Bool). AnswersNext g.R.Repository.tells g.R.Repository.disks_tell users c.feed-count.new.self (g.R.Repository.desks c.loop-rest.repository) c.loop-rest.session (g.L.Link.written c.loop-rest.link) c.answer_next.result (g.R.Repository.desks c.answer_next.new.repository) c.answer_next.new.session (g.L.Link.written c.answer_next.new.link) c.answer_next.new.feed) c.loop-rest.invariant.users c.answer_next.ensures.next in
    rw take_rest record {
      piece = λ begun none holds. turn_goes_on laws _ _ _ begun c.args.piece.now _ _ _ _ _ _ c.loop-rest.feed c.feed-count.new.self c.loop-rest.rest.now (c.loop-rest.invariant.piece begun none holds) c.feed-count.result c.feed-count.ensures.feeds c.answer_next.result _ _ _ _ next c.in_default.is;
      limit = c.answer_next.ensures.limit;
      unended = c.answer_next.ensures.open;
      beside = c.answer_next.ensures.beside ∙ c.loop-rest.invariant.beside;
      faults = omega (arith, c.loop-rest.invariant.faults, c.answer_next.ensures.faults);
      users = c.answer_next.ensures.users ∙ c.loop-rest.invariant.users;
    }

pub returns-clause-piece : goal.returns-clause-piece
returns-clause-piece g c begun none holds = piece_done _ _ _ begun c.args.piece.now _ _ _ _ _ _ _ c.loop-rest.rest.now (c.loop-rest.invariant.piece begun none holds) (none_left c.loop-rest.rest.now c.is_empty.result c.is_empty.ensures c.loop-rest-test.false)
