use Rattle.std.proofs.Common.{ap, ◌∙◌, lit≤}
use Rattle.pc_account_history.specs.Step.{record_of}
use Rattle.pc_account_spelling.specs.Spelling.{spelled_record}
use Rattle.pc_house.specs.Base.{base_is}
use Rattle.pc_house.proofs.Folds.{answers_over, history_over}
use Rattle.pc_house.proofs.Standing.{replay_saved, replay_stands, replay_kept}
use Rattle.pc_house.proofs.desk.Desk.new.Goals as goal

pub invariant_of-result : goal.invariant_of-result
invariant_of-result g c =
    let replay = c.state-state.ensures.replay in
    (record { base = replay.history.base.held; is_saved = ∣ replay_saved c.args.store replay ∣₁ }, tt)

pub invariant_of-result-2 : goal.invariant_of-result-2
invariant_of-result-2 g c = record { kept = replay_kept c.args.store _ c.state-state.ensures.replay (c.doubt-doubt.ensures.none c.requires) (c.doubt-doubt.ensures.no_renewal c.requires); drawn = lit≤ tt }

pub returns-clause-base : goal.returns-clause-base
returns-clause-base g c =
    let saved = replay_saved c.args.store c.state-state.ensures.replay in
    ap spelled_record (base_is c.args.store.head.base _ c.state-state.ensures.replay.history.base.held saved) ∙ saved.spelled

pub returns-clause-history : goal.returns-clause-history
returns-clause-history g c = replay_stands c.args.store _ c.state-state.ensures.replay

pub returns-clause-in_place : goal.returns-clause-in_place
returns-clause-in_place g c h has =
    history_over c.args.store _ h (base_is c.args.store.head.base _ (record_of h) has.base) has.first

pub returns-clause-answers : goal.returns-clause-answers
returns-clause-answers g c h has =
    answers_over c.record_answers_sessions.ensures h c.args.store.head has c.args.store.trail _ (history_over c.args.store _ h (base_is c.args.store.head.base _ (record_of h) has.base) has.first)
