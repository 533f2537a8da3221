use Rattle.pc_account_history.specs.History.{◌▸▸◌}
use Rattle.pc_account_history.specs.Laws.{folded}
use Rattle.pc_session.specs.InPlace.{over}
use Rattle.pc_session.proofs.laws.record_answers_sessions.Goals as goal

pub returns : goal.returns
returns c h legal entries d asked = c.stand_in_answers.ensures (over (h ▸▸ entries) d) (over (folded h ▸▸ entries) d) (c.record_stands_in.ensures h legal entries d) asked
