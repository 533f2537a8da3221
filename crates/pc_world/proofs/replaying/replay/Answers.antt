use Rattle.pc_world.proofs.Playing.{Completes-ends, Refuses-ends}
use Rattle.pc_world.proofs.replaying.replay.Goals as goal

pub returns-clause-complete : goal.returns-clause-complete
returns-clause-complete g c =
    Completes-ends _ _ _ _ _ _ c.play_all.result c.play_all.ensures.ends c.play_all.ensures.read c.play_all.ensures.write

pub returns-clause-refuses : goal.returns-clause-refuses
returns-clause-refuses g c =
    Refuses-ends _ _ _ _ _ _ c.play_all.result c.refused_or_run.ensures c.refused_once.ensures c.play_all.ensures.ends c.play_all.ensures.read c.play_all.ensures.write
