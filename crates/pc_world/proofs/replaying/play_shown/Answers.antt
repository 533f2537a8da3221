use Rattle.std.proofs.Common.{ℕ, List, subst}
use Rattle.pc_world.specs.Replay.{PlaysLine}
use Rattle.pc_world.proofs.replaying.play_shown.Goals as goal

pub returns-in-Line : goal.returns-in-Line
returns-in-Line c = λ line shows.
    let P : List ℕ → Type 0 = λ l. PlaysLine c.args.world.now c.play_line.new.world c.args.text.now.items c.play_line.new.text.items l c.play_line.result in
    subst P (rw c.in-Line.is at shows).0 c.play_line.ensures
