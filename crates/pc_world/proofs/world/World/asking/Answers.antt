use Rattle.std.proofs.Common.{is_some, sym, ap, ◌∙◌}
use Rattle.pc_world.proofs.Users.{is_there}
use Rattle.pc_world.proofs.world.World.asking.Goals as goal

pub returns : goal.returns
returns c = (c.in_ok-found.ensures.0, c.in_ok-found.ensures.1, sym (is_there c.in_ok-found.found.0.now c.args.self.now) ∙ sym (ap is_some c.in_ok-place_of.ensures))
