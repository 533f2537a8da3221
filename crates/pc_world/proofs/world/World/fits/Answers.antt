use Rattle.std.proofs.Common.{is_some, sym, ap, ◌∙◌}
use Rattle.pc_world.specs.Steps.{fits, place_in}
use Rattle.pc_world.proofs.Users.{is_there}
use Rattle.pc_world.proofs.world.World.fits.Goals as goal

pub returns-in-Ask : goal.returns-in-Ask
returns-in-Ask c = c.is_some.ensures ∙ ap is_some c.place_of.ensures ∙ ap (λ name. is_some (place_in c.args.self.now name)) c.bytes.ensures.value ∙ is_there c.in-Ask.user c.args.self.now ∙ sym (ap (fits c.args.self.now) c.in-Ask.is)
