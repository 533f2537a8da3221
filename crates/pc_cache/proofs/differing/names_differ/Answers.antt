use Rattle.std.proofs.Common.{sym, ◌∙◌}
use Rattle.pc_cache.proofs.Orders.{names-rise-differ}
use Rattle.pc_cache.proofs.differing.names_differ.Goals as goal

pub returns-then-names_rise : goal.returns-then-names_rise
returns-then-names_rise c = sym (names-rise-differ c.args.names.now (sym c.names_rise.ensures ∙ c.if-names_rise.true))
