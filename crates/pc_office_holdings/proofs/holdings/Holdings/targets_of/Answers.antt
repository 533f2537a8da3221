use Rattle.std.proofs.Common.{◌∙◌}
use Rattle.std.specs.Map.{lookup}
use Rattle.pc_tables.specs.Table.{same}
use Rattle.pc_office_holdings.proofs.FirstTargets.{front-targets, all-targets}
use Rattle.pc_office_holdings.proofs.holdings.Holdings.targets_of.Goals as goal

pub loop-name-preserved : goal.loop-name-preserved
loop-name-preserved c = front-targets (λ name. lookup (same name) c.args.self.now.addresses) c.args.names.now c.loop-name.name-index c.name-item.result c.loop-name.targets c.add_target.new.targets c.loop-name-test.true c.name-item.is c.loop-name.invariant c.in_ok-add_target.ensures

pub returns : goal.returns
returns c = c.loop-name.invariant ∙ all-targets (λ name. lookup (same name) c.args.self.now.addresses) c.args.names.now c.loop-name.name-index c.loop-name-test.false
