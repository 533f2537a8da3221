use Rattle.pc_message.specs.Message.{weight_of}
use Rattle.pc_office_holdings.proofs.ForNobody.{for-nobody}
use Rattle.pc_office_holdings.proofs.holdings.Holdings.keep.Goals as goal

pub returns-then-is_empty : goal.returns-then-is_empty
returns-then-is_empty c = for-nobody c.args.self.now c.args.targets (weight_of c.args.message.now) (record { number = c.args.self.now.accepted; targets = c.args.targets; message = c.args.message.now }) c.if-is_empty.ensures
