use Rattle.std.proofs.Common.{arith}
use Rattle.pc_log.proofs.Entries.{size_spelled}
use Rattle.pc_log.proofs.opening.Opening.opened.Goals as goal

pub returns-clause-spelled : goal.returns-clause-spelled
returns-clause-spelled c = size_spelled c.args.self.now.reached c.args.bytes.now c.parse_gate.result (λ i. omega (arith, c.type_inv.bytes i)) c.parse_gate.ensures.exact
