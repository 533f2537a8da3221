use Rattle.std.proofs.Common.{arith}
use Rattle.pc_log.proofs.Heads.{numbers_spelled}
use Rattle.pc_log.proofs.head.read_numbers.Goals as goal

pub returns-clause-spelled : goal.returns-clause-spelled
returns-clause-spelled c = numbers_spelled c.args.kind c.args.bytes.now c.parse_numbers.result (λ i. omega (arith, c.type_inv.bytes i)) c.parse_numbers.ensures.exact
