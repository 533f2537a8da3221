use Rattle.std.proofs.Common.{arith}
use Rattle.pc_fields.specs.Fields.{within}
use Rattle.pc_fields.proofs.Fields.{none_16, some_16, other_16}
use Rattle.pc_fields.proofs.cursor.u16_at.Goals as goal

pub returns-in_default : goal.returns-in_default
returns-in_default c = none_16 (within c.args.least c.args.most) c.args.bytes.now c.in_default.ensures.number

pub returns-then-not-is_within : goal.returns-then-not-is_within
returns-then-not-is_within c = other_16 (within c.args.least c.args.most) c.args.bytes.now c.in-Some.number (λ i. omega (arith, c.type_inv.bytes i)) c.in-Some.ensures.range c.in-Some.ensures.number cc

pub returns : goal.returns
returns c = some_16 (within c.args.least c.args.most) c.args.bytes.now c.in-Some.number (λ i. omega (arith, c.type_inv.bytes i)) c.in-Some.ensures.range c.in-Some.ensures.number cc
