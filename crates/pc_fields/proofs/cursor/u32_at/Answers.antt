use Rattle.std.proofs.Common.{arith}
use Rattle.pc_fields.specs.Fields.{within}
use Rattle.pc_fields.proofs.Fields.{none_32, some_32, other_32}
use Rattle.pc_fields.proofs.cursor.u32_at.Goals as goal

pub returns-in_default : goal.returns-in_default
returns-in_default c = none_32 (within c.args.least c.args.most) c.args.bytes.now c.in_default.ensures.number

pub returns-then-not-is_within : goal.returns-then-not-is_within
returns-then-not-is_within c = other_32 (within c.args.least c.args.most) c.args.bytes.now c.in-Some.number (λ i. omega (arith, c.type_inv.bytes i)) c.in-Some.ensures.range c.in-Some.ensures.number cc

pub returns : goal.returns
returns c = some_32 (within c.args.least c.args.most) c.args.bytes.now c.in-Some.number (λ i. omega (arith, c.type_inv.bytes i)) c.in-Some.ensures.range c.in-Some.ensures.number cc
