use Rattle.std.proofs.Common.{◌≡◌, length, ap, arith}
use Rattle.pc_fields.proofs.ReadsMessage.{lines_within}
use Rattle.pc_fields.proofs.field_writing.line_count.Goals as goal

pub overflow_cast-result : goal.overflow_cast-result
overflow_cast-result c =
    let same : c.as_slice.result.now ≡ c.args.message.now = cc in
    omega (arith, ap length same, lines_within c.args.message.now, c.size-size.ensures.size, c.size-size.ensures.bound)
