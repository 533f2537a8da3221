use Rattle.std.proofs.Common.{◌≡◌, take}
use Rattle.pc_fields.proofs.Fields.{a_digest}
use Rattle.pc_fields.proofs.cursor.digest_at.Goals as goal

pub returns : goal.returns
returns c =
    let same : c.copy_from_slice.new.self ≡ take 32 c.args.bytes.now = c.copy_from_slice.ensures.after in
    (a_digest c.args.bytes.now c.copy_from_slice.new.self c.copy_from_slice.ensures.len same, c.if-bytes-lt32.false)
