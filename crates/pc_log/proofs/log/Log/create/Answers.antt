use Rattle.std.proofs.Common.{◌≡◌, ◌∙◌, ℕ, ◌+◌, [], ◌∷◌, length, ap, arith, length-append}
use Rattle.pc_disk.specs.Images.{Images, with_area}
use Rattle.pc_log.specs.Area.{Head, head_bytes}
use Rattle.pc_log.specs.Logs.{LogState}
use Rattle.pc_log.proofs.Trails.{length-head_bytes}
use Rattle.pc_log.proofs.Makings.{made_whole, fresh_stands}
use Rattle.pc_log.proofs.log.Log.create.Goals as goal

pub returns-clause-log : goal.returns-clause-log
returns-clause-log g c =
    let head : Head = record { kind = c.args.kind; generation = c.args.generation; first = c.args.first; base = c.args.base.now } in
    let count : c.len-2.result ≡ 30 + length c.args.base.now = omega (arith, c.len-2.ensures, c.deref.ensures.len, ap length c.deref.ensures.value, ap length c.in_ok-bytes.ensures, length-append (head_bytes head) (0 ∷ []), length-head_bytes head) in
    ap (λ (k : ℕ). let log : LogState = record { area = c.args.area; gate = k } in log) count

pub returns-clause-stands : goal.returns-clause-stands
returns-clause-stands g c told =
    let seen = g.D.Disk.seen in
    let head : Head = record { kind = c.args.kind; generation = c.args.generation; first = c.args.first; base = c.args.base.now } in
    let count : c.len-2.result ≡ 30 + length c.args.base.now = omega (arith, c.len-2.ensures, c.deref.ensures.len, ap length c.deref.ensures.value, ap length c.in_ok-bytes.ensures, length-append (head_bytes head) (0 ∷ []), length-head_bytes head) in
    let cleared = c.in_ok-clear.ensures.cleared told in
    let written = cleared.2 ∙ ap (λ (images : Images). with_area c.args.area (cleared.0 ∷ []) images) (c.in_ok-reserve.ensures.still told).seen in
    let made = made_whole c.args.area head c.deref.result.now (cleared.0 ∷ []) (seen c.args.disk.now) (seen c.clear.new.disk) (seen c.fill.new.disk) (c.deref.ensures.value ∙ c.in_ok-bytes.ensures) written (c.in_ok-fill.ensures.filled told) in
    fresh_stands (record { area = c.args.area; gate = c.len-2.result }) head (seen c.args.disk.now) (seen c.fill.new.disk) (g.D.Disk.may_leave c.fill.new.disk) made (c.in_ok-fill.ensures.settled told) count
