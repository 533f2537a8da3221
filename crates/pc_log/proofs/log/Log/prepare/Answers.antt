use Rattle.pc_log.specs.Logs.{stands-still}
use Rattle.pc_log.proofs.log.Log.prepare.Goals as goal

pub returns-clause-stands : goal.returns-clause-stands
returns-clause-stands g c told head entries stands =
    let disk = g.D.Disk in
    let old = c.args.disk.now in
    let new = c.reserve.new.self in
    stands-still c.args.self.now head entries (disk.seen old) (disk.seen new) (disk.may_leave old) (disk.may_leave new) (disk.left_since old) (disk.left_since new) (c.reserve.ensures.still told) stands
