use Rattle.pc_disk.specs.Images.{area_of}
use Rattle.pc_log.proofs.Finds.{finds_all}
use Rattle.pc_log.proofs.log.Log.open_log.Goals as goal

pub returns-clause-only : goal.returns-clause-only
returns-clause-only g c told head entries is =
    finds_all c.read_log.result c.args.area c.args.kind (area_of c.args.area (g.D.Disk.seen c.args.disk.now)) head entries (c.read_log.ensures.found told) (c.read_log.ensures.fault told) is
