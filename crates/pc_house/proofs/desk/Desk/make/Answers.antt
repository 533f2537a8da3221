use Rattle.pc_disk.specs.Images.{area_of}
use Rattle.pc_house.proofs.Enrolments.{device_ahead}
use Rattle.pc_house.proofs.desk.Desk.make.Goals as goal

pub returns-in-Err-clause-device : goal.returns-in-Err-clause-device
returns-in-Err-clause-device g c told few =
    device_ahead g.D.Disk.tells_due g.D.Disk.moment g.D.Disk.due c.args.disk c.in-Err.fault.disk c.in-Err.fault.cause (area_of 0 (g.D.Disk.seen c.args.disk)) (g.D.Disk.taken c.args.disk) few (c.in-Err.ensures.calls told) c.in-Err.ensures.due
