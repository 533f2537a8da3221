use Rattle.std.proofs.Common.{length}
use Rattle.pc_disk.specs.Images.{Torn, InArea}
use Rattle.pc_disk.specs.Deeds.{Write}
use Rattle.pc_disk.specs.MemoryLaws.{tears_same}
use Rattle.pc_disk.proofs.StepRuns.{called_on, stepped_on}
use Rattle.pc_disk.proofs.steps.put.Goals as goal

pub returns-in_default-clause-any_moment : goal.returns-in_default-clause-any_moment
returns-in_default-clause-any_moment g c told =
    let disk = g.D.Disk in
    called_on disk.moment disk.left_since c.args.disk.now c.write.new.self (InArea c.args.area (Torn c.args.at (length c.args.bytes.now)))
    (disk.may_leave c.args.disk.now) (disk.may_leave c.write.new.self)
    (λ images. tears_same (Write c.args.area c.args.at c.args.bytes.now) images) (g.met.D.Disk.only_now told c.args.disk.now)
    c.write.ensures.moment (c.write.ensures.time told) (c.write.ensures.crash told)

pub returns-in_default-sync-clause-any_moment : goal.returns-in_default-sync-clause-any_moment
returns-in_default-sync-clause-any_moment g c told =
    let disk = g.D.Disk in
    let step = InArea c.args.area (Torn c.args.at (length c.args.bytes.now)) in
    let called = called_on disk.moment disk.left_since c.args.disk.now c.write.new.self step (disk.may_leave c.args.disk.now) (disk.may_leave c.write.new.self)
    (λ images. tears_same (Write c.args.area c.args.at c.args.bytes.now) images) (g.met.D.Disk.only_now told c.args.disk.now) c.write.ensures.moment (c.write.ensures.time told) (c.write.ensures.crash told) in
    stepped_on disk.moment disk.left_since c.args.disk.now c.write.new.self c.sync.new.self step (disk.may_leave c.args.disk.now) (disk.may_leave c.write.new.self) (disk.may_leave c.sync.new.self)
    called (c.write.ensures.crash told) c.sync.ensures.moment (c.sync.ensures.time told) (c.sync.ensures.crash told)

pub returns-clause-any_moment : goal.returns-clause-any_moment
returns-clause-any_moment g c told =
    let disk = g.D.Disk in
    let step = InArea c.args.area (Torn c.args.at (length c.args.bytes.now)) in
    let called = called_on disk.moment disk.left_since c.args.disk.now c.write.new.self step (disk.may_leave c.args.disk.now) (disk.may_leave c.write.new.self)
    (λ images. tears_same (Write c.args.area c.args.at c.args.bytes.now) images) (g.met.D.Disk.only_now told c.args.disk.now) c.write.ensures.moment (c.write.ensures.time told) (c.write.ensures.crash told) in
    stepped_on disk.moment disk.left_since c.args.disk.now c.write.new.self c.sync.new.self step (disk.may_leave c.args.disk.now) (disk.may_leave c.write.new.self) (disk.may_leave c.sync.new.self)
    called (c.write.ensures.crash told) c.sync.ensures.moment (c.sync.ensures.time told) (c.sync.ensures.crash told)
