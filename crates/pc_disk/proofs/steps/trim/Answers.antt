use Rattle.pc_disk.specs.Images.{TornCut, InArea}
use Rattle.pc_disk.specs.Deeds.{Cut}
use Rattle.pc_disk.specs.MemoryLaws.{tears_same}
use Rattle.pc_disk.proofs.StepRuns.{called_on, stepped_on}
use Rattle.pc_disk.proofs.steps.trim.Goals as goal

pub returns-in_default-clause-any_moment : goal.returns-in_default-clause-any_moment
returns-in_default-clause-any_moment g c told =
    let disk = g.D.Disk in
    called_on disk.moment disk.left_since c.args.disk.now c.cut.new.self (InArea c.args.area (TornCut c.args.to))
    (disk.may_leave c.args.disk.now) (disk.may_leave c.cut.new.self)
    (λ images. tears_same (Cut c.args.area c.args.to) images) (g.met.D.Disk.only_now told c.args.disk.now)
    c.cut.ensures.moment (c.cut.ensures.time told) (c.cut.ensures.crash told)

pub returns-in_default-sync-clause-any_moment : goal.returns-in_default-sync-clause-any_moment
returns-in_default-sync-clause-any_moment g c told =
    let disk = g.D.Disk in
    let step = InArea c.args.area (TornCut c.args.to) in
    let called = called_on disk.moment disk.left_since c.args.disk.now c.cut.new.self step (disk.may_leave c.args.disk.now) (disk.may_leave c.cut.new.self)
    (λ images. tears_same (Cut c.args.area c.args.to) images) (g.met.D.Disk.only_now told c.args.disk.now) c.cut.ensures.moment (c.cut.ensures.time told) (c.cut.ensures.crash told) in
    stepped_on disk.moment disk.left_since c.args.disk.now c.cut.new.self c.sync.new.self step (disk.may_leave c.args.disk.now) (disk.may_leave c.cut.new.self) (disk.may_leave c.sync.new.self)
    called (c.cut.ensures.crash told) c.sync.ensures.moment (c.sync.ensures.time told) (c.sync.ensures.crash told)

pub returns-clause-any_moment : goal.returns-clause-any_moment
returns-clause-any_moment g c told =
    let disk = g.D.Disk in
    let step = InArea c.args.area (TornCut c.args.to) in
    let called = called_on disk.moment disk.left_since c.args.disk.now c.cut.new.self step (disk.may_leave c.args.disk.now) (disk.may_leave c.cut.new.self)
    (λ images. tears_same (Cut c.args.area c.args.to) images) (g.met.D.Disk.only_now told c.args.disk.now) c.cut.ensures.moment (c.cut.ensures.time told) (c.cut.ensures.crash told) in
    stepped_on disk.moment disk.left_since c.args.disk.now c.cut.new.self c.sync.new.self step (disk.may_leave c.args.disk.now) (disk.may_leave c.cut.new.self) (disk.may_leave c.sync.new.self)
    called (c.cut.ensures.crash told) c.sync.ensures.moment (c.sync.ensures.time told) (c.sync.ensures.crash told)
