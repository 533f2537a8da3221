use Rattle.pc_disk.specs.Memory.{DiskState}
use Rattle.pc_house.proofs.Standing.{disk_desk, disk_view}
use Rattle.pc_house.proofs.desk.Desk+MemoryDisk.fail_at.Goals as goal

pub invariant_of-self : goal.invariant_of-self
invariant_of-self c =
    let inside = c.self.inside in
    disk_desk inside.user inside.store c.fail_at.new.self inside.base _ inside.drawn inside.sessions (λ (disk : DiskState). record disk { alarm = record disk.alarm { failing = c.args.k } }) c.fail_at.ensures.state c.self.invariant

pub returns-clause-state : goal.returns-clause-state
returns-clause-state c =
    let inside = c.self.inside in
    disk_view inside.user inside.store c.fail_at.new.self inside.base _ inside.drawn inside.sessions (λ (disk : DiskState). record disk { alarm = record disk.alarm { failing = c.args.k } }) c.fail_at.ensures.state c.args.self.now c.self.view_is
