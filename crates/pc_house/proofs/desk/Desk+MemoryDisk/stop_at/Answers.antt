use Rattle.pc_disk.specs.Memory.{DiskState}
use Rattle.pc_house.proofs.Standing.{disk_desk, disk_view}
use Rattle.pc_house.proofs.desk.Desk+MemoryDisk.stop_at.Goals as goal

pub invariant_of-self : goal.invariant_of-self
invariant_of-self c =
    let inside = c.self.inside in
    disk_desk inside.user inside.store c.stop_at.new.self inside.base _ inside.drawn inside.sessions (λ (disk : DiskState). record disk { alarm = record disk.alarm { stopping = c.args.k; choice = c.args.choice } }) c.stop_at.ensures.state c.self.invariant

pub returns-clause-state : goal.returns-clause-state
returns-clause-state c =
    let inside = c.self.inside in
    disk_view inside.user inside.store c.stop_at.new.self inside.base _ inside.drawn inside.sessions (λ (disk : DiskState). record disk { alarm = record disk.alarm { stopping = c.args.k; choice = c.args.choice } }) c.stop_at.ensures.state c.args.self.now c.self.view_is
