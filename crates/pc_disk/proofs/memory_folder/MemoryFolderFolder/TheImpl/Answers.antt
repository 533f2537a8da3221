use Rattle.std.proofs.Common.{rules}
use Rattle.pc_disk.specs.Folder.{standing}
use Rattle.pc_disk.specs.FolderLaws.{standing-put, standing-without}
use Rattle.pc_disk.proofs.FolderLemmas.{all_handed, all_due_alike, others_taken, others_given}
use Rattle.pc_disk.proofs.memory_folder.MemoryFolderFolder.TheImpl.Goals as goal

pub take-tells : goal.take-tells
take-tells c = record {
  handed = λ _ _. all_handed c.result (standing c.args.name.now c.args.self.now.disks) c.ensures.disk;
  due = λ _ _. all_due_alike c.result (standing c.args.name.now c.args.self.now.disks) c.ensures.disk;
  gone = search (rules, standing-without c.args.name.now c.args.self.now.disks);
  others = λ _. others_taken c.result c.args.name.now c.args.self.now c.new.self.now c.ensures.taken c.ensures.refused;
  kept = search rules;
  calm = search rules;
  cause = c.ensures.cause;
}

pub back-tells : goal.back-tells
back-tells c = record {
  stands = search (rules, standing-put);
  others = λ _. others_given c.args.name.now c.args.disk c.args.self.now c.new.self.now c.ensures;
  counted = search rules;
}
