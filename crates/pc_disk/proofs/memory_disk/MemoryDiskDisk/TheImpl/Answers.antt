use Rattle.std.proofs.Common.{rules}
use Rattle.pc_disk.specs.Deeds.{Write, Cut, Sync}
use Rattle.pc_disk.proofs.StateLemmas.{passed_follows, passed_elapses, synced_keeps, still_same}
use Rattle.pc_disk.proofs.memory_disk.MemoryDiskDisk.TheImpl.Goals as goal

pub write-tells : goal.write-tells
write-tells c = record {
  written = search rules;
  unwritten = search rules;
  crash = λ told. passed_follows (Write c.args.area c.args.at c.args.bytes.now) c.args.self.now c.new.self.now c.ensures.state;
  time = λ told. passed_elapses (Write c.args.area c.args.at c.args.bytes.now) c.args.self.now c.new.self.now c.ensures.state;
  moment = search rules;
  due = search rules;
  ahead = search rules;
  cause = c.ensures.cause;
  taken = search rules;
  spare_calls = search rules;
  spare_bytes = search rules;
}

pub cut-tells : goal.cut-tells
cut-tells c = record {
  cut = search rules;
  uncut = search rules;
  crash = λ told. passed_follows (Cut c.args.area c.args.to) c.args.self.now c.new.self.now c.ensures.state;
  time = λ told. passed_elapses (Cut c.args.area c.args.to) c.args.self.now c.new.self.now c.ensures.state;
  moment = search rules;
  due = search rules;
  ahead = search rules;
  cause = c.ensures.cause;
  taken = search rules;
  spare_calls = search rules;
  spare_bytes = search rules;
}

pub sync-tells : goal.sync-tells
sync-tells c = record {
  settled = search rules;
  seen = search rules;
  crash = λ told. synced_keeps c.args.self.now c.new.self.now c.ensures.state;
  same = search rules;
  time = λ told. passed_elapses Sync c.args.self.now c.new.self.now c.ensures.state;
  moment = search rules;
  due = search rules;
  ahead = search rules;
  cause = c.ensures.cause;
  taken = search rules;
  spare_calls = search rules;
  spare_bytes = search rules;
}

pub reserve-tells : goal.reserve-tells
reserve-tells c = record {
  calls = c.ensures.calls;
  bytes = c.ensures.bytes;
  still = λ told. still_same _ _ _ _ (search rules) (search rules);
  moment = search rules;
  ahead = search rules;
  cause = search rules;
  taken = search rules;
  spare_calls = c.ensures.spare_calls;
  spare_bytes = c.ensures.spare_bytes;
}
