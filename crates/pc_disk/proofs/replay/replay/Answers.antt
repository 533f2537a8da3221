use Rattle.pc_disk.proofs.ReplayLemmas.{AreWithin_at, Fits_more, call_fits-made, replay_made, replay_other}
use Rattle.std.proofs.Common.{arith}
use Rattle.pc_disk.proofs.replay.replay.Goals as goal

pub stand-requires : goal.stand-requires
stand-requires c = record {
  within = AreWithin_at _ c.args.notes.now c.loop-note.note-index _ c.loop-note-test.true c.requires.within;
  fits = call_fits-made _ c.args.pool.now c.args.notes.now c.loop-note.note-index _ c.loop-note-test.true (Fits_more _ _ _ c.loop-note.invariant.room c.requires.fits) c.in-Made.is;
}

pub loop-note-preserved : goal.loop-note-preserved
loop-note-preserved c = record {
  room = omega (arith, c.loop-note.invariant.room, c.stand.ensures.room);
  held = replay_made c.args.pool.now c.args.notes.now c.loop-note.note-index _ _ _ _ c.loop-note-test.true c.loop-note.invariant.held c.in-Made.is c.stand.ensures.held;
}

pub loop-note-preserved-in_default : goal.loop-note-preserved-in_default
loop-note-preserved-in_default c = record {
  room = c.loop-note.invariant.room;
  held = replay_other c.args.pool.now c.args.notes.now c.loop-note.note-index _ _ _ c.loop-note-test.true c.loop-note.invariant.held c.in_default.not-Made;
}
