use Rattle.pc_disk.proofs.ReplayLemmas.{AreWithin_at, Fits_more, call_fits, pend_done, pend_failed}
use Rattle.std.proofs.Common.{arith}
use Rattle.pc_disk.proofs.replay.pend.Goals as goal

pub stand-requires : goal.stand-requires
stand-requires c = record {
  within = AreWithin_at _ c.args.notes.now c.loop-note.note-index _ c.loop-note-test.true c.requires.within;
  fits = call_fits _ c.args.pool.now c.args.notes.now c.loop-note.note-index _ c.loop-note-test.true (Fits_more _ _ _ c.loop-note.invariant.room c.requires.fits) c.in_default.not-Failed;
}

pub loop-note-preserved-in-Failed : goal.loop-note-preserved-in-Failed
loop-note-preserved-in-Failed c = record {
  room = c.loop-note.invariant.room;
  held = pend_failed c.args.choice c.args.pool.now c.args.notes.now c.loop-note.note-index _ _ _ c.loop-note-test.true c.loop-note.invariant.held c.in-Failed.is;
}

pub loop-note-preserved : goal.loop-note-preserved
loop-note-preserved c = record {
  room = omega (arith, c.loop-note.invariant.room, c.stand.ensures.room);
  held = pend_done c.args.choice c.args.pool.now c.args.notes.now c.loop-note.note-index _ _ _ _ c.loop-note-test.true c.loop-note.invariant.held c.in_default.not-Failed c.stand.ensures.held;
}
