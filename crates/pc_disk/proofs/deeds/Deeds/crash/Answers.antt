use Rattle.pc_disk.proofs.ReplayLemmas.{AreWithin_take, AreWithin_drop, Fits_take, Fits_drop, Fits_more, crash_held}
use Rattle.std.proofs.Common.{ap, ◌∙◌}
use Rattle.pc_disk.specs.Deeds.{chosen}
use Rattle.pc_disk.specs.Notes.{Noted}
use Rattle.pc_disk.specs.Areas.{held}
use Rattle.pc_disk.proofs.deeds.Deeds.crash.Goals as goal

pub replay-requires-clause-within : goal.replay-requires-clause-within
replay-requires-clause-within c =
    rw (c.split_at.ensures.front, c.as_slice.ensures.value, c.deref.ensures.value) (AreWithin_take _ c.self.inside.settled c.self.inside.notes.items c.self.invariant.within)

pub replay-requires-clause-fits : goal.replay-requires-clause-fits
replay-requires-clause-fits c =
    rw (c.split_at.ensures.front, c.as_slice.ensures.value, c.deref.ensures.value)
    (Fits_take _ c.self.inside.pool.items c.self.inside.settled c.self.inside.notes.items (rw (ap (λ (noted : Noted). noted.deeds) c.self.view_is) c.requires))

pub pend-requires-clause-within : goal.pend-requires-clause-within
pend-requires-clause-within c =
    rw (c.split_at.ensures.back, c.as_slice.ensures.value, c.deref-2.ensures.value) (AreWithin_drop _ c.self.inside.settled c.self.inside.notes.items c.self.invariant.within)

pub pend-requires-clause-fits : goal.pend-requires-clause-fits
pend-requires-clause-fits c =
    rw (c.split_at.ensures.back, c.as_slice.ensures.value, c.deref-2.ensures.value)
    (Fits_more _ _ _ c.replay.ensures.room
    (Fits_drop _ c.self.inside.pool.items c.self.inside.settled c.self.inside.notes.items (rw (ap (λ (noted : Noted). noted.deeds) c.self.view_is) c.requires)))

pub returns-clause-held : goal.returns-clause-held
returns-clause-held c =
    crash_held c.args.choice c.self.inside.pool.items c.self.inside.notes.items c.self.inside.settled (held c.args.areas.now) (held c.replay.new.areas) (held c.pend.new.areas) c.self.invariant
    (rw (c.split_at.ensures.front, c.as_slice.ensures.value, c.deref.ensures.value) at c.replay.ensures.held)
    (rw (c.split_at.ensures.back, c.as_slice.ensures.value, c.deref-2.ensures.value) at c.pend.ensures.held)
    ∙ ap (λ (noted : Noted). chosen c.args.choice (held c.args.areas.now) noted.deeds) c.self.view_is
