use Rattle.std.proofs.Common.{◌≡◌, ◌∙◌, ℕ, ◌+◌, ◌<◌, ◌≤◌, List, [], ◌∷◌, ◌++◌, length, sym, ap, subst, arith, inl, inr, ⊎_elim}
use Rattle.pc_disk.specs.Images.{Images, area_of, other_of, InArea}
use Rattle.pc_disk.specs.Outcomes.{LeavesFirst, LeavesOnly}
use Rattle.pc_disk.specs.StepFaults.{LeadsOn}
use Rattle.pc_disk.proofs.Runs.{first_alone}
use Rattle.pc_store.specs.History.{StandsFor, written_of}
use Rattle.pc_store.specs.Current.{IsOlder}
use Rattle.pc_store.specs.Store.{StoreState}
use Rattle.pc_store.specs.Commit.{StandsWithOrWithout, StandsWithout, doubt_after}
use Rattle.pc_store.proofs.EntriesLemmas.{within}
use Rattle.pc_store.proofs.CommitLemmas.{history_legal, enters, run_either, run_first, other_kept, doubt_leaves, opens_after, first_due, sound_broken, sound_more, acknowledged_more, leaves_more, replay_more, pushed, then_some_doubt}
use Rattle.pc_store.proofs.SameLemmas.{Lawful}
use Rattle.pc_store.proofs.store.Store.enter.Goals as goal

pub apply-requires-clause-number : goal.apply-requires-clause-number
apply-requires-clause-number g c =
    let machine = g.M.Machine in
    let disk = g.D.Disk in
    let inside = c.self.inside in
    let old : StoreState g.row.M.Denot g.row.D.Denot g.row.M-Entry.Denot = record { disk = inside.disk; area = inside.log.area; head = record { kind = machine.KIND; generation = inside.generation; first = inside.first; base = inside.base }; trail = inside.trail.items; state = inside.state; broken = inside.is_broken; doubt = inside.doubt; renewal = inside.renewal } in
    let sound = c.self.invariant in
    let view = c.self.view_is in
    let entry = c.args.entry in
    let bytes = c.args.bytes.now in
    let known = enters machine disk.tells disk.seen disk.may_leave old c.args.self.now inside.log inside.bytes entry bytes sound view c.requires.allowed c.requires.whole c.requires.written c.requires.size c.requires.room in
    let laws = g.met.M.Machine in
    let legal = history_legal machine (record { fits = laws.allowed_fits; one = laws.one_entry; keeps = laws.step_is_legal; counts = laws.step_next; begins = laws.numbered_is_legal; numbered = laws.numbered_next; saved = laws.numbered_saved; entry_is_read = laws.entry_is_read; one_entry_fault = laws.one_entry_fault; one_record_fault = laws.one_record_fault; record_is_read = laws.record_is_read; one_record = laws.one_record }) old.head old.trail old.state known.follow.history in
    within (machine.next inside.state) (inside.first + length inside.trail.items) legal.numbered known.room

pub invariant_of-self-in-Err : goal.invariant_of-self-in-Err
invariant_of-self-in-Err g c =
    let machine = g.M.Machine in
    let disk = g.D.Disk in
    let inside = c.self.inside in
    let old : StoreState g.row.M.Denot g.row.D.Denot g.row.M-Entry.Denot = record { disk = inside.disk; area = inside.log.area; head = record { kind = machine.KIND; generation = inside.generation; first = inside.first; base = inside.base }; trail = inside.trail.items; state = inside.state; broken = inside.is_broken; doubt = inside.doubt; renewal = inside.renewal } in
    let sound = c.self.invariant in
    let view = c.self.view_is in
    let entry = c.args.entry in
    let bytes = c.args.bytes.now in
    let known = enters machine disk.tells disk.seen disk.may_leave old c.args.self.now inside.log inside.bytes entry bytes sound view c.requires.allowed c.requires.whole c.requires.written c.requires.size c.requires.room in
    let same : c.then_some.result ≡ doubt_after entry c.in-Err.fault.call = c.then_some.ensures ∙ then_some_doubt entry c.in-Err.fault.call in
    sound_broken machine disk.tells disk.seen disk.may_leave old inside.log c.append.new.self inside.bytes c.append.new.disk c.make_room.new.trail.items c.apply.new.self c.then_some.result inside.renewal sound c.in-Err.ensures.err c.make_room.ensures.items
    (λ told left may.
    let mid = c.make_room.new.disk in
    let new = c.append.new.disk in
    let entries = written_of machine inside.trail.items in
    let untouched = c.make_room.ensures.untouched in
    let stands = c.make_room.ensures.stands told old.head entries (sound.stands told known.whole) in
    let run = run_either machine disk.tells disk.seen disk.may_leave disk.moment disk.left_since old inside.log inside.bytes mid new entry bytes sound known.whole known.follow c.requires.written told (λ (left : Images) since. g.met.D.Disk.only_now told inside.disk left since) (untouched.still told) untouched.same_moment (c.in-Err.ensures.any_moment told old.head entries stands) in
    let without : Images → Type 0 = LeadsOn (InArea old.area (StandsWithout machine old.head old.trail)) (disk.may_leave inside.disk) in
    let either : Images → Type 0 = LeadsOn (InArea old.area (StandsWithOrWithout machine old.head old.trail entry)) (disk.may_leave inside.disk) in
    let first = run_first machine disk.tells disk.seen disk.may_leave disk.moment disk.left_since old inside.log inside.bytes mid new entry bytes sound known.whole known.follow c.requires.written told (λ (left : Images) since. g.met.D.Disk.only_now told inside.disk left since) (untouched.still told) untouched.same_moment (c.in-Err.ensures.first_two told old.head entries stands) in
    let run_early = λ (low : c.in-Err.fault.call ≤ 2). first_alone disk.moment disk.left_since 2 inside.disk new without either first (omega (arith, c.in-Err.ensures.calls, untouched.same_moment, low)) in
    let since = g.met.D.Disk.counts_now told new (disk.moment inside.disk) left run.later may in
    let opens = λ (trail : List g.row.M-Entry.Denot) (before : Images) (may : disk.may_leave inside.disk before) (there : other_of old.area left ≡ other_of old.area before) (stands : StandsFor machine old.head trail (area_of old.area left)).
    opens_after machine old.area old.head trail (disk.seen inside.disk) left sound.within (sound.older told known.whole) (there ∙ ap (other_of old.area) (sound.settled told known.whole before may)) stands in
    let led = run.each left since in
    doubt_leaves machine (record old { doubt = c.then_some.result }) entry c.in-Err.fault.call left same
    (λ low. let led = (run_early low).each left since in opens old.trail led.0 led.1 led.2.there led.2.here)
    (⊎_elim (λ without. inl (opens old.trail led.0 led.1 led.2.there without)) (λ whole. inr (opens (old.trail ++ entry ∷ []) led.0 led.1 led.2.there whole)) led.2.here))

pub returns-in-Err-clause-any_moment : goal.returns-in-Err-clause-any_moment
returns-in-Err-clause-any_moment g c told =
    let machine = g.M.Machine in
    let disk = g.D.Disk in
    let inside = c.self.inside in
    let old : StoreState g.row.M.Denot g.row.D.Denot g.row.M-Entry.Denot = record { disk = inside.disk; area = inside.log.area; head = record { kind = machine.KIND; generation = inside.generation; first = inside.first; base = inside.base }; trail = inside.trail.items; state = inside.state; broken = inside.is_broken; doubt = inside.doubt; renewal = inside.renewal } in
    let sound = c.self.invariant in
    let view = c.self.view_is in
    let entry = c.args.entry in
    let bytes = c.args.bytes.now in
    let known = enters machine disk.tells disk.seen disk.may_leave old c.args.self.now inside.log inside.bytes entry bytes sound view c.requires.allowed c.requires.whole c.requires.written c.requires.size c.requires.room in
    let mid = c.make_room.new.disk in
    let new = c.append.new.disk in
    let entries = written_of machine inside.trail.items in
    let untouched = c.make_room.ensures.untouched in
    let stands = c.make_room.ensures.stands told old.head entries (sound.stands told known.whole) in
    let run = run_either machine disk.tells disk.seen disk.may_leave disk.moment disk.left_since old inside.log inside.bytes mid new entry bytes sound known.whole known.follow c.requires.written told (λ (left : Images) since. g.met.D.Disk.only_now told inside.disk left since) (untouched.still told) untouched.same_moment (c.in-Err.ensures.any_moment told old.head entries stands) in
    subst (λ (s : StoreState g.row.M.Denot g.row.D.Denot g.row.M-Entry.Denot). LeavesOnly disk.moment disk.left_since s.disk new (LeadsOn (InArea s.area (StandsWithOrWithout machine s.head s.trail entry)) (disk.may_leave s.disk))) view run

pub returns-in-Err-clause-first_two : goal.returns-in-Err-clause-first_two
returns-in-Err-clause-first_two g c told =
    let machine = g.M.Machine in
    let disk = g.D.Disk in
    let inside = c.self.inside in
    let old : StoreState g.row.M.Denot g.row.D.Denot g.row.M-Entry.Denot = record { disk = inside.disk; area = inside.log.area; head = record { kind = machine.KIND; generation = inside.generation; first = inside.first; base = inside.base }; trail = inside.trail.items; state = inside.state; broken = inside.is_broken; doubt = inside.doubt; renewal = inside.renewal } in
    let sound = c.self.invariant in
    let view = c.self.view_is in
    let entry = c.args.entry in
    let bytes = c.args.bytes.now in
    let known = enters machine disk.tells disk.seen disk.may_leave old c.args.self.now inside.log inside.bytes entry bytes sound view c.requires.allowed c.requires.whole c.requires.written c.requires.size c.requires.room in
    let mid = c.make_room.new.disk in
    let new = c.append.new.disk in
    let entries = written_of machine inside.trail.items in
    let untouched = c.make_room.ensures.untouched in
    let stands = c.make_room.ensures.stands told old.head entries (sound.stands told known.whole) in
    let first = run_first machine disk.tells disk.seen disk.may_leave disk.moment disk.left_since old inside.log inside.bytes mid new entry bytes sound known.whole known.follow c.requires.written told (λ (left : Images) since. g.met.D.Disk.only_now told inside.disk left since) (untouched.still told) untouched.same_moment (c.in-Err.ensures.first_two told old.head entries stands) in
    subst (λ (s : StoreState g.row.M.Denot g.row.D.Denot g.row.M-Entry.Denot). LeavesFirst disk.moment disk.left_since 2 s.disk new (LeadsOn (InArea s.area (StandsWithout machine s.head s.trail)) (disk.may_leave s.disk)) (LeadsOn (InArea s.area (StandsWithOrWithout machine s.head s.trail entry)) (disk.may_leave s.disk))) view first

pub returns-in-Err-clause-other_area : goal.returns-in-Err-clause-other_area
returns-in-Err-clause-other_area g c told =
    let machine = g.M.Machine in
    let disk = g.D.Disk in
    let inside = c.self.inside in
    let old : StoreState g.row.M.Denot g.row.D.Denot g.row.M-Entry.Denot = record { disk = inside.disk; area = inside.log.area; head = record { kind = machine.KIND; generation = inside.generation; first = inside.first; base = inside.base }; trail = inside.trail.items; state = inside.state; broken = inside.is_broken; doubt = inside.doubt; renewal = inside.renewal } in
    let sound = c.self.invariant in
    let view = c.self.view_is in
    let entry = c.args.entry in
    let bytes = c.args.bytes.now in
    let known = enters machine disk.tells disk.seen disk.may_leave old c.args.self.now inside.log inside.bytes entry bytes sound view c.requires.allowed c.requires.whole c.requires.written c.requires.size c.requires.room in
    let mid = c.make_room.new.disk in
    let new = c.append.new.disk in
    let entries = written_of machine inside.trail.items in
    let untouched = c.make_room.ensures.untouched in
    let stands = c.make_room.ensures.stands told old.head entries (sound.stands told known.whole) in
    let run = run_either machine disk.tells disk.seen disk.may_leave disk.moment disk.left_since old inside.log inside.bytes mid new entry bytes sound known.whole known.follow c.requires.written told (λ (left : Images) since. g.met.D.Disk.only_now told inside.disk left since) (untouched.still told) untouched.same_moment (c.in-Err.ensures.any_moment told old.head entries stands) in
    let here = g.met.D.Disk.counts_now told new (disk.moment inside.disk) (disk.seen new) run.later (g.met.D.Disk.present told new) in
    subst (λ (s : StoreState g.row.M.Denot g.row.D.Denot g.row.M-Entry.Denot). other_of s.area (disk.seen new) ≡ other_of s.area (disk.seen s.disk)) view
    (other_kept disk.seen disk.may_leave disk.moment disk.left_since inside.disk new old.area (StandsWithOrWithout machine old.head old.trail entry) run (sound.settled told known.whole) here)

pub returns-in-Err-clause-due : goal.returns-in-Err-clause-due
returns-in-Err-clause-due g c told =
    let disk = g.D.Disk in
    let old = c.self.inside.disk in
    let mid = c.make_room.new.disk in
    let new = c.append.new.disk in
    let untouched = c.make_room.ensures.untouched in
    let fails = first_due (disk.due old) (disk.due mid) (disk.moment old) (disk.moment mid) (disk.moment new) c.in-Err.fault.call untouched.same_moment (untouched.ahead told) c.in-Err.ensures.calls (c.in-Err.ensures.due told) in
    subst (λ (s : StoreState g.row.M.Denot g.row.D.Denot g.row.M-Entry.Denot). (last : ℕ) × (disk.moment new ≡ disk.moment s.disk + last + 1) × disk.due s.disk (disk.moment s.disk + last) × ((k : ℕ) → k < last → disk.due s.disk (disk.moment s.disk + k) → ⊥)) c.self.view_is fails

pub invariant_of-self-2 : goal.invariant_of-self-2
invariant_of-self-2 g c =
    let machine = g.M.Machine in
    let disk = g.D.Disk in
    let inside = c.self.inside in
    let old : StoreState g.row.M.Denot g.row.D.Denot g.row.M-Entry.Denot = record { disk = inside.disk; area = inside.log.area; head = record { kind = machine.KIND; generation = inside.generation; first = inside.first; base = inside.base }; trail = inside.trail.items; state = inside.state; broken = inside.is_broken; doubt = inside.doubt; renewal = inside.renewal } in
    let sound = c.self.invariant in
    let view = c.self.view_is in
    let entry = c.args.entry in
    let bytes = c.args.bytes.now in
    let known = enters machine disk.tells disk.seen disk.may_leave old c.args.self.now inside.log inside.bytes entry bytes sound view c.requires.allowed c.requires.whole c.requires.written c.requires.size c.requires.room in
    let mid = c.make_room.new.disk in
    let new = c.append.new.disk in
    let entries = written_of machine inside.trail.items in
    let more = pushed inside.trail.items c.make_room.new.trail.items c.push.new.self.items entry c.make_room.ensures.items c.in-Ok-push.ensures.items in
    let stand = λ (told : disk.tells). c.in_default-append.ensures.stands told old.head entries (c.make_room.ensures.stands told old.head entries (sound.stands told known.whole)) in
    sound_more machine disk.tells disk.seen disk.may_leave old inside.log c.append.new.self inside.bytes (inside.bytes + length c.as_slice.result.now) new entry bytes c.push.new.self.items c.apply.new.self sound known.whole known.follow c.requires.written
    c.in_default-append.ensures.area (ap (λ (xs : List ℕ). inside.bytes + length xs) c.as_slice.ensures) more c.in-Ok.ensures stand (λ (told : disk.tells). c.in_default-append.ensures.settled told)
    (λ (told : disk.tells). c.in_default-append.ensures.other_area told ∙ ap (other_of inside.log.area) (c.make_room.ensures.untouched.still told).seen)

pub returns-clause-acknowledged : goal.returns-clause-acknowledged
returns-clause-acknowledged g c told =
    let machine = g.M.Machine in
    let disk = g.D.Disk in
    let inside = c.self.inside in
    let old : StoreState g.row.M.Denot g.row.D.Denot g.row.M-Entry.Denot = record { disk = inside.disk; area = inside.log.area; head = record { kind = machine.KIND; generation = inside.generation; first = inside.first; base = inside.base }; trail = inside.trail.items; state = inside.state; broken = inside.is_broken; doubt = inside.doubt; renewal = inside.renewal } in
    let sound = c.self.invariant in
    let view = c.self.view_is in
    let entry = c.args.entry in
    let bytes = c.args.bytes.now in
    let known = enters machine disk.tells disk.seen disk.may_leave old c.args.self.now inside.log inside.bytes entry bytes sound view c.requires.allowed c.requires.whole c.requires.written c.requires.size c.requires.room in
    let mid = c.make_room.new.disk in
    let new = c.append.new.disk in
    let entries = written_of machine inside.trail.items in
    let more = pushed inside.trail.items c.make_room.new.trail.items c.push.new.self.items entry c.make_room.ensures.items c.in-Ok-push.ensures.items in
    let stand = λ (told : disk.tells). c.in_default-append.ensures.stands told old.head entries (c.make_room.ensures.stands told old.head entries (sound.stands told known.whole)) in
    let there = c.in_default-append.ensures.other_area told ∙ ap (other_of inside.log.area) (c.make_room.ensures.untouched.still told).seen in
    let older = subst (λ (xs : List ℕ). IsOlder machine.KIND old.head.generation xs) (sym there) (sound.older told known.whole) in
    acknowledged_more machine disk.seen disk.may_leave old c.append.new.self new entry bytes c.push.new.self.items c.apply.new.self known.follow c.requires.written (c.in_default-append.ensures.area ∙ sound.in_area) sound.within older more (stand told) (c.in_default-append.ensures.settled told)

pub returns-clause-any_moment : goal.returns-clause-any_moment
returns-clause-any_moment g c told =
    let machine = g.M.Machine in
    let disk = g.D.Disk in
    let inside = c.self.inside in
    let old : StoreState g.row.M.Denot g.row.D.Denot g.row.M-Entry.Denot = record { disk = inside.disk; area = inside.log.area; head = record { kind = machine.KIND; generation = inside.generation; first = inside.first; base = inside.base }; trail = inside.trail.items; state = inside.state; broken = inside.is_broken; doubt = inside.doubt; renewal = inside.renewal } in
    let sound = c.self.invariant in
    let view = c.self.view_is in
    let entry = c.args.entry in
    let bytes = c.args.bytes.now in
    let known = enters machine disk.tells disk.seen disk.may_leave old c.args.self.now inside.log inside.bytes entry bytes sound view c.requires.allowed c.requires.whole c.requires.written c.requires.size c.requires.room in
    let mid = c.make_room.new.disk in
    let new = c.append.new.disk in
    let entries = written_of machine inside.trail.items in
    let untouched = c.make_room.ensures.untouched in
    let stands = c.make_room.ensures.stands told old.head entries (sound.stands told known.whole) in
    let run = run_either machine disk.tells disk.seen disk.may_leave disk.moment disk.left_since old inside.log inside.bytes mid new entry bytes sound known.whole known.follow c.requires.written told (λ (left : Images) since. g.met.D.Disk.only_now told inside.disk left since) (untouched.still told) untouched.same_moment (c.in_default-append.ensures.any_moment told old.head entries stands) in
    subst (λ (s : StoreState g.row.M.Denot g.row.D.Denot g.row.M-Entry.Denot). LeavesOnly disk.moment disk.left_since s.disk new (LeadsOn (InArea s.area (StandsWithOrWithout machine s.head s.trail entry)) (disk.may_leave s.disk))) view run

pub returns-clause-replay : goal.returns-clause-replay
returns-clause-replay g c =
    let machine = g.M.Machine in
    let disk = g.D.Disk in
    let inside = c.self.inside in
    let old : StoreState g.row.M.Denot g.row.D.Denot g.row.M-Entry.Denot = record { disk = inside.disk; area = inside.log.area; head = record { kind = machine.KIND; generation = inside.generation; first = inside.first; base = inside.base }; trail = inside.trail.items; state = inside.state; broken = inside.is_broken; doubt = inside.doubt; renewal = inside.renewal } in
    let sound = c.self.invariant in
    let view = c.self.view_is in
    let entry = c.args.entry in
    let bytes = c.args.bytes.now in
    let known = enters machine disk.tells disk.seen disk.may_leave old c.args.self.now inside.log inside.bytes entry bytes sound view c.requires.allowed c.requires.whole c.requires.written c.requires.size c.requires.room in
    let mid = c.make_room.new.disk in
    let new = c.append.new.disk in
    let entries = written_of machine inside.trail.items in
    let more = pushed inside.trail.items c.make_room.new.trail.items c.push.new.self.items entry c.make_room.ensures.items c.in-Ok-push.ensures.items in
    let laws = g.met.M.Machine in
    let lawful : Lawful machine = record { fits = laws.allowed_fits; one = laws.one_entry; keeps = laws.step_is_legal; counts = laws.step_next; begins = laws.numbered_is_legal; numbered = laws.numbered_next; saved = laws.numbered_saved; entry_is_read = laws.entry_is_read; one_entry_fault = laws.one_entry_fault; one_record_fault = laws.one_record_fault; record_is_read = laws.record_is_read; one_record = laws.one_record } in
    replay_more machine lawful old.head old.trail c.push.new.self.items old.state c.apply.new.self entry known.follow more c.in-Ok.ensures

pub returns-clause-leaves : goal.returns-clause-leaves
returns-clause-leaves g c =
    let machine = g.M.Machine in
    let disk = g.D.Disk in
    let inside = c.self.inside in
    let old : StoreState g.row.M.Denot g.row.D.Denot g.row.M-Entry.Denot = record { disk = inside.disk; area = inside.log.area; head = record { kind = machine.KIND; generation = inside.generation; first = inside.first; base = inside.base }; trail = inside.trail.items; state = inside.state; broken = inside.is_broken; doubt = inside.doubt; renewal = inside.renewal } in
    let sound = c.self.invariant in
    let view = c.self.view_is in
    let entry = c.args.entry in
    let bytes = c.args.bytes.now in
    let known = enters machine disk.tells disk.seen disk.may_leave old c.args.self.now inside.log inside.bytes entry bytes sound view c.requires.allowed c.requires.whole c.requires.written c.requires.size c.requires.room in
    let mid = c.make_room.new.disk in
    let new = c.append.new.disk in
    let entries = written_of machine inside.trail.items in
    let more = pushed inside.trail.items c.make_room.new.trail.items c.push.new.self.items entry c.make_room.ensures.items c.in-Ok-push.ensures.items in
    leaves_more machine old c.args.self.now c.next-number.result entry new c.append.new.self.area c.push.new.self.items c.apply.new.self view c.next-number.ensures.value (sound.no_doubt known.whole) c.in_default-append.ensures.area more c.in-Ok.ensures

pub returns-clause-first_two : goal.returns-clause-first_two
returns-clause-first_two g c told =
    let machine = g.M.Machine in
    let disk = g.D.Disk in
    let inside = c.self.inside in
    let old : StoreState g.row.M.Denot g.row.D.Denot g.row.M-Entry.Denot = record { disk = inside.disk; area = inside.log.area; head = record { kind = machine.KIND; generation = inside.generation; first = inside.first; base = inside.base }; trail = inside.trail.items; state = inside.state; broken = inside.is_broken; doubt = inside.doubt; renewal = inside.renewal } in
    let sound = c.self.invariant in
    let view = c.self.view_is in
    let entry = c.args.entry in
    let bytes = c.args.bytes.now in
    let known = enters machine disk.tells disk.seen disk.may_leave old c.args.self.now inside.log inside.bytes entry bytes sound view c.requires.allowed c.requires.whole c.requires.written c.requires.size c.requires.room in
    let mid = c.make_room.new.disk in
    let new = c.append.new.disk in
    let entries = written_of machine inside.trail.items in
    let untouched = c.make_room.ensures.untouched in
    let stands = c.make_room.ensures.stands told old.head entries (sound.stands told known.whole) in
    let first = run_first machine disk.tells disk.seen disk.may_leave disk.moment disk.left_since old inside.log inside.bytes mid new entry bytes sound known.whole known.follow c.requires.written told (λ (left : Images) since. g.met.D.Disk.only_now told inside.disk left since) (untouched.still told) untouched.same_moment (c.in_default-append.ensures.first_two told old.head entries stands) in
    subst (λ (s : StoreState g.row.M.Denot g.row.D.Denot g.row.M-Entry.Denot). LeavesFirst disk.moment disk.left_since 2 s.disk new (LeadsOn (InArea s.area (StandsWithout machine s.head s.trail)) (disk.may_leave s.disk)) (LeadsOn (InArea s.area (StandsWithOrWithout machine s.head s.trail entry)) (disk.may_leave s.disk))) view first
