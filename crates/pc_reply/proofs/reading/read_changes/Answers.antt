use Rattle.std.proofs.Common.{◌==◌, ◌+◌, List, map, take, ap, sym, subst, ◌∙◌}
use Rattle.std.specs.List.{list_any}
use Rattle.std.specs.BTreeSet.{contains}
use Rattle.std.specs.Ordering.{nat_cmp}
use Rattle.pc_message.specs.declared.descriptor.Change.{Change}
use Rattle.pc_reply.specs.Items.{AreChangeLines, uid_of}
use Rattle.pc_reply.proofs.ReadingLemmas.{read_on, knows_more, read_stops, only_memory, all_read}
use Rattle.pc_reply.proofs.reading.read_changes.Goals as goal

pub returns-in-Err-clause-items : goal.returns-in-Err-clause-items
returns-in-Err-clause-items c =
    read_stops c.loop-place.changes (contains nat_cmp c.loop-place.uids) c.loop-place.place c.as_slice-all.result.now c.args.lines.now c.in-Err.fault c.fault_behind.result c.as_slice-all.ensures c.loop-place.invariant.within c.loop-place.invariant.items c.loop-place.invariant.known c.in-Err.ensures.item c.fault_behind.ensures

pub returns-in-Err-clause-every : goal.returns-in-Err-clause-every
returns-in-Err-clause-every c = λ changes are.
    only_memory AreChangeLines c.args.lines.now c.fault_behind.result changes (returns-in-Err-clause-items c) are

pub loop-place-preserved : goal.loop-place-preserved
loop-place-preserved c =
    let l = c.loop-place in
    let all = c.as_slice-all.result.now in
    let on = read_on l.changes (contains nat_cmp l.uids) l.place c.in-Ok.read.1 all c.in-Ok.read.0 l.invariant.within l.invariant.items l.invariant.known c.in-Ok.ensures.item in
    let pushed = c.in-Ok-push.ensures.ok in
    let knows = knows_more (contains nat_cmp l.uids) (contains nat_cmp c.read_change.new.uids) l.changes c.in-Ok.read.0 l.invariant.known c.in-Ok.ensures.known in
    record {
      within = on.0;
      items = subst (λ (changes : List Change). AreChangeLines changes (take (l.place + c.in-Ok.read.1) all)) (sym pushed) on.1;
      known = λ uid. knows uid ∙ ap (λ (changes : List Change). list_any (λ other. other == uid) (map uid_of changes)) (sym pushed);
    }

pub returns-clause-every : goal.returns-clause-every
returns-clause-every c = λ changes are.
    all_read c.loop-place.changes changes c.loop-place.place c.as_slice-all.result.now c.args.lines.now c.as_slice-all.ensures c.loop-place-test.false c.loop-place.invariant.items are
