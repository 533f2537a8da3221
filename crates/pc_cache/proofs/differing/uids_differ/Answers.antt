use Rattle.std.proofs.Common.{map, sym, ◌∙◌}
use Rattle.pc_cache_history.specs.Entry.{uid_of}
use Rattle.pc_cache.proofs.Apart.{rise-differ}
use Rattle.pc_cache.proofs.differing.uids_differ.Goals as goal

pub returns-then-uids_rise : goal.returns-then-uids_rise
returns-then-uids_rise c = sym (rise-differ 0 (map uid_of c.args.changes.now) (sym c.uids_rise.ensures ∙ c.if-uids_rise.true))
