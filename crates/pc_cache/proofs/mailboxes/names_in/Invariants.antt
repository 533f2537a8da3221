use Rattle.std.proofs.Common.{◌≡◌, ◌++◌, drop}
use Rattle.std.specs.List.{filter}
use Rattle.pc_tables.specs.Table.{is_among}
use Rattle.pc_cache.proofs.mailboxes.names_in.Given as goal

-- those that were found, and those still to come
abbrev pub invariant-loop-name : goal.invariant-loop-name
invariant-loop-name l = l.found ++ filter (λ name. is_among name l.set) (drop l.name-index l.names) ≡ filter (λ name. is_among name l.set) l.names
