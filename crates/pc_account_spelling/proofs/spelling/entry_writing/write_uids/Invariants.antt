use Rattle.std.proofs.Common.{◌≡◌, ◌++◌, map, drop}
use Rattle.std.specs.List.{concat}
use Rattle.pc_fields.specs.FieldBytes.{u32_field}
use Rattle.pc_account_spelling.proofs.spelling.entry_writing.write_uids.Given as goal

-- the uids that are left make the list whole
abbrev pub invariant-loop-uid : goal.invariant-loop-uid
invariant-loop-uid l = l.out ++ concat (map u32_field (drop l.uid-index l.uids)) ≡ l.fn.out ++ concat (map u32_field l.uids)
