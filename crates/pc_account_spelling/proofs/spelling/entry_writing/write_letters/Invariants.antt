use Rattle.std.proofs.Common.{◌≡◌, ◌++◌, drop}
use Rattle.std.specs.List.{flat_map, concat}
use Rattle.pc_account_spelling.specs.Spelling.{letter_fields}
use Rattle.pc_account_spelling.proofs.spelling.entry_writing.write_letters.Given as goal

-- the letters that are left make the list whole
abbrev pub invariant-loop-letter : goal.invariant-loop-letter
invariant-loop-letter l = l.out ++ concat (flat_map letter_fields (drop l.letter-index l.letters)) ≡ l.fn.out ++ concat (flat_map letter_fields l.letters)
