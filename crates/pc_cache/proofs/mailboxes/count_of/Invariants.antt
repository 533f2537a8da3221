use Rattle.std.proofs.Common.{◌≡◌, ◌+◌, ◌%◌, ◌^◌}
use Rattle.pc_cache.specs.Mailboxes.{count_in}
use Rattle.pc_cache.proofs.mailboxes.count_of.Given as goal

-- what is counted, and what is still to come
abbrev pub invariant-loop-descriptors : goal.invariant-loop-descriptors
invariant-loop-descriptors l = (l.count + count_in l.descriptors-iterator) % 2 ^ 64 ≡ count_in l.initial.descriptors-iterator % 2 ^ 64
