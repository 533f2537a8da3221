use Rattle.std.proofs.Common.{◌≡◌, take, length}
use Rattle.pc_mailbox.specs.UpdateList.{IsList}
use Rattle.pc_mailbox.proofs.update_list.UpdateList.cut.Given as goal

abbrev pub invariant-loop-self : goal.invariant-loop-self
invariant-loop-self l = record { list : IsList l.self-inside.stamps; front : take l.count l.self-inside.stamps.entries ≡ take l.count l.initial.self-inside.stamps.entries }

abbrev pub decreases-loop-self : goal.decreases-loop-self
decreases-loop-self l = length l.self-inside.stamps.entries
