use Rattle.std.proofs.Common.{◌≡◌, take}
use Rattle.pc_account.specs.Plan.{all_taken}
use Rattle.pc_account.proofs.forgetting.taken_from.Given as goal

abbrev pub invariant-loop-listed : goal.invariant-loop-listed
invariant-loop-listed l = l.uids.items ≡ all_taken l.client l.mailbox l.low l.high (take l.listed-index l.shown)
