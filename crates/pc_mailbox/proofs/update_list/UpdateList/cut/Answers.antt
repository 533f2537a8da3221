use Rattle.std.proofs.Common.{◌≤◌, length, arith}
use Rattle.pc_mailbox.proofs.Stamps.{cut-front}
use Rattle.pc_mailbox.proofs.update_list.UpdateList.cut.Goals as goal

pub returns : goal.returns
returns c =
    let short : length c.loop-self.self-inside.stamps.entries ≤ c.args.count = let n = c.len.ensures.len in let t = c.loop-self-test.false in omega (arith, n, t) in
    rw (← c.self.view_is) (cut-front c.args.count c.loop-self.self-inside.stamps.entries c.self.inside.stamps.entries c.loop-self.invariant.front short)
