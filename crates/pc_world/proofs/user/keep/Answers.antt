use Rattle.std.proofs.Common.{rules}
use Rattle.pc_world.specs.Account.{history_of}
use Rattle.pc_world.proofs.Entries.{next_of, stands_more}
use Rattle.pc_world.proofs.user.keep.Goals as goal

pub apply-requires-clause-next : goal.apply-requires-clause-next
apply-requires-clause-next c =
    rw (next_of c.args.account.now c.args.entries.now.items c.requires.stands) (search rules)

pub returns-clause-stands : goal.returns-clause-stands
returns-clause-stands c =
    stands_more c.apply.new.self c.args.entries.now.items c.push.new.self.items c.args.entry
    (search rules)
    ((rw c.in-Ok.is at c.apply.ensures.history) (history_of c.args.entries.now.items) c.requires.stands)
