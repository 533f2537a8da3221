use Rattle.std.proofs.Common.{sym, ap, ◌∙◌, nat_lt}
use Rattle.pc_cache.proofs.Taking.{place-there, place-new}
use Rattle.pc_cache.proofs.room.has_place.Goals as goal

pub returns-then-contains : goal.returns-then-contains
returns-then-contains c = c.if-contains.true ∙ sym (place-there c.args.mailbox.now c.args.mailboxes.now c.requires (sym c.contains.ensures ∙ c.if-contains.true))

pub returns-else-contains : goal.returns-else-contains
returns-else-contains c = ap (λ n. nat_lt n 32768) c.len.ensures ∙ place-new c.args.mailbox.now c.args.mailboxes.now (sym c.contains.ensures ∙ c.if-contains.false)
