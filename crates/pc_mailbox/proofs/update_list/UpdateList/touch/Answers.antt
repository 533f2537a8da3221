use Rattle.std.proofs.Common.{◌≡◌, true, sym, ◌∙◌, subst, List, true≢false}
use Rattle.pc_account_history.specs.declared.kept.Listed.{Listed}
use Rattle.pc_mailbox.specs.UpdateList.{is_on}
use Rattle.pc_mailbox.proofs.Stamps.{IsList-placed, touched-placed, found-on, no_room}
use Rattle.pc_mailbox.proofs.update_list.UpdateList.touch.Goals as goal

pub invariant_of-self-2 : goal.invariant_of-self-2
invariant_of-self-2 c = rw (c.demote.ensures.entries, c.in_ok-put.ensures.entries) (IsList-placed c.self.inside.stamps c.args.uid c.args.at c.self.invariant (sym c.has_room.ensures ∙ c.if-not-has_room.false))

pub returns-clause-ok : goal.returns-clause-ok
returns-clause-ok c = rw (c.demote.ensures.entries, c.in_ok-put.ensures.entries, ← c.self.view_is) (touched-placed c.self.inside.stamps c.args.uid c.args.at c.self.invariant c.len-no_uid_twice.ensures.valid.0)

pub returns-then-not-has_room-clause-spare : goal.returns-then-not-has_room-clause-spare
returns-then-not-has_room-clause-spare c = λ on. no_room c.args.uid c.self.inside.stamps.entries (sym c.has_room.ensures ∙ c.if-not-has_room.true) (subst (λ (list : List Listed). is_on list c.args.uid ≡ true) (sym c.self.view_is) on)

pub returns-in_err-put-clause-spare : goal.returns-in_err-put-clause-spare
returns-in_err-put-clause-spare c = λ on. absurd (true≢false (sym (c.in_err-put.ensures.succeeds (found-on c.args.uid c.self.inside.stamps.entries (subst (λ (list : List Listed). is_on list c.args.uid ≡ true) (sym c.self.view_is) on)))))
