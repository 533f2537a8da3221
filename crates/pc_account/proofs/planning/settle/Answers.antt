use Rattle.std.proofs.Common.{◌≡◌, ◌∙◌, sym, ap, subst, true}
use Rattle.pc_account_history.specs.declared.entry.Entry.{Entry}
use Rattle.pc_account_history.specs.Allowed.{is_allowed}
use Rattle.pc_account_history.specs.Limits.{limit_passed}
use Rattle.pc_account_holdings.specs.State.{said}
use Rattle.pc_account.proofs.Settling.{settled-limit, settled-entry, settled-allowed}
use Rattle.pc_account.proofs.planning.settle.Goals as goal

pub limit_passed-requires-clause-allowed : goal.limit_passed-requires-clause-allowed
limit_passed-requires-clause-allowed c =
    let k = said c.args.holdings.now in
    subst (λ (entry : Entry). is_allowed k entry ≡ true) (sym (c.entry-entry.ensures.entry k)) (settled-allowed k c.args.wish.now c.requires.wish c.in_default.ensures (sym c.if-holds.ensures))

pub returns-in-Some-limit_passed-clause-exact : goal.returns-in-Some-limit_passed-clause-exact
returns-in-Some-limit_passed-clause-exact c =
    let k = said c.args.holdings.now in
    settled-limit k c.args.wish.now c.in-Some-limit_passed.limit c.in_default.ensures (sym c.if-holds.ensures) (c.in-Some-limit_passed.ensures ∙ ap (λ (entry : Entry). limit_passed k entry) (c.entry-entry.ensures.entry k))

pub returns-clause-exact : goal.returns-clause-exact
returns-clause-exact c =
    let k = said c.args.holdings.now in
    settled-entry k c.args.wish.now c.entry-entry.result c.in_default.ensures (sym c.if-holds.ensures) (c.in_default-limit_passed.ensures ∙ ap (λ (entry : Entry). limit_passed k entry) (c.entry-entry.ensures.entry k)) (c.entry-entry.ensures.entry k)
