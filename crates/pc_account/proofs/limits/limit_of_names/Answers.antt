use Rattle.std.proofs.Common.{◌∙◌, sym, ap, arith, length, None}
use Rattle.pc_base.specs.declared.refusal.LimitWord.TheVariants.{Mailboxes}
use Rattle.pc_account_history.specs.declared.limits.TheConstants.{MOST_MAILBOXES}
use Rattle.pc_account.proofs.Found.{not-true}
use Rattle.pc_account.proofs.Passed.{some-limit, no-limit, above, not-above, names-again, names-more, within-names}
use Rattle.pc_account.proofs.limits.limit_of_names.Goals as goal

pub returns-then-is_dropped : goal.returns-then-is_dropped
returns-then-is_dropped c =
    let r = c.args.holdings.now.held in
    let names = names-again c.args.mailbox.now r.live r.dropped c.requires.canonical.well_formed.mailbox_names (not-true _ c.requires.allowed) (sym c.is_dropped.ensures ∙ c.if-is_dropped.true) in
    let room = within-names MOST_MAILBOXES r.live r.dropped c.requires.canonical.within.1.0 in
    no-limit _ Mailboxes None (not-above MOST_MAILBOXES _ (omega (arith, names, room)))

pub returns-then-count-ge-MOST_MAILBOXES : goal.returns-then-count-ge-MOST_MAILBOXES
returns-then-count-ge-MOST_MAILBOXES c =
    let r = c.args.holdings.now.held in
    let names = names-more c.args.mailbox.now r.live r.dropped (not-true _ c.requires.allowed) (sym c.is_dropped.ensures ∙ c.if-is_dropped.false) in
    let live = c.count.ensures ∙ ap length c.live.ensures in
    let dropped = c.count-2.ensures ∙ ap length c.dropped.ensures in
    let full = c.if-count-ge-MOST_MAILBOXES.true in
    some-limit _ Mailboxes None (above MOST_MAILBOXES _ (omega (arith, names, live, dropped, full)))

pub returns : goal.returns
returns c =
    let r = c.args.holdings.now.held in
    let names = names-more c.args.mailbox.now r.live r.dropped (not-true _ c.requires.allowed) (sym c.is_dropped.ensures ∙ c.if-is_dropped.false) in
    let live = c.count.ensures ∙ ap length c.live.ensures in
    let dropped = c.count-2.ensures ∙ ap length c.dropped.ensures in
    let room = c.if-count-ge-MOST_MAILBOXES.false in
    no-limit _ Mailboxes None (not-above MOST_MAILBOXES _ (omega (arith, names, live, dropped, room)))
