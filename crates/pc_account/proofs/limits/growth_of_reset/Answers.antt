use Rattle.std.proofs.Common.{sym, arith}
use Rattle.std.proofs.lemmas.Bool.{and_parts}
use Rattle.pc_account_history.specs.declared.entry.Entry.TheVariants.{ResetMailbox}
use Rattle.pc_account.proofs.Found.{not-dead}
use Rattle.pc_account_history.specs.Step.{reset_for}
use Rattle.pc_account.proofs.Changed.{listed-now, listed-after, listed-at, box-formed, listed-reset}
use Rattle.pc_account.proofs.limits.growth_of_reset.Goals as goal

pub returns-in-Some : goal.returns-in-Some
returns-in-Some c =
    let r = c.args.holdings.now.held in
    let number = c.args.holdings.now.next in
    let formed = c.requires.canonical.well_formed in
    let mailbox = c.args.mailbox.now in
    let box = c.in-Some.holder.now in
    let client = c.args.client.now in
    let now = listed-now r number formed in
    let then = listed-after r number formed (ResetMailbox client mailbox) c.requires.allowed in
    let at = listed-at r number formed mailbox (reset_for number client) box c.in-Some.ensures in
    let more = listed-reset number r.clients box (box-formed r number formed mailbox box c.in-Some.ensures) number client in
    let result = c.unlisted_of.ensures.unlisted in
    omega (arith, now, then, at, more, result)

pub returns-in-None : goal.returns-in-None
returns-in-None c = absurd (not-dead c.args.holdings.now.held c.args.mailbox.now (and_parts _ _ c.requires.allowed).1 (sym c.in-None.ensures))
