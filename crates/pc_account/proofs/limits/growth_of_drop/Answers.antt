use Rattle.std.proofs.Common.{◌+◌, ◌∙◌, sym, ap}
use Rattle.std.proofs.lemmas.Bool.{and_parts}
use Rattle.pc_account.proofs.Found.{not-dead}
use Rattle.pc_account_history.specs.Known.{said_by}
use Rattle.pc_account_history.specs.Limits.{listed_count}
use Rattle.pc_account.proofs.Changed.{changes-dropped}
use Rattle.pc_account.proofs.limits.growth_of_drop.Goals as goal

pub returns-in-Some : goal.returns-in-Some
returns-in-Some c =
    let r = c.args.holdings.now.held in
    let number = c.args.holdings.now.next in
    let formed = c.requires.canonical.well_formed in
    let mailbox = c.args.mailbox.now in
    let box = c.in-Some.holder.now in
    changes-dropped r number formed mailbox box c.in-Some.ensures c.requires.allowed ∙ ap (λ n. listed_count (said_by r number) + n) (sym c.unlisted.ensures)

pub returns-in-None : goal.returns-in-None
returns-in-None c = absurd (not-dead c.args.holdings.now.held c.args.mailbox.now (and_parts _ _ c.requires.allowed).0 (sym c.in-None.ensures))
