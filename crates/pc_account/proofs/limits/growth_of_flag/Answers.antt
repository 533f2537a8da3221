use Rattle.std.proofs.Common.{◌∙◌, sym, ap, arith, is_some, true≢false}
use Rattle.std.proofs.lemmas.Bool.{and_parts}
use Rattle.pc_account_history.specs.declared.entry.Entry.TheVariants.{Flag}
use Rattle.pc_tables.proofs.Options.{some-from_map_or}
use Rattle.pc_account_history.proofs.Mailboxes.{lives-from_kept}
use Rattle.pc_account.proofs.Touched.{takers-few}
use Rattle.pc_account.proofs.Found.{clients-counted}
use Rattle.pc_account_history.specs.Step.{with_flag_set}
use Rattle.pc_account.proofs.Changed.{listed-now, listed-after, listed-at, box-formed, lists-counted, listed-flag}
use Rattle.pc_account.proofs.limits.growth_of_flag.Goals as goal

pub returns-in-Some : goal.returns-in-Some
returns-in-Some c =
    let r = c.args.holdings.now.held in
    let number = c.args.holdings.now.next in
    let formed = c.requires.canonical.well_formed in
    let mailbox = c.args.mailbox.now in
    let box = c.in-Some.holder.now in
    let now = listed-now r number formed in
    let then = listed-after r number formed (Flag mailbox c.args.uid c.args.flag c.args.on) c.requires.allowed in
    let at = listed-at r number formed mailbox (with_flag_set number c.args.uid c.args.flag c.args.on) box c.in-Some.ensures in
    let more = listed-flag number r.clients box (box-formed r number formed mailbox box c.in-Some.ensures) number c.args.uid c.args.flag c.args.on in
    let takers = c.takers.ensures in
    let clients = clients-counted c.clients.result.now.entries r.clients c.len-clients.result c.clients.ensures c.len-clients.ensures.len in
    let few = takers-few c.args.uid box.lists in
    let count = lists-counted number r.clients box (box-formed r number formed mailbox box c.in-Some.ensures) in
    omega (arith, now, then, at, more, takers, clients, few, count)

pub returns-in-None : goal.returns-in-None
returns-in-None c =
    let r = c.args.holdings.now.held in
    let number = c.args.holdings.now.next in
    let formed = c.requires.canonical.well_formed in
    let lives = some-from_map_or _ _ (and_parts _ _ c.requires.allowed).1 in
    let found = lives-from_kept r number c.args.uid c.args.mailbox.now formed lives in
    absurd (true≢false (sym found ∙ ap is_some (sym c.in-None.ensures)))

pub overflow_sub-result : goal.overflow_sub-result
overflow_sub-result c =
    let r = c.args.holdings.now.held in
    let number = c.args.holdings.now.next in
    let box = c.in-Some.holder.now in
    let takers = c.takers.ensures in
    let clients = clients-counted c.clients.result.now.entries r.clients c.len-clients.result c.clients.ensures c.len-clients.ensures.len in
    let few = takers-few c.args.uid box.lists in
    let count = lists-counted number r.clients box (box-formed r number c.requires.canonical.well_formed c.args.mailbox.now box c.in-Some.ensures) in
    omega (arith, takers, clients, few, count)
