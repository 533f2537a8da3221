use Rattle.std.proofs.Common.{◌+◌, ◌∙◌, sym, ap}
use Rattle.pc_account_history.specs.Known.{said_by}
use Rattle.pc_account_history.specs.Limits.{listed_count}
use Rattle.pc_account.proofs.TableSums.{none-from}
use Rattle.pc_account.proofs.Found.{not-true}
use Rattle.pc_account.proofs.Changed.{changes-made}
use Rattle.pc_account.proofs.limits.growth_of_client.Goals as goal

pub returns : goal.returns
returns c =
    let r = c.args.holdings.now.held in
    let number = c.args.holdings.now.next in
    changes-made r number c.requires.canonical.well_formed c.args.client.now (none-from _ (not-true _ c.requires.allowed)) c.requires.allowed ∙ ap (λ n. listed_count (said_by r number) + n) (sym c.sum_of_counts.ensures)
