use Rattle.std.proofs.Common.{◌∙◌, sym, ap, map}
use Rattle.pc_account_history.specs.declared.entry.Entry.TheVariants.{Pull}
use Rattle.pc_account_holdings.specs.State.{said}
use Rattle.pc_account.specs.Limits.{parcel_of, limit_of_parcels}
use Rattle.pc_account.proofs.Bringing.{limit-brought}
use Rattle.pc_account.proofs.Brought.{pull-brings}
use Rattle.pc_account.proofs.limits.limit_of_pull.Goals as goal

pub returns : goal.returns
returns c =
    let r = c.args.holdings.now.held in
    let number = c.args.holdings.now.next in
    let letters = c.args.letters.now in
    c.limit_of_parcels.ensures
    ∙ ap (limit_of_parcels (said c.args.holdings.now)) (c.as_slice.ensures.value ∙ c.of_letters.ensures)
    ∙ sym (limit-brought r number c.requires.canonical (Pull c.args.upto letters) (map parcel_of letters) (pull-brings r number c.args.upto letters c.requires.canonical.well_formed c.requires.allowed))
