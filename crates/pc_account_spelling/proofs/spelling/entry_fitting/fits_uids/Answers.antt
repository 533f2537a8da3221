use Rattle.std.proofs.Common.{arith}
use Rattle.pc_account_spelling.proofs.Fitting.{each-fits}
use Rattle.pc_account_spelling.proofs.spelling.entry_fitting.fits_uids.Goals as goal

pub returns-clause-each : goal.returns-clause-each
returns-clause-each c = each-fits c.args.uids.now (λ i. omega (arith, c.type_inv.uids i))
