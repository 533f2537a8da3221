use Rattle.std.proofs.Common.{ℕ, List, IsTrue, sym, subst, ◌∙◌, arith}
use Rattle.std.proofs.lemmas.List.{take_all}
use Rattle.std.specs.List.{list_all}
use Rattle.pc_fields.specs.Fitting.{is_u32}
use Rattle.pc_account_spelling.proofs.Fitting.{each-fits}
use Rattle.pc_account.proofs.forgetting.uids_of.Goals as goal

pub returns-clause-fits : goal.returns-clause-fits
returns-clause-fits c =
    let whole = c.loop-uid.invariant ∙ take_all c.loop-uid.uid-index c.args.all.now c.loop-uid-test.false in
    subst (λ (uids : List ℕ). IsTrue (list_all is_u32 uids)) (sym whole) (each-fits c.args.all.now (λ i. omega (arith, c.type_inv.all i)))
