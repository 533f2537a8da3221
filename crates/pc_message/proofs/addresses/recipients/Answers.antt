use Rattle.std.proofs.Common.{length, sym, ap, ◌∙◌, arith}
use Rattle.std.proofs.lemmas.Result.{err_from_is_err_and}
use Rattle.pc_message.specs.Recipients.{addresses_of}
use Rattle.pc_message.proofs.Collected.{AreLeft-added, AreLeft-fault}
use Rattle.pc_message.proofs.Fields.{addresses_of-next, addresses_of-end}
use Rattle.pc_message.proofs.Outcomes.{AreCollected-all, Outcome-none, Outcome-many, Outcome-names, Outcome-fault}
use Rattle.pc_message.proofs.addresses.recipients.Goals as goal

pub returns-in_err-add_field : goal.returns-in_err-add_field
returns-in_err-add_field c =
    let names = c.add_field.new.names in
    let added = addresses_of-next _ _ _ _ c.in-Some.ensures in
    let p = err_from_is_err_and c.from_residual.result c.from_residual.ensures.1 in
    rw (p.1, p.2) (Outcome-fault (addresses_of c.args.message.now) names _ (AreLeft-fault _ _ _ _ _ _ names names _ c.loop-field.invariant added c.in_err-add_field.ensures))

pub loop-field-preserved : goal.loop-field-preserved
loop-field-preserved c =
    AreLeft-added _ _ _ _ _ _ _ c.loop-field.invariant (addresses_of-next _ _ _ _ c.in-Some.ensures) c.in_ok-add_field.ensures

pub returns-then-count-eq0 : goal.returns-then-count-eq0
returns-then-count-eq0 c =
    let all = AreCollected-all _ _ _ c.loop-field.invariant (addresses_of-end _ c.in_default.ensures) in
    Outcome-none _ _ _ all (sym (ap length c.as_slice-count.ensures) ∙ c.if-count-eq0.true) c.shown.ensures

pub returns-then-count-gt64 : goal.returns-then-count-gt64
returns-then-count-gt64 c =
    let all = AreCollected-all _ _ _ c.loop-field.invariant (addresses_of-end _ c.in_default.ensures) in
    Outcome-many _ _ all (omega (arith, ap length c.as_slice-count.ensures, c.if-count-gt64.true))

pub returns : goal.returns
returns c =
    let all = AreCollected-all _ _ _ c.loop-field.invariant (addresses_of-end _ c.in_default.ensures) in
    let same = ap length c.as_slice-count.ensures in
    Outcome-names _ _ all (λ none. c.if-count-eq0.false (same ∙ none)) (omega (arith, same, c.if-count-gt64.false))
