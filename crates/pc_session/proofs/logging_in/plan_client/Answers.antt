use Rattle.std.proofs.Common.{◌≡◌, true, Option, IfSome, subst}
use Rattle.pc_account_history.specs.declared.entry.Entry.{Entry}
use Rattle.pc_account_holdings.specs.State.{State}
use Rattle.pc_account_records.specs.Legal.{accepts}
use Rattle.pc_session.proofs.logging_in.plan_client.Goals as goal

pub returns-in-Some-clause-accepted : goal.returns-in-Some-clause-accepted
returns-in-Some-clause-accepted g c =
    let planned = subst (λ (plan : Option Entry). IfSome plan (λ entry. accepts c.account.result.now entry ≡ true)) c.in-Some.is c.in_ok-entry.ensures.accepted in
    subst (λ (state : State). accepts state c.in-Some.entry ≡ true) c.account.ensures.state planned
