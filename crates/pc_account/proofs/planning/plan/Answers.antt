use Rattle.std.proofs.Common.{List, sym, subst}
use Rattle.pc_base.specs.AskFault.{Tells}
use Rattle.pc_message.specs.declared.lists.Mail.{Mail}
use Rattle.pc_account_history.specs.declared.kept.Listed.{Listed}
use Rattle.pc_account.specs.declared.wish.Wish.{Wish}
use Rattle.pc_account.specs.declared.wish.Wish.TheVariants as wish
use Rattle.pc_account_holdings.specs.State.{said}
use Rattle.pc_account.specs.Plan.{planned}
use Rattle.pc_account.proofs.planning.plan.Goals as goal

pub returns-in-Forget-clause-exact : goal.returns-in-Forget-clause-exact
returns-in-Forget-clause-exact c =
    let k = said c.args.holdings.now in
    subst (λ (w : Wish). Tells (planned k w) c.forget.result) (sym c.in-Forget.is)
    (subst (λ (shown : List Listed). Tells (planned k (wish.Forget c.in-Forget.client c.in-Forget.mailbox c.in-Forget.low c.in-Forget.high shown)) c.forget.result) c.as_slice.ensures c.forget.ensures.told)

pub returns-in-Take-clause-exact : goal.returns-in-Take-clause-exact
returns-in-Take-clause-exact c =
    let k = said c.args.holdings.now in
    subst (λ (w : Wish). Tells (planned k w) c.take.result) (sym c.in-Take.is)
    (subst (λ (mails : List Mail). Tells (planned k (wish.Take mails c.in-Take.room)) c.take.result) c.as_slice-in-Take.ensures c.take.ensures.told)
