use Rattle.std.proofs.Common.{◌≡◌, ◌∙◌, sym, ap, subst, ℕ, List, nat_lt, None}
use Rattle.pc_base.specs.declared.refusal.LimitWord.TheVariants.{Changes}
use Rattle.pc_account_history.specs.declared.entry.Entry.{Entry}
use Rattle.pc_account_history.specs.declared.entry.Entry.TheVariants.{Pull}
use Rattle.pc_account_history.specs.declared.limits.TheConstants.{MOST_CHANGES}
use Rattle.pc_account_history.specs.Limits.{limit_passed}
use Rattle.pc_account_holdings.specs.State.{said}
use Rattle.pc_account.specs.Limits.{limit_where}
use Rattle.pc_account.proofs.limits.limit_passed.Goals as goal

pub returns-in-DropMailbox : goal.returns-in-DropMailbox
returns-in-DropMailbox c = subst (λ (entry : Entry). c.limit_of_changes.result ≡ limit_passed (said c.args.holdings.now) entry) (sym c.in-DropMailbox.is) (c.limit_of_changes.ensures ∙ ap (λ n. limit_where (nat_lt MOST_CHANGES n) Changes None) (sym c.growth_of_drop.ensures))

pub returns-in-Flag : goal.returns-in-Flag
returns-in-Flag c = subst (λ (entry : Entry). c.limit_of_changes-in-Flag.result ≡ limit_passed (said c.args.holdings.now) entry) (sym c.in-Flag.is) (c.limit_of_changes-in-Flag.ensures ∙ ap (λ n. limit_where (nat_lt MOST_CHANGES n) Changes None) (sym c.growth_of_flag.ensures))

pub returns-in-Expunge : goal.returns-in-Expunge
returns-in-Expunge c = subst (λ (entry : Entry). c.limit_of_changes-in-Expunge.result ≡ limit_passed (said c.args.holdings.now) entry) (sym c.in-Expunge.is) (c.limit_of_changes-in-Expunge.ensures ∙ ap (λ n. limit_where (nat_lt MOST_CHANGES n) Changes None) (sym c.growth_of_expunge.ensures))

pub returns-in-ResetClient : goal.returns-in-ResetClient
returns-in-ResetClient c = subst (λ (entry : Entry). c.limit_of_changes-in-ResetClient.result ≡ limit_passed (said c.args.holdings.now) entry) (sym c.in-ResetClient.is) (c.limit_of_changes-in-ResetClient.ensures ∙ ap (λ n. limit_where (nat_lt MOST_CHANGES n) Changes None) (sym c.growth_of_resets.ensures))

pub returns-in-ResetMailbox : goal.returns-in-ResetMailbox
returns-in-ResetMailbox c = subst (λ (entry : Entry). c.limit_of_changes-in-ResetMailbox.result ≡ limit_passed (said c.args.holdings.now) entry) (sym c.in-ResetMailbox.is) (c.limit_of_changes-in-ResetMailbox.ensures ∙ ap (λ n. limit_where (nat_lt MOST_CHANGES n) Changes None) (sym c.growth_of_reset.ensures))

pub returns-in-MakeClient : goal.returns-in-MakeClient
returns-in-MakeClient c = subst (λ (entry : Entry). c.limit_of_clients.result ≡ limit_passed (said c.args.holdings.now) entry) (sym c.in-MakeClient.is) c.limit_of_clients.ensures

pub returns-in-Copy : goal.returns-in-Copy
returns-in-Copy c = subst (λ (entry : Entry). c.limit_of_copied.result ≡ limit_passed (said c.args.holdings.now) entry) (sym c.in-Copy.is) c.limit_of_copied.ensures

pub returns-in-Pull : goal.returns-in-Pull
returns-in-Pull c = subst (λ (entry : Entry). c.limit_of_pull.result ≡ limit_passed (said c.args.holdings.now) entry) (sym c.in-Pull.is) (c.limit_of_pull.ensures ∙ ap (λ (letters : List (List ℕ × List (List ℕ))). limit_passed (said c.args.holdings.now) (Pull c.in-Pull.upto letters)) c.as_slice.ensures)
