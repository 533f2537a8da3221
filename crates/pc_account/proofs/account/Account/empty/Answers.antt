use Rattle.std.proofs.Common.{subst, sym, arith}
use Rattle.pc_account_history.specs.History.{new_account}
use Rattle.pc_account_holdings.specs.State.{State, StandsFor, new_state}
use Rattle.pc_account_records.specs.Recorded.{begin_is_canonical, begin_suits}
use Rattle.pc_account_records.specs.Renumbered.{canonical_numbered}
use Rattle.pc_account.proofs.Standing.{stands-base}
use Rattle.pc_account.proofs.account.Account.empty.Goals as goal

pub returns-clause-history : goal.returns-clause-history
returns-clause-history c = subst (λ (state : State). StandsFor state new_account) (sym c.empty.ensures) (stands-base new_state (canonical_numbered new_state 1 begin_is_canonical.number begin_is_canonical.canonical (begin_suits 1 (omega arith))))
