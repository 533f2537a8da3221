-- A plan's entry may be committed by a store.
use Rattle.std.proofs.Common.{Option, None, Some, Result, Ok, Err, IsTrue, IfOk, IfSome}
use Rattle.std.proofs.lemmas.Bool.{and_from}
use Rattle.pc_account_history.specs.declared.entry.Entry.{Entry}
use Rattle.pc_account_spelling.specs.EntryForm.{entry_fits}
use Rattle.pc_base.specs.declared.ask_fault.AskFault.{AskFault}
use Rattle.pc_base.specs.AskFault.{Tells}
use Rattle.pc_account.specs.declared.wish.Wish.{Wish}
use Rattle.pc_account_records.specs.Legal.{accepts}
use Rattle.pc_account.specs.Plan.{planned, IsWish}
use Rattle.pc_account_holdings.specs.State.{State, said, may_follow}
use Rattle.pc_account.proofs.Settling.{planned-follows}

-- the entry of a plan fits its fields
abbrev pub PlanFits : Result (Option Entry) AskFault → Type 0
PlanFits result = IfOk result (λ plan. IfSome plan (λ entry. IsTrue (entry_fits entry)))

pub plan-accepted : (state : State) (w : Wish) → IsWish (said state) w → (result : Result (Option Entry) AskFault) → Tells (planned (said state) w) result → PlanFits result → IfOk result (λ plan. IfSome plan (λ entry. IsTrue (accepts state entry)))
plan-accepted state w i (Ok None) told fits = tt
plan-accepted state w i (Ok (Some e)) told fits = and_from (may_follow (said state) e) (entry_fits e) (planned-follows (said state) w e i told) fits
plan-accepted state w i (Err fault) told fits = tt
