-- Entries behind a new account, and the account that stands for them.
use Rattle.std.proofs.Common.{◌≡◌, ℕ, suc, ◌+◌, List, [], ◌∷◌, ◌++◌, length, Option, Result, Ok, Err, refl, sym, ap, ◌∙◌, subst, arith}
use Rattle.std.specs.Option.{option_to_list}
use Rattle.pc_base.specs.declared.refusal.Refusal.{Refusal}
use Rattle.pc_account_history.specs.declared.entry.Entry.{Entry}
use Rattle.pc_account_history.specs.History.{History, ◌▸◌, ◌▸▸◌, new_account, known, next}
use Rattle.pc_account_holdings.specs.State.{State, StandsFor}
use Rattle.pc_account.specs.Plan.{planned}
use Rattle.pc_account.specs.declared.wish.Wish.{Wish}
use Rattle.pc_base.specs.declared.ask_fault.AskFault.{AskFault}
use Rattle.pc_base.specs.declared.ask_fault.AskFault.TheVariants.{Refused, Memory}
use Rattle.pc_base.specs.AskFault.{Tells}
use Rattle.pc_world.specs.Account.{Account, history_of}
use Rattle.pc_world.specs.Changes.{Changes}

-- ---- one entry more

next_behind : (h : History) (entries : List Entry) → next (h ▸▸ entries) ≡ next h + length entries
next_behind h [] = omega arith
next_behind h (entry ∷ entries) = next_behind (h ▸ entry) entries ∙ omega arith

one_more_behind : (h : History) (entries : List Entry) (entry : Entry) → h ▸▸ (entries ++ entry ∷ []) ≡ (h ▸▸ entries) ▸ entry
one_more_behind h [] entry = refl
one_more_behind h (first ∷ entries) entry = one_more_behind (h ▸ first) entries entry

-- the number of the next entry is one more than there are
pub next_of : (state : State) (entries : List Entry) → StandsFor state (history_of entries) → state.next ≡ suc (length entries)
next_of state entries stands = sym stands.next ∙ next_behind new_account entries ∙ omega arith

pub stands_more : (state : State) (entries entries' : List Entry) (entry : Entry) → entries' ≡ entries ++ entry ∷ [] → StandsFor state (history_of entries ▸ entry) → StandsFor state (history_of entries')
stands_more state entries entries' entry is stands =
    subst (λ (h : History). StandsFor state h) (sym (ap history_of is ∙ one_more_behind new_account entries entry)) stands

-- ---- what a plan comes to

-- what is told of the entries that a user holds is told of those that contracts see
pub tells_seen : (user : List ℕ) (entries : List Entry) (value : Account) (wish : Wish) (result : Result (Option Entry) AskFault)
    → record { user = user; entries = entries } ≡ value → Tells (planned (known (history_of entries)) wish) result → Tells (planned (known (history_of value.entries)) wish) result
tells_seen user entries value wish result seen tells = subst (λ (shown : Account). Tells (planned (known (history_of shown.entries)) wish) result) seen tells

pub changes_refused : (entries : List Entry) (plan : Result (Option Entry) Refusal) (fault : AskFault) → Tells plan (Err fault) → Changes entries entries plan (Err fault)
changes_refused entries plan Memory tells = tt
changes_refused entries (Ok entry) (Refused told) tells = tells
changes_refused entries (Err refusal) (Refused told) tells = (tells, refl)

pub changes_kept : (old new : List Entry) (plan : Result (Option Entry) Refusal) (entry : Option Entry) → Tells plan (Ok entry) → new ≡ old ++ option_to_list entry → Changes old new plan (Ok tt)
changes_kept old new (Ok planned) entry tells kept = kept ∙ ap (λ (e : Option Entry). old ++ option_to_list e) tells
changes_kept old new (Err refusal) entry tells kept = tells
