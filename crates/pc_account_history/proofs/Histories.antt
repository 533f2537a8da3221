-- The record of a legal history answers as the history does.
use Rattle.std.proofs.Common.{◌≡◌, suc, true, List, [], ◌∷◌, refl, sym, ◌∙◌, ap}
use Rattle.pc_account_history.specs.declared.entry.Entry.{Entry}
use Rattle.pc_account_history.specs.Known.{said_by, after_entry}
use Rattle.pc_account_history.specs.History.{History, start, ◌▸◌, ◌▸▸◌, known, next}
use Rattle.pc_account_history.specs.Allowed.{is_allowed}
use Rattle.pc_account_history.specs.Limits.{limit_passed}
use Rattle.pc_account_history.specs.Step.{after, record_of}
use Rattle.pc_account_history.specs.Legal.{IsWellFormed, IsLegal}
use Rattle.pc_account_history.proofs.Agreement.{after-said_by}
use Rattle.pc_account_history.proofs.FormedAfter.{IsWellFormed-after}

-- ---- the record stands for the history

pub record Stands (h : History) : Type 0 where
  pub formed : IsWellFormed (record_of h) (next h)
  pub alike : known h ≡ said_by (record_of h) (next h)

pub Stands-legal : (h : History) → IsLegal h → Stands h
Stands-legal (start r number) legal = record { formed = legal.well_formed; alike = refl }
Stands-legal (h ▸ e) legal =
    let before = Stands-legal h legal.0 in
    let allowed : is_allowed (said_by (record_of h) (next h)) e ≡ true = ap (λ k. is_allowed k e) (sym before.alike) ∙ legal.1 in
    record {
      formed = IsWellFormed-after (record_of h) (next h) e before.formed allowed;
      alike = ap (λ k. after_entry k e) before.alike ∙ after-said_by (record_of h) (next h) e before.formed allowed;
    }

-- ---- more entries behind

-- histories that are known alike go on alike
pub known-behind : (g h : History) (es : List Entry) → known g ≡ known h → known (g ▸▸ es) ≡ known (h ▸▸ es)
known-behind g h [] alike = alike
known-behind g h (e ∷ es) alike = known-behind (g ▸ e) (h ▸ e) es (ap (λ k. after_entry k e) alike)

pub IsLegal-behind : (g h : History) (es : List Entry) → known g ≡ known h → (IsLegal g → IsLegal h) → IsLegal (g ▸▸ es) → IsLegal (h ▸▸ es)
IsLegal-behind g h [] alike f legal = f legal
IsLegal-behind g h (e ∷ es) alike f legal = IsLegal-behind (g ▸ e) (h ▸ e) es (ap (λ k. after_entry k e) alike) (λ l. (f l.0, ap (λ k. is_allowed k e) (sym alike) ∙ l.1, ap (λ k. limit_passed k e) (sym alike) ∙ l.2)) legal

pub record_of-behind : (g h : History) (es : List Entry) → record_of g ≡ record_of h → next g ≡ next h → record_of (g ▸▸ es) ≡ record_of (h ▸▸ es)
record_of-behind g h [] e f = e
record_of-behind g h (entry ∷ es) e f = record_of-behind (g ▸ entry) (h ▸ entry) es (λ i. after (e i) (f i) entry) (ap suc f)
