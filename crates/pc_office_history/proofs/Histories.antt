-- The record of a legal history answers as the history does.
use Rattle.std.proofs.Common.{◌≡◌, suc, true, List, [], ◌∷◌, refl, sym, ◌∙◌, ap}
use Rattle.pc_office_history.specs.declared.entry.OfficeEntry.{OfficeEntry}
use Rattle.pc_office_history.specs.Known.{Known, said_by, after_entry}
use Rattle.pc_office_history.specs.History.{History, start, ◌▹◌, ◌▹▹◌, known, next}
use Rattle.pc_office_history.specs.Effect.{targets_of}
use Rattle.pc_office_history.specs.Allowed.{is_allowed}
use Rattle.pc_office_history.specs.Answers.{addresses_of, waiting_past, board_of}
use Rattle.pc_office_history.specs.Limits.{limit_passed}
use Rattle.pc_office_history.specs.Step.{after, record_of}
use Rattle.pc_office_history.specs.Legal.{IsWellFormed, IsLegal}
use Rattle.pc_office_history.specs.Laws.{AnswerAlike}
use Rattle.pc_office_history.proofs.Agreement.{after-said_by}
use Rattle.pc_office_history.proofs.FormedAfter.{IsWellFormed-after}

-- ---- the record stands for the history

pub record Stands (h : History) : Type 0 where
  pub formed : IsWellFormed (record_of h)
  pub alike : known h ≡ said_by (record_of h)

pub Stands-legal : (h : History) → IsLegal h → Stands h
Stands-legal (start r number) legal = record { formed = legal.well_formed; alike = refl }
Stands-legal (h ▹ e) legal =
    let before = Stands-legal h legal.0 in
    let allowed : is_allowed (said_by (record_of h)) e ≡ true = ap (λ k. is_allowed k e) (sym before.alike) ∙ legal.1 in
    record {
      formed = IsWellFormed-after (record_of h) before.formed e allowed;
      alike = ap (λ k. after_entry k e) before.alike ∙ after-said_by (record_of h) before.formed e allowed;
    }

-- ---- histories of which the same is known

pub AnswerAlike-known : (g h : History) → next g ≡ next h → known g ≡ known h → AnswerAlike g h
AnswerAlike-known g h n e = record {
  number = n;
  users = ap (λ (k : Known). k.users) e;
  boards = ap (λ (k : Known). k.boards) e;
  addresses = ap (λ (k : Known). k.addresses) e;
  owner = λ address. ap (λ (k : Known). k.owner address) e;
  noted = λ user. ap (λ (k : Known). k.noted user) e;
  accepted = ap (λ (k : Known). k.accepted) e;
  waiting = λ user. ap (λ (k : Known). k.waiting user) e;
  messages = λ board. ap (λ (k : Known). k.messages board) e;
  addresses_of = λ user mailbox. ap (λ (k : Known). addresses_of k user mailbox) e;
  waiting_past = λ user number. ap (λ (k : Known). waiting_past k user number) e;
  board_of = λ board. ap (λ (k : Known). board_of k board) e;
  targets = λ names. ap (λ (k : Known). targets_of k.owner names) e;
  allowed = λ entry. ap (λ (k : Known). is_allowed k entry) e;
  limits = λ entry. ap (λ (k : Known). limit_passed k entry) e;
}

-- ---- more entries behind

pub known-behind : (g h : History) (es : List OfficeEntry) → known g ≡ known h → known (g ▹▹ es) ≡ known (h ▹▹ es)
known-behind g h [] alike = alike
known-behind g h (e ∷ es) alike = known-behind (g ▹ e) (h ▹ e) es (ap (λ k. after_entry k e) alike)

pub next-behind : (g h : History) (es : List OfficeEntry) → next g ≡ next h → next (g ▹▹ es) ≡ next (h ▹▹ es)
next-behind g h [] alike = alike
next-behind g h (e ∷ es) alike = next-behind (g ▹ e) (h ▹ e) es (ap suc alike)

pub IsLegal-behind : (g h : History) (es : List OfficeEntry) → known g ≡ known h → (IsLegal g → IsLegal h) → IsLegal (g ▹▹ es) → IsLegal (h ▹▹ es)
IsLegal-behind g h [] alike f legal = f legal
IsLegal-behind g h (e ∷ es) alike f legal = IsLegal-behind (g ▹ e) (h ▹ e) es (ap (λ k. after_entry k e) alike) (λ l. (f l.0, ap (λ k. is_allowed k e) (sym alike) ∙ l.1, ap (λ k. limit_passed k e) (sym alike) ∙ l.2)) legal

pub record_of-behind : (g h : History) (es : List OfficeEntry) → record_of g ≡ record_of h → record_of (g ▹▹ es) ≡ record_of (h ▹▹ es)
record_of-behind g h [] e = e
record_of-behind g h (entry ∷ es) e = record_of-behind (g ▹ entry) (h ▹ entry) es (ap (λ r. after r entry) e)

-- the front of a legal history is legal
pub legal-front : (h : History) (es : List OfficeEntry) → IsLegal (h ▹▹ es) → IsLegal h
legal-front h [] legal = legal
legal-front h (e ∷ es) legal = (legal-front (h ▹ e) es legal).0
