-- A state that stands for a history says what is known at its end.
use Rattle.std.proofs.Common.{◌≡◌, ℕ, suc, true, IsTrue, refl, sym, ap, subst, ◌∙◌}
use Rattle.pc_account_history.specs.declared.entry.Entry.{Entry}
use Rattle.pc_account_history.specs.Known.{Known, said_by}
use Rattle.pc_account_history.specs.Record.{AccountRecord}
use Rattle.pc_account_history.specs.History.{History, start, ◌▸◌, known, next}
use Rattle.pc_account_history.specs.Allowed.{is_allowed}
use Rattle.pc_account_history.specs.Limits.{limit_passed}
use Rattle.pc_account_history.specs.Legal.{IsCanonical, IsLegal}
use Rattle.pc_account_history.specs.Step.{after, record_of}
use Rattle.pc_account_history.proofs.Within.{IsCanonical-legal}
use Rattle.pc_account_history.proofs.Histories.{Stands-legal}
use Rattle.pc_account_holdings.specs.State.{State, said, StandsFor, may_follow, step}
use Rattle.pc_account_holdings.specs.Following.{may-parts}
use Rattle.pc_account_spelling.specs.Spelling.{spelled_record}
use Rattle.pc_account_spelling.specs.RecordForm.{fits_record, CanBeSaved}
use Rattle.pc_account_spelling.proofs.RecordLaws.{one-record}
use Rattle.pc_account_records.specs.Numbered.{suits, numbered}
use Rattle.pc_account_records.specs.Recorded.{canonical_suits}

pub said_is_known : (s : State) (h : History) → StandsFor s h → said s ≡ known h
said_is_known s h stands = (λ i. said_by (sym stands.held i) (sym stands.next i)) ∙ sym (Stands-legal h stands.legal).alike

-- the step of a state stands for the history with the entry
pub StandsFor-step : (s : State) (e : Entry) → IsTrue (may_follow (said s) e) → (h : History) → StandsFor s h → StandsFor (step s e) (h ▸ e)
StandsFor-step s e allowed h stands =
    let knows = said_is_known s h stands in
    let parts = may-parts (said s) e allowed in
    record {
      legal = (stands.legal, ap (λ (k : Known). is_allowed k e) (sym knows) ∙ parts.0, ap (λ (k : Known). limit_passed k e) (sym knows) ∙ parts.1);
      held = λ i. after (stands.held i) (stands.next i) e;
      next = ap suc stands.next;
    }

-- a canonical state stands for its own base
pub stands-base : (s : State) → IsCanonical s.held s.next → StandsFor s (start s.held s.next)
stands-base s canonical = record { legal = canonical; held = refl; next = refl }

-- the number of the next entry of a legal history suits its record, and with it the record stands for the history
pub suits-legal : (s : State) (first : ℕ) (h : History) → IsLegal h → record_of h ≡ s.held → next h ≡ first → suits s first ≡ true
suits-legal s first h legal held follows = canonical_suits s first (subst (λ (r : AccountRecord). IsCanonical r first) held (subst (IsCanonical (record_of h)) follows (IsCanonical-legal h legal)))

pub stands-numbered : (s : State) (first : ℕ) (h : History) → IsLegal h → record_of h ≡ s.held → next h ≡ first → StandsFor (numbered s first) h
stands-numbered s first h legal held follows = record { legal = legal; held = held; next = follows }

-- the bytes of the record of a legal history are those of no other record
pub one-history : (h : History) (r : AccountRecord) → IsLegal h → IsTrue (fits_record (record_of h)) → CanBeSaved r → spelled_record (record_of h) ≡ spelled_record r → record_of h ≡ r
one-history h r legal fits saved bytes = one-record (record_of h) r (record { number = next h; canonical = IsCanonical-legal h legal; fits = fits }) saved bytes
