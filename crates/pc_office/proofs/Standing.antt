-- The histories that a record stands for.
use Rattle.std.proofs.Common.{◌≡◌, ℕ, IsTrue, refl, sym, ap, ◌∙◌}
use Rattle.pc_office_history.specs.declared.entry.OfficeEntry.{OfficeEntry}
use Rattle.pc_office_history.specs.Record.{OfficeRecord}
use Rattle.pc_office_history.specs.Known.{Known, said_by}
use Rattle.pc_office_history.specs.History.{History, start, ◌▹◌, known}
use Rattle.pc_office_history.specs.Allowed.{is_allowed}
use Rattle.pc_office_history.specs.Limits.{limit_passed}
use Rattle.pc_office_history.specs.Legal.{IsCanonical, IsLegal}
use Rattle.pc_office_history.specs.Step.{after, record_of}
use Rattle.pc_office_history.proofs.Within.{IsCanonical-legal}
use Rattle.pc_office_history.proofs.Histories.{Stands-legal}
use Rattle.pc_office_holdings.specs.State.{StandsFor, may_follow}
use Rattle.pc_office_holdings.proofs.Entered.{may-parts}
use Rattle.pc_office_spelling.specs.RecordForm.{fits_record, CanBeSaved}
use Rattle.pc_office_spelling.specs.RecordSpelling.{spelled_record}
use Rattle.pc_office_spelling.proofs.RecordLaws.{one-record}

-- at its end a history says what the record says
pub said_is_known : (r : OfficeRecord) (h : History) → StandsFor r h → said_by r ≡ known h
said_is_known r h stands = ap said_by (sym stands.held) ∙ sym (Stands-legal h stands.legal).alike

-- the step of a record stands for the history with the entry
pub StandsFor-after : (r : OfficeRecord) (e : OfficeEntry) → IsTrue (may_follow (said_by r) e) → (h : History) → StandsFor r h → StandsFor (after r e) (h ▹ e)
StandsFor-after r e follows h stands =
    let knows = said_is_known r h stands in
    let parts = may-parts (said_by r) e follows in
    record {
      legal = (stands.legal, ap (λ (k : Known). is_allowed k e) (sym knows) ∙ parts.0, ap (λ (k : Known). limit_passed k e) (sym knows) ∙ parts.1);
      held = ap (λ (before : OfficeRecord). after before e) stands.held;
    }

-- a canonical record stands for its own base, whatever the number of the next entry
pub stands-base : (r : OfficeRecord) (number : ℕ) → IsCanonical r → StandsFor r (start r number)
stands-base r number canonical = record { legal = canonical; held = refl }

-- the bytes of the record of a legal history are those of no other record
pub one-history : (h : History) (r : OfficeRecord) → IsLegal h → IsTrue (fits_record (record_of h)) → CanBeSaved r → spelled_record (record_of h) ≡ spelled_record r → StandsFor r h
one-history h r legal fits saved bytes = record { legal = legal; held = one-record (record_of h) r (record { canonical = IsCanonical-legal h legal; fits = fits }) saved bytes }
