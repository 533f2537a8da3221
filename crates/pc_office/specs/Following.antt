-- What holds of an entry that a store accepts.
use Rattle.std.proofs.Common.{◌≡◌, ◌≤◌, true, length, refl, arith}
use Rattle.std.proofs.lemmas.Bool.{and_parts}
use Rattle.pc_office_history.specs.declared.entry.OfficeEntry.{OfficeEntry}
use Rattle.pc_office_history.specs.Record.{OfficeRecord, empty_record}
use Rattle.pc_office_history.specs.Known.{said_by}
use Rattle.pc_office_history.specs.History.{start, ◌▹◌}
use Rattle.pc_office_history.specs.Step.{after}
use Rattle.pc_office_history.proofs.Within.{IsCanonical-legal}
use Rattle.pc_office_spelling.specs.Spelling.{spelled_entry}
use Rattle.pc_office_spelling.specs.EntryForm.{entry_fits}
use Rattle.pc_office_spelling.specs.RecordForm.{CanBeSaved}
use Rattle.pc_office_spelling.specs.RecordSpelling.{spelled_record}
use Rattle.pc_office_spelling.proofs.EntryLaws.{entry-is-short}
use Rattle.pc_office_spelling.proofs.RecordLaws.{one-record}
use Rattle.pc_office_holdings.specs.State.{may_follow}
use Rattle.pc_office_holdings.proofs.Entered.{may-parts}
use Rattle.pc_office.specs.FitsAfter.{step_fits}
use Rattle.pc_office.specs.Machine.{accepts}

pub accepts-parts : (r : OfficeRecord) (e : OfficeEntry) → accepts r e ≡ true → (may_follow (said_by r) e ≡ true) × (entry_fits e ≡ true)
accepts-parts r e accepted = and_parts (may_follow (said_by r) e) (entry_fits e) accepted

pub step_is_legal : (r : OfficeRecord) (e : OfficeEntry) → CanBeSaved r → accepts r e ≡ true → CanBeSaved (after r e)
step_is_legal r e saved accepted =
    let parts = accepts-parts r e accepted in
    let may = may-parts (said_by r) e parts.0 in
    record { canonical = IsCanonical-legal (start r 1 ▹ e) (saved.canonical, may.0, may.1); fits = step_fits r e saved.fits parts.1 }

pub accepted_is_short : (r : OfficeRecord) (e : OfficeEntry) → accepts r e ≡ true → (1 ≤ length (spelled_entry e)) × (length (spelled_entry e) ≤ 8388608)
accepted_is_short r e accepted = entry-is-short e (accepts-parts r e accepted).1

-- the record of a state is its alone
pub one_state : (r loaded : OfficeRecord) → CanBeSaved r → CanBeSaved loaded → spelled_record loaded ≡ spelled_record r → loaded ≡ r
one_state r loaded saved other e = one-record loaded r other saved e

pub begin_is_canonical : CanBeSaved empty_record
begin_is_canonical = record {
  canonical = record {
    well_formed = record { user_names = tt; address_names = tt; owners = tt; noted = tt; rising = tt; kept = tt; accepted = omega arith };
    within = (refl, (refl, (refl, (refl, (refl, tt)))));
  };
  fits = refl;
}
