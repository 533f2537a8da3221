-- An office and the histories that it stands for.
use Rattle.std.specs.Prelude.{◌≡◌, Bool, ◌&&◌, is_none}
use Rattle.pc_office_history.specs.declared.entry.OfficeEntry.{OfficeEntry}
use Rattle.pc_office_history.specs.Record.{OfficeRecord}
use Rattle.pc_office_history.specs.Known.{Known}
use Rattle.pc_office_history.specs.History.{History}
use Rattle.pc_office_history.specs.Allowed.{is_allowed}
use Rattle.pc_office_history.specs.Limits.{limit_passed}
use Rattle.pc_office_history.specs.Step.{record_of}
use Rattle.pc_office_history.specs.Legal.{IsCanonical, IsLegal}
use Rattle.pc_office_holdings.specs.Held.{Held, record_in, AreAllCounted}

-- the record is that of the office at the end of a legal history
pub record StandsFor (office : OfficeRecord) (history : History) : Type 0 where
  pub legal : IsLegal history
  pub held : record_of history ≡ office

-- the entry may come next: it is allowed and passes no limit
abbrev pub may_follow : Known → OfficeEntry → Bool
may_follow known entry = is_allowed known entry && is_none (limit_passed known entry)

-- what an office holds: a canonical record, with what waits counted
pub record IsSound (held : Held) : Type 0 where
  pub canonical : IsCanonical (record_in held)
  pub counted : AreAllCounted held
