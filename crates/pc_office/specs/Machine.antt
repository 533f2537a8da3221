-- The office as a machine of which a store keeps the history.
use Rattle.std.specs.Prelude.{Bool, ◌&&◌}
use Rattle.pc_office_history.specs.declared.entry.OfficeEntry.{OfficeEntry}
use Rattle.pc_office_history.specs.Record.{OfficeRecord}
use Rattle.pc_office_history.specs.Known.{said_by}
use Rattle.pc_office_spelling.specs.EntryForm.{entry_fits}
use Rattle.pc_office_holdings.specs.State.{may_follow}

-- a store may keep the entry next: it may come next, and fits its fields
abbrev pub accepts : OfficeRecord → OfficeEntry → Bool
accepts office entry = may_follow (said_by office) entry && entry_fits entry
