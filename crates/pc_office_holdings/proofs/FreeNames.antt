-- A name that is free for an entry that may come next has no place in the tables.
use Rattle.std.proofs.Common.{◌≡◌, ℕ, true, List, None, is_none, sym, ◌∙◌}
use Rattle.std.specs.Map.{lookup}
use Rattle.std.proofs.lemmas.Bool.{and_parts}
use Rattle.pc_tables.specs.Table.{same}
use Rattle.pc_tables.proofs.Table.{is_among-keys}
use Rattle.pc_office_history.specs.declared.entry.OfficeEntry.{OfficeEntry}
use Rattle.pc_office_history.specs.Known.{said_by}
use Rattle.pc_office_history.specs.Allowed.{is_free, is_allowed}
use Rattle.pc_office_history.specs.Limits.{limit_passed}
use Rattle.pc_office_history.proofs.Agreement.{is_free-parts, absent}
use Rattle.pc_office_holdings.specs.Held.{Held, record_in}
use Rattle.pc_office_holdings.specs.State.{may_follow}
use Rattle.pc_office_holdings.proofs.Noted.{is_among-noted}

-- what may come next is allowed
pub allowed-next : (held : Held) (next : OfficeEntry) → may_follow (said_by (record_in held)) next ≡ true → is_allowed (said_by (record_in held)) next ≡ true
allowed-next held next h = let known = said_by (record_in held) in (and_parts (is_allowed known next) (is_none (limit_passed known next)) h).0

pub free-user : (held : Held) (name : List ℕ) → is_free (said_by (record_in held)) name ≡ true → lookup (same name) held.users ≡ None
free-user held name free = absent (lookup (same name) held.users) (sym (is_among-noted name held.users) ∙ (is_free-parts (said_by (record_in held)) name free).0)

pub free-board : (held : Held) (name : List ℕ) → is_free (said_by (record_in held)) name ≡ true → lookup (same name) held.boards ≡ None
free-board held name free = absent (lookup (same name) held.boards) (sym (is_among-keys name held.boards) ∙ (is_free-parts (said_by (record_in held)) name free).1)
