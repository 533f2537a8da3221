-- Which records can be written, and which bytes are none.
use Rattle.std.specs.Prelude.{◌≡◌, ℕ, Bool, ◌&&◌, IsTrue, List}
use Rattle.std.specs.List.{list_all}
use Rattle.pc_base.specs.Name.{is_name}
use Rattle.pc_fields.specs.Fitting.{is_message}
use Rattle.pc_fields.specs.Fault.{IsFirstFault}
use Rattle.pc_office_history.specs.declared.kept.Target.{Target}
use Rattle.pc_office_history.specs.declared.kept.KeptMail.{KeptMail}
use Rattle.pc_office_history.specs.Record.{OfficeRecord}
use Rattle.pc_office_history.specs.Legal.{IsCanonical}
use Rattle.pc_office_spelling.specs.RecordSpelling.{fields_of_record}

-- a user by its name
abbrev pub user_fits : List ℕ × ℕ → Bool
user_fits user = is_name user.0

abbrev pub target_fits : Target → Bool
target_fits target = is_name target.user && is_name target.mailbox

-- an address and whom it is for
abbrev pub address_fits : List ℕ × Target → Bool
address_fits address = is_name address.0 && target_fits address.1

-- a board and its messages
abbrev pub board_fits : List ℕ × List (List (List ℕ)) → Bool
board_fits board = is_name board.0 && list_all is_message board.1

-- a mail that waits
abbrev pub kept_fits : KeptMail → Bool
kept_fits mail = list_all target_fits mail.targets && is_message mail.message

-- the names and messages of the record fit their fields
abbrev pub fits_record : OfficeRecord → Bool
fits_record r = list_all user_fits r.users && list_all address_fits r.addresses && list_all board_fits r.boards && list_all kept_fits r.kept

-- a canonical record that fits
pub record CanBeSaved (r : OfficeRecord) : Type 0 where
  pub canonical : IsCanonical r
  pub fits : IsTrue (fits_record r)

-- the fields of a record that can be saved
abbrev pub IsRecord : List (List ℕ) → Type 0
IsRecord fields = (r : OfficeRecord) × CanBeSaved r × (fields ≡ fields_of_record r)

-- the bytes are no record, and this is the place of the first field at which none goes on
abbrev pub IsRecordFault : List ℕ → ℕ → Type 0
IsRecordFault bytes place = IsFirstFault IsRecord bytes place
