-- Which records can be written, and which bytes are none.
use Rattle.std.specs.Prelude.{◌≡◌, ℕ, Bool, true, ◌&&◌, ◌==◌, nat_lt, IsTrue, List, length, Option, None, Some}
use Rattle.std.specs.List.{list_all}
use Rattle.pc_base.specs.Name.{is_name}
use Rattle.pc_account_history.specs.declared.kept.Kept.{Kept}
use Rattle.pc_account_history.specs.declared.kept.Listed.{Listed}
use Rattle.pc_account_history.specs.Record.{MailboxRecord, AccountRecord}
use Rattle.pc_account_history.specs.Legal.{IsCanonical}
use Rattle.pc_fields.specs.Fitting.{is_u16, is_u32, is_message}
use Rattle.pc_fields.specs.Fault.{IsFirstFault}
use Rattle.pc_account_spelling.specs.Spelling.{fields_of_record}

-- the number of an entry, below 2^63
abbrev pub is_entry_number : ℕ → Bool
is_entry_number number = nat_lt number 9223372036854775808

abbrev pub is_digest : Option (List ℕ) → Bool
is_digest None = true
is_digest (Some digest) = length digest == 32

-- a client and its birth
abbrev pub client_fits : List ℕ × ℕ → Bool
client_fits client = is_name client.0 && is_entry_number client.1

-- a message that lives
abbrev pub kept_fits : Kept → Bool
kept_fits kept = is_u32 kept.uid && is_u16 kept.flags && is_message kept.message

-- a change on a list
abbrev pub listed_fits : Listed → Bool
listed_fits listed = is_u32 listed.uid && is_entry_number listed.stamp

-- the update list of a client
abbrev pub list_fits : List ℕ × List Listed → Bool
list_fits list = is_name list.0 && list_all listed_fits list.1

-- a mailbox name and what stands under it
abbrev pub mailbox_fits : List ℕ × MailboxRecord → Bool
mailbox_fits mailbox = is_name mailbox.0 && is_u32 mailbox.1.highest && list_all kept_fits mailbox.1.messages && list_all list_fits mailbox.1.lists

-- a subscription and its mark
abbrev pub subscription_fits : List ℕ × ℕ → Bool
subscription_fits subscription = is_name subscription.0 && is_u32 subscription.1

-- the names, numbers and messages of the record fit their fields
abbrev pub fits_record : AccountRecord → Bool
fits_record r = is_digest r.digest && list_all client_fits r.clients && list_all mailbox_fits r.live && list_all mailbox_fits r.dropped && list_all subscription_fits r.subscriptions

-- a record that fits, and that is canonical before some entry
pub record CanBeSaved (r : AccountRecord) : Type 0 where
  pub number : ℕ
  pub canonical : IsCanonical r number
  pub fits : IsTrue (fits_record r)

-- the fields of a record that can be saved
abbrev pub IsRecord : List (List ℕ) → Type 0
IsRecord fields = (r : AccountRecord) × CanBeSaved r × (fields ≡ fields_of_record r)

-- the bytes are no record, and this is the place of the first field at which none goes on
abbrev pub IsRecordFault : List ℕ → ℕ → Type 0
IsRecordFault bytes place = IsFirstFault IsRecord bytes place
