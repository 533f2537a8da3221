-- Mails that wait, and how many of them can be pulled.
use Rattle.std.specs.Prelude.{ℕ, zero, suc, ◌+◌, Bool, ◌&&◌, nat_lt, nat_le, List, take, length, is_none, if◌then◌else◌}
use Rattle.std.specs.List.{list_all}
use Rattle.pc_base.specs.declared.room.Room.{Room}
use Rattle.pc_message.specs.declared.lists.Mail.{Mail}
use Rattle.pc_message.specs.Message.{size_of}
use Rattle.pc_tables.specs.Table.{total}
use Rattle.pc_account_history.specs.Known.{Known}
use Rattle.pc_account_history.specs.Allowed.{is_mailbox}
use Rattle.pc_account_spelling.specs.EntryForm.{is_letter}
use Rattle.pc_account.specs.Limits.{limit_of_parcels}
use Rattle.pc_account.specs.Plan.{target_of}

-- the message of a mail with the mailbox that it goes to
abbrev pub letter_of : Known → Mail → List ℕ × List (List ℕ)
letter_of k mail = (target_of k mail, mail.message)

-- it fits its fields
abbrev pub letter_fits : Known → Mail → Bool
letter_fits k mail = is_letter (letter_of k mail)

-- that mailbox, and the size of the message
abbrev pub parcel_for : Known → Mail → List ℕ × ℕ
parcel_for k mail = (target_of k mail, size_of mail.message)

-- the bytes of a parcel's letter in a journal
abbrev pub bytes_of_parcel : List ℕ × ℕ → ℕ
bytes_of_parcel parcel = 5 + length parcel.0 + parcel.1

-- the bytes of a pull of these parcels in a journal
abbrev pub bytes_of_parcels : List (List ℕ × ℕ) → ℕ
bytes_of_parcels parcels = 11 + total bytes_of_parcel parcels

-- all parcels go to mailboxes that live
abbrev pub have_mailboxes : Known → List (List ℕ × ℕ) → Bool
have_mailboxes k parcels = list_all (λ (parcel : List ℕ × ℕ). is_mailbox k parcel.0) parcels

-- these parcels can be pulled: their mailboxes live, no limit is passed, and the journal has room
abbrev pub can_come : Known → Room → List (List ℕ × ℕ) → Bool
can_come k room parcels = have_mailboxes k parcels && is_none (limit_of_parcels k parcels) && nat_lt 0 room.entries && nat_le (bytes_of_parcels parcels) room.bytes

-- how many parcels the longest front, of at most so many, has that can be pulled
abbrev pub front_count : Known → Room → ℕ → List (List ℕ × ℕ) → ℕ
front_count k room zero parcels = 0
front_count k room (suc count) parcels = if can_come k room (take (suc count) parcels) then suc count else front_count k room count parcels
