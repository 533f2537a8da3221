-- Histories of the office.
use Rattle.std.specs.Prelude.{ℕ, suc, ◌==◌, List, [], ◌∷◌, ◌++◌, Option}
use Rattle.std.specs.List.{find}
use Rattle.pc_office_history.specs.declared.kept.KeptMail.{KeptMail}
use Rattle.pc_office_history.specs.declared.entry.OfficeEntry.{OfficeEntry}
use Rattle.pc_office_history.specs.Record.{OfficeRecord, empty_record}
use Rattle.pc_office_history.specs.Effect.{new_mails}
use Rattle.pc_office_history.specs.Known.{Known, said_by, after_entry}

infixl 20 ◌▹◌
-- a base, which is a record with the number of the first entry behind it, and entries, the newest last
pub data History : Type 0 where
  start : OfficeRecord → ℕ → History
  ◌▹◌ : History → OfficeEntry → History

-- the history of a new office
abbrev pub new_office : History
new_office = start empty_record 1

-- the history with these entries behind it
infixl 20 ◌▹▹◌
abbrev pub ◌▹▹◌ : History → List OfficeEntry → History
h ▹▹ [] = h
h ▹▹ (e ∷ es) = (h ▹ e) ▹▹ es

-- what is known at the end of a history
abbrev pub known : History → Known
known (start r number) = said_by r
known (h ▹ e) = after_entry (known h) e

-- the number of the next entry
abbrev pub next : History → ℕ
next (start r number) = number
next (h ▹ e) = suc (next h)

-- the mails that were accepted, in order, each with all the users for whom it is; of those before the base what it keeps
abbrev pub mails : History → List KeptMail
mails (start r number) = r.kept
mails (h ▹ e) = mails h ++ new_mails e (known h).owner (known h).accepted

-- the mail of a number
abbrev pub mail_numbered : History → ℕ → Option KeptMail
mail_numbered h number = find (λ mail. mail.number == number) (mails h)
