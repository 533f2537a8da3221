-- What the office holds: its record, and beside each user what is counted of the mails that wait for it.
use Rattle.std.specs.Prelude.{◌≡◌, ℕ, ◌%◌, ◌^◌, List, [], map, length}
use Rattle.std.specs.List.{AllByRecursion}
use Rattle.pc_message.specs.declared.lists.Mail.{Mail}
use Rattle.pc_message.specs.Message.{weight_of}
use Rattle.pc_tables.specs.Table.{total}
use Rattle.pc_office_history.specs.declared.kept.Target.{Target}
use Rattle.pc_office_history.specs.declared.kept.KeptMail.{KeptMail}
use Rattle.pc_office_history.specs.Record.{OfficeRecord, mails_for}
use Rattle.pc_office_history.specs.Limits.{mail_weight}
use Rattle.pc_office_holdings.specs.declared.users.Standing.{Standing}

pub record Held : Type 0 where
  pub users : List (List ℕ × Standing)
  pub addresses : List (List ℕ × Target)
  pub boards : List (List ℕ × List (List (List ℕ)))
  pub accepted : ℕ
  pub kept : List KeptMail

-- what a new office holds
abbrev pub nothing_held : Held
nothing_held = record { users = []; addresses = []; boards = []; accepted = 0; kept = [] }

-- a user with the number that is noted of it
abbrev pub noted_of : List ℕ × Standing → List ℕ × ℕ
noted_of user = (user.0, user.1.noted)

-- the record of what is held
abbrev pub record_in : Held → OfficeRecord
record_in held = record { users = map noted_of held.users; addresses = held.addresses; boards = held.boards; accepted = held.accepted; kept = held.kept }

-- these mails are counted, as far as 64 bits hold the sums
pub record AreCounted (standing : Standing) (waiting : List Mail) : Type 0 where
  pub mails : standing.mails ≡ length waiting % 2 ^ 64
  pub weight : standing.weight ≡ mail_weight waiting % 2 ^ 64

-- of each user the mails that wait for it are counted
abbrev pub IsCounted : List KeptMail → List ℕ × Standing → Type 0
IsCounted kept user = AreCounted user.1 (mails_for user.0 kept)

abbrev pub AreAllCounted : Held → Type 0
AreAllCounted held = AllByRecursion (IsCounted held.kept) held.users

-- what the messages of boards count for
abbrev pub weight_on : List ℕ × List (List (List ℕ)) → ℕ
weight_on board = total weight_of board.1

abbrev pub weight_on_all : List (List ℕ × List (List (List ℕ))) → ℕ
weight_on_all boards = total weight_on boards
