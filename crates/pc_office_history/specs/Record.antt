-- The record of the post office: all that later answers depend on. The base of a store spells it.
use Rattle.std.specs.Prelude.{ℕ, List, [], Option}
use Rattle.std.specs.Option.{option_map}
use Rattle.std.specs.List.{find, filter_map}
use Rattle.pc_message.specs.declared.lists.Mail.{Mail}
use Rattle.pc_tables.specs.Table.{same}
use Rattle.pc_office_history.specs.declared.kept.Target.{Target}
use Rattle.pc_office_history.specs.declared.kept.KeptMail.{KeptMail}

-- the users, each with the number up to which it is noted to have pulled, in order of making; the addresses, each with
-- whom it is for, in order of their last taking; the boards with their messages, in order of making; how many mails were
-- accepted; and those that still wait for somebody, in order, with the targets for which they do
pub record OfficeRecord : Type 0 where
  pub users : List (List ℕ × ℕ)
  pub addresses : List (List ℕ × Target)
  pub boards : List (List ℕ × List (List (List ℕ)))
  pub accepted : ℕ
  pub kept : List KeptMail

-- the record of a new office
abbrev pub empty_record : OfficeRecord
empty_record = record { users = []; addresses = []; boards = []; accepted = 0; kept = [] }

-- what is a user's among these targets
abbrev pub target_of : List ℕ → List Target → Option Target
target_of user targets = find (λ target. same user target.user) targets

-- a mail as it waits for a target
abbrev pub mail_at : KeptMail → Target → Mail
mail_at kept target = record { number = kept.number; mailbox = target.mailbox; message = kept.message }

-- a mail as it waits for a user, where it does
abbrev pub mail_for : List ℕ → KeptMail → Option Mail
mail_for user kept = option_map (mail_at kept) (target_of user kept.targets)

-- those of the mails that are for a user
abbrev pub mails_for : List ℕ → List KeptMail → List Mail
mails_for user kept = filter_map (mail_for user) kept
