-- What is known of the office at a place of its history: at the beginning what the record says,
-- and after an entry what the entry decides, or else what was known before it.
use Rattle.std.specs.Prelude.{ℕ, Bool, nat_lt, List, [], ◌++◌, Option, unwrap_or}
use Rattle.std.specs.List.{filter}
use Rattle.std.specs.Map.{lookup, keys_of}
use Rattle.pc_message.specs.declared.lists.Mail.{Mail}
use Rattle.pc_tables.specs.Table.{same}
use Rattle.pc_office_history.specs.declared.kept.Target.{Target}
use Rattle.pc_office_history.specs.declared.entry.OfficeEntry.{OfficeEntry}
use Rattle.pc_office_history.specs.Record.{OfficeRecord, mails_for}
use Rattle.pc_office_history.specs.Effect.{users_after, boards_after, addresses_after, owner_after, noted_after, accepted_after, new_mails, new_messages}

pub record Known : Type 0 where
  -- the users, in order of making
  pub users : List (List ℕ)
  -- the boards, in order of making
  pub boards : List (List ℕ)
  -- the addresses, in order of their last taking
  pub addresses : List (List ℕ)
  -- of an address: for whom it is
  pub owner : List ℕ → Option Target
  -- of a user: the number up to which it is noted to have pulled, or 0
  pub noted : List ℕ → ℕ
  -- how many mails were accepted
  pub accepted : ℕ
  -- of a user: the mails that wait for it, by rising number
  pub waiting : List ℕ → List Mail
  -- of a board: its messages, the one with uid 1 first
  pub messages : List ℕ → List (List (List ℕ))

-- what a record says
abbrev pub said_by : OfficeRecord → Known
said_by r = record {
  users = keys_of r.users;
  boards = keys_of r.boards;
  addresses = keys_of r.addresses;
  owner = λ address. lookup (same address) r.addresses;
  noted = λ user. unwrap_or (lookup (same user) r.users) 0;
  accepted = r.accepted;
  waiting = λ user. mails_for user r.kept;
  messages = λ board. unwrap_or (lookup (same board) r.boards) [];
}

-- a mail is past a number
abbrev pub is_past : ℕ → Mail → Bool
is_past number mail = nat_lt number mail.number

-- what waited for a user or comes for it, past the number that is noted then
abbrev pub waiting_after : Known → OfficeEntry → List ℕ → List Mail
waiting_after k e user = filter (is_past (noted_after e user (k.noted user))) (k.waiting user ++ mails_for user (new_mails e k.owner k.accepted))

-- what is known after one more entry
abbrev pub after_entry : Known → OfficeEntry → Known
after_entry k e = record {
  users = users_after e k.users;
  boards = boards_after e k.boards;
  addresses = addresses_after e k.addresses;
  owner = λ address. owner_after e address (k.owner address);
  noted = λ user. noted_after e user (k.noted user);
  accepted = accepted_after e k.accepted;
  waiting = waiting_after k e;
  messages = λ board. k.messages board ++ new_messages e k.boards board;
}
