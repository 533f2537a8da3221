-- How much the office may have, and which limit an entry would pass first.
use Rattle.std.specs.Prelude.{◌≡◌, ℕ, Bool, false, ◌||◌, nat_lt, List, [], ◌∷◌, length, Option}
use Rattle.std.specs.List.{list_any, find, AllByRecursion}
use Rattle.pc_base.specs.declared.refusal.LimitWord.{LimitWord}
use Rattle.pc_base.specs.declared.refusal.LimitWord.TheVariants as limit
use Rattle.pc_message.specs.declared.lists.Mail.{Mail}
use Rattle.pc_message.specs.Message.{weight_of}
use Rattle.pc_message.specs.declared.limits.TheConstants.{LAST_MAIL}
use Rattle.pc_tables.specs.Table.{total}
use Rattle.pc_office_history.specs.declared.entry.OfficeEntry.{OfficeEntry}
use Rattle.pc_office_history.specs.declared.entry.OfficeEntry.TheVariants.{AddUser, AddBoard, TakeAddress, Accept}
use Rattle.pc_office_history.specs.declared.limits.TheConstants.{MOST_USERS, MOST_BOARDS, MOST_ADDRESSES, MOST_RECIPIENTS, MOST_WAITING, MOST_WAITING_WEIGHT, MOST_BOARD_MESSAGES, MOST_BOARD_WEIGHT}
use Rattle.pc_office_history.specs.Known.{Known, after_entry}

-- what mails count for
abbrev pub mail_weight : List Mail → ℕ
mail_weight mails = total (λ mail. weight_of mail.message) mails

-- these are more mails than may wait for one user
abbrev pub are_too_many : List Mail → Bool
are_too_many mails = nat_lt MOST_WAITING (length mails) || nat_lt MOST_WAITING_WEIGHT (mail_weight mails)

-- what the messages of all boards count for
abbrev pub board_weight : Known → ℕ
board_weight k = total (λ board. total weight_of (k.messages board)) k.boards

-- a limit is passed
abbrev pub is_passed : Known → LimitWord → Bool
is_passed k limit.Users = nat_lt MOST_USERS (length k.users)
is_passed k limit.Boards = nat_lt MOST_BOARDS (length k.boards)
is_passed k limit.Addresses = nat_lt MOST_ADDRESSES (length k.addresses)
is_passed k limit.Waiting = list_any (λ user. are_too_many (k.waiting user)) k.users || nat_lt LAST_MAIL k.accepted
is_passed k limit.Board = list_any (λ board. nat_lt MOST_BOARD_MESSAGES (length (k.messages board))) k.boards || nat_lt MOST_BOARD_WEIGHT (board_weight k)
is_passed k _ = false

-- to how many names the entry sends
abbrev pub recipient_count : OfficeEntry → ℕ
recipient_count (Accept names _) = length names
recipient_count _ = 0

-- the entry would pass a limit: that of recipients by itself, each other one by what is known after it
abbrev pub would_pass : Known → OfficeEntry → LimitWord → Bool
would_pass k e limit.Recipients = nat_lt MOST_RECIPIENTS (recipient_count e)
would_pass k e limit = is_passed (after_entry k e) limit

-- the limits that an entry can pass, in the order in which they are told
abbrev pub limits_of : OfficeEntry → List LimitWord
limits_of (AddUser _) = limit.Users ∷ limit.Addresses ∷ []
limits_of (AddBoard _) = limit.Boards ∷ []
limits_of (TakeAddress _ _ _) = limit.Addresses ∷ []
limits_of (Accept _ _) = limit.Recipients ∷ limit.Waiting ∷ limit.Board ∷ []
limits_of _ = []

-- all limits, in the order in which they are told
abbrev pub limits_in_order : List LimitWord
limits_in_order = limit.Users ∷ limit.Boards ∷ limit.Addresses ∷ limit.Recipients ∷ limit.Waiting ∷ limit.Board ∷ []

-- the limit that an entry would pass first
abbrev pub limit_passed : Known → OfficeEntry → Option LimitWord
limit_passed k e = find (would_pass k e) (limits_of e)

-- none of these limits is passed
abbrev pub IsWithin : Known → List LimitWord → Type 0
IsWithin k limits = AllByRecursion (λ limit. is_passed k limit ≡ false) limits

-- the limits that hold at every place of a legal history, in its base too
abbrev pub limits_of_bases : List LimitWord
limits_of_bases = limit.Users ∷ limit.Boards ∷ limit.Addresses ∷ limit.Waiting ∷ limit.Board ∷ []
