-- Small histories with what each answer must be.
use Rattle.std.specs.Prelude.{◌≡◌, ℕ, Bool, true, false, List, [], ◌∷◌, map, codes, Option, Some, None, replicate}
use Rattle.std.specs.List.{filter}
use Rattle.pc_base.specs.declared.refusal.LimitWord.{LimitWord}
use Rattle.pc_base.specs.declared.refusal.LimitWord.TheVariants as limit
use Rattle.pc_message.specs.declared.lists.Mail.{Mail}
use Rattle.pc_message.specs.Message.{weight_of}
use Rattle.pc_tables.specs.Table.{numbers}
use Rattle.pc_office_history.specs.declared.kept.Target.{Target}
use Rattle.pc_office_history.specs.declared.kept.KeptMail.{KeptMail}
use Rattle.pc_office_history.specs.declared.entry.OfficeEntry.{OfficeEntry}
use Rattle.pc_office_history.specs.declared.entry.OfficeEntry.TheVariants.{AddUser, AddBoard, TakeAddress, DropAddress, Accept, Pulled}
use Rattle.pc_office_history.specs.Record.{OfficeRecord, empty_record}
use Rattle.pc_office_history.specs.History.{History, start, ◌▹◌, new_office, known, next, mails, mail_numbered}
use Rattle.pc_office_history.specs.Allowed.{is_allowed}
use Rattle.pc_office_history.specs.Answers.{addresses_of, waiting_past, board_of, boards_among}
use Rattle.pc_office_history.specs.Limits.{board_weight, would_pass, limits_in_order, limit_passed}
use Rattle.pc_office_history.specs.Step.{record_of}
use Rattle.pc_office_history.specs.Legal.{IsWellFormed, IsCanonical, IsLegal}

abbrev pub ann : List ℕ
ann = codes "ann"

abbrev pub bob : List ℕ
bob = codes "bob"

abbrev pub eve : List ℕ
eve = codes "eve"

abbrev pub news : List ℕ
news = codes "news"

abbrev pub box : List ℕ
box = codes "inbox"

abbrev pub work : List ℕ
work = codes "work"

-- an address of its user for a mailbox other than the inbox
abbrev pub ann_work : List ℕ
ann_work = codes "ann.work"

-- a message of one line, which counts 5 + 256
abbrev pub note : List (List ℕ)
note = codes "one" ∷ []

abbrev pub other_note : List (List ℕ)
other_note = codes "two" ∷ []

abbrev pub target : List ℕ → List ℕ → Target
target user mailbox = record { user = user; mailbox = mailbox }

abbrev pub mail : ℕ → List ℕ → List (List ℕ) → Mail
mail number mailbox message = record { number = number; mailbox = mailbox; message = message }

abbrev pub kept_for : ℕ → List Target → KeptMail
kept_for number targets = record { number = number; targets = targets; message = note }

-- of each entry, whether it is allowed
abbrev pub allows : History → List OfficeEntry → List Bool
allows h entries = map (is_allowed (known h)) entries

-- of each entry, the limit that it would pass first
abbrev pub passes : History → List OfficeEntry → List (Option LimitWord)
passes h entries = map (limit_passed (known h)) entries

-- all limits that the entry would pass, in their order
abbrev pub all_passed : History → OfficeEntry → List LimitWord
all_passed h e = filter (would_pass (known h) e) limits_in_order

-- what waits for a user past a number
abbrev pub waits : History → List ℕ → ℕ → List Mail
waits h user number = waiting_past (known h) user number

-- two users and a board
abbrev pub enrolled : History
enrolled = new_office ▹ AddUser ann ▹ AddUser bob ▹ AddBoard news

-- a mail to two users and a board
abbrev pub sent_to_three : History
sent_to_three = enrolled ▹ Accept (bob ∷ ann ∷ news ∷ []) note

-- each user has it once, in its inbox, and the board has it once
abbrev pub SentToThree : Type 0
SentToThree = (waits sent_to_three bob 0 ≡ mail 1 box note ∷ [])
    × (waits sent_to_three ann 0 ≡ mail 1 box note ∷ [])
    × (waits sent_to_three ann 1 ≡ [])
    × (waits sent_to_three news 0 ≡ [])
    × (board_of (known sent_to_three) news ≡ Some (note ∷ []))
    × (board_of (known sent_to_three) ann ≡ None)
    × (board_of (known enrolled) news ≡ Some [])
    × (boards_among (known enrolled) (bob ∷ ann ∷ news ∷ []) ≡ news ∷ [])
    × (mails sent_to_three ≡ kept_for 1 (target bob box ∷ target ann box ∷ []) ∷ [])
    × ((known sent_to_three).accepted ≡ 1)
    × (next sent_to_three ≡ 5)

-- a name that is neither an address nor a board, no name, and a name twice are refused
abbrev pub NoRecipient : Type 0
NoRecipient = (allows enrolled (Accept (bob ∷ eve ∷ []) note ∷ Accept [] note ∷ Accept (bob ∷ bob ∷ []) note ∷ Accept (bob ∷ ann ∷ []) note ∷ Accept (news ∷ []) note ∷ []) ≡ false ∷ false ∷ false ∷ true ∷ true ∷ [])
    × (allows (enrolled ▹ TakeAddress eve ann work) (Accept (bob ∷ eve ∷ []) note ∷ []) ≡ true ∷ [])
    × (allows (enrolled ▹ TakeAddress eve ann work ▹ DropAddress eve) (Accept (bob ∷ eve ∷ []) note ∷ []) ≡ false ∷ [])

-- one user, one mail, and that it was pulled: three entries
abbrev pub one_pulled : History
one_pulled = new_office ▹ AddUser ann ▹ Accept (ann ∷ []) note ▹ Pulled ann 1

-- what was pulled waits no more, and isn't kept
abbrev pub OnePulled : Type 0
OnePulled = (next one_pulled ≡ 4)
    × (next (new_office ▹ AddUser ann) ≡ 2)
    × (waits (new_office ▹ AddUser ann ▹ Accept (ann ∷ []) note) ann 0 ≡ mail 1 box note ∷ [])
    × (waits one_pulled ann 0 ≡ [])
    × ((known one_pulled).noted ann ≡ 1)
    × ((record_of one_pulled).kept ≡ [])
    × ((record_of one_pulled).users ≡ (ann, 1) ∷ [])
    × ((record_of one_pulled).accepted ≡ 1)
    × (waits (one_pulled ▹ Accept (ann ∷ []) other_note) ann 0 ≡ mail 2 box other_note ∷ [])

-- a user that isn't one, a number that is noted, and one past the last mail are refused
abbrev pub NoSuchPull : Type 0
NoSuchPull = (allows one_pulled (Pulled ann 1 ∷ Pulled ann 0 ∷ Pulled ann 2 ∷ Pulled bob 1 ∷ Pulled news 1 ∷ []) ≡ false ∷ false ∷ false ∷ false ∷ false ∷ [])
    × (allows sent_to_three (Pulled ann 0 ∷ Pulled ann 1 ∷ Pulled bob 1 ∷ Pulled news 1 ∷ Pulled ann 2 ∷ []) ≡ false ∷ true ∷ true ∷ false ∷ false ∷ [])
    × (allows (enrolled ▹ TakeAddress eve ann work ▹ Accept (eve ∷ []) note) (Pulled eve 1 ∷ Pulled ann 1 ∷ Pulled bob 1 ∷ []) ≡ false ∷ true ∷ true ∷ [])

-- what one user pulled waits for the other
abbrev pub PulledByOne : Type 0
PulledByOne = (waits (sent_to_three ▹ Pulled bob 1) bob 0 ≡ [])
    × (waits (sent_to_three ▹ Pulled bob 1) ann 0 ≡ mail 1 box note ∷ [])
    × ((record_of (sent_to_three ▹ Pulled bob 1)).kept ≡ kept_for 1 (target ann box ∷ []) ∷ [])
    × ((record_of (sent_to_three ▹ Pulled bob 1 ▹ Pulled ann 1)).kept ≡ [])
    × ((record_of (sent_to_three ▹ Pulled bob 1 ▹ Pulled ann 1)).boards ≡ (news, note ∷ []) ∷ [])

-- an address for a second mailbox; two mails to it, and one to the inbox
abbrev pub to_two_mailboxes : History
to_two_mailboxes = new_office ▹ AddUser ann ▹ TakeAddress ann_work ann work ▹ Accept (ann_work ∷ []) note ▹ Accept (ann_work ∷ []) other_note ▹ Accept (ann ∷ []) note

-- mails go to the mailbox of their address, in order, and are asked for past a number
abbrev pub ToTwoMailboxes : Type 0
ToTwoMailboxes = (waits to_two_mailboxes ann 0 ≡ mail 1 work note ∷ mail 2 work other_note ∷ mail 3 box note ∷ [])
    × (waits to_two_mailboxes ann 1 ≡ mail 2 work other_note ∷ mail 3 box note ∷ [])
    × (waits to_two_mailboxes ann 3 ≡ [])
    × (waits (to_two_mailboxes ▹ Pulled ann 2) ann 0 ≡ mail 3 box note ∷ [])
    × (waits (to_two_mailboxes ▹ Pulled ann 2) ann 3 ≡ [])
    × (waits (to_two_mailboxes ▹ Pulled ann 3 ▹ Accept (ann_work ∷ []) note) ann 1 ≡ mail 4 work note ∷ [])

-- an address of a second mailbox: three mails to it are pulled, and one more comes
abbrev pub three_pulled : History
three_pulled = new_office ▹ AddUser ann ▹ TakeAddress ann_work ann work ▹ Accept (ann_work ∷ []) note ▹ Accept (ann_work ∷ []) note ▹ Accept (ann_work ∷ []) note ▹ Pulled ann 3 ▹ Accept (ann_work ∷ []) other_note

abbrev pub ThreePulled : Type 0
ThreePulled = (waits three_pulled ann 0 ≡ mail 4 work other_note ∷ [])
    × (waits three_pulled ann 3 ≡ mail 4 work other_note ∷ [])
    × (waits three_pulled ann 4 ≡ [])
    × ((record_of three_pulled).kept ≡ record { number = 4; targets = target ann work ∷ []; message = other_note } ∷ [])
    × (mail_numbered three_pulled 2 ≡ Some (kept_for 2 (target ann work ∷ [])))
    × (mail_numbered three_pulled 5 ≡ None)

-- a mail goes to a user once: where two of its names are the user's, to the mailbox of the first
abbrev pub FirstName : Type 0
FirstName = (waits (to_two_mailboxes ▹ Accept (ann_work ∷ ann ∷ []) note) ann 3 ≡ mail 4 work note ∷ [])
    × (waits (to_two_mailboxes ▹ Accept (ann ∷ ann_work ∷ []) note) ann 3 ≡ mail 4 box note ∷ [])
    × (mails (enrolled ▹ TakeAddress ann_work ann work ▹ TakeAddress eve bob work ▹ Accept (eve ∷ ann_work ∷ news ∷ bob ∷ ann ∷ []) note) ≡ kept_for 1 (target bob work ∷ target ann work ∷ []) ∷ [])

-- an address that another user took since: what was sent before stays where it went
abbrev pub taken_by_other : History
taken_by_other = enrolled ▹ TakeAddress eve ann work ▹ Accept (eve ∷ []) note ▹ DropAddress eve ▹ TakeAddress eve bob box ▹ Accept (eve ∷ []) other_note

abbrev pub TakenByOther : Type 0
TakenByOther = (waits taken_by_other ann 0 ≡ mail 1 work note ∷ [])
    × (waits taken_by_other bob 0 ≡ mail 2 box other_note ∷ [])
    × ((known taken_by_other).owner eve ≡ Some (target bob box))
    × ((known (enrolled ▹ TakeAddress eve ann work ▹ DropAddress eve)).owner eve ≡ None)

-- users, boards and addresses share their names, and what is dropped may be taken or made
abbrev pub NamesAreShared : Type 0
NamesAreShared = (allows (enrolled ▹ TakeAddress ann_work ann work) (AddUser ann ∷ AddUser news ∷ AddUser ann_work ∷ AddUser eve ∷ []) ≡ false ∷ false ∷ false ∷ true ∷ [])
    × (allows (enrolled ▹ TakeAddress ann_work ann work) (AddBoard ann ∷ AddBoard news ∷ AddBoard ann_work ∷ AddBoard eve ∷ []) ≡ false ∷ false ∷ false ∷ true ∷ [])
    × (allows (enrolled ▹ TakeAddress ann_work ann work) (TakeAddress ann ann box ∷ TakeAddress news ann box ∷ TakeAddress ann_work ann box ∷ TakeAddress ann_work bob box ∷ TakeAddress eve ann box ∷ []) ≡ false ∷ false ∷ false ∷ false ∷ true ∷ [])
    × (allows (enrolled ▹ TakeAddress ann_work ann work ▹ DropAddress ann_work) (AddUser ann_work ∷ AddBoard ann_work ∷ TakeAddress ann_work bob work ∷ DropAddress ann_work ∷ []) ≡ true ∷ true ∷ true ∷ false ∷ [])

-- an address is for a user; a user's own name, a board and a name that is no address aren't dropped
abbrev pub NoSuchAddress : Type 0
NoSuchAddress = (allows enrolled (TakeAddress eve eve box ∷ TakeAddress eve news box ∷ TakeAddress eve bob box ∷ []) ≡ false ∷ false ∷ true ∷ [])
    × (allows enrolled (DropAddress ann ∷ DropAddress bob ∷ DropAddress news ∷ DropAddress eve ∷ []) ≡ false ∷ false ∷ false ∷ false ∷ [])
    × (allows (enrolled ▹ TakeAddress eve ann box) (DropAddress eve ∷ DropAddress ann ∷ []) ≡ true ∷ false ∷ [])

-- addresses in the order of their last taking, a user's own name among those of its inbox
abbrev pub taken_in_turn : History
taken_in_turn = enrolled ▹ TakeAddress (codes "a.one") ann box ▹ TakeAddress (codes "a.two") ann box ▹ TakeAddress ann_work ann work ▹ DropAddress (codes "a.one") ▹ TakeAddress (codes "a.one") ann box

abbrev pub InOrderOfTaking : Type 0
InOrderOfTaking = (addresses_of (known (enrolled ▹ TakeAddress (codes "a.two") ann box)) ann box ≡ ann ∷ codes "a.two" ∷ [])
    × (addresses_of (known taken_in_turn) ann box ≡ ann ∷ codes "a.two" ∷ codes "a.one" ∷ [])
    × (addresses_of (known taken_in_turn) ann work ≡ ann_work ∷ [])
    × (addresses_of (known taken_in_turn) bob box ≡ bob ∷ [])
    × (addresses_of (known taken_in_turn) bob work ≡ [])
    × ((known taken_in_turn).addresses ≡ ann ∷ bob ∷ codes "a.two" ∷ ann_work ∷ codes "a.one" ∷ [])
    × ((known taken_in_turn).users ≡ ann ∷ bob ∷ [])
    × ((known (taken_in_turn ▹ AddBoard work ▹ AddUser eve)).boards ≡ news ∷ work ∷ [])
    × ((known (taken_in_turn ▹ AddBoard work ▹ AddUser eve)).users ≡ ann ∷ bob ∷ eve ∷ [])

-- a name that begins as another is another
abbrev pub NamesApart : Type 0
NamesApart = (allows enrolled (AddUser (codes "an") ∷ TakeAddress (codes "anna") ann box ∷ Accept (codes "an" ∷ []) note ∷ DropAddress (codes "anna") ∷ []) ≡ true ∷ true ∷ false ∷ false ∷ [])
    × (addresses_of (known (enrolled ▹ AddUser (codes "an"))) (codes "an") box ≡ codes "an" ∷ [])

-- boards keep their messages in order; a mail to boards alone is kept for nobody, and is a mail
abbrev pub on_boards : History
on_boards = enrolled ▹ AddBoard work ▹ Accept (news ∷ []) note ▹ Accept (work ∷ ann ∷ news ∷ []) other_note

abbrev pub OnBoards : Type 0
OnBoards = (board_of (known on_boards) news ≡ Some (note ∷ other_note ∷ []))
    × (board_of (known on_boards) work ≡ Some (other_note ∷ []))
    × (board_weight (known on_boards) ≡ 783)
    × ((known on_boards).accepted ≡ 2)
    × (waits on_boards ann 0 ≡ mail 2 box other_note ∷ [])
    × ((record_of on_boards).kept ≡ record { number = 2; targets = target ann box ∷ []; message = other_note } ∷ [])
    × (allows (on_boards ▹ Pulled ann 2) (Pulled bob 1 ∷ Pulled bob 2 ∷ []) ≡ true ∷ true ∷ [])

-- a record of two users, for the first of whom so many mails wait
abbrev pub waiting_for_ann : ℕ → OfficeRecord
waiting_for_ann count = record {
  users = (ann, 0) ∷ (bob, 0) ∷ [];
  addresses = (ann, target ann box) ∷ (bob, target bob box) ∷ [];
  boards = (news, []) ∷ [];
  accepted = count;
  kept = map (λ number. kept_for number (target ann box ∷ [])) (numbers 0 count);
}

-- the numbers of what waits
abbrev pub numbers_of : List Mail → List ℕ
numbers_of mails = map (λ (one : Mail). one.number) mails

-- at most 64 mails are told at once, the first ones
abbrev pub SixtyFourAtOnce : Type 0
SixtyFourAtOnce = (numbers_of (waits (start (waiting_for_ann 70) 9) ann 0) ≡ numbers 0 64)
    × (numbers_of (waits (start (waiting_for_ann 70) 9) ann 3) ≡ numbers 3 64)
    × (numbers_of (waits (start (waiting_for_ann 70) 9) ann 10) ≡ numbers 10 60)
    × (numbers_of (waits (start (waiting_for_ann 70) 9 ▹ Pulled ann 69) ann 10) ≡ 70 ∷ [])

-- a base: of three mails the first was pulled by all, the second waits for one user and the third for two
abbrev pub some_record : OfficeRecord
some_record = record {
  users = (ann, 1) ∷ (bob, 2) ∷ [];
  addresses = (bob, target bob box) ∷ (ann, target ann box) ∷ (ann_work, target ann work) ∷ [];
  boards = (news, note ∷ []) ∷ [];
  accepted = 3;
  kept = kept_for 2 (target ann work ∷ []) ∷ kept_for 3 (target bob box ∷ target ann box ∷ []) ∷ [];
}

abbrev pub based : History
based = start some_record 9

-- entries behind a base go on from what it says
abbrev pub BaseGoesOn : Type 0
BaseGoesOn = IsLegal based
    × (waits based ann 0 ≡ mail 2 work note ∷ mail 3 box note ∷ [])
    × (waits based bob 0 ≡ mail 3 box note ∷ [])
    × (waits (based ▹ Accept (ann_work ∷ news ∷ []) other_note ▹ Pulled ann 2) ann 0 ≡ mail 3 box note ∷ mail 4 work other_note ∷ [])
    × (board_of (known (based ▹ Accept (ann_work ∷ news ∷ []) other_note)) news ≡ Some (note ∷ other_note ∷ []))
    × (allows based (Pulled ann 1 ∷ Pulled ann 2 ∷ Pulled bob 2 ∷ Pulled bob 3 ∷ Pulled bob 4 ∷ DropAddress ann_work ∷ DropAddress bob ∷ AddUser ann_work ∷ []) ≡ false ∷ true ∷ false ∷ true ∷ false ∷ true ∷ false ∷ false ∷ [])
    × (addresses_of (known (based ▹ TakeAddress eve ann box)) ann box ≡ ann ∷ eve ∷ [])
    × ((record_of (based ▹ Pulled ann 2)).kept ≡ kept_for 3 (target bob box ∷ target ann box ∷ []) ∷ [])
    × ((record_of (based ▹ Pulled ann 3)).kept ≡ kept_for 3 (target bob box ∷ []) ∷ [])
    × (next (based ▹ Pulled ann 3) ≡ 10)

-- ---- limits

-- a name for each number: of names a history asks no more than that they are different
abbrev pub named : ℕ → List ℕ
named number = 110 ∷ number ∷ []

-- as many names
abbrev pub names : ℕ → List (List ℕ)
names count = map named (numbers 0 count)

-- a board without messages for each number
abbrev pub board_numbered : ℕ → List ℕ × List (List (List ℕ))
board_numbered number = (98 ∷ number ∷ [], [])

-- a record with so many users, boards and addresses, all of these for the first user
abbrev pub filled : ℕ → ℕ → ℕ → OfficeRecord
filled users boards addresses = record empty_record {
  users = map (λ number. (named number, 0)) (numbers 0 users);
  boards = map board_numbered (numbers 0 boards);
  addresses = map (λ number. (named number, target (named 1) box)) (numbers 0 addresses);
}

-- 32 users, 64 boards and 1,024 addresses; an entry meets the limits that it can pass and no other, the first in their order is told
abbrev pub NamesAreFew : Type 0
NamesAreFew = (passes (start (filled 32 64 1024) 9) (AddUser ann ∷ AddBoard ann ∷ TakeAddress ann bob box ∷ DropAddress ann ∷ Pulled ann 1 ∷ []) ≡ Some limit.Users ∷ Some limit.Boards ∷ Some limit.Addresses ∷ None ∷ None ∷ [])
    × (passes (start (filled 31 64 1024) 9) (AddUser ann ∷ []) ≡ Some limit.Addresses ∷ [])
    × (passes (start (filled 31 63 1023) 9) (AddUser ann ∷ AddBoard ann ∷ TakeAddress ann bob box ∷ []) ≡ None ∷ None ∷ None ∷ [])
    × (passes (start (filled 32 63 1023) 9) (AddUser ann ∷ AddBoard ann ∷ TakeAddress ann bob box ∷ []) ≡ Some limit.Users ∷ None ∷ None ∷ [])
    × (passes (start (filled 1 1 1024) 9 ▹ DropAddress (110 ∷ 7 ∷ [])) (TakeAddress ann bob box ∷ AddUser ann ∷ []) ≡ None ∷ None ∷ [])

-- one mail less than can be accepted
abbrev pub last_but_one : OfficeRecord
last_but_one = record {
  users = (ann, 0) ∷ [];
  addresses = (ann, target ann box) ∷ [];
  boards = [];
  accepted = 9223372036854775806;
  kept = [];
}

-- as many mails as can be accepted
abbrev pub last_accepted : History
last_accepted = start last_but_one 9 ▹ Accept (ann ∷ []) note

-- 64 recipients, and 2^63 - 1 mails; the limit of recipients is told before that of mails, though these names are nobody's
abbrev pub MailsAreFew : Type 0
MailsAreFew = (passes enrolled (Accept (names 64) note ∷ Accept (names 65) note ∷ []) ≡ None ∷ Some limit.Recipients ∷ [])
    × (passes (start last_but_one 9) (Accept (ann ∷ []) note ∷ []) ≡ None ∷ [])
    × (allows (start last_but_one 9) (Accept (ann ∷ []) note ∷ []) ≡ true ∷ [])
    × (passes last_accepted (Accept (ann ∷ []) note ∷ Accept (names 65) note ∷ []) ≡ Some limit.Waiting ∷ Some limit.Recipients ∷ [])
    × (all_passed last_accepted (Accept (names 65) note) ≡ limit.Recipients ∷ limit.Waiting ∷ [])
    × (allows last_accepted (Accept (ann ∷ []) note ∷ Pulled ann 9223372036854775807 ∷ Pulled ann 9223372036854775808 ∷ []) ≡ false ∷ true ∷ false ∷ [])

-- 1,024 mails wait for one user: no more for it, but for others, and for it again once it has pulled one
abbrev pub WaitingIsFew : Type 0
WaitingIsFew = (passes (start (waiting_for_ann 1023) 9) (Accept (ann ∷ []) note ∷ []) ≡ None ∷ [])
    × (passes (start (waiting_for_ann 1024) 9) (Accept (ann ∷ []) note ∷ Accept (bob ∷ ann ∷ []) note ∷ Accept (bob ∷ news ∷ []) note ∷ []) ≡ Some limit.Waiting ∷ Some limit.Waiting ∷ None ∷ [])
    × (passes (start (waiting_for_ann 1024) 9 ▹ Pulled ann 1) (Accept (ann ∷ []) note ∷ []) ≡ None ∷ [])

-- a board with so many messages
abbrev pub on_board : List (List (List ℕ)) → OfficeRecord
on_board messages = record empty_record { boards = (news, messages) ∷ (work, []) ∷ [] }

-- 4,096 messages stand on a board: no more on it, but on another one
abbrev pub BoardIsFull : Type 0
BoardIsFull = (passes (start (on_board (replicate 4095 [])) 9) (Accept (news ∷ []) note ∷ []) ≡ None ∷ [])
    × (passes (start (on_board (replicate 4096 [])) 9) (Accept (news ∷ []) note ∷ Accept (work ∷ []) note ∷ []) ≡ Some limit.Board ∷ None ∷ [])

-- what waits for one user counts 4 MiB and no more, each mail its size and 256 bytes
abbrev pub WaitingWeight : Type 0
WaitingWeight = (message : List (List ℕ))
    → (weight_of message ≡ 4194304 → passes enrolled (Accept (ann ∷ []) message ∷ []) ≡ None ∷ [])
    × (weight_of message ≡ 4194305 → passes enrolled (Accept (ann ∷ []) message ∷ Accept (ann ∷ news ∷ bob ∷ []) message ∷ Accept (news ∷ []) message ∷ []) ≡ Some limit.Waiting ∷ Some limit.Waiting ∷ None ∷ [])

-- the messages of all boards count 64 MiB and no more, one that is on two boards twice
abbrev pub BoardWeight : Type 0
BoardWeight = (message : List (List ℕ))
    → (weight_of message ≡ 67108864 → passes (start (on_board []) 9) (Accept (news ∷ []) message ∷ []) ≡ None ∷ [])
    × (weight_of message ≡ 67108865 → passes (start (on_board []) 9) (Accept (news ∷ []) message ∷ []) ≡ Some limit.Board ∷ [])
    × (weight_of message ≡ 33554432 → passes (start (on_board []) 9) (Accept (news ∷ work ∷ []) message ∷ []) ≡ None ∷ [])
    × (weight_of message ≡ 33554433 → passes (start (on_board []) 9) (Accept (news ∷ work ∷ []) message ∷ Accept (work ∷ []) message ∷ []) ≡ Some limit.Board ∷ None ∷ [])

-- ---- more limits than one

-- an office with 32 users, 64 boards and 1,024 addresses
abbrev pub crowded : History
crowded = start (filled 32 64 1024) 9

-- of a legal history: an allowed user would pass two limits, and is told the first
abbrev pub TwoLimits : Type 0
TwoLimits = IsLegal crowded
    × (allows crowded (AddUser ann ∷ []) ≡ true ∷ [])
    × (all_passed crowded (AddUser ann) ≡ limit.Users ∷ limit.Addresses ∷ [])
    × (passes crowded (AddUser ann ∷ []) ≡ Some limit.Users ∷ [])

-- an office where 1,024 mails wait for ann, who has 64 addresses, and 4,096 messages stand on the board
abbrev pub laden : History
laden = start (record (waiting_for_ann 1024) {
  addresses = map (λ number. (named number, target ann box)) (numbers 0 64);
  boards = (work, replicate 4096 []) ∷ [];
}) 9

-- of a legal history: allowed mails to 65 names would pass three limits, to 64 two, and where one more can wait one; each is told the first
abbrev pub ThreeLimits : Type 0
ThreeLimits = IsLegal laden
    × (allows laden (Accept (work ∷ names 64) note ∷ Accept (work ∷ names 63) note ∷ Pulled ann 1 ∷ []) ≡ true ∷ true ∷ true ∷ [])
    × (all_passed laden (Accept (work ∷ names 64) note) ≡ limit.Recipients ∷ limit.Waiting ∷ limit.Board ∷ [])
    × (all_passed laden (Accept (work ∷ names 63) note) ≡ limit.Waiting ∷ limit.Board ∷ [])
    × (all_passed (laden ▹ Pulled ann 1) (Accept (work ∷ names 63) note) ≡ limit.Board ∷ [])
    × (passes laden (Accept (work ∷ names 64) note ∷ Accept (work ∷ names 63) note ∷ []) ≡ Some limit.Recipients ∷ Some limit.Waiting ∷ [])
    × (passes (laden ▹ Pulled ann 1) (Accept (work ∷ names 63) note ∷ []) ≡ Some limit.Board ∷ [])

-- a new office and these histories are legal
abbrev pub SamplesAreLegal : Type 0
SamplesAreLegal = IsLegal new_office × IsLegal sent_to_three × IsLegal one_pulled × IsLegal to_two_mailboxes × IsLegal three_pulled × IsLegal taken_by_other × IsLegal taken_in_turn × IsLegal on_boards × IsLegal last_accepted

-- ---- bases

-- this record isn't well formed
abbrev pub IsNoBase : OfficeRecord → Type 0
IsNoBase r = IsWellFormed r → ⊥

-- names twice, also as another's; addresses for nobody; what is noted past the last mail; and mails that aren't kept so
abbrev pub NoBases : Type 0
NoBases = IsNoBase (record some_record { users = (ann, 1) ∷ (bob, 2) ∷ (ann, 1) ∷ [] })
    × IsNoBase (record some_record { boards = (news, []) ∷ (news, []) ∷ [] })
    × IsNoBase (record some_record { addresses = (ann, target ann box) ∷ (ann_work, target ann work) ∷ (ann, target ann box) ∷ [] })
    × IsNoBase (record some_record { boards = (bob, []) ∷ [] })
    × IsNoBase (record some_record { boards = (ann_work, []) ∷ [] })
    × IsNoBase (record some_record { addresses = (ann, target ann box) ∷ (eve, target eve box) ∷ [] })
    × IsNoBase (record some_record { users = (ann, 1) ∷ (bob, 4) ∷ []; kept = [] })
    × IsNoBase (record some_record { kept = kept_for 4 (target ann box ∷ []) ∷ [] })
    × IsNoBase (record some_record { kept = kept_for 1 (target ann box ∷ []) ∷ [] })
    × IsNoBase (record some_record { kept = kept_for 3 (target ann box ∷ []) ∷ kept_for 2 (target ann box ∷ []) ∷ [] })
    × IsNoBase (record some_record { kept = kept_for 3 (target ann box ∷ []) ∷ kept_for 3 (target bob box ∷ []) ∷ [] })
    × IsNoBase (record some_record { kept = kept_for 3 [] ∷ [] })
    × IsNoBase (record some_record { kept = kept_for 3 (target ann box ∷ target ann work ∷ []) ∷ [] })
    × IsNoBase (record some_record { kept = kept_for 3 (target eve box ∷ []) ∷ [] })
    × IsNoBase (record some_record { accepted = 9223372036854775808 })

-- this record passes a limit, and is well formed
abbrev pub PassesLimit : OfficeRecord → Type 0
PassesLimit r = IsWellFormed r × (IsCanonical r → ⊥)

-- 32 users are the most of a base
abbrev pub UsersAtLimit : Type 0
UsersAtLimit = IsCanonical (filled 32 0 32) × PassesLimit (filled 33 0 33)

-- 4,096 messages are the most of a board
abbrev pub BoardAtLimit : Type 0
BoardAtLimit = IsCanonical (on_board (replicate 4096 [])) × PassesLimit (on_board (replicate 4097 []))

-- 1,024 mails are the most that wait for a user of a base
abbrev pub WaitingAtLimit : Type 0
WaitingAtLimit = IsCanonical (waiting_for_ann 1024) × PassesLimit (waiting_for_ann 1025)

-- a user of a base may have no address, and then never gets its own name as one
abbrev pub without_address : OfficeRecord
without_address = record empty_record { users = (ann, 0) ∷ [] }

abbrev pub WithoutAddress : Type 0
WithoutAddress = IsCanonical without_address
    × (allows (start without_address 9) (TakeAddress ann ann box ∷ TakeAddress eve ann box ∷ Accept (ann ∷ []) note ∷ []) ≡ false ∷ true ∷ false ∷ [])
