-- What holds of every legal history.
use Rattle.std.specs.Prelude.{◌≡◌, ℕ, suc, ◌+◌, ◌*◌, ◌<◌, ◌≤◌, ◌↔◌, ◌&&◌, ⊤, true, false, List, [], ◌∷◌, ◌++◌, map, Option, None, Some, MatchOption, Contains, slice_get, length, if◌then◌else◌}
use Rattle.std.specs.List.{AllByRecursion, filter, filter_map, find, list_any}
use Rattle.std.specs.Map.{keys_of}
use Rattle.pc_base.specs.declared.refusal.LimitWord.{LimitWord}
use Rattle.pc_base.specs.declared.refusal.LimitWord.TheVariants as limit
use Rattle.pc_base.specs.Name.{inbox}
use Rattle.pc_message.specs.declared.lists.Mail.{Mail}
use Rattle.pc_message.specs.Message.{weight_of}
use Rattle.pc_message.specs.declared.limits.TheConstants.{MOST_LETTERS, LAST_MAIL}
use Rattle.pc_tables.specs.Table.{same, is_among, numbers, total}
use Rattle.pc_tables.specs.Order.{Ordered}
use Rattle.pc_office_history.specs.declared.limits.TheConstants.{MOST_USERS, MOST_WAITING, MOST_WAITING_WEIGHT}
use Rattle.pc_office_history.specs.declared.kept.Target.{Target}
use Rattle.pc_office_history.specs.declared.kept.KeptMail.{KeptMail}
use Rattle.pc_office_history.specs.declared.entry.OfficeEntry.{OfficeEntry}
use Rattle.pc_office_history.specs.declared.entry.OfficeEntry.TheVariants.{Accept, Pulled}
use Rattle.pc_office_history.specs.Record.{OfficeRecord, target_of, mails_for}
use Rattle.pc_office_history.specs.Effect.{noted_after, accepted_after, targets_of, new_mails}
use Rattle.pc_office_history.specs.Known.{Known, is_past, said_by, after_entry}
use Rattle.pc_office_history.specs.History.{History, start, ◌▹◌, ◌▹▹◌, new_office, known, next, mails, mail_numbered}
use Rattle.pc_office_history.specs.Allowed.{is_allowed, is_user, is_board, is_address}
use Rattle.pc_office_history.specs.Answers.{addresses_of, waiting_past, board_of}
use Rattle.pc_office_history.specs.Limits.{are_too_many, board_weight, would_pass, limit_passed, limits_in_order, IsWithin, limits_of_bases}
use Rattle.pc_office_history.specs.Step.{after, record_of}
use Rattle.pc_office_history.specs.Legal.{HasOtherUser, IsWellFormed, IsCanonical, IsLegal}

-- two histories answer every question alike
pub record AnswerAlike (g h : History) : Type 0 where
  pub number : next g ≡ next h
  pub users : (known g).users ≡ (known h).users
  pub boards : (known g).boards ≡ (known h).boards
  pub addresses : (known g).addresses ≡ (known h).addresses
  pub owner : (address : List ℕ) → (known g).owner address ≡ (known h).owner address
  pub noted : (user : List ℕ) → (known g).noted user ≡ (known h).noted user
  pub accepted : (known g).accepted ≡ (known h).accepted
  pub waiting : (user : List ℕ) → (known g).waiting user ≡ (known h).waiting user
  pub messages : (board : List ℕ) → (known g).messages board ≡ (known h).messages board
  pub addresses_of : (user mailbox : List ℕ) → addresses_of (known g) user mailbox ≡ addresses_of (known h) user mailbox
  pub waiting_past : (user : List ℕ) (number : ℕ) → waiting_past (known g) user number ≡ waiting_past (known h) user number
  pub board_of : (board : List ℕ) → board_of (known g) board ≡ board_of (known h) board
  pub targets : (names : List (List ℕ)) → targets_of (known g).owner names ≡ targets_of (known h).owner names
  pub allowed : (e : OfficeEntry) → is_allowed (known g) e ≡ is_allowed (known h) e
  pub limits : (e : OfficeEntry) → limit_passed (known g) e ≡ limit_passed (known h) e

-- the history with no entry whose base is the record of this one
abbrev pub folded : History → History
folded h = start (record_of h) (next h)

abbrev pub RecordAnswersAsHistory : Type 0
RecordAnswersAsHistory = (h : History) → IsLegal h → AnswerAlike h (folded h)

-- whatever entries come behind, the record serves as well as the history whose record it is
abbrev pub RecordInPlaceOfHistory : Type 0
RecordInPlaceOfHistory = (h : History) → IsLegal h → (entries : List OfficeEntry) → AnswerAlike (h ▹▹ entries) (folded h ▹▹ entries) × (IsLegal (h ▹▹ entries) ↔ IsLegal (folded h ▹▹ entries)) × (record_of (h ▹▹ entries) ≡ record_of (folded h ▹▹ entries))

abbrev pub RecordIsCanonical : Type 0
RecordIsCanonical = (h : History) → IsLegal h → IsCanonical (record_of h)

-- every limit holds at each place
abbrev pub LimitsHold : Type 0
LimitsHold = (h : History) → IsLegal h → IsWithin (known h) limits_of_bases

-- an entry is refused for a limit only where it passes it
abbrev pub LimitIsPassed : Type 0
LimitIsPassed = (h : History) (e : OfficeEntry) (limit : LimitWord) → limit_passed (known h) e ≡ Some limit → would_pass (known h) e limit ≡ true

-- the entry is told the first of all limits, in their order, that it would pass, and none where it would pass none
abbrev pub TellsFirstLimit : Known → OfficeEntry → Type 0
TellsFirstLimit k e = limit_passed k e ≡ find (would_pass k e) limits_in_order

-- this holds of each allowed entry, and of each mail, allowed or not: that no number is left for it is a limit too, and
-- too many names are told before it is known who they are
abbrev pub FirstLimitIsTold : Type 0
FirstLimitIsTold = (h : History) → IsLegal h
    → ((e : OfficeEntry) → is_allowed (known h) e ≡ true → TellsFirstLimit (known h) e)
    × ((names message : List (List ℕ)) → TellsFirstLimit (known h) (Accept names message))

-- an allowed entry that passes no limit makes of a canonical record one that says what is known after the entry
abbrev pub StepIsOneEntryMore : Type 0
StepIsOneEntryMore = (r : OfficeRecord) (e : OfficeEntry) → IsCanonical r → is_allowed (said_by r) e ≡ true → limit_passed (said_by r) e ≡ None → IsCanonical (after r e) × (said_by (after r e) ≡ after_entry (said_by r) e)

-- an allowed entry, also one that passes a limit, makes of a well-formed record one that says what is known after the entry
abbrev pub StepIsFormedAgain : Type 0
StepIsFormedAgain = (r : OfficeRecord) (e : OfficeEntry) → IsWellFormed r → is_allowed (said_by r) e ≡ true → IsWellFormed (after r e) × (said_by (after r e) ≡ after_entry (said_by r) e)

-- what a canonical record keeps of mails is no more than may wait for all users
pub record IsBounded (r : OfficeRecord) : Type 0 where
  pub mails : length r.kept ≤ total (λ (mail : KeptMail). length mail.targets) r.kept
  pub targets : total (λ (mail : KeptMail). length mail.targets) r.kept ≤ MOST_USERS * MOST_WAITING
  pub weight : total (λ (mail : KeptMail). weight_of mail.message) r.kept ≤ MOST_USERS * MOST_WAITING_WEIGHT

abbrev pub RecordIsBounded : Type 0
RecordIsBounded = (r : OfficeRecord) → IsCanonical r → IsBounded r

-- what is said of each name is what stands in its table, and so is what is said of all of them
pub record IsReadOff (r : OfficeRecord) : Type 0 where
  pub noted : AllByRecursion (λ (user : List ℕ × ℕ). (said_by r).noted user.0 ≡ user.1) r.users
  pub owners : AllByRecursion (λ (address : List ℕ × Target). (said_by r).owner address.0 ≡ Some address.1) r.addresses
  pub messages : AllByRecursion (λ (board : List ℕ × List (List (List ℕ))). (said_by r).messages board.0 ≡ board.1) r.boards
  pub weight : board_weight (said_by r) ≡ total (λ board. total weight_of board.1) r.boards
  pub addresses : (user mailbox : List ℕ) → addresses_of (said_by r) user mailbox ≡ keys_of (filter (λ address. same user address.1.user && same mailbox address.1.mailbox) r.addresses)

abbrev pub RecordIsReadOff : Type 0
RecordIsReadOff = (r : OfficeRecord) → IsWellFormed r → IsReadOff r

-- ---- names

-- no board is a user or an address, and an address is for a user
pub record AreApart (k : Known) : Type 0 where
  pub boards : (name : List ℕ) → is_board k name ≡ true → (is_user k name ≡ false) × (is_address k name ≡ false)
  pub addresses : (name : List ℕ) → is_among name k.addresses ≡ is_address k name
  pub owners : (name : List ℕ) → MatchOption (k.owner name) ⊤ (λ target. is_user k target.user ≡ true)

abbrev pub NamesAreApart : Type 0
NamesAreApart = (h : History) → IsLegal h → AreApart (known h)

-- a user stays one, and its name stays for whom it is
abbrev pub OwnNameStays : Type 0
OwnNameStays = (h : History) (entries : List OfficeEntry) → IsLegal (h ▹▹ entries) → (user : List ℕ) → is_user (known h) user ≡ true → (is_user (known (h ▹▹ entries)) user ≡ true) × ((known (h ▹▹ entries)).owner user ≡ (known h).owner user)

-- the name of each user is its own address, for its inbox
abbrev pub HaveOwnNames : Known → Type 0
HaveOwnNames k = (user : List ℕ) → is_user k user ≡ true → k.owner user ≡ Some (record { user = user; mailbox = inbox })

-- so it is in a new office, and no entry changes it
abbrev pub OwnNamesAreKept : Type 0
OwnNamesAreKept = HaveOwnNames (known new_office) × ((h : History) (entries : List OfficeEntry) → IsLegal (h ▹▹ entries) → HaveOwnNames (known h) → HaveOwnNames (known (h ▹▹ entries)))

-- ---- mails

-- a mail goes to each user once, and in the mailbox of the first of the names that is an address of the user
abbrev pub TargetIsOfFirstName : Type 0
TargetIsOfFirstName = (owner : List ℕ → Option Target) (names : List (List ℕ)) → Ordered HasOtherUser (targets_of owner names) × ((user : List ℕ) → target_of user (targets_of owner names) ≡ target_of user (filter_map owner names))

-- how many of the entries accept a mail
abbrev pub accept_count : List OfficeEntry → ℕ
accept_count [] = 0
accept_count (e ∷ entries) = accepted_after e 0 + accept_count entries

-- mails are numbered one after the other, behind those that were accepted before the base
abbrev pub MailsAreNumbered : Type 0
MailsAreNumbered = (r : OfficeRecord) (number : ℕ) (entries : List OfficeEntry) → ((known (start r number ▹▹ entries)).accepted ≡ r.accepted + accept_count entries) × (map (λ (mail : KeptMail). mail.number) (mails (start r number ▹▹ entries)) ≡ map (λ (mail : KeptMail). mail.number) r.kept ++ numbers r.accepted (accept_count entries))

-- the mail of the next number is the one that is accepted next, with the targets that own its names then
abbrev pub MailHasItsNumber : Type 0
MailHasItsNumber = (h : History) → IsLegal h → (names message : List (List ℕ)) (entries : List OfficeEntry) → mail_numbered (h ▹ Accept names message ▹▹ entries) (suc (known h).accepted) ≡ Some (record { number = suc (known h).accepted; targets = targets_of (known h).owner names; message = message })

-- what waits for a user are the mails with a target of it, past the number that is noted
abbrev pub WaitingIsPastNoted : Type 0
WaitingIsPastNoted = (h : History) → IsLegal h → (user : List ℕ) → (known h).waiting user ≡ filter (is_past ((known h).noted user)) (mails_for user (mails h))

-- mails that wait, by rising number, each past the noted number and accepted; nothing waits for who is no user
pub record IsInOrder (k : Known) (user : List ℕ) : Type 0 where
  pub rising : Ordered (λ (mail later : Mail). mail.number < later.number) (k.waiting user)
  pub past : AllByRecursion (λ (mail : Mail). (k.noted user < mail.number) × (mail.number ≤ k.accepted)) (k.waiting user)
  pub noted : k.noted user ≤ k.accepted
  pub nobody : is_user k user ≡ false → (k.waiting user ≡ []) × (k.noted user ≡ 0)

abbrev pub WaitingIsInOrder : Type 0
WaitingIsInOrder = (h : History) → IsLegal h → (user : List ℕ) → IsInOrder (known h) user

-- neither the number of accepted mails nor a noted number ever falls
abbrev pub NumbersNeverFall : Type 0
NumbersNeverFall = (h : History) (entries : List OfficeEntry) → IsLegal (h ▹▹ entries) → ((known h).accepted ≤ (known (h ▹▹ entries)).accepted) × ((user : List ℕ) → (known h).noted user ≤ (known (h ▹▹ entries)).noted user)

-- a mail as it waits for a target once it is accepted
abbrev pub mail_to : History → List (List ℕ) → Target → Mail
mail_to h message target = record { number = suc (known h).accepted; mailbox = target.mailbox; message = message }

-- a mail waits for a user, and is the first one told to a user that asks for what is past a number
pub record IsToldFirst (k : Known) (user : List ℕ) (number : ℕ) (mail : Mail) : Type 0 where
  pub waits : Contains (k.waiting user) mail
  pub first : slice_get (waiting_past k user number) 0 ≡ Some mail

-- a mail waits for each of its users until the number that is noted of the user reaches it, and is told first past all mails before it
abbrev pub AcceptedMailWaits : Type 0
AcceptedMailWaits = (h : History) (names message : List (List ℕ)) (entries : List OfficeEntry) → IsLegal (h ▹ Accept names message ▹▹ entries) → (user : List ℕ) (target : Target) → target_of user (targets_of (known h).owner names) ≡ Some target → (known (h ▹ Accept names message ▹▹ entries)).noted user ≤ (known h).accepted → IsToldFirst (known (h ▹ Accept names message ▹▹ entries)) user (known h).accepted (mail_to h message target)

-- what waits for a user after a mail is what waited and the mail, if it is for the user
abbrev pub MailIsAdded : Type 0
MailIsAdded = (h : History) (names message : List (List ℕ)) → IsLegal h → (user : List ℕ) → (known (h ▹ Accept names message)).waiting user ≡ (known h).waiting user ++ mails_for user (new_mails (Accept names message) (known h).owner (known h).accepted)

-- what waits for a user once one has pulled is past the number, if the user is the one, and else what it was
abbrev pub PulledIsTaken : Type 0
PulledIsTaken = (h : History) (by : List ℕ) (number : ℕ) → IsLegal h → (user : List ℕ) → (known (h ▹ Pulled by number)).waiting user ≡ (if same by user then filter (is_past number) ((known h).waiting user) else (known h).waiting user)

-- an entry that accepts no mail and notes nothing of a user leaves what waits for it
abbrev pub WaitingStays : Type 0
WaitingStays = (h : History) (e : OfficeEntry) → IsLegal h → accepted_after e 0 ≡ 0 → (user : List ℕ) → noted_after e user ((known h).noted user) ≡ (known h).noted user → (known (h ▹ e)).waiting user ≡ (known h).waiting user

-- the mails that a user is told at once: by rising number, past what was asked for, accepted, and at most 64
pub record AreToldInOrder (k : Known) (user : List ℕ) (number : ℕ) : Type 0 where
  pub rising : Ordered (λ (mail later : Mail). mail.number < later.number) (waiting_past k user number)
  pub past : AllByRecursion (λ (mail : Mail). (number < mail.number) × (k.noted user < mail.number) × (mail.number ≤ k.accepted)) (waiting_past k user number)
  pub few : length (waiting_past k user number) ≤ MOST_LETTERS
  pub last : k.accepted ≤ LAST_MAIL

abbrev pub MailsAreToldInOrder : Type 0
MailsAreToldInOrder = (h : History) → IsLegal h → (user : List ℕ) (number : ℕ) → AreToldInOrder (known h) user number

-- the number of the last of these mails, or this one where there is none
abbrev pub last_number : ℕ → List Mail → ℕ
last_number number [] = number
last_number number (mail ∷ mails) = last_number mail.number mails

-- what waits past a number is what is told of it, and then what waits past the last number that is told; where fewer than 64 mails are told, these are all
pub record AreAllTold (k : Known) (user : List ℕ) (number : ℕ) : Type 0 where
  pub told_first : filter (is_past number) (k.waiting user) ≡ waiting_past k user number ++ filter (is_past (last_number number (waiting_past k user number))) (k.waiting user)
  pub all : length (waiting_past k user number) < MOST_LETTERS → filter (is_past number) (k.waiting user) ≡ waiting_past k user number

abbrev pub NothingIsLeftOut : Type 0
NothingIsLeftOut = (h : History) → IsLegal h → (user : List ℕ) (number : ℕ) → AreAllTold (known h) user number

-- a mail passes the limit of what may wait just where it does so for a user to whom it goes
abbrev pub WaitingIsOfTargets : Type 0
WaitingIsOfTargets = (h : History) (names message : List (List ℕ)) → IsLegal h → is_allowed (known h) (Accept names message) ≡ true → would_pass (known h) (Accept names message) limit.Waiting ≡ list_any (λ target. are_too_many ((known (h ▹ Accept names message)).waiting target.user)) (targets_of (known h).owner names)

-- ---- boards

-- what stands on a board stays, in its place
abbrev pub BoardsOnlyGrow : Type 0
BoardsOnlyGrow = (h : History) (entries : List OfficeEntry) (board : List ℕ) → (more : List (List (List ℕ))) × ((known (h ▹▹ entries)).messages board ≡ (known h).messages board ++ more)

-- what an entry sends to a name: one message, or none
abbrev pub sent_to : List ℕ → OfficeEntry → List (List (List ℕ))
sent_to name (Accept names message) = if is_among name names then message ∷ [] else []
sent_to name _ = []

-- a board has the messages that it had, and behind them what the entry sends to it; where no board is, nothing comes
abbrev pub MessageIsAdded : Type 0
MessageIsAdded = (h : History) (e : OfficeEntry) (board : List ℕ) → (known (h ▹ e)).messages board ≡ (known h).messages board ++ (if is_board (known h) board then sent_to board e else [])

-- a message counts once more for each board that it is sent to
abbrev pub WeightIsAdded : Type 0
WeightIsAdded = (k : Known) (names message : List (List ℕ)) → board_weight (after_entry k (Accept names message)) ≡ board_weight k + total (λ _. weight_of message) (filter (λ board. is_among board names) k.boards)
