-- Small histories with what each answer must be.
use Rattle.std.specs.Prelude.{◌≡◌, ℕ, Bool, true, false, List, [], ◌∷◌, map, codes, Option, Some, None, replicate}
use Rattle.std.specs.Option.{option_map}
use Rattle.pc_tables.specs.Table.{numbers, map_values}
use Rattle.pc_base.specs.declared.refusal.LimitWord.{LimitWord}
use Rattle.pc_base.specs.declared.refusal.LimitWord.TheVariants as limit
use Rattle.pc_account_history.specs.declared.kept.Listed.{Listed}
use Rattle.pc_account_history.specs.declared.entry.Entry.{Entry}
use Rattle.pc_account_history.specs.declared.entry.Entry.TheVariants.{MakeMailbox, DropMailbox, Flag, Expunge, Copy, MakeClient, DropClient, ResetClient, ResetMailbox, Forget, Pull, Password, Subscribe, Unsubscribe, Mark}
use Rattle.pc_account_history.specs.Record.{MailboxRecord, AccountRecord, empty_record, new_mailbox, mailbox_of, list_of}
use Rattle.pc_account_history.specs.Effect.{arrived}
use Rattle.pc_account_history.specs.Step.{record_of, stamped}
use Rattle.pc_account_history.specs.Legal.{IsWellFormed, IsCanonical, IsLegal}
use Rattle.std.specs.Map.{keys_of}
use Rattle.pc_account_history.specs.History.{History, ◌▸◌, new_account, known, birth, start}
use Rattle.pc_account_history.specs.Allowed.{is_allowed, is_mailbox, messages}
use Rattle.pc_message.specs.declared.descriptor.Change.TheVariants.{Present, Expunged}
use Rattle.pc_message.specs.Descriptor.{descriptor_of}
use Rattle.pc_message.specs.Message.{IsSized, weight_of}
use Rattle.pc_account_history.specs.Answers.{changed, first_changes}
use Rattle.pc_account_history.specs.Limits.{is_passed, limit_passed, limits_of_bases, listed_count, weight}

abbrev pub box : List ℕ
box = codes "inbox"

abbrev pub work : List ℕ
work = codes "work"

abbrev pub first_client : List ℕ
first_client = codes "ws1"

abbrev pub second_client : List ℕ
second_client = codes "ws2"

-- a message of one line, which counts 5 + 256
abbrev pub note : List (List ℕ)
note = codes "one" ∷ []

-- as many letters of it to a mailbox
abbrev pub notes_to : List ℕ → ℕ → List (List ℕ × List (List ℕ))
notes_to mailbox count = replicate count (mailbox, note)

-- a list as pairs of uid and stamp
abbrev pub pairs_of : List Listed → List (ℕ × ℕ)
pairs_of list = map (λ listed. (listed.uid, listed.stamp)) list

abbrev pub list_in : History → List ℕ → List ℕ → List (ℕ × ℕ)
list_in h client mailbox = pairs_of ((known h).changes client mailbox)

-- the flags of a message that lives
abbrev pub flags_in : History → List ℕ → ℕ → Option ℕ
flags_in h mailbox uid = option_map (λ kept. kept.flags) ((known h).kept mailbox uid)

abbrev pub enrolled : History
enrolled = new_account ▸ Password (replicate 32 7) ▸ MakeMailbox box

-- two clients, and five mails pulled by entry 5
abbrev pub five_pulled : History
five_pulled = enrolled ▸ MakeClient first_client ▸ MakeClient second_client ▸ Pull 5 (notes_to box 5)

-- a flag is set; then one client has taken the four that it was shown with the stamp they have
abbrev pub flag_between : History
flag_between = five_pulled ▸ Flag box 5 1 true ▸ Forget first_client box (1 ∷ 2 ∷ 3 ∷ 4 ∷ [])

abbrev pub FlagBetween : Type 0
FlagBetween = (list_in five_pulled first_client box ≡ (1, 5) ∷ (2, 5) ∷ (3, 5) ∷ (4, 5) ∷ (5, 5) ∷ [])
    × (list_in flag_between first_client box ≡ (5, 6) ∷ [])
    × (list_in flag_between second_client box ≡ (1, 5) ∷ (2, 5) ∷ (3, 5) ∷ (4, 5) ∷ (5, 6) ∷ [])
    × (flags_in flag_between box 5 ≡ Some 2)
    × ((known flag_between).listed first_client box 4 ≡ None)
    × ((known flag_between).listed first_client box 5 ≡ Some 6)

-- the flag again, a flag of a uid that was never given, and a second taking of the four are no entries; a taking of the fifth is
abbrev pub NothingTwice : Type 0
NothingTwice = (is_allowed (known flag_between) (Flag box 5 1 true) ≡ false)
    × (is_allowed (known flag_between) (Flag box 5 1 false) ≡ true)
    × (is_allowed (known flag_between) (Flag box 6 1 true) ≡ false)
    × (is_allowed (known flag_between) (Forget first_client box (4 ∷ [])) ≡ false)
    × (is_allowed (known flag_between) (Forget first_client box (5 ∷ [])) ≡ true)
    × (is_allowed (known flag_between) (Forget second_client box (2 ∷ 5 ∷ [])) ≡ true)
    × (is_allowed (known flag_between) (Forget second_client box (5 ∷ 2 ∷ [])) ≡ false)
    × (is_allowed (known flag_between) (Forget second_client box []) ≡ false)

-- what a client has taken is listed anew by a later touch
abbrev pub touched_again : History
touched_again = flag_between ▸ Forget first_client box (5 ∷ []) ▸ Flag box 5 2 true

abbrev pub TouchedAgain : Type 0
TouchedAgain = (list_in (flag_between ▸ Forget first_client box (5 ∷ [])) first_client box ≡ []) × (list_in touched_again first_client box ≡ (5, 9) ∷ [])

-- a client that has taken all, and then an expunge that another client asks for
abbrev pub one_taken : History
one_taken = enrolled ▸ MakeClient first_client ▸ ResetClient first_client ▸ Pull 1 (notes_to box 1) ▸ Forget first_client box (1 ∷ [])

abbrev pub expunged : History
expunged = one_taken ▸ MakeClient second_client ▸ Flag box 1 0 true ▸ Expunge box

abbrev pub ExpungeIsSeen : Type 0
ExpungeIsSeen = (list_in one_taken first_client box ≡ [])
    × (list_in expunged first_client box ≡ (1, 9) ∷ [])
    × (list_in expunged second_client box ≡ (1, 9) ∷ [])
    × (flags_in expunged box 1 ≡ None)
    × (is_allowed (known expunged) (Flag box 1 1 true) ≡ false)
    × (is_allowed (known expunged) (Expunge box) ≡ false)
    × (is_allowed (known (one_taken ▸ Flag box 1 0 true)) (Expunge box) ≡ true)
    × ((known expunged).highest box ≡ 1)

-- a mailbox with three messages is deleted, made again, and gets a fourth
abbrev pub work_pulled : History
work_pulled = enrolled ▸ MakeMailbox work ▸ MakeClient second_client ▸ Pull 3 (notes_to work 3)

abbrev pub made_again : History
made_again = work_pulled ▸ DropMailbox work ▸ MakeMailbox work ▸ Pull 4 (notes_to work 1)

abbrev pub MadeAgain : Type 0
MadeAgain = (list_in made_again second_client work ≡ (1, 6) ∷ (2, 6) ∷ (3, 6) ∷ (4, 8) ∷ [])
    × (flags_in made_again work 3 ≡ None)
    × (flags_in made_again work 4 ≡ Some 0)
    × ((known made_again).live ≡ box ∷ work ∷ [])
    × (is_mailbox (known (work_pulled ▸ DropMailbox work)) work ≡ false)
    × ((known (work_pulled ▸ DropMailbox work)).dropped ≡ work ∷ [])
    × (is_allowed (known work_pulled) (MakeMailbox work) ≡ false)
    × (is_allowed (known work_pulled) (DropMailbox box) ≡ false)
    × (is_allowed (known (work_pulled ▸ DropMailbox work)) (Pull 4 (notes_to work 1)) ≡ false)
    × (is_allowed (known work_pulled) (Pull 3 (notes_to work 1)) ≡ false)

-- a copy has the flags of its original, but for the one that says deleted
abbrev pub copied : History
copied = work_pulled ▸ Flag work 2 0 true ▸ Flag work 2 1 true ▸ Flag work 2 15 true ▸ Copy work 2 box

abbrev pub CopyIsNotDeleted : Type 0
CopyIsNotDeleted = (flags_in copied work 2 ≡ Some 32771)
    × (flags_in copied box 1 ≡ Some 32770)
    × (list_in copied second_client box ≡ (1, 9) ∷ [])
    × (flags_in (copied ▸ Expunge work) box 1 ≡ Some 32770)
    × (list_in (copied ▸ Expunge work) second_client work ≡ (1, 5) ∷ (3, 5) ∷ (2, 10) ∷ [])

-- a client that is deleted has no list; made again, it has all that lives, with its birth as stamp
abbrev pub client_again : History
client_again = one_taken ▸ DropClient first_client ▸ MakeClient first_client

abbrev pub ClientAgain : Type 0
ClientAgain = (birth one_taken first_client ≡ Some 3)
    × (birth (one_taken ▸ DropClient first_client) first_client ≡ None)
    × (list_in (one_taken ▸ DropClient first_client ▸ Flag box 1 1 true) first_client box ≡ [])
    × (birth client_again first_client ≡ Some 8)
    × (list_in client_again first_client box ≡ (1, 8) ∷ [])
    × (list_in (client_again ▸ ResetClient first_client) first_client box ≡ (1, 9) ∷ [])
    × (is_allowed (known client_again) (MakeClient first_client) ≡ false)

-- letters of one pull, to two mailboxes in turn
abbrev pub other_note : List (List ℕ)
other_note = codes "two" ∷ []

abbrev pub mixed_pull : History
mixed_pull = work_pulled ▸ Pull 7 ((work, other_note) ∷ (box, note) ∷ (work, note) ∷ (box, other_note) ∷ [])

abbrev pub LettersInOrder : Type 0
LettersInOrder = ((known mixed_pull).kept work 4 ≡ Some (arrived 4 other_note))
    × ((known mixed_pull).kept work 5 ≡ Some (arrived 5 note))
    × ((known mixed_pull).kept box 1 ≡ Some (arrived 1 note))
    × ((known mixed_pull).kept box 2 ≡ Some (arrived 2 other_note))
    × ((known mixed_pull).kept box 3 ≡ None)
    × ((known mixed_pull).kept box 0 ≡ None)
    × ((known mixed_pull).pulled ≡ 7)
    × (list_in mixed_pull second_client work ≡ (1, 5) ∷ (2, 5) ∷ (3, 5) ∷ (4, 6) ∷ (5, 6) ∷ [])
    × (changed (known (mixed_pull ▸ DropMailbox work)) second_client work 2 ≡ Expunged 1 ∷ Expunged 2 ∷ [])
    × (changed (known mixed_pull) second_client box 1 ≡ Present (descriptor_of note 1 0) ∷ [])
    × (first_changes (known mixed_pull) second_client work 0 ≡ [])

-- clients in order of making, a client made again last
abbrev pub ClientsInOrder : Type 0
ClientsInOrder = ((known five_pulled).clients ≡ (first_client, 3) ∷ (second_client, 4) ∷ [])
    × ((known (five_pulled ▸ DropClient first_client ▸ MakeClient first_client)).clients ≡ (second_client, 4) ∷ (first_client, 7) ∷ [])
    × (list_in (five_pulled ▸ DropClient first_client) second_client box ≡ (1, 5) ∷ (2, 5) ∷ (3, 5) ∷ (4, 5) ∷ (5, 5) ∷ [])

-- a reset of one mailbox lists what lives there and nothing of another
abbrev pub ResetOfOne : Type 0
ResetOfOne = (list_in (copied ▸ Forget second_client box (1 ∷ []) ▸ ResetMailbox second_client work) second_client work ≡ (1, 11) ∷ (2, 11) ∷ (3, 11) ∷ [])
    × (list_in (copied ▸ Forget second_client box (1 ∷ []) ▸ ResetMailbox second_client work) second_client box ≡ [])

-- subscriptions in order, with marks that begin at 0
abbrev pub SubscribedAgain : Type 0
SubscribedAgain = ((known (enrolled ▸ Subscribe work ▸ Subscribe box ▸ Mark work 4)).subscriptions ≡ (work, 4) ∷ (box, 0) ∷ [])
    × ((known (enrolled ▸ Subscribe work ▸ Subscribe box ▸ Mark work 4 ▸ Unsubscribe work ▸ Subscribe work)).subscriptions ≡ (box, 0) ∷ (work, 0) ∷ [])
    × (is_allowed (known (enrolled ▸ Subscribe work)) (Mark work 0) ≡ false)
    × (is_allowed (known enrolled) (Mark work 1) ≡ false)
    × (is_allowed (known enrolled) (Password (replicate 32 7)) ≡ false)
    × (is_allowed (known enrolled) (Password (replicate 32 8)) ≡ true)

-- as many names, all different
abbrev pub names : ℕ → List (List ℕ)
names count = map (λ letter. 110 ∷ letter ∷ []) (numbers 47 count)

-- so many clients, each born by the entry whose number is in its name, the first by the one after this
abbrev pub born_after : ℕ → ℕ → List (List ℕ × ℕ)
born_after low count = map (λ birth. (110 ∷ birth ∷ [], birth)) (numbers low count)

-- a record with 16 clients and 64 subscriptions
abbrev pub full_record : AccountRecord
full_record = record empty_record { clients = born_after 47 16; subscriptions = map (λ name. (name, 0)) (names 64) }

-- a record with one mailbox in which so many uids were given
abbrev pub one_mailbox : ℕ → AccountRecord
one_mailbox highest = record empty_record { live = (work, record { highest = highest; messages = arrived 1 note ∷ []; lists = [] }) ∷ [] }

-- an entry meets the limits that it can pass and no other
abbrev pub FirstLimit : Type 0
FirstLimit = (limit_passed (known (start full_record 99)) (MakeClient box) ≡ Some limit.Clients)
    × (limit_passed (known (start full_record 99)) (Subscribe box) ≡ Some limit.Subscriptions)
    × (limit_passed (known (start full_record 99)) (MakeMailbox box) ≡ None)
    × (limit_passed (known (start full_record 99)) (Password []) ≡ None)
    × (limit_passed (known (start (record empty_record { live = map (λ name. (name, new_mailbox [])) (names 63); dropped = (work, new_mailbox []) ∷ [] }) 9)) (MakeMailbox box) ≡ Some limit.Mailboxes)
    × (is_passed (known (start (one_mailbox 1000000000) 9 ▸ Copy work 1 work)) limit.Uids ≡ true)
    × (is_passed (known (start (one_mailbox 999999999) 9 ▸ Copy work 1 work)) limit.Uids ≡ false)
    × (listed_count (known flag_between) ≡ 6)
    × (weight (known copied) ≡ 1044)

-- a new account is legal, and so are the histories above
abbrev pub SamplesAreLegal : Type 0
SamplesAreLegal = IsLegal new_account × IsLegal touched_again × IsLegal expunged × IsLegal made_again × IsLegal copied × IsLegal client_again

-- the record of a mailbox that was made again: the uids go on, and the list tells of those that are gone
abbrev pub RecordOfMadeAgain : Type 0
RecordOfMadeAgain = ((mailbox_of (record_of made_again) work).highest ≡ 4)
    × ((mailbox_of (record_of made_again) work).messages ≡ arrived 4 note ∷ [])
    × (pairs_of (list_of (mailbox_of (record_of made_again) work) second_client) ≡ (1, 6) ∷ (2, 6) ∷ (3, 6) ∷ (4, 8) ∷ [])
    × (keys_of (record_of made_again).live ≡ box ∷ work ∷ [])
    × (keys_of (record_of (work_pulled ▸ DropMailbox work)).dropped ≡ work ∷ [])

-- ---- corners

-- the uids that live in a mailbox, with their flags
abbrev pub living : History → List ℕ → List (ℕ × ℕ)
living h mailbox = map (λ kept. (kept.uid, kept.flags)) (messages (known h) mailbox)

-- of each entry, whether it is allowed
abbrev pub allows : History → List Entry → List Bool
allows h entries = map (is_allowed (known h)) entries

-- of each entry, the limit that it would pass first
abbrev pub passes : History → List Entry → List (Option LimitWord)
passes h entries = map (limit_passed (known h)) entries

-- a message with flag 0 on goes with its mailbox, which is made again and gets another
abbrev pub gone_with_flag : History
gone_with_flag = new_account ▸ MakeMailbox work ▸ MakeClient first_client ▸ Pull 1 (notes_to work 1) ▸ Flag work 1 0 true ▸ DropMailbox work ▸ MakeMailbox work ▸ Pull 2 (notes_to work 1)

-- two messages are expunged, one after the other
abbrev pub one_by_one : History
one_by_one = new_account ▸ MakeMailbox box ▸ MakeClient first_client ▸ Pull 2 (notes_to box 2) ▸ Flag box 1 0 true ▸ Expunge box ▸ Flag box 2 0 true ▸ Expunge box

-- what is gone isn't touched by a later expunge, and its flag 0 counts no longer
abbrev pub GoneStaysGone : Type 0
GoneStaysGone = (allows gone_with_flag (Expunge work ∷ Flag work 1 0 false ∷ Copy work 1 work ∷ []) ≡ false ∷ false ∷ false ∷ [])
    × (list_in (gone_with_flag ▸ Flag work 2 0 true ▸ Expunge work) first_client work ≡ (1, 5) ∷ (2, 9) ∷ [])
    × (list_in one_by_one first_client box ≡ (1, 5) ∷ (2, 7) ∷ [])

-- a deleted and seen message is copied; then it is unseen, and the copy and the message are copied
abbrev pub copied_once : History
copied_once = new_account ▸ MakeMailbox box ▸ MakeMailbox work ▸ Pull 1 (notes_to box 1) ▸ Flag box 1 0 true ▸ Flag box 1 1 true ▸ Copy box 1 work

abbrev pub copied_twice : History
copied_twice = copied_once ▸ Flag box 1 1 false ▸ Copy work 1 box ▸ Copy box 1 box

-- a copy has the flags of its original at that moment, also within one mailbox and where the original was a copy
abbrev pub CopyOfCopy : Type 0
CopyOfCopy = (living copied_once work ≡ (1, 2) ∷ [])
    × (allows copied_once (Expunge work ∷ Expunge box ∷ Flag work 1 1 true ∷ Flag work 1 0 true ∷ []) ≡ false ∷ true ∷ false ∷ true ∷ [])
    × (living copied_twice work ≡ (1, 2) ∷ [])
    × (living copied_twice box ≡ (1, 1) ∷ (2, 2) ∷ (3, 0) ∷ [])
    × (living (copied_twice ▸ Expunge box) box ≡ (2, 2) ∷ (3, 0) ∷ [])

-- the second of three mailboxes is deleted
abbrev pub third : List ℕ
third = codes "third"

abbrev pub work_gone : History
work_gone = new_account ▸ MakeMailbox box ▸ MakeMailbox work ▸ MakeMailbox third ▸ MakeClient first_client ▸ Pull 2 (notes_to work 2) ▸ DropMailbox work

-- while a mailbox is gone its changes stay listed, and none can be taken before it is made again; then it is the last of all
abbrev pub WhileGone : Type 0
WhileGone = (changed (known (work_gone ▸ ResetClient first_client)) first_client work 9 ≡ Expunged 1 ∷ Expunged 2 ∷ [])
    × (list_in (work_gone ▸ ResetClient first_client) first_client work ≡ (1, 6) ∷ (2, 6) ∷ [])
    × (allows work_gone (Forget first_client work (1 ∷ []) ∷ ResetMailbox first_client work ∷ Expunge work ∷ Copy work 1 box ∷ DropMailbox work ∷ MakeMailbox work ∷ []) ≡ false ∷ false ∷ false ∷ false ∷ false ∷ true ∷ [])
    × (allows (work_gone ▸ MakeMailbox work) (Forget first_client work (1 ∷ []) ∷ ResetMailbox first_client work ∷ Expunge work ∷ Copy work 1 box ∷ DropMailbox work ∷ MakeMailbox work ∷ []) ≡ true ∷ true ∷ false ∷ false ∷ true ∷ false ∷ [])
    × ((known work_gone).live ≡ box ∷ third ∷ [])
    × ((known (work_gone ▸ MakeMailbox work)).live ≡ box ∷ third ∷ work ∷ [])

-- of three messages the second is expunged
abbrev pub second_gone : History
second_gone = new_account ▸ MakeMailbox box ▸ MakeClient first_client ▸ Pull 3 (notes_to box 3) ▸ Flag box 2 0 true ▸ Expunge box

-- a reset leaves what is gone where it stands, if it isn't taken; a client that is made again isn't told of it
abbrev pub ResetAndGone : Type 0
ResetAndGone = (list_in second_gone first_client box ≡ (1, 3) ∷ (3, 3) ∷ (2, 5) ∷ [])
    × (list_in (second_gone ▸ ResetClient first_client) first_client box ≡ (2, 5) ∷ (1, 6) ∷ (3, 6) ∷ [])
    × (list_in (second_gone ▸ Forget first_client box (2 ∷ 3 ∷ []) ▸ ResetClient first_client) first_client box ≡ (1, 7) ∷ (3, 7) ∷ [])
    × (list_in (second_gone ▸ DropClient first_client ▸ MakeClient first_client) first_client box ≡ (1, 7) ∷ (3, 7) ∷ [])
    × (allows (second_gone ▸ DropClient first_client) (ResetClient first_client ∷ Forget first_client box (1 ∷ []) ∷ DropClient first_client ∷ []) ≡ false ∷ false ∷ false ∷ [])

-- a letter in each of two mailboxes, one taken by each of two clients
abbrev pub taken_apart : History
taken_apart = new_account ▸ MakeMailbox box ▸ MakeMailbox work ▸ MakeClient first_client ▸ MakeClient second_client ▸ Pull 2 ((box, note) ∷ (work, note) ∷ []) ▸ Forget first_client box (1 ∷ []) ▸ Forget second_client work (1 ∷ [])

-- a reset changes no list of another client or another mailbox
abbrev pub ResetsApart : Type 0
ResetsApart = (map (list_in (taken_apart ▸ ResetMailbox first_client box) first_client) (box ∷ work ∷ []) ≡ ((1, 8) ∷ []) ∷ ((1, 5) ∷ []) ∷ [])
    × (map (list_in (taken_apart ▸ ResetMailbox first_client box) second_client) (box ∷ work ∷ []) ≡ ((1, 5) ∷ []) ∷ [] ∷ [])
    × (map (list_in (taken_apart ▸ ResetClient second_client) second_client) (box ∷ work ∷ []) ≡ ((1, 8) ∷ []) ∷ ((1, 8) ∷ []) ∷ [])
    × (map (list_in (taken_apart ▸ ResetClient second_client) first_client) (box ∷ work ∷ []) ≡ [] ∷ ((1, 5) ∷ []) ∷ [])

-- a base with entries up to number 8: of three messages that were given in one mailbox the third lives, deleted and seen
abbrev pub some_record : AccountRecord
some_record = record {
  pulled = 3;
  digest = Some (replicate 32 7);
  clients = (first_client, 4) ∷ [];
  live = (box, new_mailbox ((first_client, 4) ∷ [])) ∷ (work, record { highest = 3; messages = record { uid = 3; flags = 3; message = note } ∷ []; lists = (first_client, record { uid = 1; stamp = 6 } ∷ record { uid = 2; stamp = 6 } ∷ record { uid = 3; stamp = 8 } ∷ []) ∷ [] }) ∷ [];
  dropped = (third, record { highest = 2; messages = []; lists = (first_client, record { uid = 2; stamp = 5 } ∷ []) ∷ [] }) ∷ [];
  subscriptions = (work, 5) ∷ [];
}

abbrev pub based : History
based = start some_record 9

-- entries behind a base go on from what it says
abbrev pub BaseGoesOn : Type 0
BaseGoesOn = (changed (known based) first_client work 9 ≡ Expunged 1 ∷ Expunged 2 ∷ Present (descriptor_of note 3 3) ∷ [])
    × (allows based (Expunge work ∷ Flag work 3 0 true ∷ Flag work 3 2 true ∷ Flag work 1 1 true ∷ Pull 3 (notes_to box 1) ∷ Pull 4 (notes_to box 1) ∷ MakeClient first_client ∷ MakeMailbox third ∷ Mark work 5 ∷ Password (replicate 32 7) ∷ []) ≡ true ∷ false ∷ true ∷ false ∷ false ∷ true ∷ false ∷ true ∷ false ∷ false ∷ [])
    × (list_in (based ▸ Expunge work) first_client work ≡ (1, 6) ∷ (2, 6) ∷ (3, 9) ∷ [])
    × (list_in (based ▸ Forget first_client work (1 ∷ 3 ∷ [])) first_client work ≡ (2, 6) ∷ [])
    × (living (based ▸ Copy work 3 box) box ≡ (1, 2) ∷ [])
    × (list_in (based ▸ MakeClient second_client) second_client work ≡ (3, 9) ∷ [])
    × (list_in (based ▸ MakeClient second_client) first_client work ≡ (1, 6) ∷ (2, 6) ∷ (3, 8) ∷ [])
    × (list_in (based ▸ DropClient first_client ▸ MakeClient first_client) first_client work ≡ (3, 10) ∷ [])
    × (list_in (based ▸ MakeMailbox third ▸ Pull 4 (notes_to third 1)) first_client third ≡ (2, 5) ∷ (3, 10) ∷ [])
    × ((known (based ▸ DropMailbox work)).dropped ≡ third ∷ work ∷ [])
    × (IsLegal (based ▸ DropMailbox work ▸ MakeMailbox third ▸ Pull 4 (notes_to third 1) ▸ Forget first_client third (2 ∷ [])))

-- a pull goes past the last, not past the greatest number, and has 1 to 64 letters, each to a mailbox that lives
abbrev pub BoundsOfPulls : Type 0
BoundsOfPulls = (allows mixed_pull (Pull 7 (notes_to box 1) ∷ Pull 8 (notes_to box 1) ∷ Pull 9223372036854775807 (notes_to box 1) ∷ Pull 9223372036854775808 (notes_to box 1) ∷ []) ≡ false ∷ true ∷ true ∷ false ∷ [])
    × (allows mixed_pull (Pull 8 [] ∷ Pull 8 (notes_to box 64) ∷ Pull 8 (notes_to box 65) ∷ Pull 8 ((box, note) ∷ (third, note) ∷ []) ∷ []) ≡ false ∷ true ∷ false ∷ false ∷ [])
    × (allows enrolled (Pull 0 (notes_to box 1) ∷ Pull 1 (notes_to box 1) ∷ []) ≡ false ∷ true ∷ [])

-- a client or a subscription less makes room for another, a deleted mailbox doesn't
abbrev pub RoomAgain : Type 0
RoomAgain = (passes (start full_record 99 ▸ DropClient (110 ∷ 48 ∷ [])) (MakeClient box ∷ []) ≡ None ∷ [])
    × (passes (start full_record 99 ▸ DropClient (110 ∷ 48 ∷ []) ▸ MakeClient box) (MakeClient work ∷ []) ≡ Some limit.Clients ∷ [])
    × (passes (start full_record 99 ▸ Unsubscribe (110 ∷ 48 ∷ [])) (Subscribe box ∷ []) ≡ None ∷ [])
    × (passes (start (record empty_record { live = map (λ name. (name, new_mailbox [])) (names 64) }) 9 ▸ DropMailbox (110 ∷ 48 ∷ [])) (MakeMailbox (110 ∷ 48 ∷ []) ∷ MakeMailbox box ∷ []) ≡ None ∷ Some limit.Mailboxes ∷ [])

-- a name that begins as another is another
abbrev pub NamesApart : Type 0
NamesApart = (allows (enrolled ▸ MakeMailbox (codes "inbo")) (DropMailbox (codes "inbo") ∷ DropMailbox box ∷ MakeMailbox (codes "inboxes") ∷ []) ≡ true ∷ false ∷ true ∷ [])
    × ((known (enrolled ▸ MakeMailbox (codes "inbo") ▸ MakeMailbox (codes "inboxes") ▸ DropMailbox (codes "inbo"))).live ≡ box ∷ codes "inboxes" ∷ [])
    × (living (enrolled ▸ MakeMailbox (codes "inboxes") ▸ Pull 1 ((box, note) ∷ (codes "inboxes", note) ∷ [])) box ≡ (1, 0) ∷ [])

abbrev pub change : ℕ → ℕ → Listed
change uid stamp = record { uid = uid; stamp = stamp }

-- a record with a client born by entry 4, and a mailbox with three uids given, these living, and this list
abbrev pub record_with : List ℕ → List Listed → AccountRecord
record_with uids list = record empty_record { clients = (first_client, 4) ∷ []; live = (work, record { highest = 3; messages = map (λ uid. arrived uid note) uids; lists = (first_client, list) ∷ [] }) ∷ [] }

-- no history before entry 9 has this record
abbrev pub IsNoBase : AccountRecord → Type 0
IsNoBase r = IsWellFormed r 9 → ⊥

-- uids that don't rise or weren't given; lists out of order, with a uid twice, or with stamps from elsewhere; births and names that can't be
abbrev pub NoBases : Type 0
NoBases = IsLegal (start (record_with (1 ∷ 3 ∷ []) (change 3 4 ∷ change 2 5 ∷ change 1 8 ∷ [])) 9)
    × IsNoBase (record_with (0 ∷ []) [])
    × IsNoBase (record_with (4 ∷ []) [])
    × IsNoBase (record_with (2 ∷ 1 ∷ []) [])
    × IsNoBase (record_with [] (change 4 5 ∷ []))
    × IsNoBase (record_with [] (change 1 3 ∷ []))
    × IsNoBase (record_with [] (change 1 9 ∷ []))
    × IsNoBase (record_with [] (change 2 5 ∷ change 1 5 ∷ []))
    × IsNoBase (record_with [] (change 1 5 ∷ change 1 6 ∷ []))
    × IsNoBase (record (record_with [] []) { clients = (first_client, 4) ∷ (second_client, 5) ∷ [] })
    × IsNoBase (record empty_record { clients = (first_client, 9) ∷ [] })
    × IsNoBase (record empty_record { clients = (first_client, 5) ∷ (second_client, 5) ∷ [] })
    × IsNoBase (record empty_record { live = (box, new_mailbox []) ∷ []; dropped = (box, new_mailbox []) ∷ [] })
    × IsNoBase (record empty_record { dropped = (work, record { highest = 1; messages = arrived 1 note ∷ []; lists = [] }) ∷ [] })
    × IsNoBase (record empty_record { pulled = 9223372036854775808 })

-- ---- at the limits

-- this record passes a limit, and is well formed before entry 99
abbrev pub PassesLimit : AccountRecord → Type 0
PassesLimit r = IsWellFormed r 99 × (IsCanonical r 99 → ⊥)

-- a mailbox in which so many copies of a message live
abbrev pub copies : ℕ → List (List ℕ) → MailboxRecord
copies count message = record { highest = count; messages = map (λ uid. arrived uid message) (numbers 0 count); lists = [] }

-- a record with so many copies of a message in one mailbox, and a message in another
abbrev pub with_copies : ℕ → List (List ℕ) → List (List ℕ) → AccountRecord
with_copies count message other = record empty_record { live = (work, copies count message) ∷ (box, copies 1 other) ∷ [] }

-- 4,096 messages are the most that live in a mailbox of a base
abbrev pub MessagesAtLimit : Type 0
MessagesAtLimit = IsCanonical (with_copies 4096 note note) 99 × PassesLimit (with_copies 4097 note note)

-- 4,096 messages live in a mailbox: no more come into it, but into another one
abbrev pub MailboxIsFull : Type 0
MailboxIsFull = (count : ℕ)
    → (count ≡ 4095 → passes (start (with_copies count note note) 99) (Copy box 1 work ∷ Pull 1 (notes_to work 1) ∷ Pull 1 (notes_to work 2) ∷ []) ≡ None ∷ None ∷ Some limit.Messages ∷ [])
    × (count ≡ 4096 → passes (start (with_copies count note note) 99) (Copy box 1 work ∷ Pull 1 (notes_to work 1) ∷ Pull 1 (notes_to box 2) ∷ []) ≡ Some limit.Messages ∷ Some limit.Messages ∷ None ∷ [])

-- a message of 640 lines, the first of this length and the others of 100 bytes
abbrev pub long_message : ℕ → List (List ℕ)
long_message first = replicate first 97 ∷ replicate 639 (replicate 100 97)

-- a message may count 65,536, its size and 256 bytes, or a byte more
abbrev pub LongMessages : Type 0
LongMessages = IsSized (long_message 100) 65280 × IsSized (long_message 101) 65281

-- 16 MiB are the most that all messages of a base count: 256 that count 65,536 each
abbrev pub WeightAtLimit : Type 0
WeightAtLimit = (message longer : List (List ℕ))
    → weight_of message ≡ 65536
    → weight_of longer ≡ 65537
    → IsCanonical (with_copies 255 message message) 99 × PassesLimit (with_copies 255 message longer)

-- all messages count 16 MiB less 65,536: one that counts as much may come, by a copy or a pull, and none that counts more
abbrev pub AccountIsFull : Type 0
AccountIsFull = (count : ℕ) (message longer : List (List ℕ))
    → count ≡ 254
    → weight_of message ≡ 65536
    → weight_of longer ≡ 65537
    → passes (start (with_copies count message message) 99) (Copy box 1 work ∷ Pull 1 ((work, message) ∷ []) ∷ Pull 1 ((work, longer) ∷ []) ∷ Pull 1 ((work, message) ∷ (box, message) ∷ []) ∷ []) ≡ None ∷ None ∷ Some limit.Bytes ∷ Some limit.Bytes ∷ []

-- a record of a client that has taken none of so many changes, and of so many others that have taken all
abbrev pub untaken : ℕ → ℕ → AccountRecord
untaken others count = record empty_record {
  clients = (first_client, 1) ∷ born_after 1 others;
  live = (work, record { highest = count; messages = arrived 1 note ∷ []; lists = (first_client, stamped 98 (numbers 0 count)) ∷ map_values (λ _. []) (born_after 1 others) }) ∷ [];
}

-- 1,048,576 changes are the most on all lists of a base; no entry may list one more, and an entry that lists nothing isn't held to that
abbrev pub ChangesAtLimit : Type 0
ChangesAtLimit = (count : ℕ)
    → (count ≡ 1048575 → passes (start (untaken 1 count) 99) (MakeClient box ∷ ResetClient (110 ∷ 2 ∷ []) ∷ []) ≡ None ∷ None ∷ [])
    × (count ≡ 1048576 → IsCanonical (untaken 1 count) 99 × (passes (start (untaken 1 count) 99) (MakeClient box ∷ ResetClient (110 ∷ 2 ∷ []) ∷ MakeMailbox box ∷ []) ≡ Some limit.Changes ∷ Some limit.Changes ∷ None ∷ []))
    × (count ≡ 1048577 → PassesLimit (untaken 1 count))

-- in a legal history of 16 clients the entry that makes a seventeenth is allowed and passes two limits, of which the first is told;
-- one that makes a sixteenth passes the other alone
abbrev pub TwoLimits : Type 0
TwoLimits = (count : ℕ)
    → count ≡ 1048576
    → IsLegal (start (untaken 15 count) 99)
    × (allows (start (untaken 15 count) 99) (MakeClient box ∷ []) ≡ true ∷ [])
    × (map (is_passed (known (start (untaken 15 count) 99 ▸ MakeClient box))) limits_of_bases ≡ true ∷ false ∷ false ∷ false ∷ false ∷ true ∷ false ∷ [])
    × (passes (start (untaken 15 count) 99) (MakeClient box ∷ []) ≡ Some limit.Clients ∷ [])
    × (passes (start (untaken 14 count) 99) (MakeClient box ∷ []) ≡ Some limit.Changes ∷ [])
