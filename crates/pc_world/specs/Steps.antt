-- One step of a run: an event, what it prints, and the world after it.
use Rattle.std.specs.Prelude.{◌≡◌, ℕ, List, [], ◌∷◌, ◌++◌, map, length, nat_lt, codes, Bool, true, Option, Some, None, is_some, if◌then◌else◌, MatchOption}
use Rattle.std.specs.List.{position}
use Rattle.std.specs.Option.{option_to_list}
use Rattle.pc_account.specs.Digest.{digest_of}
use Rattle.pc_base.specs.Refusal.{head_of}
use Rattle.pc_base.specs.declared.refusal.LimitWord.TheVariants.{Users}
use Rattle.pc_base.specs.declared.refusal.Refusal.{Refusal}
use Rattle.pc_base.specs.declared.refusal.Refusal.TheVariants.{AddressTaken, LimitReached}
use Rattle.pc_base.specs.Name.{inbox}
use Rattle.pc_tables.specs.Table.{same}
use Rattle.pc_account_history.specs.declared.entry.Entry.{Entry}
use Rattle.pc_account_history.specs.declared.entry.Entry.TheVariants.{MakeMailbox, Password}
use Rattle.pc_world.specs.declared.event.Event.{Event}
use Rattle.pc_world.specs.declared.event.Event.TheVariants.{Silent, User, Ask}
use Rattle.pc_world.specs.Account.{Account, history_of}
use Rattle.pc_world.specs.Heading.{heading_of}
use Rattle.pc_world.specs.Repository.{Reply, reply_to}

-- the entries of a new user's account: the password, and the inbox
abbrev pub enrolled : List ℕ → List ℕ → List Entry
enrolled name password = Password (digest_of name password) ∷ MakeMailbox inbox ∷ []

-- the entries of the user of this name
abbrev pub entries_of : List Account → List ℕ → Option (List Entry)
entries_of [] name = None
entries_of (account ∷ accounts) name = if same account.user name then Some account.entries else entries_of accounts name

-- the place of the user of this name
abbrev pub place_in : List Account → List ℕ → Option ℕ
place_in accounts name = position (λ (account : Account). same account.user name) accounts

-- the accounts, with more entries behind those of the user of this name
abbrev pub with_entries : List ℕ → List Entry → List Account → List Account
with_entries name kept [] = []
with_entries name kept (account ∷ accounts) =
    if same account.user name then record account { entries = account.entries ++ kept } ∷ accounts else account ∷ with_entries name kept accounts

-- the most users
abbrev pub most_users : ℕ
most_users = 32

-- why a user of this name isn't enrolled: one is there, or there are as many as may be
abbrev pub enrol_refusal : List Account → List ℕ → Option Refusal
enrol_refusal old name = if is_some (entries_of old name) then Some AddressTaken else (if nat_lt (length old) most_users then None else Some (LimitReached Users))

-- the accounts behind it: the user's is the last one
abbrev pub with_user : List Account → List ℕ → List ℕ → Option Refusal → List Account
with_user old name password (Some why) = old
with_user old name password None = old ++ record { user = name; entries = enrolled name password } ∷ []

-- what is printed: the event's words and the reply's head, and the lines of its list with two spaces in front
abbrev pub indented : List ℕ → List ℕ
indented line = 32 ∷ 32 ∷ line

abbrev pub shown : List ℕ → List ℕ → List (List ℕ) → List (List ℕ)
shown heading head lines = (heading ++ head) ∷ map indented lines

abbrev pub printed_reply : List ℕ → Reply → List (List ℕ)
printed_reply user reply = shown (heading_of user) reply.head reply.lines

abbrev pub printed_user : List ℕ → List ℕ → List (List ℕ)
printed_user name head = (codes "user " ++ name ++ codes ": " ++ head) ∷ []

-- the head that tells whether a user was enrolled
abbrev pub enrol_head : Option Refusal → List ℕ
enrol_head (Some why) = head_of why
enrol_head None = codes "200 Ok"

-- the user is there: what is asked gets its reply, and the account its entry
abbrev pub Answers : List Account → List ℕ → Reply → List (List ℕ) → List Account → Type 0
Answers old user reply printed new =
    (printed ≡ printed_reply user reply) × (new ≡ with_entries user (option_to_list reply.entry) old)

-- from the old world the event may print these lines and leave the new world
abbrev pub Step : List Account → Event → List (List ℕ) → List Account → Type 0
Step old Silent printed new = (printed ≡ []) × (new ≡ old)
Step old (User name password) printed new =
    (printed ≡ printed_user name (enrol_head (enrol_refusal old name))) × (new ≡ with_user old name password (enrol_refusal old name))
Step old (Ask user asked) printed new =
    MatchOption (entries_of old user) ⊥ (λ entries. Answers old user (reply_to (history_of entries) asked) printed new)

-- the event prints lines that lead to what is printed now, and leaves the new world
abbrev pub Prints : {T : Type 0} → List Account → Event → List Account → (List (List ℕ) → T → Type 0) → T → Type 0
Prints old event new Adds now = (printed : List (List ℕ)) × (Step old event printed new × Adds printed now)

-- the event names what is there
abbrev pub fits : List Account → Event → Bool
fits old Silent = true
fits old (User name password) = true
fits old (Ask user asked) = is_some (entries_of old user)
