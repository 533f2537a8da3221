-- The repository of one thread: what it answers to a request that reaches an account, and what it makes of it.
use Rattle.std.specs.Prelude.{◌≡◌, ◌⊎◌, ℕ, suc, ◌==◌, true, false, Bool, List, [], map, Option, None, Some, Result, Ok, Err, if◌then◌else◌}
use Rattle.std.specs.Option.{option_map_or}
use Rattle.std.specs.List.{flat_map}
use Rattle.pc_base.specs.declared.refusal.Refusal.{Refusal}
use Rattle.pc_base.specs.declared.refusal.Refusal.TheVariants.{UnknownOperation, NotLoggedIn, BadUserOrPassword, NoSuchClient, NoMailboxSelected, LimitReached, ClientHasSession, JournalFull, VersionUnknown}
use Rattle.pc_base.specs.declared.refusal.LimitWord.TheVariants.{Sessions}
use Rattle.pc_message.specs.Header.{header_of}
use Rattle.pc_account_history.specs.declared.entry.Entry.{Entry}
use Rattle.pc_account_history.specs.Allowed.{is_client}
use Rattle.pc_account_history.specs.History.{History, known, next, birth}
use Rattle.pc_tables.specs.Table.{same}
use Rattle.pc_account.specs.Answers.{answered}
use Rattle.pc_account.specs.Digest.{digest_of}
use Rattle.pc_account.specs.Plan.{planned}
use Rattle.pc_account.specs.declared.answer.Answer.{Answer}
use Rattle.pc_account.specs.declared.answer.Answer.TheVariants as answer
use Rattle.pc_account.specs.declared.answer.Question.{Question}
use Rattle.pc_account.specs.declared.answer.Question.TheVariants as question
use Rattle.pc_account.specs.declared.wish.Wish.{Wish}
use Rattle.pc_account.specs.declared.wish.Wish.TheVariants as wish
use Rattle.pc_reply.specs.Head.{has_list}
use Rattle.pc_reply.specs.Items.{change_lines}
use Rattle.pc_reply.specs.declared.head.Head.{Head}
use Rattle.pc_reply.specs.declared.head.Head.TheVariants as head
use Rattle.pc_reply.specs.declared.reply.Reply.{Reply}
use Rattle.pc_request.specs.Operation.{operations, word_of}
use Rattle.pc_request.specs.declared.request.Request.{Request}
use Rattle.pc_request.specs.declared.request.Request.TheVariants as request
use Rattle.pc_session.specs.declared.access.Latest.{Latest}
use Rattle.pc_session.specs.declared.state.SessionState.{SessionState}
use Rattle.pc_session.specs.declared.state.Who.TheVariants.{Client}
use Rattle.pc_session.specs.Desk.{DeskState, LAST_SESSION, has_room}
use Rattle.pc_session.specs.Lists.{client_lines, mailbox_lines}
use Rattle.pc_session.specs.States.{user_of, client_of, needs_of, refusal_by}

-- ---- outcomes

-- what a request comes to: its reply, the entry that is made, the mode of the LOGIN that draws a number (true for a
-- batch client), and the session afterwards
pub record Outcome : Type 0 where
  pub reply : Reply
  pub entry : Option Entry
  pub draws : Option Bool
  pub session : SessionState

-- a reply of a head alone
abbrev pub plain : Head → Reply
plain h = record { head = h; lines = [] }

-- a refusal: nothing changes
abbrev pub refused : SessionState → Refusal → Outcome
refused s why = record { reply = plain (head.Refused why); entry = None; draws = None; session = s }

-- nothing is made, and the session goes on so
abbrev pub replied : SessionState → Reply → Outcome
replied s reply = record { reply = reply; entry = None; draws = None; session = s }

-- a list, and a message
abbrev pub listed : List (List ℕ) → Reply
listed lines = record { head = head.ListFollows; lines = lines }

abbrev pub sent : List (List ℕ) → Reply
sent lines = record { head = head.MessageFollows; lines = lines }

-- ---- requests that change

-- what a wish comes to: the refusal; or 200 without an entry; or 200 and its entry, where the journal has room
abbrev pub carried : History → SessionState → Result (Option Entry) Refusal → Outcome
carried h s (Err why) = refused s why
carried h s (Ok None) = replied s (plain head.Ok)
carried h s (Ok (Some entry)) = if has_room h entry then record { reply = plain head.Ok; entry = Some entry; draws = None; session = s } else refused s JournalFull

abbrev pub changes : DeskState → SessionState → Wish → Outcome
changes d s w = carried d.history s (planned (known d.history) w)

-- a client whose latest session is live stays
abbrev pub is_live : Option Latest → Bool
is_live latest = option_map_or (λ (session : Latest). session.live) latest false

abbrev pub takes_away : DeskState → SessionState → List ℕ → Outcome
takes_away d s client = if is_client (known d.history) client then (if is_live (d.latest client) then refused s ClientHasSession else changes d s (wish.DropClient client)) else refused s NoSuchClient

-- ---- passwords

-- the password is the user's
abbrev pub knows : History → List ℕ → List ℕ → Bool
knows h user password = option_map_or (same (digest_of user password)) (known h).digest false

-- a new password is set by one who knows the present one
abbrev pub sets_password : DeskState → SessionState → List ℕ → List ℕ → List ℕ → Outcome
sets_password d s user present following = if knows d.history user present then changes d s (wish.Password (digest_of user following)) else refused s BadUserOrPassword

-- ---- logging in

-- the session of a client once it has drawn a number
abbrev pub entered : DeskState → List ℕ → List ℕ → SessionState
entered d user client = record { who = Client user client (suc d.drawn); selected = None; shown = [] }

-- the client is there, or is made by this entry; its birth is told
abbrev pub enters : DeskState → List ℕ → List ℕ → Bool → ℕ → Option Entry → Outcome
enters d user client batch born entry = record { reply = plain (head.Birth born); entry = entry; draws = Some batch; session = entered d user client }

-- the client is made, where the limits and the journal allow it
abbrev pub makes_client : DeskState → SessionState → List ℕ → List ℕ → Bool → Result (Option Entry) Refusal → Outcome
makes_client d s user client batch (Err why) = refused s why
makes_client d s user client batch (Ok None) = refused s NoSuchClient
makes_client d s user client batch (Ok (Some entry)) = if has_room d.history entry then enters d user client batch (next d.history) (Some entry) else refused s JournalFull

-- the number of a session is drawn, unless the last one was
abbrev pub unless_drawn : DeskState → SessionState → Outcome → Outcome
unless_drawn d s outcome = if d.drawn == LAST_SESSION then refused s (LimitReached Sessions) else outcome

abbrev pub logs_in : DeskState → SessionState → List ℕ → List ℕ → Bool → Bool → Option ℕ → Outcome
logs_in d s user client create batch (Some born) = unless_drawn d s (enters d user client batch born None)
logs_in d s user client create batch None = if create then unless_drawn d s (makes_client d s user client batch (planned (known d.history) (wish.MakeClient client))) else refused s NoSuchClient

-- with the right password
abbrev pub logs_in_knowing : DeskState → SessionState → List ℕ → List ℕ → List ℕ → Bool → Bool → Outcome
logs_in_knowing d s user password client create batch = if knows d.history user password then logs_in d s user client create batch (birth d.history client) else refused s BadUserOrPassword

-- ---- requests that ask

-- what an answer is told as; the changes that are told are shown from then on. Clients are told with their sessions, and
-- subscriptions with their boards, not here
abbrev pub told : SessionState → Answer → Outcome
told s (answer.Clients rows) = refused s UnknownOperation
told s (answer.Mailboxes rows) = replied s (listed (mailbox_lines rows))
told s answer.Yes = replied s (plain head.Ok)
told s (answer.Descriptors changes) = replied s (listed (flat_map change_lines changes))
told s (answer.Changed changes shown) = replied (record s { shown = shown }) (listed (flat_map change_lines changes))
told s (answer.Letter lines) = replied s (sent lines)
told s (answer.Subscriptions rows) = refused s UnknownOperation

abbrev pub tells : SessionState → Result Answer Refusal → Outcome
tells s (Ok answer) = told s answer
tells s (Err why) = refused s why

abbrev pub asks : DeskState → SessionState → Question → Outcome
asks d s q = tells s (answered (known d.history) q)

-- of a message its header alone
abbrev pub headed : Result Answer Refusal → Result Answer Refusal
headed (Ok (answer.Letter lines)) = Ok (answer.Letter (header_of lines))
headed (Ok answer.Yes) = Ok answer.Yes
headed (Ok answer) = Ok answer
headed (Err why) = Err why

-- a mailbox that lives is selected, and nothing of it is shown yet
abbrev pub selects : SessionState → List ℕ → Result Answer Refusal → Outcome
selects s mailbox (Ok answer) = replied (record { who = s.who; selected = Some mailbox; shown = [] }) (plain head.Ok)
selects s mailbox (Err why) = refused s why

-- ---- what a session has

-- in the mailbox that is selected
abbrev pub in_box : SessionState → (List ℕ → Outcome) → Outcome
in_box s outcome = option_map_or outcome s.selected (refused s NoMailboxSelected)

-- for the session's client; a session at the console has none
abbrev pub as_client : SessionState → (List ℕ → Outcome) → Outcome
as_client s outcome = option_map_or outcome (client_of s.who) (refused s NoSuchClient)

-- for the session's user
abbrev pub as_user : SessionState → (List ℕ → Outcome) → Outcome
as_user s outcome = option_map_or outcome (user_of s.who) (refused s NotLoggedIn)

-- ---- the repository

-- what a request comes to that is about the selected mailbox
unfoldable pub answer_in_box : DeskState → SessionState → List ℕ → Request → Outcome
answer_in_box d s mailbox request.ExpungeMailbox = changes d s (wish.Expunge mailbox)
answer_in_box d s mailbox (request.FetchDescriptors low high) = asks d s (question.Descriptors mailbox low high)
answer_in_box d s mailbox (request.FetchChangedDescriptors count) = as_client s (λ client. asks d s (question.Changed client mailbox count))
answer_in_box d s mailbox (request.ResetDescriptors low high) = as_client s (λ client. changes d s (wish.Forget client mailbox low high s.shown))
answer_in_box d s mailbox (request.FetchHeaders uid) = tells s (headed (answered (known d.history) (question.Letter mailbox uid)))
answer_in_box d s mailbox (request.FetchMessage uid) = asks d s (question.Letter mailbox uid)
answer_in_box d s mailbox (request.CopyMessage uid target) = changes d s (wish.Copy mailbox uid target)
answer_in_box d s mailbox (request.SetMessageFlag uid flag on) = changes d s (wish.Flag mailbox uid flag on)
answer_in_box d s mailbox _ = refused s UnknownOperation

-- what a request comes to that reaches the account and isn't refused by the session's state
unfoldable pub answer_of : DeskState → SessionState → Request → Outcome
answer_of d s (request.Login user password client create batch) = logs_in_knowing d s user password client create batch
answer_of d s (request.SetPassword present following) = as_user s (λ user. sets_password d s user present following)
answer_of d s request.ListClients = replied s (listed (client_lines d.latest (known d.history).clients))
answer_of d s (request.CreateClient client) = changes d s (wish.MakeClient client)
answer_of d s (request.DeleteClient client) = takes_away d s client
answer_of d s (request.ResetClient client) = changes d s (wish.ResetClient client)
answer_of d s request.ListMailboxes = asks d s question.Mailboxes
answer_of d s (request.CreateMailbox mailbox) = changes d s (wish.MakeMailbox mailbox)
answer_of d s (request.DeleteMailbox mailbox) = changes d s (wish.DropMailbox mailbox)
answer_of d s (request.ResetMailbox mailbox) = as_client s (λ client. changes d s (wish.ResetMailbox client mailbox))
answer_of d s (request.SelectMailbox mailbox) = selects s mailbox (answered (known d.history) (question.Alive mailbox))
answer_of d s (request.DeleteSubscription board) = changes d s (wish.Unsubscribe board)
answer_of d s r = in_box s (λ mailbox. answer_in_box d s mailbox r)

-- ---- a session alone

-- what is answered without an account: the version, help, the end, or the refusal of the session's state
unfoldable pub answer_alone : SessionState → Request → Reply
answer_alone s (request.SendVersion version) = if version == 1 then plain head.Ok else plain (head.Refused VersionUnknown)
answer_alone s request.Help = listed (map word_of operations)
answer_alone s request.Logout = plain head.Closing
answer_alone s r = option_map_or (λ (why : Refusal). plain (head.Refused why)) (refusal_by (needs_of r) s) (plain (head.Refused UnknownOperation))

-- the reply, or want of memory where it has a list
abbrev pub Replies : Reply → Reply → Type 0
Replies said reply = (reply ≡ said) ⊎ ((has_list said.head ≡ true) × (reply ≡ plain head.WantOfMemory))
