-- The repository of one thread never tells that the disk failed.
use Rattle.std.proofs.Common.{◌≡◌, ℕ, ◌==◌, Bool, true, false, List, Option, None, Some, Result, Ok, Err, if◌then◌else◌, sym, ap, ◌∙◌}
use Rattle.std.specs.Option.{option_map_or}
use Rattle.pc_base.specs.declared.refusal.Refusal.{Refusal}
use Rattle.pc_base.specs.declared.refusal.Refusal.TheVariants.{ClientHasSession, JournalFull, BadUserOrPassword, LimitReached, NoMailboxSelected, NoSuchClient, NotLoggedIn, UnknownOperation, VersionUnknown}
use Rattle.pc_base.specs.declared.refusal.LimitWord.TheVariants.{Sessions}
use Rattle.pc_account_history.specs.Allowed.{is_client}
use Rattle.pc_account_history.specs.History.{History, birth, known, next}
use Rattle.pc_account_history.specs.declared.entry.Entry.{Entry}
use Rattle.pc_account.specs.Answers.{answered}
use Rattle.pc_account.specs.Digest.{digest_of}
use Rattle.pc_account.specs.Plan.{planned}
use Rattle.pc_account.specs.declared.answer.Answer.{Answer}
use Rattle.pc_account.specs.declared.answer.Answer.TheVariants as answer
use Rattle.pc_account.specs.declared.answer.Question.TheVariants as question
use Rattle.pc_account.specs.declared.wish.Wish.{Wish}
use Rattle.pc_account.specs.declared.wish.Wish.TheVariants as wish
use Rattle.pc_reply.specs.declared.head.Head.{Head}
use Rattle.pc_reply.specs.declared.head.Head.TheVariants as head
use Rattle.pc_reply.specs.declared.reply.Reply.{Reply}
use Rattle.pc_request.specs.declared.request.Request.{Request}
use Rattle.pc_request.specs.declared.request.Request.TheVariants as request
use Rattle.pc_session.specs.declared.answered.Answered.{Answered}
use Rattle.pc_session.specs.declared.answered.Failure.{Failure}
use Rattle.pc_session.specs.declared.answered.Failure.TheVariants.{Refused, Memory, Device, Missing}
use Rattle.pc_session.specs.declared.receipts.Receipt.{Receipt}
use Rattle.pc_session.specs.declared.state.SessionState.{SessionState}
use Rattle.pc_session.specs.Answering.{AnswersAlone, Comes, Concludes, OnDevice}
use Rattle.pc_session.specs.Desk.{DeskState, LAST_SESSION, has_room}
use Rattle.pc_session.specs.Repository.{Outcome, answer_alone, answer_in_box, answer_of, asks, carried, changes, enters, headed, is_live, knows, logs_in, logs_in_knowing, makes_client, plain, refused, selects, sets_password, takes_away, tells, told, unless_drawn}
use Rattle.pc_session.specs.States.{client_of, needs_of, refusal_by, user_of}

-- another head
abbrev Served : Head → Type 0
Served said = said ≡ head.DeviceFailed → ⊥

-- a reply that doesn't tell that the disk failed
abbrev Serves : Outcome → Type 0
Serves o = Served o.reply.head

refused-served : (why : Refusal) → Served (head.Refused why)
refused-served why is = cc

ok-served : Served head.Ok
ok-served is = cc

list-served : Served head.ListFollows
list-served is = cc

-- ---- outcomes

if-serves : (b : Bool) (one other : Outcome) → Serves one → Serves other → Serves (if b then one else other)
if-serves true one other p q = p
if-serves false one other p q = q

or-serves : {X : Type 0} (f : X → Outcome) (o : Option X) (other : Outcome) → ((x : X) → Serves (f x)) → Serves other → Serves (option_map_or f o other)
or-serves f None other p q = q
or-serves f (Some x) other p q = p x

carried-serves : (h : History) (s : SessionState) (plan : Result (Option Entry) Refusal) → Serves (carried h s plan)
carried-serves h s (Err why) = refused-served why
carried-serves h s (Ok None) = ok-served
carried-serves h s (Ok (Some entry)) = if-serves (has_room h entry) (record { reply = plain head.Ok; entry = Some entry; draws = None; session = s }) (refused s JournalFull) ok-served (refused-served JournalFull)

changes-serves : (d : DeskState) (s : SessionState) (w : Wish) → Serves (changes d s w)
changes-serves d s w = carried-serves d.history s (planned (known d.history) w)

takes_away-serves : (d : DeskState) (s : SessionState) (client : List ℕ) → Serves (takes_away d s client)
takes_away-serves d s client =
    if-serves (is_client (known d.history) client) (if is_live (d.latest client) then refused s ClientHasSession else changes d s (wish.DropClient client)) (refused s NoSuchClient)
    (if-serves (is_live (d.latest client)) (refused s ClientHasSession) (changes d s (wish.DropClient client)) (refused-served ClientHasSession) (changes-serves d s (wish.DropClient client)))
    (refused-served NoSuchClient)

sets_password-serves : (d : DeskState) (s : SessionState) (user present following : List ℕ) → Serves (sets_password d s user present following)
sets_password-serves d s user present following = if-serves (knows d.history user present) (changes d s (wish.Password (digest_of user following))) (refused s BadUserOrPassword) (changes-serves d s (wish.Password (digest_of user following))) (refused-served BadUserOrPassword)

enters-serves : (d : DeskState) (user client : List ℕ) (batch : Bool) (born : ℕ) (entry : Option Entry) → Serves (enters d user client batch born entry)
enters-serves d user client batch born entry is = cc

makes_client-serves : (d : DeskState) (s : SessionState) (user client : List ℕ) (batch : Bool) (plan : Result (Option Entry) Refusal) → Serves (makes_client d s user client batch plan)
makes_client-serves d s user client batch (Err why) = refused-served why
makes_client-serves d s user client batch (Ok None) = refused-served NoSuchClient
makes_client-serves d s user client batch (Ok (Some entry)) = if-serves (has_room d.history entry) (enters d user client batch (next d.history) (Some entry)) (refused s JournalFull) (enters-serves d user client batch (next d.history) (Some entry)) (refused-served JournalFull)

unless_drawn-serves : (d : DeskState) (s : SessionState) (o : Outcome) → Serves o → Serves (unless_drawn d s o)
unless_drawn-serves d s o p = if-serves (d.drawn == LAST_SESSION) (refused s (LimitReached Sessions)) o (refused-served (LimitReached Sessions)) p

logs_in-serves : (d : DeskState) (s : SessionState) (user client : List ℕ) (create batch : Bool) (born : Option ℕ) → Serves (logs_in d s user client create batch born)
logs_in-serves d s user client create batch (Some born) = unless_drawn-serves d s (enters d user client batch born None) (enters-serves d user client batch born None)
logs_in-serves d s user client true batch None = unless_drawn-serves d s (makes_client d s user client batch (planned (known d.history) (wish.MakeClient client))) (makes_client-serves d s user client batch (planned (known d.history) (wish.MakeClient client)))
logs_in-serves d s user client false batch None = refused-served NoSuchClient

logs_in_knowing-serves : (d : DeskState) (s : SessionState) (user password client : List ℕ) (create batch : Bool) → Serves (logs_in_knowing d s user password client create batch)
logs_in_knowing-serves d s user password client create batch = if-serves (knows d.history user password) (logs_in d s user client create batch (birth d.history client)) (refused s BadUserOrPassword) (logs_in-serves d s user client create batch (birth d.history client)) (refused-served BadUserOrPassword)

told-serves : (s : SessionState) (a : Answer) → Serves (told s a)
told-serves s (answer.Clients rows) = refused-served UnknownOperation
told-serves s (answer.Mailboxes rows) = list-served
told-serves s answer.Yes = ok-served
told-serves s (answer.Descriptors changes) = list-served
told-serves s (answer.Changed changes shown) = list-served
told-serves s (answer.Letter lines) = λ is. cc
told-serves s (answer.Subscriptions rows) = refused-served UnknownOperation

tells-serves : (s : SessionState) (a : Result Answer Refusal) → Serves (tells s a)
tells-serves s (Ok a) = told-serves s a
tells-serves s (Err why) = refused-served why

selects-serves : (s : SessionState) (mailbox : List ℕ) (a : Result Answer Refusal) → Serves (selects s mailbox a)
selects-serves s mailbox (Ok a) = ok-served
selects-serves s mailbox (Err why) = refused-served why

-- ---- the repository

in_box-serves : (d : DeskState) (s : SessionState) (mailbox : List ℕ) (r : Request) → Serves (answer_in_box d s mailbox r)
unfolding answer_in_box
in_box-serves d s mailbox request.ExpungeMailbox = changes-serves d s (wish.Expunge mailbox)
in_box-serves d s mailbox (request.FetchDescriptors low high) = tells-serves s (answered (known d.history) (question.Descriptors mailbox low high))
in_box-serves d s mailbox (request.FetchChangedDescriptors count) = or-serves (λ (client : List ℕ). asks d s (question.Changed client mailbox count)) (client_of s.who) (refused s NoSuchClient) (λ client. tells-serves s (answered (known d.history) (question.Changed client mailbox count))) (refused-served NoSuchClient)
in_box-serves d s mailbox (request.ResetDescriptors low high) = or-serves (λ (client : List ℕ). changes d s (wish.Forget client mailbox low high s.shown)) (client_of s.who) (refused s NoSuchClient) (λ client. changes-serves d s (wish.Forget client mailbox low high s.shown)) (refused-served NoSuchClient)
in_box-serves d s mailbox (request.FetchHeaders uid) = tells-serves s (headed (answered (known d.history) (question.Letter mailbox uid)))
in_box-serves d s mailbox (request.FetchMessage uid) = tells-serves s (answered (known d.history) (question.Letter mailbox uid))
in_box-serves d s mailbox (request.CopyMessage uid target) = changes-serves d s (wish.Copy mailbox uid target)
in_box-serves d s mailbox (request.SetMessageFlag uid flag on) = changes-serves d s (wish.Flag mailbox uid flag on)
in_box-serves d s mailbox _ = refused-served UnknownOperation

pub answer-served : (d : DeskState) (s : SessionState) (r : Request) → (answer_of d s r).reply.head ≡ head.DeviceFailed → ⊥
unfolding answer_of
answer-served d s (request.Login user password client create batch) = logs_in_knowing-serves d s user password client create batch
answer-served d s (request.SetPassword present following) = or-serves (λ (user : List ℕ). sets_password d s user present following) (user_of s.who) (refused s NotLoggedIn) (λ user. sets_password-serves d s user present following) (refused-served NotLoggedIn)
answer-served d s request.ListClients = list-served
answer-served d s (request.CreateClient client) = changes-serves d s (wish.MakeClient client)
answer-served d s (request.DeleteClient client) = takes_away-serves d s client
answer-served d s (request.ResetClient client) = changes-serves d s (wish.ResetClient client)
answer-served d s request.ListMailboxes = tells-serves s (answered (known d.history) question.Mailboxes)
answer-served d s (request.CreateMailbox mailbox) = changes-serves d s (wish.MakeMailbox mailbox)
answer-served d s (request.DeleteMailbox mailbox) = changes-serves d s (wish.DropMailbox mailbox)
answer-served d s (request.ResetMailbox mailbox) = or-serves (λ (client : List ℕ). changes d s (wish.ResetMailbox client mailbox)) (client_of s.who) (refused s NoSuchClient) (λ client. changes-serves d s (wish.ResetMailbox client mailbox)) (refused-served NoSuchClient)
answer-served d s (request.SelectMailbox mailbox) = selects-serves s mailbox (answered (known d.history) (question.Alive mailbox))
answer-served d s (request.DeleteSubscription board) = changes-serves d s (wish.Unsubscribe board)
answer-served d s r = or-serves (λ (mailbox : List ℕ). answer_in_box d s mailbox r) s.selected (refused s NoMailboxSelected) (λ mailbox. in_box-serves d s mailbox r) (refused-served NoMailboxSelected)

-- ---- a session

-- what a session refuses, or else that the operation is unknown
refusal-served : (why : Option Refusal) → Served (option_map_or (λ (why : Refusal). plain (head.Refused why)) why (plain (head.Refused UnknownOperation))).head
refusal-served None = refused-served UnknownOperation
refusal-served (Some why) = refused-served why

version-served : (b : Bool) → Served (if b then plain head.Ok else plain (head.Refused VersionUnknown)).head
version-served true = ok-served
version-served false = refused-served VersionUnknown

alone-served : (s : SessionState) (r : Request) → Served (answer_alone s r).head
unfolding answer_alone
alone-served s (request.SendVersion version) = version-served (version == 1)
alone-served s request.Help = list-served
alone-served s request.Logout = λ is. cc
alone-served s r = refusal-served (refusal_by (needs_of r) s)

-- a session that answers alone
pub said-alone : (s old new : SessionState) (r : Request) (o : Result Answered Failure) (reply : Reply) → AnswersAlone s (answer_alone s r) o → Concludes o old reply new → reply.head ≡ head.DeviceFailed → ⊥
said-alone s old new r (Ok answered) reply answers concludes is = alone-served s r (ap (λ (said : Reply). said.head) (sym (concludes.0 ∙ answers.0)) ∙ is)
said-alone s old new r (Err (Refused why)) reply answers concludes is = refused-served why (ap (λ (said : Reply). said.head) (sym concludes.0) ∙ is)
said-alone s old new r (Err Memory) reply answers concludes is = cc
said-alone s old new r (Err Device) reply answers concludes is = answers
said-alone s old new r (Err (Missing number)) reply answers concludes is = answers

-- and one that asks a desk
pub said-at-desk : (user : List ℕ) (d new : DeskState) (s s' : SessionState) (r : Request) (receipts after : List Receipt) (o : Result Answered Failure) (reply : Reply) (fails : Type 0) → Comes user (answer_of d s r) d s receipts o new after → Concludes o s reply s' → OnDevice o fails → reply.head ≡ head.DeviceFailed → fails
said-at-desk user d new s s' r receipts after (Ok answered) reply fails comes concludes device is = absurd (answer-served d s r (ap (λ (said : Reply). said.head) (sym (concludes.0 ∙ comes.0)) ∙ is))
said-at-desk user d new s s' r receipts after (Err (Refused why)) reply fails comes concludes device is = absurd (refused-served why (ap (λ (said : Reply). said.head) (sym concludes.0) ∙ is))
said-at-desk user d new s s' r receipts after (Err Memory) reply fails comes concludes device is = absurd cc
said-at-desk user d new s s' r receipts after (Err Device) reply fails comes concludes device is = device
said-at-desk user d new s s' r receipts after (Err (Missing number)) reply fails comes concludes device is = absurd comes
