-- How a request comes to its outcome: what the session goes on as, and why there is no reply of its own.
use Rattle.std.specs.Prelude.{◌≡◌, ℕ, suc, ◌<◌, ⊤, Bool, true, false, List, [], ◌∷◌, ◌++◌, Option, None, Some, Result, Ok, Err}
use Rattle.pc_base.specs.Stream.{Rose}
use Rattle.pc_base.specs.declared.refusal.Refusal.{Refusal}
use Rattle.pc_base.specs.declared.refusal.Refusal.TheVariants.{JournalFull, LimitReached, NoSuchClient}
use Rattle.pc_base.specs.declared.refusal.LimitWord.TheVariants.{Sessions}
use Rattle.pc_base.specs.declared.ask_fault.AskFault.{AskFault}
use Rattle.pc_base.specs.declared.ask_fault.AskFault.TheVariants as ask
use Rattle.pc_account_history.specs.declared.entry.Entry.{Entry}
use Rattle.pc_account_history.specs.History.{next}
use Rattle.pc_reply.specs.Head.{has_list}
use Rattle.pc_reply.specs.declared.head.Head.{Head}
use Rattle.pc_reply.specs.declared.head.Head.TheVariants as head
use Rattle.pc_reply.specs.declared.reply.Reply.{Reply}
use Rattle.pc_session.specs.declared.answered.Answered.{Answered}
use Rattle.pc_session.specs.declared.answered.Failure.{Failure}
use Rattle.pc_session.specs.declared.answered.Failure.TheVariants.{Refused, Memory, Device, Missing}
use Rattle.pc_session.specs.declared.answered.Move.{Move}
use Rattle.pc_session.specs.declared.answered.Move.TheVariants.{Stays, LogsIn, Selects, Shows}
use Rattle.pc_session.specs.declared.receipts.Receipt.{Receipt}
use Rattle.pc_session.specs.declared.state.SessionState.{SessionState}
use Rattle.pc_session.specs.declared.state.Who.TheVariants.{Client}
use Rattle.pc_session.specs.Desk.{DeskState, Drawn, Failed, LAST_SESSION, Made, Same, SameHistory, has_room}
use Rattle.pc_session.specs.Receipts.{receipt_of}
use Rattle.pc_session.specs.Repository.{Outcome, plain, refused}
use Rattle.pc_session.specs.Turn.{Broke, Done, OpensTo, Unmade, receipts_after}

-- what a session goes on as
abbrev pub moved : SessionState → Move → SessionState
moved s Stays = s
moved s (LogsIn user client number) = record { who = Client user client number; selected = None; shown = [] }
moved s (Selects mailbox) = record { who = s.who; selected = Some mailbox; shown = [] }
moved s (Shows shown) = record s { shown = shown }

-- why a wish or a question has no answer
abbrev pub failure_of : AskFault → Failure
failure_of (ask.Refused why) = Refused why
failure_of ask.Memory = Memory

-- the head that tells a failure
abbrev pub head_of_failure : Failure → Head
head_of_failure (Refused why) = head.Refused why
head_of_failure Memory = head.WantOfMemory
head_of_failure Device = head.DeviceFailed
head_of_failure (Missing number) = head.ChangeMissing number

-- the disk failed
abbrev pub OnDevice : {T : Type 0} → Result T Failure → Type 0 → Type 0
OnDevice (Ok value) holds = ⊤
OnDevice (Err (Refused why)) holds = ⊤
OnDevice (Err Memory) holds = ⊤
OnDevice (Err Device) holds = holds
OnDevice (Err (Missing number)) holds = ⊤

-- the outcome came to pass, or was refused, or wanted memory, or the disk failed
abbrev pub Comes : List ℕ → Outcome → DeskState → SessionState → List Receipt → Result Answered Failure → DeskState → List Receipt → Type 0
Comes user o old s receipts (Ok answered) new after = (answered.reply ≡ o.reply) × (answered.heard ≡ o.reply) × (moved s answered.then ≡ o.session) × Done o old new × (after ≡ receipts_after user old o receipts)
Comes user o old s receipts (Err (Refused why)) new after = (o ≡ refused s why) × Same old new × (after ≡ receipts)
Comes user o old s receipts (Err Memory) new after = Unmade o old new × (after ≡ receipts)
Comes user o old s receipts (Err Device) new after = Broke o old new × (after ≡ receipts)
Comes user o old s receipts (Err (Missing number)) new after = ⊥

-- an outcome that only tells comes without a change, or wants memory
abbrev pub Tells : Outcome → SessionState → Result Answered Failure → Type 0
Tells o s (Ok answered) = (answered.reply ≡ o.reply) × (answered.heard ≡ o.reply) × (moved s answered.then ≡ o.session) × (o.entry ≡ None) × (o.draws ≡ None)
Tells o s (Err (Refused why)) = o ≡ refused s why
Tells o s (Err Memory) = ⊤
Tells o s (Err Device) = ⊥
Tells o s (Err (Missing number)) = ⊥

-- an entry is made with its receipt; or there is no room for it, or memory was wanted, or the disk failed
abbrev pub Makes : List ℕ → Entry → DeskState → List Receipt → Result ℕ Failure → DeskState → List Receipt → Type 0
Makes user entry old receipts (Ok number) new after = (has_room old.history entry ≡ true) × (number ≡ next old.history) × Made entry old new × (after ≡ receipts ++ receipt_of user number entry ∷ [])
Makes user entry old receipts (Err (Refused why)) new after = (has_room old.history entry ≡ false) × (why ≡ JournalFull) × Same old new × (after ≡ receipts)
Makes user entry old receipts (Err Memory) new after = SameHistory old new × (after ≡ receipts)
Makes user entry old receipts (Err Device) new after = (has_room old.history entry ≡ true) × Failed entry old new × (after ≡ receipts)
Makes user entry old receipts (Err (Missing number)) new after = ⊥

-- a number is drawn; or the last one was; or memory was wanted
abbrev pub Draws : List ℕ → Bool → DeskState → Result ℕ Failure → DeskState → Type 0
Draws client batch old (Ok number) new = (old.drawn < LAST_SESSION) × (number ≡ suc old.drawn) × Drawn client batch old new
Draws client batch old (Err (Refused why)) new = (old.drawn ≡ LAST_SESSION) × (why ≡ LimitReached Sessions) × Same old new
Draws client batch old (Err Memory) new = Same old new
Draws client batch old (Err Device) new = ⊥
Draws client batch old (Err (Missing number)) new = ⊥

-- the entry that makes a client, or why none does
abbrev pub PlansClient : Result (Option Entry) Refusal → Result Entry Failure → Type 0
PlansClient (Ok (Some entry)) (Ok planned) = planned ≡ entry
PlansClient (Ok (Some entry)) (Err (Refused told)) = ⊥
PlansClient (Ok None) (Ok planned) = ⊥
PlansClient (Ok None) (Err (Refused told)) = told ≡ NoSuchClient
PlansClient (Err why) (Ok planned) = ⊥
PlansClient (Err why) (Err (Refused told)) = told ≡ why
PlansClient plan (Err Memory) = ⊤
PlansClient plan (Err Device) = ⊥
PlansClient plan (Err (Missing number)) = ⊥

-- the store is open: it was, or was opened again; or it was broken and couldn't be
abbrev pub OpensOr : Type 0 → ℕ → DeskState → Result Unit Failure → DeskState → Type 0
OpensOr tells number old (Ok done) new = OpensTo tells old new × (new.broken ≡ false) × (new.doubt ≡ None)
OpensOr tells number old (Err (Refused why)) new = ⊥
OpensOr tells number old (Err Memory) new = (old.broken ≡ true) × Same old new
OpensOr tells number old (Err Device) new = (old.broken ≡ true) × Same old new × Rose old.faults new.faults
OpensOr tells number old (Err (Missing told)) new = (old.broken ≡ true) × Same old new × (told ≡ number) × (tells → ⊥)

-- the pass is kept, or this is the number of the change that is missing
abbrev pub SeesPass : Option ℕ → Result Unit Failure → Type 0
SeesPass missing (Ok done) = missing ≡ None
SeesPass missing (Err (Refused why)) = ⊥
SeesPass missing (Err Memory) = ⊤
SeesPass missing (Err Device) = ⊥
SeesPass missing (Err (Missing number)) = missing ≡ Some number

-- the reply that is given of what a request came to, and what the session is in afterwards
abbrev pub Concludes : Result Answered Failure → SessionState → Reply → SessionState → Type 0
Concludes (Ok answered) old reply new = (reply ≡ answered.reply) × (new ≡ moved old answered.then)
Concludes (Err failure) old reply new = (reply ≡ plain (head_of_failure failure)) × (new ≡ old)

-- a request that reaches nobody is answered so, or refused, or memory was wanted for its list
abbrev pub AnswersAlone : SessionState → Reply → Result Answered Failure → Type 0
AnswersAlone s said (Ok answered) = (answered.reply ≡ said) × (answered.heard ≡ said) × (moved s answered.then ≡ s)
AnswersAlone s said (Err (Refused why)) = said ≡ plain (head.Refused why)
AnswersAlone s said (Err Memory) = has_list said.head ≡ true
AnswersAlone s said (Err Device) = ⊥
AnswersAlone s said (Err (Missing number)) = ⊥
