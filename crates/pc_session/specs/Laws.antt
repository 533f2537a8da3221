-- What callers rely on of every answer and of all receipts.
use Rattle.std.specs.Prelude.{◌≡◌, ℕ, ◌≤◌, false, List, [], ◌∷◌, ◌++◌, None}
use Rattle.pc_account_history.specs.declared.entry.Entry.{Entry}
use Rattle.pc_account_history.specs.History.{History, ◌▸◌, ◌▸▸◌, next}
use Rattle.pc_account_history.specs.Laws.{folded}
use Rattle.pc_account_history.specs.Legal.{IsLegal}
use Rattle.pc_tables.specs.Table.{same}
use Rattle.pc_reply.specs.declared.head.Head.TheVariants as head
use Rattle.pc_request.specs.declared.request.Request.{Request}
use Rattle.pc_session.specs.declared.receipts.Receipt.{Receipt}
use Rattle.pc_session.specs.declared.state.SessionState.{SessionState}
use Rattle.pc_session.specs.Desk.{DeskState}
use Rattle.pc_session.specs.InPlace.{AnswersAlike, AnswersAsOver, StandsIn, over}
use Rattle.pc_session.specs.Receipts.{missing, missing_in, pass_of, receipt_of}
use Rattle.pc_session.specs.Repository.{answer_of}

-- ---- answers

-- the repository of one thread never tells that the disk failed
abbrev pub NeverFails : Type 0
NeverFails = (d : DeskState) (s : SessionState) (r : Request) → (answer_of d s r).reply.head ≡ head.DeviceFailed → ⊥

-- it looks at the history of a desk, the last session number drawn and the latest sessions, and at nothing else
abbrev pub SameAnswer : Type 0
SameAnswer = (d e : DeskState) (s : SessionState) (r : Request) → e.history ≡ d.history → e.drawn ≡ d.drawn → e.latest ≡ d.latest → answer_of e s r ≡ answer_of d s r

-- ---- receipts

-- where the history has the change that was told last, it has it behind one more entry too
abbrev pub StaysKept : Type 0
StaysKept = (user : List ℕ) (receipts : List Receipt) (h : History) (e : Entry) → missing user receipts h ≡ None → missing user receipts (h ▸ e) ≡ None

-- the history has the entry that was just made
abbrev pub LastIsKept : Type 0
LastIsKept = (user : List ℕ) (receipts : List Receipt) (h : History) (e : Entry) → missing user (receipts ++ receipt_of user (next h) e ∷ []) (h ▸ e) ≡ None

-- the receipt of one user's change is no pass of another user
abbrev pub OtherPassStays : Type 0
OtherPassStays = (user other : List ℕ) (receipts : List Receipt) (number : ℕ) (e : Entry) → same user other ≡ false → pass_of other (receipts ++ receipt_of user number e ∷ []) ≡ pass_of other receipts

-- ---- a record in place of its history

-- the record of a legal history stands in for the history, whatever entries come behind, and whatever sessions there are
abbrev pub RecordStandsIn : Type 0
RecordStandsIn = (h : History) → IsLegal h → (entries : List Entry) (d : DeskState)
    → StandsIn (over (folded h ▸▸ entries) d) (over (h ▸▸ entries) d)

-- a desk that stands in for another answers all that is asked alike
abbrev pub StandInAnswers : Type 0
StandInAnswers = (old new : DeskState) → StandsIn new old → (asked : List (SessionState × Request))
    → AnswersAlike old new asked

-- so sessions that begin once a history was folded are answered as over the history
abbrev pub RecordAnswersSessions : Type 0
RecordAnswersSessions = (h : History) → IsLegal h → (entries : List Entry) (d : DeskState)
    → AnswersAsOver (h ▸▸ entries) (over (folded h ▸▸ entries) d)

-- and of what a session was told since then, the same is missing, so nothing where all is kept
abbrev pub SinceIsKept : Type 0
SinceIsKept = (h : History) (entries : List Entry) (receipt : Receipt)
    → next h ≤ receipt.number
    → missing_in (folded h ▸▸ entries) receipt ≡ missing_in (h ▸▸ entries) receipt
