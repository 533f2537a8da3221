-- One request of a session at a desk: the reply of the repository of one thread, or why it couldn't be given.
use Rattle.std.specs.Prelude.{◌≡◌, ◌⊎◌, ℕ, suc, ◌+◌, ◌%◌, ◌^◌, ◌≤◌, ⊤, is_some, Bool, true, false, List, [], ◌∷◌, ◌++◌, Option, None, Some, MatchBool}
use Rattle.std.specs.Option.{option_map_or}
use Rattle.pc_base.specs.Stream.{Rose}
use Rattle.pc_base.specs.declared.refusal.Refusal.{Refusal}
use Rattle.pc_account_history.specs.declared.entry.Entry.{Entry}
use Rattle.pc_account_history.specs.History.{History, ◌▸◌, next}
use Rattle.pc_reply.specs.declared.head.Head.{Head}
use Rattle.pc_reply.specs.declared.head.Head.TheVariants as head
use Rattle.pc_reply.specs.declared.reply.Reply.{Reply}
use Rattle.pc_request.specs.declared.request.Request.{Request}
use Rattle.pc_session.specs.declared.access.Latest.{Latest}
use Rattle.pc_session.specs.declared.receipts.Receipt.{Receipt}
use Rattle.pc_session.specs.declared.state.SessionState.{SessionState}
use Rattle.pc_session.specs.Desk.{DeskState, Are, Same, Opened, latest_after, latest_with}
use Rattle.pc_session.specs.Receipts.{missing, number_of_pass, receipt_of}
use Rattle.pc_session.specs.Repository.{Outcome, answer_of, plain}
use Rattle.pc_session.specs.States.{client_of, stale}

-- what a session keeps: what it is in, the receipts of its changes, how many replies it gave (modulo 2^64), and the
-- last of them with its request and whether a body was handed in with it
pub record SessionValue : Type 0 where
  pub state : SessionState
  pub receipts : List Receipt
  pub answered : ℕ
  pub heard : Option Reply
  pub asked : Option (Request × Bool)

-- a new session, and one that has given no reply yet
abbrev pub begun : SessionState → SessionValue
begun state = record { state = state; receipts = []; answered = 0; heard = None; asked = None }

-- the session gave a reply to a request
pub record Heard (request : Request) (handed : Bool) (reply : Reply) (old new : SessionValue) : Type 0 where
  pub answered : new.answered ≡ (old.answered + 1) % 2 ^ 64
  pub heard : new.heard ≡ Some reply
  pub asked : new.asked ≡ Some (request, handed)

-- what it is in, and its receipts, are as they were
pub record Keeps (old new : SessionValue) : Type 0 where
  pub state : new.state ≡ old.state
  pub receipts : new.receipts ≡ old.receipts

-- ---- what an outcome makes of a desk

-- the history with the entry of an outcome
abbrev pub with_entry : History → Option Entry → History
with_entry h entry = option_map_or (λ (e : Entry). h ▸ e) entry h

-- the number of sessions drawn
abbrev pub drawn_after : Outcome → ℕ → ℕ
drawn_after o drawn = option_map_or (λ (batch : Bool). suc drawn) o.draws drawn

-- the latest sessions once a number was drawn for the client of the outcome's session, and its session is live or not
abbrev pub latest_drawn : Outcome → Bool → DeskState → List ℕ → Option Latest
latest_drawn o live old client = option_map_or (λ (batch : Bool). option_map_or (λ (drawer : List ℕ). latest_with drawer (record { number = suc old.drawn; live = live; batch = batch }) old.latest client) (client_of o.session.who) (old.latest client)) o.draws (old.latest client)

-- and once the entry was made
abbrev pub latest_made : Option Entry → (List ℕ → Option Latest) → List ℕ → Option Latest
latest_made entry latest client = option_map_or (λ (e : Entry). latest_after e latest client) entry (latest client)

-- the outcome came to pass
pub record Done (o : Outcome) (old new : DeskState) : Type 0 where
  pub history : new.history ≡ with_entry old.history o.entry
  pub doubt : new.doubt ≡ None
  pub broken : new.broken ≡ false
  pub drawn : new.drawn ≡ drawn_after o old.drawn
  pub latest : Are new.latest (latest_made o.entry (latest_drawn o true old))

-- memory was wanted: no history has changed. A number that was drawn before its client was to be made stays drawn, and
-- no session has it
pub record Unmade (o : Outcome) (old new : DeskState) : Type 0 where
  pub history : new.history ≡ old.history
  pub doubt : new.doubt ≡ None
  pub sessions : ((new.drawn ≡ old.drawn) × Are new.latest old.latest) ⊎ ((is_some o.entry ≡ true) × (new.drawn ≡ drawn_after o old.drawn) × Are new.latest (latest_drawn o false old))

-- the disk failed in the commit of the outcome's entry, which may be in doubt
pub record Broke (o : Outcome) (old new : DeskState) : Type 0 where
  pub entry : Entry
  pub made : o.entry ≡ Some entry
  pub history : new.history ≡ old.history
  pub doubt : (new.doubt ≡ None) ⊎ (new.doubt ≡ Some entry)
  pub broken : new.broken ≡ true
  pub drawn : new.drawn ≡ drawn_after o old.drawn
  pub latest : Are new.latest (latest_drawn o false old)
  pub rose : Rose old.faults new.faults

-- the receipts with that of the outcome's entry
abbrev pub receipts_after : List ℕ → DeskState → Outcome → List Receipt → List Receipt
receipts_after user old o receipts = option_map_or (λ (e : Entry). receipts ++ receipt_of user (next old.history) e ∷ []) o.entry receipts

-- ---- one turn

-- the store was opened again where it was broken; else nothing has changed
abbrev pub OpensTo : Type 0 → DeskState → DeskState → Type 0
OpensTo tells old mid = MatchBool old.broken (Opened tells old mid) (Same old mid)

-- why a broken store wasn't opened again: the disk failed; or it isn't the store's any more, which a disk that tells
-- its bytes never is; or memory was wanted
abbrev pub IsShut : Type 0 → ℕ → DeskState → DeskState → Head → Type 0
IsShut tells number old new head.WantOfMemory = ⊤
IsShut tells number old new head.DeviceFailed = Rose old.faults new.faults
IsShut tells number old new (head.ChangeMissing told) = (tells → ⊥) × (told ≡ number)
IsShut tells number old new _ = ⊥

-- what happens at a desk whose store isn't broken
pub data Attended (user : List ℕ) (request : Request) (old : DeskState) (s : SessionValue) (reply : Reply) (new : DeskState) (after : SessionValue) : Type 0 where
  -- the history lacks the change that the session was told last
  lost : {number : ℕ} → missing user s.receipts old.history ≡ Some number → reply ≡ plain (head.ChangeMissing number) → Same old new → Keeps s after → Attended user request old s reply new after
  -- the reply of the repository of one thread
  given : missing user s.receipts old.history ≡ None → reply ≡ (answer_of old s.state request).reply → Done (answer_of old s.state request) old new → after.state ≡ (answer_of old s.state request).session → after.receipts ≡ receipts_after user old (answer_of old s.state request) s.receipts → Attended user request old s reply new after
  -- want of memory
  wanted : reply ≡ plain head.WantOfMemory → Unmade (answer_of old s.state request) old new → Keeps s after → Attended user request old s reply new after
  -- the disk failed
  failed : missing user s.receipts old.history ≡ None → reply ≡ plain head.DeviceFailed → Broke (answer_of old s.state request) old new → Keeps s after → Attended user request old s reply new after

-- what happens to a request that reaches the account
pub data Turn (tells : Type 0) (user : List ℕ) (request : Request) (old : DeskState) (s : SessionValue) (reply : Reply) (new : DeskState) (after : SessionValue) : Type 0 where
  -- the session's state refuses it, and nothing is opened
  stood : {why : Refusal} → stale old.latest s.state request ≡ Some why → reply ≡ plain (head.Refused why) → Same old new → Keeps s after → Turn tells user request old s reply new after
  -- the store is broken and wasn't opened again
  shut : stale old.latest s.state request ≡ None → old.broken ≡ true → reply ≡ plain reply.head → IsShut tells (number_of_pass user s.receipts) old new reply.head → Same old new → Keeps s after → Turn tells user request old s reply new after
  -- it was met at the desk as it was, or once its store was opened again
  met : stale old.latest s.state request ≡ None → (mid : DeskState) → OpensTo tells old mid → old.faults ≤ mid.faults → Attended user request mid s reply new after → Turn tells user request old s reply new after
