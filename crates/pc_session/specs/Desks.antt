-- The desks of a repository, and what a request that is asked of it comes to.
use Rattle.std.specs.Prelude.{◌≡◌, ℕ, ◌≤◌, Bool, false, List, Option, None, Some, is_some, MatchOption}
use Rattle.pc_base.specs.declared.refusal.Refusal.TheVariants.{BadUserOrPassword}
use Rattle.pc_tables.specs.Table.{same}
use Rattle.pc_reply.specs.declared.head.Head.TheVariants as head
use Rattle.pc_reply.specs.declared.reply.Reply.{Reply}
use Rattle.pc_request.specs.declared.request.Request.{Request}
use Rattle.pc_session.specs.declared.state.Reach.{Reach}
use Rattle.pc_session.specs.declared.state.Reach.TheVariants as reach
use Rattle.pc_session.specs.declared.state.Who.{Who}
use Rattle.pc_session.specs.Desk.{DeskState, EndsAt}
use Rattle.pc_session.specs.Repository.{Replies, answer_alone, plain}
use Rattle.pc_session.specs.States.{reach_of, user_of}
use Rattle.pc_session.specs.Turn.{Heard, Keeps, SessionValue, Turn}

-- the desk of each user who has one
abbrev pub Desks : Type 0
Desks = List ℕ → Option DeskState

-- every desk is as it was; or every other than this user's
abbrev pub AllStay : Desks → Desks → Type 0
AllStay old new = (user : List ℕ) → new user ≡ old user

abbrev pub OthersStay : List ℕ → Desks → Desks → Type 0
OthersStay user old new = (other : List ℕ) → same user other ≡ false → new other ≡ old other

-- a request that reaches this user: it is met at the user's desk, or is refused where there is none
abbrev pub AskedOfUser : Type 0 → List ℕ → Request → Option DeskState → SessionValue → Reply → Option DeskState → SessionValue → Type 0
AskedOfUser disks_tell user request (Some old) s reply (Some new) after = Turn disks_tell user request old s reply new after × Heard request false reply s after × (old.faults ≤ new.faults)
AskedOfUser disks_tell user request None s reply None after = (reply ≡ plain (head.Refused BadUserOrPassword)) × (after ≡ s)
AskedOfUser disks_tell user request old s reply new after = ⊥

abbrev pub AskedReaching : Type 0 → Reach → Request → Desks → SessionValue → Reply → Desks → SessionValue → Type 0
AskedReaching disks_tell reach.Nobody request old s reply new after = Replies (answer_alone s.state request) reply × Heard request false reply s after × Keeps s after × AllStay old new
AskedReaching disks_tell (reach.Account user) request old s reply new after = AskedOfUser disks_tell user request (old user) s reply (new user) after × OthersStay user old new

-- a request is asked in a session: the session answers alone, or the desk of the user whom the request reaches is asked
abbrev pub Asked : Type 0 → Request → Desks → SessionValue → Reply → Desks → SessionValue → Type 0
Asked disks_tell request old s reply new after = AskedReaching disks_tell (reach_of s.state request) request old s reply new after

-- the same of a repository that tells its users alone: there are such desks
pub record AskedSomewhere (disks_tell : Type 0) (users : List ℕ → Bool) (request : Request) (s : SessionValue) (reply : Reply) (after : SessionValue) : Type 0 where
  pub old : Desks
  pub new : Desks
  pub users_are : (user : List ℕ) → is_some (old user) ≡ users user
  pub asked : Asked disks_tell request old s reply new after

-- a session ends: where it is its client's latest, that isn't live any more
abbrev pub EndsAtDeskOf : Who → Option DeskState → Option DeskState → Type 0
EndsAtDeskOf who (Some old) (Some new) = EndsAt who old new × (old.faults ≤ new.faults)
EndsAtDeskOf who None None = Unit {0}
EndsAtDeskOf who old new = ⊥

abbrev pub SessionEnds : Who → Desks → Desks → Type 0
SessionEnds who old new = MatchOption (user_of who) (AllStay old new) (λ user. EndsAtDeskOf who (old user) (new user) × OthersStay user old new)
