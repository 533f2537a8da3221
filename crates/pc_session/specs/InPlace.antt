-- A desk in place of another, as one over a record is in place of one over the record's history.
use Rattle.std.specs.Prelude.{◌≡◌, ◌⊎◌, ◌≤◌, ⊤, true, false, List, [], ◌∷◌, Some}
use Rattle.std.specs.Option.{option_map_or}
use Rattle.pc_base.specs.declared.refusal.Refusal.TheVariants.{JournalFull}
use Rattle.pc_account_history.specs.declared.entry.Entry.{Entry}
use Rattle.pc_account_history.specs.History.{History, known}
use Rattle.pc_request.specs.declared.request.Request.{Request}
use Rattle.pc_session.specs.declared.state.Reach.{Reach}
use Rattle.pc_session.specs.declared.state.Reach.TheVariants as reach
use Rattle.pc_session.specs.declared.state.SessionState.{SessionState}
use Rattle.pc_session.specs.Desk.{DeskState, has_room, trail_bytes, trail_count}
use Rattle.pc_session.specs.Repository.{Outcome, answer_alone, answer_of, refused, replied}
use Rattle.pc_session.specs.States.{reach_of, stale}
use Rattle.pc_session.specs.Turn.{drawn_after, latest_drawn, latest_made, with_entry}

-- ---- a desk in place of another

-- the desk over this history, with the sessions that it has
abbrev pub over : History → DeskState → DeskState
over h d = record d { history = h }

-- the same is known of the account, the sessions are the same, and the journal has no less room
pub record StandsIn (new old : DeskState) : Type 0 where
  pub account : known new.history ≡ known old.history
  pub drawn : new.drawn ≡ old.drawn
  pub latest : new.latest ≡ old.latest
  pub entries : trail_count new.history ≤ trail_count old.history
  pub bytes : trail_bytes new.history ≤ trail_bytes old.history

-- ---- what requests come to

-- a request that reaches nobody is answered alone; one that reaches the account is refused by the session's state, or
-- answered
abbrev pub outcome_reaching : Reach → DeskState → SessionState → Request → Outcome
outcome_reaching reach.Nobody d s r = replied s (answer_alone s r)
outcome_reaching (reach.Account user) d s r = option_map_or (refused s) (stale d.latest s r) (answer_of d s r)

-- what a request comes to that is asked in a session at a desk
abbrev pub outcome_at : DeskState → SessionState × Request → Outcome
outcome_at d one = outcome_reaching (reach_of one.0 one.1) d one.0 one.1

-- the desk once an outcome came to pass; the state of its account goes with the history, and no answer looks at it
abbrev pub with_outcome : Outcome → DeskState → DeskState
with_outcome o d = record d {
  history = with_entry d.history o.entry;
  drawn = drawn_after o d.drawn;
  latest = latest_made o.entry (latest_drawn o true d);
}

-- ---- the same answers

-- a journal has no room for the entry that is made in the other place, and so the request is refused
pub record WantsRoom (h : History) (s : SessionState) (o other : Outcome) : Type 0 where
  pub entry : Entry
  pub made : other.entry ≡ Some entry
  pub no_room : has_room h entry ≡ false
  pub told : o ≡ refused s JournalFull

-- each request, in the session in which it is asked, comes to the same in both places: reply, entry and session; until
-- the first for which the old journal wants room
abbrev pub AnswersAlike : DeskState → DeskState → List (SessionState × Request) → Type 0
AnswersAlike old new [] = ⊤
AnswersAlike old new (one ∷ asked) =
    WantsRoom old.history one.0 (outcome_at old one) (outcome_at new one)
    ⊎ ((outcome_at new one ≡ outcome_at old one)
    × AnswersAlike (with_outcome (outcome_at old one) old) (with_outcome (outcome_at new one) new) asked)

-- a desk answers as it would over this history, whatever is asked in whatever sessions
abbrev pub AnswersAsOver : History → DeskState → Type 0
AnswersAsOver h d = (asked : List (SessionState × Request)) → AnswersAlike (over h d) d asked
