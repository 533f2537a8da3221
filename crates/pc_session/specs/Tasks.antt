-- What a request asks of the account, and what that comes to.
use Rattle.std.specs.Prelude.{◌≡◌, ℕ, ⊤, List, Option, None, Some, Result, Ok, Err}
use Rattle.pc_base.specs.declared.refusal.Refusal.{Refusal}
use Rattle.pc_account_history.specs.History.{known}
use Rattle.pc_account_history.specs.Known.{Known}
use Rattle.pc_account.specs.Answers.{answered}
use Rattle.pc_account.specs.Plan.{IsWish}
use Rattle.pc_account.specs.declared.answer.Question.TheVariants as question
use Rattle.pc_request.specs.declared.request.Request.{Request}
use Rattle.pc_session.specs.declared.answered.Failure.{Failure}
use Rattle.pc_session.specs.declared.answered.Failure.TheVariants as failure
use Rattle.pc_session.specs.declared.state.SessionState.{SessionState}
use Rattle.pc_session.specs.declared.task.Task.{Task}
use Rattle.pc_session.specs.declared.task.Task.TheVariants as task
use Rattle.pc_session.specs.Desk.{DeskState}
use Rattle.pc_session.specs.Lists.{client_lines}
use Rattle.pc_session.specs.Repository.{Outcome, answer_in_box, answer_of, as_user, asks, changes, headed, listed, logs_in_knowing, refused, replied, selects, sets_password, takes_away, tells}

-- what a task comes to
abbrev pub outcome_of : DeskState → SessionState → Task → Outcome
outcome_of d s (task.LogIn login) = logs_in_knowing d s login.user login.password login.client login.create login.batch
outcome_of d s (task.SetPassword present next) = as_user s (λ user. sets_password d s user present next)
outcome_of d s (task.TakeAway client) = takes_away d s client
outcome_of d s task.ListClients = replied s (listed (client_lines d.latest (known d.history).clients))
outcome_of d s (task.Select mailbox) = selects s mailbox (answered (known d.history) (question.Alive mailbox))
outcome_of d s (task.Header mailbox uid) = tells s (headed (answered (known d.history) (question.Letter mailbox uid)))
outcome_of d s (task.Ask question) = asks d s question
outcome_of d s (task.Change wish) = changes d s wish

-- a request asks for this task, at every desk; or is refused at every desk
abbrev pub IsTask : SessionState → Request → Result Task Failure → Type 0
IsTask s r (Ok task) = (d : DeskState) → answer_of d s r ≡ outcome_of d s task
IsTask s r (Err (failure.Refused why)) = (d : DeskState) → answer_of d s r ≡ refused s why
IsTask s r (Err failure.Memory) = ⊤
IsTask s r (Err failure.Device) = ⊥
IsTask s r (Err (failure.Missing number)) = ⊥

-- what is wished may be wished at every place of a history
abbrev pub WishesRightly : Task → Type 0
WishesRightly (task.Change wish) = (k : Known) → IsWish k wish
WishesRightly _ = ⊤

-- the same of a request about a mailbox
abbrev pub IsBoxTask : SessionState → List ℕ → Request → Result Task Failure → Type 0
IsBoxTask s mailbox r (Ok task) = (d : DeskState) → answer_in_box d s mailbox r ≡ outcome_of d s task
IsBoxTask s mailbox r (Err (failure.Refused why)) = (d : DeskState) → answer_in_box d s mailbox r ≡ refused s why
IsBoxTask s mailbox r (Err failure.Memory) = ⊤
IsBoxTask s mailbox r (Err failure.Device) = ⊥
IsBoxTask s mailbox r (Err (failure.Missing number)) = ⊥

-- what is there, or else this refusal
abbrev pub FoundOr : Option (List ℕ) → Refusal → Result (List ℕ) Failure → Type 0
FoundOr (Some name) why (Ok found) = found ≡ name
FoundOr None why (Err (failure.Refused told)) = told ≡ why
FoundOr _ why _ = ⊥
