-- What a repository of one thread answers to what is asked in a session without client.
use Rattle.std.specs.Prelude.{ℕ, List, [], codes, Option, None, Result, Ok, Err}
use Rattle.pc_base.specs.Refusal.{head_of}
use Rattle.pc_base.specs.declared.refusal.Refusal.{Refusal}
use Rattle.pc_base.specs.declared.refusal.Refusal.TheVariants as refusal
use Rattle.pc_request.specs.declared.request.Request.{Request}
use Rattle.pc_request.specs.declared.request.Request.TheVariants as request
use Rattle.pc_request.specs.declared.request.RequestFault.{RequestFault}
use Rattle.pc_request.specs.declared.request.RequestFault.TheVariants as fault
use Rattle.pc_account_history.specs.declared.entry.Entry.{Entry}
use Rattle.pc_account_history.specs.History.{History, known}
use Rattle.pc_account.specs.Answers.{answered}
use Rattle.pc_account.specs.Plan.{planned}
use Rattle.pc_account.specs.declared.answer.Answer.{Answer}
use Rattle.pc_account.specs.declared.answer.Question.TheVariants as question
use Rattle.pc_account.specs.declared.wish.Wish.TheVariants as wish
use Rattle.pc_world.specs.declared.event.Asked.{Asked}
use Rattle.pc_world.specs.Rows.{answer_lines}
use Rattle.pc_world.specs.declared.event.Asked.TheVariants.{TooLong, Faulty, Read}

-- a reply: its first line, the lines of its list, and the entry of the account that is kept with it, if there is one
pub record Reply : Type 0 where
  pub head : List ℕ
  pub lines : List (List ℕ)
  pub entry : Option Entry

-- a refusal: nothing is kept
abbrev pub refused : List ℕ → Reply
refused head = record { head = head; lines = []; entry = None }

-- the head that tells what is wrong with a line
abbrev pub fault_head : RequestFault → List ℕ
fault_head fault.Unknown = head_of refusal.UnknownOperation
fault_head fault.Arguments = head_of refusal.WrongArguments
fault_head fault.BadName = head_of refusal.BadName
fault_head fault.BadFlag = head_of refusal.NoSuchFlag

-- the reply to a request that changes: 200 and its entry, where one is made, or the refusal
abbrev pub reply_to_plan : Result (Option Entry) Refusal → Reply
reply_to_plan (Ok entry) = record { head = codes "200 Ok"; lines = []; entry = entry }
reply_to_plan (Err why) = refused (head_of why)

-- the reply with a list
abbrev pub listed : List (List ℕ) → Reply
listed lines = record { head = codes "201 List follows"; lines = lines; entry = None }

-- the reply to a request that asks: the list of what is answered, or the refusal
abbrev pub reply_to_answer : Result Answer Refusal → Reply
reply_to_answer (Ok answer) = listed (answer_lines answer)
reply_to_answer (Err why) = refused (head_of why)

-- the reply to a request; an operation that isn't built yet is unknown
unfoldable pub reply_to_request : History → Request → Reply
reply_to_request history (request.CreateMailbox mailbox) = reply_to_plan (planned (known history) (wish.MakeMailbox mailbox))
reply_to_request history request.ListMailboxes = reply_to_answer (answered (known history) question.Mailboxes)
reply_to_request history _ = refused (head_of refusal.UnknownOperation)

-- the reply to what is asked
abbrev pub reply_to : History → Asked → Reply
reply_to history TooLong = refused (head_of refusal.LineTooLong)
reply_to history (Faulty fault) = refused (fault_head fault)
reply_to history (Read request) = reply_to_request history request
