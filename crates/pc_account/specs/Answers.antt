-- What a history answers to a question, and how an answer is told.
use Rattle.std.specs.Prelude.{ℕ, ⊤, ◌&&◌, nat_le, List, map, length, Result, Ok, Err, if◌then◌else◌}
use Rattle.std.specs.Option.{option_map_or}
use Rattle.std.specs.List.{filter}
use Rattle.pc_base.specs.declared.refusal.Refusal.{Refusal}
use Rattle.pc_base.specs.declared.refusal.Refusal.TheVariants.{NoSuchClient, NoSuchMailbox, NoSuchMessage}
use Rattle.pc_message.specs.declared.descriptor.Change.{Change}
use Rattle.pc_message.specs.declared.descriptor.Change.TheVariants.{Present, Expunged}
use Rattle.pc_account_history.specs.declared.kept.Kept.{Kept}
use Rattle.pc_account_history.specs.declared.kept.Listed.{Listed}
use Rattle.pc_account_history.specs.Record.{MailboxRecord, kept_at}
use Rattle.pc_account_history.specs.Known.{Known}
use Rattle.pc_account_history.specs.Allowed.{is_mailbox, is_client, messages}
use Rattle.pc_account_history.specs.Answers.{descriptor_at, changed, first_changes}
use Rattle.pc_account.specs.declared.answer.Question.{Question}
use Rattle.pc_account.specs.declared.answer.Question.TheVariants as question
use Rattle.pc_account.specs.declared.answer.Answer.{Answer}
use Rattle.pc_account.specs.declared.answer.Answer.TheVariants as answer
use Rattle.pc_account.specs.declared.answer.ClientRow.{ClientRow}
use Rattle.pc_account.specs.declared.answer.MailboxRow.{MailboxRow}
use Rattle.pc_account.specs.declared.answer.SubscriptionRow.{SubscriptionRow}

-- a mailbox as a list shows it
abbrev pub row_of : Known → List ℕ → MailboxRow
row_of k mailbox = record { name = mailbox; live = length (messages k mailbox); highest = k.highest mailbox }

-- the same, where what stands under the mailbox's name is at hand
abbrev pub row_in : List ℕ × MailboxRecord → MailboxRow
row_in entry = record { name = entry.0; live = length entry.1.messages; highest = entry.1.highest }

-- a client, and a subscription, as a list shows them
abbrev pub client_row : List ℕ × ℕ → ClientRow
client_row client = record { name = client.0; birth = client.1 }

abbrev pub subscription_row : List ℕ × ℕ → SubscriptionRow
subscription_row subscription = record { board = subscription.0; mark = subscription.1 }

-- what is told of a uid of a mailbox: the descriptor of its message, or that it is gone
abbrev pub told_at : ℕ → MailboxRecord → Change
told_at uid box = option_map_or (λ (kept : Kept). Present (descriptor_at kept)) (kept_at uid box.messages) (Expunged uid)

abbrev pub told_of : MailboxRecord → Listed → Change
told_of box listed = told_at listed.uid box

-- the descriptors of the messages from low to high, by rising uid
abbrev pub described : Known → List ℕ → ℕ → ℕ → List Change
described k mailbox low high = map (λ (kept : Kept). Present (descriptor_at kept)) (filter (λ (kept : Kept). nat_le low kept.uid && nat_le kept.uid high) (messages k mailbox))

-- the answer where the mailbox lives
abbrev pub in_mailbox : Known → List ℕ → Result Answer Refusal → Result Answer Refusal
in_mailbox k mailbox outcome = if is_mailbox k mailbox then outcome else Err NoSuchMailbox

-- what is answered to a question
abbrev pub answered : Known → Question → Result Answer Refusal
answered k question.Clients = Ok (answer.Clients (map client_row k.clients))
answered k question.Mailboxes = Ok (answer.Mailboxes (map (row_of k) k.live))
answered k (question.Alive mailbox) = in_mailbox k mailbox (Ok answer.Yes)
answered k (question.Descriptors mailbox low high) = in_mailbox k mailbox (Ok (answer.Descriptors (described k mailbox low high)))
answered k (question.Changed client mailbox count) = if is_client k client then in_mailbox k mailbox (Ok (answer.Changed (changed k client mailbox count) (first_changes k client mailbox count))) else Err NoSuchClient
answered k (question.Letter mailbox uid) = in_mailbox k mailbox (option_map_or (λ (kept : Kept). Ok (answer.Letter kept.message)) (k.kept mailbox uid) (Err NoSuchMessage))
answered k question.Subscriptions = Ok (answer.Subscriptions (map subscription_row k.subscriptions))

-- an outcome that is told without memory: a plain yes, or a refusal
abbrev pub IsPlain : Result Answer Refusal → Type 0
IsPlain (Ok answer.Yes) = ⊤
IsPlain (Ok _) = ⊥
IsPlain (Err refusal) = ⊤
