-- Small desks and sessions, with what each answer must be.
use Rattle.std.specs.Prelude.{◌≡◌, ℕ, true, false, List, [], ◌∷◌, map, codes, length, Option, Some, None, if◌then◌else◌}
use Rattle.pc_base.specs.declared.refusal.Refusal.TheVariants as refusal
use Rattle.pc_base.specs.declared.refusal.LimitWord.TheVariants as limit
use Rattle.pc_account_history.specs.declared.entry.Entry.TheVariants.{Flag, Forget, MakeClient}
use Rattle.pc_account_history.specs.declared.kept.Listed.{Listed}
use Rattle.pc_account_history.specs.History.{History, start, ◌▸◌, next}
use Rattle.pc_account_history.specs.Laws.{folded}
use Rattle.pc_account_history.specs.Record.{AccountRecord, MailboxRecord}
use Rattle.pc_account_history.specs.Samples.{box, enrolled, first_client, five_pulled, flag_between, pairs_of, second_client}
use Rattle.pc_account_history.specs.Step.{record_of}
use Rattle.pc_tables.specs.Table.{map_values, same}
use Rattle.pc_account_holdings.specs.State.{new_state}
use Rattle.pc_reply.specs.Items.{client_text}
use Rattle.pc_reply.specs.declared.items.Mode.TheVariants.{Interactive, Batch}
use Rattle.pc_reply.specs.declared.head.Head.{Head}
use Rattle.pc_reply.specs.declared.head.Head.TheVariants as head
use Rattle.pc_request.specs.declared.request.Request.TheVariants as request
use Rattle.pc_session.specs.declared.access.Latest.{Latest}
use Rattle.pc_session.specs.declared.state.Reach.TheVariants as reach
use Rattle.pc_session.specs.declared.state.SessionState.{SessionState}
use Rattle.pc_session.specs.declared.state.Who.TheVariants.{Nobody, Console, Client}
use Rattle.pc_session.specs.Desk.{DeskState}
use Rattle.pc_session.specs.Repository.{Outcome, answer_alone, answer_of, logs_in, plain}
use Rattle.pc_session.specs.States.{reach_of, stale}

abbrev pub ann : List ℕ
ann = codes "ann"

-- session 1 is the first client's and session 2 the second one's, a batch client; both are live
abbrev pub both_live : List ℕ → Option Latest
both_live client = if same client first_client then Some (record { number = 1; live = true; batch = false }) else (if same client second_client then Some (record { number = 2; live = true; batch = true }) else None)

-- the second client was taken over by session 3, which has ended
abbrev pub third_ended : List ℕ → Option Latest
third_ended client = if same client second_client then Some (record { number = 3; live = false; batch = false }) else None

abbrev pub desk_of : History → DeskState
desk_of h = record { history = h; doubt = None; broken = false; state = new_state; drawn = 2; latest = both_live; faults = 0 }

abbrev pub nobody : SessionState
nobody = record { who = Nobody; selected = None; shown = [] }

abbrev pub at_console : SessionState
at_console = record { who = Console ann; selected = None; shown = [] }

-- a session of a client with the inbox selected
abbrev pub in_inbox : List ℕ → ℕ → List Listed → SessionState
in_inbox client number shown = record { who = Client ann client number; selected = Some box; shown = shown }

-- five changes shown with stamp 5
abbrev pub five_shown : List Listed
five_shown = map (λ uid. record { uid = uid; stamp = 5 }) (1 ∷ 2 ∷ 3 ∷ 4 ∷ 5 ∷ [])

-- five mails and a flag, before anything was taken
abbrev pub flagged : History
flagged = five_pulled ▸ Flag box 5 1 true

abbrev pub head_of_outcome : Outcome → Head
head_of_outcome o = o.reply.head

-- ---- what a session answers alone

abbrev pub AnsweredAlone : Type 0
AnsweredAlone = (reach_of at_console (request.FetchMessage 1) ≡ reach.Nobody)
    × (answer_alone at_console (request.FetchMessage 1) ≡ plain (head.Refused refusal.NoMailboxSelected))
    × (reach_of at_console (request.Login ann ann first_client false false) ≡ reach.Nobody)
    × (answer_alone at_console (request.Login ann ann first_client false false) ≡ plain (head.Refused refusal.AlreadyLoggedIn))
    × (answer_alone nobody request.ListClients ≡ plain (head.Refused refusal.NotLoggedIn))
    × (answer_alone nobody (request.FetchMessage 1) ≡ plain (head.Refused refusal.NotLoggedIn))
    × (answer_alone nobody (request.SendVersion 7) ≡ plain (head.Refused refusal.VersionUnknown))
    × (answer_alone nobody (request.SendVersion 1) ≡ plain head.Ok)
    × (length (answer_alone nobody request.Help).lines ≡ 31)
    × (answer_alone nobody request.Logout ≡ plain head.Closing)
    × (answer_alone nobody request.SendMessage ≡ plain (head.Refused refusal.UnknownOperation))

-- an older session is told which one took its client over, also where that has ended, and before it is told that
-- nothing is selected; a client that was taken away isn't there
abbrev pub TakenOver : Type 0
TakenOver = (stale third_ended (in_inbox second_client 2 []) (request.FetchMessage 1) ≡ Some (refusal.Superseded 3))
    × (stale third_ended (record { who = Client ann second_client 2; selected = None; shown = [] }) (request.FetchMessage 1) ≡ Some (refusal.Superseded 3))
    × (stale third_ended (in_inbox second_client 3 []) (request.FetchMessage 1) ≡ None)
    × (stale third_ended (record { who = Client ann second_client 3; selected = None; shown = [] }) (request.FetchMessage 1) ≡ Some refusal.NoMailboxSelected)
    × (stale third_ended (in_inbox first_client 1 []) request.ListClients ≡ Some refusal.NoSuchClient)

-- ---- logging in

-- a new client is made by entry 3 and has session 3; one that isn't to be made isn't there
abbrev pub LoggedIn : Type 0
LoggedIn = (logs_in (desk_of enrolled) nobody ann first_client true false None ≡ record { reply = plain (head.Birth 3); entry = Some (MakeClient first_client); draws = Some false; session = record { who = Client ann first_client 3; selected = None; shown = [] } })
    × (head_of_outcome (logs_in (desk_of enrolled) nobody ann first_client false false None) ≡ head.Refused refusal.NoSuchClient)
    × (head_of_outcome (logs_in (record (desk_of enrolled) { drawn = 9223372036854775807 }) nobody ann first_client true false None) ≡ head.Refused (refusal.LimitReached limit.Sessions))

-- ---- what is asked and changed

-- what is there already, or must stay
abbrev pub Refused : Type 0
Refused = (head_of_outcome (answer_of (desk_of five_pulled) at_console (request.DeleteMailbox box)) ≡ head.Refused refusal.ReadOnly)
    × (head_of_outcome (answer_of (desk_of five_pulled) at_console (request.DeleteClient first_client)) ≡ head.Refused refusal.ClientHasSession)
    × (head_of_outcome (answer_of (desk_of five_pulled) at_console (request.CreateClient first_client)) ≡ head.Refused refusal.ClientExists)
    × (head_of_outcome (answer_of (desk_of five_pulled) at_console (request.ResetMailbox box)) ≡ head.Refused refusal.NoSuchClient)
    × (head_of_outcome (answer_of (desk_of enrolled) (in_inbox first_client 1 []) (request.FetchChangedDescriptors 256)) ≡ head.Refused refusal.NoSuchClient)

-- of five changes that were shown, the one that was touched since stays; a second taking forgets nothing
abbrev pub Taken : Type 0
Taken = ((answer_of (desk_of flagged) (in_inbox first_client 1 five_shown) (request.ResetDescriptors 1 9)).entry ≡ Some (Forget first_client box (1 ∷ 2 ∷ 3 ∷ 4 ∷ [])))
    × (answer_of (desk_of flag_between) (in_inbox first_client 1 five_shown) (request.ResetDescriptors 1 9) ≡ record { reply = plain head.Ok; entry = None; draws = None; session = in_inbox first_client 1 five_shown })
    × (answer_of (desk_of flag_between) (in_inbox second_client 2 []) (request.SetMessageFlag 5 1 true) ≡ record { reply = plain head.Ok; entry = None; draws = None; session = in_inbox second_client 2 [] })
    × (head_of_outcome (answer_of (desk_of flag_between) (in_inbox second_client 2 []) (request.SetMessageFlag 6 1 true)) ≡ head.Refused refusal.NoSuchMessage)

-- what is told of changes is shown from then on; selecting a mailbox forgets it
abbrev pub Shown : Type 0
Shown = (pairs_of (answer_of (desk_of flag_between) (in_inbox first_client 1 []) (request.FetchChangedDescriptors 256)).session.shown ≡ (5, 6) ∷ [])
    × (length (answer_of (desk_of flag_between) (in_inbox first_client 1 []) (request.FetchChangedDescriptors 256)).reply.lines ≡ 5)
    × ((answer_of (desk_of flag_between) (in_inbox first_client 1 five_shown) (request.SelectMailbox box)).session ≡ in_inbox first_client 1 [])

-- clients with their births and how they are used
abbrev pub ListsClients : Type 0
ListsClients = (answer_of (desk_of five_pulled) at_console request.ListClients).reply.lines ≡ client_text first_client 3 Interactive ∷ client_text second_client 4 Batch ∷ []

-- ---- a record in place of a history

-- an account whose mailboxes have changes without their stamps
abbrev pub without_stamp : Listed → Listed
without_stamp listed = record { uid = listed.uid; stamp = 0 }

abbrev pub without_stamps : AccountRecord → AccountRecord
without_stamps r = record r { live = map_values (λ (mailbox : MailboxRecord). record mailbox { lists = map_values (map without_stamp) mailbox.lists }) r.live }

-- over the record of a history the same changes are told, and what was shown is taken, as over the history; over the
-- record without stamps nothing is
abbrev pub InPlaceOfHistory : Type 0
InPlaceOfHistory = (pairs_of (answer_of (desk_of (folded flagged)) (in_inbox first_client 1 []) (request.FetchChangedDescriptors 256)).session.shown ≡ (1, 5) ∷ (2, 5) ∷ (3, 5) ∷ (4, 5) ∷ (5, 6) ∷ [])
    × ((answer_of (desk_of (folded flagged)) (in_inbox first_client 1 five_shown) (request.ResetDescriptors 1 9)).entry ≡ Some (Forget first_client box (1 ∷ 2 ∷ 3 ∷ 4 ∷ [])))
    × ((answer_of (desk_of (start (without_stamps (record_of flagged)) (next flagged))) (in_inbox first_client 1 five_shown) (request.ResetDescriptors 1 9)).entry ≡ None)
