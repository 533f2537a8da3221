-- The requests and the lines that spell them.
use Rattle.std.specs.Prelude.{◌≡◌, ℕ, ◌≤◌, ◌++◌, List, [], ◌∷◌, ⊤, Some}
use Rattle.pc_wire.specs.Words.{words_of}
use Rattle.pc_request.specs.Argument.{Argument, AreSpelled, written_behind}
use Rattle.pc_request.specs.Argument as argument
use Rattle.pc_request.specs.Operation.{IsNamed, operation_named, word_of}
use Rattle.pc_request.specs.declared.operation.Operation.{Operation}
use Rattle.pc_request.specs.declared.operation.Operation.TheVariants as operation
use Rattle.pc_request.specs.declared.request.Request.{Request}
use Rattle.pc_request.specs.declared.request.Request.TheVariants as request

-- the operation of a request, and its arguments in order
unfoldable pub call_of : Request → Operation × List Argument
call_of (request.SendVersion version) = (operation.SendVersion, argument.number version ∷ [])
call_of request.Help = (operation.Help, [])
call_of (request.Login user password client create batch) = (operation.Login, argument.name user ∷ argument.password password ∷ argument.name client ∷ argument.switch create ∷ argument.switch batch ∷ [])
call_of request.Logout = (operation.Logout, [])
call_of (request.SetPassword present next) = (operation.SetPassword, argument.password present ∷ argument.password next ∷ [])
call_of request.ListClients = (operation.ListClients, [])
call_of (request.CreateClient client) = (operation.CreateClient, argument.name client ∷ [])
call_of (request.DeleteClient client) = (operation.DeleteClient, argument.name client ∷ [])
call_of (request.ResetClient client) = (operation.ResetClient, argument.name client ∷ [])
call_of request.ListMailboxes = (operation.ListMailboxes, [])
call_of (request.CreateMailbox mailbox) = (operation.CreateMailbox, argument.name mailbox ∷ [])
call_of (request.DeleteMailbox mailbox) = (operation.DeleteMailbox, argument.name mailbox ∷ [])
call_of (request.ResetMailbox mailbox) = (operation.ResetMailbox, argument.name mailbox ∷ [])
call_of (request.SelectMailbox mailbox) = (operation.SelectMailbox, argument.mailbox mailbox ∷ [])
call_of (request.SelectBoard board) = (operation.SelectMailbox, argument.board board ∷ [])
call_of request.ExpungeMailbox = (operation.ExpungeMailbox, [])
call_of (request.ListAddresses mailbox) = (operation.ListAddresses, argument.name mailbox ∷ [])
call_of (request.CreateAddress mailbox address) = (operation.CreateAddress, argument.name mailbox ∷ argument.name address ∷ [])
call_of (request.DeleteAddress address) = (operation.DeleteAddress, argument.name address ∷ [])
call_of request.ListSubscriptions = (operation.ListSubscriptions, [])
call_of request.ListAvailableSubscriptions = (operation.ListAvailableSubscriptions, [])
call_of (request.CreateSubscription board) = (operation.CreateSubscription, argument.name board ∷ [])
call_of (request.DeleteSubscription board) = (operation.DeleteSubscription, argument.name board ∷ [])
call_of (request.ResetSubscription board uid) = (operation.ResetSubscription, argument.name board ∷ argument.number uid ∷ [])
call_of (request.FetchDescriptors low high) = (operation.FetchDescriptors, argument.number low ∷ argument.number high ∷ [])
call_of (request.FetchChangedDescriptors count) = (operation.FetchChangedDescriptors, argument.count count ∷ [])
call_of (request.ResetDescriptors low high) = (operation.ResetDescriptors, argument.number low ∷ argument.number high ∷ [])
call_of (request.FetchHeaders uid) = (operation.FetchHeaders, argument.number uid ∷ [])
call_of (request.FetchMessage uid) = (operation.FetchMessage, argument.number uid ∷ [])
call_of (request.CopyMessage uid mailbox) = (operation.CopyMessage, argument.number uid ∷ argument.name mailbox ∷ [])
call_of (request.SetMessageFlag uid flag on) = (operation.SetMessageFlag, argument.number uid ∷ argument.flag flag ∷ argument.switch on ∷ [])
call_of request.SendMessage = (operation.SendMessage, [])

-- the words spell the operation with its arguments
abbrev pub SpellCall : Operation × List Argument → List (List ℕ) → Type 0
SpellCall call [] = ⊥
SpellCall call (first ∷ others) = IsNamed call.0 first × AreSpelled call.1 others

-- the first word names the operation, and these are the others
abbrev pub Calls : Operation → List (List ℕ) → List (List ℕ) → Type 0
Calls operation others words =
    (first : List ℕ) × ((words ≡ first ∷ others) × IsNamed operation first × (operation_named first ≡ Some operation))

-- the line spells the request: the request's operation and its arguments, one word each
abbrev pub IsRequest : Request → List ℕ → Type 0
IsRequest request line = SpellCall (call_of request) (words_of line)

-- the line that is written for a request: one space between words
abbrev pub line_of : Request → List ℕ
line_of request = word_of (call_of request).0 ++ written_behind (call_of request).1

-- the request's flag and its count are such as a line can spell
abbrev pub IsWritable : Request → Type 0
IsWritable (request.FetchChangedDescriptors count) = (1 ≤ count) × (count ≤ 256)
IsWritable (request.SetMessageFlag uid flag on) = flag ≤ 15
IsWritable _ = ⊤
