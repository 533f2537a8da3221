-- The operations and their words.
use Rattle.std.specs.Prelude.{◌≡◌, ℕ, Bool, ◌==◌, List, [], ◌∷◌, map, codes, Option}
use Rattle.std.specs.Char.{to_ascii_lowercase}
use Rattle.std.specs.Cmp.Lexicographic.{pointwise}
use Rattle.std.specs.List.{find}
use Rattle.pc_request.specs.declared.operation.Operation.{Operation}
use Rattle.pc_request.specs.declared.operation.Operation.TheVariants as operation

-- the word that names an operation, in capitals
unfoldable pub word_of : Operation → List ℕ
word_of operation.SendVersion = codes "SEND-VERSION"
word_of operation.Help = codes "HELP"
word_of operation.Login = codes "LOGIN"
word_of operation.Logout = codes "LOGOUT"
word_of operation.SetPassword = codes "SET-PASSWORD"
word_of operation.ListClients = codes "LIST-CLIENTS"
word_of operation.CreateClient = codes "CREATE-CLIENT"
word_of operation.DeleteClient = codes "DELETE-CLIENT"
word_of operation.ResetClient = codes "RESET-CLIENT"
word_of operation.ListMailboxes = codes "LIST-MAILBOXES"
word_of operation.CreateMailbox = codes "CREATE-MAILBOX"
word_of operation.DeleteMailbox = codes "DELETE-MAILBOX"
word_of operation.ResetMailbox = codes "RESET-MAILBOX"
word_of operation.SelectMailbox = codes "SELECT-MAILBOX"
word_of operation.ExpungeMailbox = codes "EXPUNGE-MAILBOX"
word_of operation.ListAddresses = codes "LIST-ADDRESSES"
word_of operation.CreateAddress = codes "CREATE-ADDRESS"
word_of operation.DeleteAddress = codes "DELETE-ADDRESS"
word_of operation.ListSubscriptions = codes "LIST-SUBSCRIPTIONS"
word_of operation.ListAvailableSubscriptions = codes "LIST-AVAILABLE-SUBSCRIPTIONS"
word_of operation.CreateSubscription = codes "CREATE-SUBSCRIPTION"
word_of operation.DeleteSubscription = codes "DELETE-SUBSCRIPTION"
word_of operation.ResetSubscription = codes "RESET-SUBSCRIPTION"
word_of operation.FetchDescriptors = codes "FETCH-DESCRIPTORS"
word_of operation.FetchChangedDescriptors = codes "FETCH-CHANGED-DESCRIPTORS"
word_of operation.ResetDescriptors = codes "RESET-DESCRIPTORS"
word_of operation.FetchHeaders = codes "FETCH-HEADERS"
word_of operation.FetchMessage = codes "FETCH-MESSAGE"
word_of operation.CopyMessage = codes "COPY-MESSAGE"
word_of operation.SetMessageFlag = codes "SET-MESSAGE-FLAG"
word_of operation.SendMessage = codes "SEND-MESSAGE"

-- all of them, in the order in which HELP lists them
unfoldable pub operations : List Operation
operations =
    operation.SendVersion ∷ operation.Help ∷ operation.Login ∷ operation.Logout ∷ operation.SetPassword
    ∷ operation.ListClients ∷ operation.CreateClient ∷ operation.DeleteClient ∷ operation.ResetClient
    ∷ operation.ListMailboxes ∷ operation.CreateMailbox ∷ operation.DeleteMailbox ∷ operation.ResetMailbox
    ∷ operation.SelectMailbox ∷ operation.ExpungeMailbox
    ∷ operation.ListAddresses ∷ operation.CreateAddress ∷ operation.DeleteAddress
    ∷ operation.ListSubscriptions ∷ operation.ListAvailableSubscriptions
    ∷ operation.CreateSubscription ∷ operation.DeleteSubscription ∷ operation.ResetSubscription
    ∷ operation.FetchDescriptors ∷ operation.FetchChangedDescriptors ∷ operation.ResetDescriptors
    ∷ operation.FetchHeaders ∷ operation.FetchMessage
    ∷ operation.CopyMessage ∷ operation.SetMessageFlag ∷ operation.SendMessage ∷ []

-- the word names the operation, in capitals or small letters
abbrev pub IsNamed : Operation → List ℕ → Type 0
IsNamed operation word = map to_ascii_lowercase word ≡ map to_ascii_lowercase (word_of operation)

-- the same as a test
abbrev pub is_named : Operation → List ℕ → Bool
is_named operation word = pointwise ◌==◌ (map to_ascii_lowercase word) (map to_ascii_lowercase (word_of operation))

-- the operation that a word names
abbrev pub operation_named : List ℕ → Option Operation
operation_named word = find (λ operation. is_named operation word) operations
