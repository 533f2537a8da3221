-- What is wrong with a line that is no request.
use Rattle.std.specs.Prelude.{ℕ, ◌^◌, ◌==◌, nat_le, ◌&&◌, Bool, false, List, [], ◌∷◌, length, Option, None, Some, if◌then◌else◌}
use Rattle.pc_base.specs.Name.{is_name, is_password}
use Rattle.pc_base.specs.Number.{is_number, decimal_value}
use Rattle.pc_wire.specs.Words.{words_of}
use Rattle.pc_request.specs.Operation.{operation_named}
use Rattle.pc_request.specs.declared.operation.Operation.{Operation}
use Rattle.pc_request.specs.declared.operation.Operation.TheVariants as operation
use Rattle.pc_request.specs.declared.request.RequestFault.{RequestFault}
use Rattle.pc_request.specs.declared.request.RequestFault.TheVariants.{Unknown, Arguments, BadName, BadFlag}

-- a kind of argument
pub data Kind : Type 0 where
  name : Kind
  password : Kind
  number : Kind
  switch : Kind
  flag : Kind
  count : Kind
  box : Kind

-- the kinds of arguments that an operation takes, in order
unfoldable pub kinds_of : Operation → List Kind
kinds_of operation.SendVersion = number ∷ []
kinds_of operation.Help = []
kinds_of operation.Login = name ∷ password ∷ name ∷ switch ∷ switch ∷ []
kinds_of operation.Logout = []
kinds_of operation.SetPassword = password ∷ password ∷ []
kinds_of operation.ListClients = []
kinds_of operation.CreateClient = name ∷ []
kinds_of operation.DeleteClient = name ∷ []
kinds_of operation.ResetClient = name ∷ []
kinds_of operation.ListMailboxes = []
kinds_of operation.CreateMailbox = name ∷ []
kinds_of operation.DeleteMailbox = name ∷ []
kinds_of operation.ResetMailbox = name ∷ []
kinds_of operation.SelectMailbox = box ∷ []
kinds_of operation.ExpungeMailbox = []
kinds_of operation.ListAddresses = name ∷ []
kinds_of operation.CreateAddress = name ∷ name ∷ []
kinds_of operation.DeleteAddress = name ∷ []
kinds_of operation.ListSubscriptions = []
kinds_of operation.ListAvailableSubscriptions = []
kinds_of operation.CreateSubscription = name ∷ []
kinds_of operation.DeleteSubscription = name ∷ []
kinds_of operation.ResetSubscription = name ∷ number ∷ []
kinds_of operation.FetchDescriptors = number ∷ number ∷ []
kinds_of operation.FetchChangedDescriptors = count ∷ []
kinds_of operation.ResetDescriptors = number ∷ number ∷ []
kinds_of operation.FetchHeaders = number ∷ []
kinds_of operation.FetchMessage = number ∷ []
kinds_of operation.CopyMessage = number ∷ name ∷ []
kinds_of operation.SetMessageFlag = number ∷ flag ∷ switch ∷ []
kinds_of operation.SendMessage = []

-- digits for a number of 32 bits
abbrev pub is_digits : List ℕ → Bool
is_digits word = is_number 10 (2 ^ 32) word

-- digits for a number in a range
abbrev pub is_between : ℕ → ℕ → List ℕ → Bool
is_between least most word = is_digits word && nat_le least (decimal_value word) && nat_le (decimal_value word) most

-- a name, or a plus sign and a name
abbrev pub is_box : List ℕ → Bool
is_box [] = false
is_box (first ∷ others) = if first == 43 then is_name others else is_name (first ∷ others)

-- what is wrong with a word where an argument of this kind is wanted
unfoldable pub fault_of_word : Kind → List ℕ → Option RequestFault
fault_of_word name word = if is_name word then None else Some BadName
fault_of_word password word = if is_password word then None else Some Arguments
fault_of_word number word = if is_digits word then None else Some Arguments
fault_of_word switch word = if is_between 0 1 word then None else Some Arguments
fault_of_word flag word = if is_between 0 15 word then None else (if is_digits word then Some BadFlag else Some Arguments)
fault_of_word count word = if is_between 1 256 word then None else Some Arguments
fault_of_word box word = if is_box word then None else Some BadName

-- the first fault that there is
abbrev pub first_of_faults : Option RequestFault → Option RequestFault → Option RequestFault
first_of_faults None later = later
first_of_faults (Some fault) later = Some fault

-- the first wrong word from the left
abbrev pub fault_among : List Kind → List (List ℕ) → Option RequestFault
fault_among (kind ∷ kinds) (word ∷ words) = first_of_faults (fault_of_word kind word) (fault_among kinds words)
fault_among _ _ = None

-- a wrong number of arguments, or else the first wrong one
abbrev pub fault_of_arguments : List Kind → List (List ℕ) → Option RequestFault
fault_of_arguments kinds words = if length words == length kinds then fault_among kinds words else Some Arguments

-- what is wrong with the arguments, given the operation that the first word names
abbrev pub fault_of_call : Option Operation → List (List ℕ) → Option RequestFault
fault_of_call None others = Some Unknown
fault_of_call (Some operation) others = fault_of_arguments (kinds_of operation) others

-- what is wrong with words that are to be a request
abbrev pub fault_of_words : List (List ℕ) → Option RequestFault
fault_of_words [] = Some Unknown
fault_of_words (first ∷ others) = fault_of_call (operation_named first) others

-- the one fault of a line, if it is no request
abbrev pub fault_of : List ℕ → Option RequestFault
fault_of line = fault_of_words (words_of line)
