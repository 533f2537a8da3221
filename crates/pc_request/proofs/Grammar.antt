-- A line spells at most one request, and then it has no fault.
use Rattle.std.proofs.Common.{◌≡◌, ℕ, Bool, false, List, [], ◌∷◌, map, Some, None, Result, Ok, Err, IfOk, refl, sym, ap, ◌∙◌, subst}
use Rattle.pc_wire.specs.Words.{words_of}
use Rattle.pc_request.specs.Argument.{Argument, IsSpelled, AreSpelled}
use Rattle.pc_request.specs.Argument as argument
use Rattle.pc_request.specs.Operation.{IsNamed}
use Rattle.pc_request.specs.Reading.{ReadsArguments}
use Rattle.pc_request.specs.Request.{call_of, Calls, SpellCall, IsRequest, IsWritable}
use Rattle.pc_request.specs.Fault.{kinds_of, fault_of_arguments, fault_of_call, fault_of_words, fault_of}
use Rattle.pc_request.specs.declared.operation.Operation.{Operation}
use Rattle.pc_request.specs.declared.operation.Operation.TheVariants as operation
use Rattle.pc_request.specs.declared.request.Request.{Request}
use Rattle.pc_request.specs.declared.request.Request.TheVariants as request
use Rattle.pc_request.specs.declared.request.RequestFault.{RequestFault}
use Rattle.pc_request.proofs.OperationLemmas.{operation_named-is}
use Rattle.pc_request.proofs.ArgumentLemmas.{kind_of, arguments_of, arguments_of-spelled, fault_of_arguments-spelled}

-- the bytes, the number and the choice of the argument at a place
abbrev bytes_in : Argument → List ℕ
bytes_in (argument.name bytes) = bytes
bytes_in (argument.password bytes) = bytes
bytes_in (argument.mailbox bytes) = bytes
bytes_in (argument.board bytes) = bytes
bytes_in _ = []

abbrev value_in : Argument → ℕ
value_in (argument.number value) = value
value_in (argument.flag value) = value
value_in (argument.count value) = value
value_in _ = 0

abbrev choice_in : Argument → Bool
choice_in (argument.switch on) = on
choice_in _ = false

abbrev first_of : List Argument → Argument
first_of [] = argument.number 0
first_of (first ∷ others) = first

abbrev behind : List Argument → List Argument
behind [] = []
behind (first ∷ others) = others

abbrev pub selected : Argument → Request
selected (argument.board bytes) = request.SelectBoard bytes
selected which = request.SelectMailbox (bytes_in which)

-- the only request of an operation that has these arguments
unfoldable pub request_of : Operation → List Argument → Request
request_of operation.SendVersion arguments = request.SendVersion (value_in (first_of arguments))
request_of operation.Help arguments = request.Help
request_of operation.Login arguments = request.Login (bytes_in (first_of arguments)) (bytes_in (first_of (behind arguments))) (bytes_in (first_of (behind (behind arguments)))) (choice_in (first_of (behind (behind (behind arguments))))) (choice_in (first_of (behind (behind (behind (behind arguments))))))
request_of operation.Logout arguments = request.Logout
request_of operation.SetPassword arguments = request.SetPassword (bytes_in (first_of arguments)) (bytes_in (first_of (behind arguments)))
request_of operation.ListClients arguments = request.ListClients
request_of operation.CreateClient arguments = request.CreateClient (bytes_in (first_of arguments))
request_of operation.DeleteClient arguments = request.DeleteClient (bytes_in (first_of arguments))
request_of operation.ResetClient arguments = request.ResetClient (bytes_in (first_of arguments))
request_of operation.ListMailboxes arguments = request.ListMailboxes
request_of operation.CreateMailbox arguments = request.CreateMailbox (bytes_in (first_of arguments))
request_of operation.DeleteMailbox arguments = request.DeleteMailbox (bytes_in (first_of arguments))
request_of operation.ResetMailbox arguments = request.ResetMailbox (bytes_in (first_of arguments))
request_of operation.SelectMailbox arguments = selected (first_of arguments)
request_of operation.ExpungeMailbox arguments = request.ExpungeMailbox
request_of operation.ListAddresses arguments = request.ListAddresses (bytes_in (first_of arguments))
request_of operation.CreateAddress arguments = request.CreateAddress (bytes_in (first_of arguments)) (bytes_in (first_of (behind arguments)))
request_of operation.DeleteAddress arguments = request.DeleteAddress (bytes_in (first_of arguments))
request_of operation.ListSubscriptions arguments = request.ListSubscriptions
request_of operation.ListAvailableSubscriptions arguments = request.ListAvailableSubscriptions
request_of operation.CreateSubscription arguments = request.CreateSubscription (bytes_in (first_of arguments))
request_of operation.DeleteSubscription arguments = request.DeleteSubscription (bytes_in (first_of arguments))
request_of operation.ResetSubscription arguments = request.ResetSubscription (bytes_in (first_of arguments)) (value_in (first_of (behind arguments)))
request_of operation.FetchDescriptors arguments = request.FetchDescriptors (value_in (first_of arguments)) (value_in (first_of (behind arguments)))
request_of operation.FetchChangedDescriptors arguments = request.FetchChangedDescriptors (value_in (first_of arguments))
request_of operation.ResetDescriptors arguments = request.ResetDescriptors (value_in (first_of arguments)) (value_in (first_of (behind arguments)))
request_of operation.FetchHeaders arguments = request.FetchHeaders (value_in (first_of arguments))
request_of operation.FetchMessage arguments = request.FetchMessage (value_in (first_of arguments))
request_of operation.CopyMessage arguments = request.CopyMessage (value_in (first_of arguments)) (bytes_in (first_of (behind arguments)))
request_of operation.SetMessageFlag arguments = request.SetMessageFlag (value_in (first_of arguments)) (value_in (first_of (behind arguments))) (choice_in (first_of (behind (behind arguments))))
request_of operation.SendMessage arguments = request.SendMessage

request_of-call : (which : Request) → request_of (call_of which).0 (call_of which).1 ≡ which
unfolding request_of call_of
request_of-call request.Help = refl
request_of-call _ = refl

-- a request's arguments are of the operation's kinds
kinds_of-call : (which : Request) → map kind_of (call_of which).1 ≡ kinds_of (call_of which).0
unfolding kinds_of call_of kind_of
kinds_of-call request.Help = refl
kinds_of-call _ = refl

-- the only request that the words can spell
abbrev request_at : Operation → List (List ℕ) → Request
request_at which others = request_of which (arguments_of (kinds_of which) others)

request_at-spelled : (which : Request) (others : List (List ℕ)) → AreSpelled (call_of which).1 others → request_at (call_of which).0 others ≡ which
request_at-spelled which others spelled =
    ap (λ kinds. request_of (call_of which).0 (arguments_of kinds others)) (sym (kinds_of-call which)) ∙ ap (request_of (call_of which).0) (arguments_of-spelled (call_of which).1 others spelled) ∙ request_of-call which

words-unique : (one other : Request) (words : List (List ℕ)) → SpellCall (call_of one) words → SpellCall (call_of other) words → one ≡ other
words-unique one other [] spells spells' = absurd spells
words-unique one other (first ∷ others) spells spells' =
    let named = operation_named-is (call_of one).0 first spells.0 in
    let named' = operation_named-is (call_of other).0 first spells'.0 in
    let same : (call_of one).0 ≡ (call_of other).0 = cc in
    sym (request_at-spelled one others spells.1) ∙ ap (λ which. request_at which others) same ∙ request_at-spelled other others spells'.1

pub IsRequest-unique : (one other : Request) (line : List ℕ) → IsRequest one line → IsRequest other line → one ≡ other
IsRequest-unique one other line spells spells' = words-unique one other (words_of line) spells spells'

fault_of_words-request : (which : Request) (words : List (List ℕ)) → SpellCall (call_of which) words → fault_of_words words ≡ None
fault_of_words-request which [] spells = absurd spells
fault_of_words-request which (first ∷ others) spells =
    ap (λ found. fault_of_call found others) (operation_named-is (call_of which).0 first spells.0)
    ∙ ap (λ kinds. fault_of_arguments kinds others) (sym (kinds_of-call which))
    ∙ fault_of_arguments-spelled (call_of which).1 others spells.1

pub fault_of-request : (which : Request) (line : List ℕ) → IsRequest which line → fault_of line ≡ None
fault_of-request which line spells = fault_of_words-request which (words_of line) spells

-- and its numbers are in their ranges
fit : (which : Request) (others : List (List ℕ)) → AreSpelled (call_of which).1 others → IsWritable which
unfolding call_of IsSpelled
fit (request.SetMessageFlag uid flag on) (first ∷ second ∷ others) spelled = spelled.1.0.1
fit (request.FetchChangedDescriptors count) (first ∷ others) spelled = (spelled.0.1, spelled.0.2)
fit (request.SetMessageFlag uid flag on) [] spelled = absurd spelled
fit (request.SetMessageFlag uid flag on) (first ∷ []) spelled = absurd spelled.1
fit (request.FetchChangedDescriptors count) [] spelled = absurd spelled
fit request.Help _ spelled = tt
fit _ _ spelled = tt

words-writable : (which : Request) (words : List (List ℕ)) → SpellCall (call_of which) words → IsWritable which
words-writable which [] spells = absurd spells
words-writable which (first ∷ others) spells = fit which others spells.1

pub IsWritable-request : (which : Request) (line : List ℕ) → IsRequest which line → IsWritable which
IsWritable-request which line spells = words-writable which (words_of line) spells

-- what the reader makes of a line is the only request there, and fit
module _ (line first : List ℕ) (others : List (List ℕ)) (operation : Operation) (read : words_of line ≡ first ∷ others) (named : IsNamed operation first) where
  IsRequest-read : (which : Request) → ReadsArguments operation others (Ok which) → IsRequest which line
  IsRequest-read which reads =
      subst (SpellCall (call_of which)) (sym read) (subst (λ (o : Operation). IsNamed o first) (sym reads.0) named, reads.1)

  pub every_request : (result : Result Request RequestFault) → ReadsArguments operation others result → (which : Request) → IsRequest which line → result ≡ Ok which
  every_request (Ok request) reads which spells = ap Ok (IsRequest-unique request which line (IsRequest-read request reads) spells)
  every_request (Err fault) reads which spells =
      let faulty : fault_of line ≡ Some fault = ap fault_of_words read ∙ ap (λ found. fault_of_call found others) (operation_named-is operation first named) ∙ reads in
      let faultless = fault_of-request which line spells in
      cc

  pub writable : (result : Result Request RequestFault) → ReadsArguments operation others result → IfOk result IsWritable
  writable (Ok request) reads = IsWritable-request request line (IsRequest-read request reads)
  writable (Err fault) reads = tt

-- a call whose other words spell the arguments of a request is that request
pub called-request : (which : Request) (words others : List (List ℕ)) → Calls (call_of which).0 others words → AreSpelled (call_of which).1 others → SpellCall (call_of which) words
called-request which words others (first, (read, named, found)) spelled =
    subst (SpellCall (call_of which)) (sym read) (named, spelled)

-- what is wrong with the arguments of a call is wrong with the words
pub called-fault : (operation : Operation) (words others : List (List ℕ)) (fault : RequestFault) → Calls operation others words → fault_of_arguments (kinds_of operation) others ≡ Some fault → fault_of_words words ≡ Some fault
called-fault operation words others fault (first, (read, named, found)) faulty =
    ap fault_of_words read ∙ ap (λ call. fault_of_call call others) found ∙ faulty
