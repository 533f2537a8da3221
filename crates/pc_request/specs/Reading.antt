-- What reading words as arguments gives.
use Rattle.std.specs.Prelude.{◌≡◌, ◌≢◌, ℕ, List, length, None, Some, Result, MatchResult}
use Rattle.pc_request.specs.Argument.{Argument, IsSpelled, AreSpelled}
use Rattle.pc_request.specs.Fault.{Kind, kinds_of, fault_of_word, fault_of_arguments}
use Rattle.pc_request.specs.Request.{call_of}
use Rattle.pc_request.specs.declared.operation.Operation.{Operation}
use Rattle.pc_request.specs.declared.request.Request.{Request}
use Rattle.pc_request.specs.declared.request.RequestFault.{RequestFault}
use Rattle.pc_request.specs.declared.request.RequestFault.TheVariants.{Arguments}

-- the words are as many as are wanted, or they are a wrong number of arguments
abbrev pub TakesWords : {T : Type 0} → ℕ → (T → List (List ℕ)) → List (List ℕ) → Result T RequestFault → Type 0
TakesWords count taken words result =
    MatchResult result (λ value. words ≡ taken value) (λ fault. (length words ≢ count) × (fault ≡ Arguments))

-- one word is read as an argument of a kind: its value, or the word's fault
abbrev pub ReadsWord : {T : Type 0} → Kind → (T → Argument) → List ℕ → Result T RequestFault → Type 0
ReadsWord kind as_argument word result =
    MatchResult result (λ value. IsSpelled (as_argument value) word × (fault_of_word kind word ≡ None)) (λ fault. fault_of_word kind word ≡ Some fault)

-- all of the words are read as arguments of these kinds: their values, or the words' fault
abbrev pub ReadsWords : {T : Type 0} → List Kind → (T → List Argument) → List (List ℕ) → Result T RequestFault → Type 0
ReadsWords kinds as_arguments words result =
    MatchResult result (λ value. AreSpelled (as_arguments value) words × (fault_of_arguments kinds words ≡ None)) (λ fault. fault_of_arguments kinds words ≡ Some fault)

-- the words are read as the arguments of an operation: the request, or the words' fault
abbrev pub ReadsArguments : Operation → List (List ℕ) → Result Request RequestFault → Type 0
ReadsArguments operation words result =
    MatchResult result (λ request. ((call_of request).0 ≡ operation) × AreSpelled (call_of request).1 words × (fault_of_arguments (kinds_of operation) words ≡ None)) (λ fault. fault_of_arguments (kinds_of operation) words ≡ Some fault)
