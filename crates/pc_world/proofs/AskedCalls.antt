-- What texts ask for whose operation is known, by what reading their arguments gave.
use Rattle.std.proofs.Common.{◌≡◌, ℕ, ◌≤◌, List, ◌∷◌, ◌++◌, length, codes, Some, refl, ap}
use Rattle.pc_wire.specs.Words.{words_of}
use Rattle.pc_request.specs.Argument.{AreSpelled}
use Rattle.pc_request.specs.Fault.{kinds_of, fault_of_arguments}
use Rattle.pc_request.specs.Operation.{word_of, operations}
use Rattle.pc_request.specs.Request.{call_of}
use Rattle.pc_request.specs.declared.operation.Operation.{Operation}
use Rattle.pc_request.specs.declared.operation.Operation.TheVariants.{CreateMailbox}
use Rattle.pc_request.specs.declared.request.Request.{Request}
use Rattle.pc_request.specs.declared.request.RequestFault.{RequestFault}
use Rattle.pc_request.proofs.Grammar.{called-request, called-fault}
use Rattle.pc_world.specs.Events.{IsAsked, IsCall}
use Rattle.pc_world.specs.declared.event.Asked.TheVariants.{Faulty, Read}

-- the request whose arguments the words are
pub IsAsked-read : (request : Request) (words text : List ℕ) → AreSpelled (call_of request).1 (words_of words) → IsCall (call_of request).0 words text → IsAsked text (Read request)
IsAsked-read request words text spelled (short, call) =
    (short, called-request request (words_of text) (words_of words) call spelled)

-- the fault of the words
pub IsAsked-faulty : (operation : Operation) (fault : RequestFault) (words text : List ℕ) → fault_of_arguments (kinds_of operation) (words_of words) ≡ Some fault → IsCall operation words text → IsAsked text (Faulty fault)
IsAsked-faulty operation fault words text faulty (short, call) =
    (short, called-fault operation (words_of text) (words_of words) fault call faulty)

-- a text that asks for a mailbox, in capitals
pub IsCall-create : (text words : List ℕ) → length text ≤ 512 → text ≡ codes "CREATE-MAILBOX" ++ 32 ∷ words → IsCall CreateMailbox words text
unfolding word_of operations
IsCall-create text words short is = (short, (codes "CREATE-MAILBOX", (ap words_of is, refl, refl)))
