-- A text asks for one thing alone.
use Rattle.std.proofs.Common.{◌≡◌, ℕ, ◌≤◌, List, length, Result, Ok, Err, Some, refl, arith}
use Rattle.pc_request.specs.Fault.{fault_of}
use Rattle.pc_request.specs.Request.{IsRequest}
use Rattle.pc_request.specs.declared.request.Request.{Request}
use Rattle.pc_request.specs.declared.request.RequestFault.{RequestFault}
use Rattle.pc_world.specs.Events.{IsAsked}
use Rattle.pc_world.specs.declared.event.Asked.{Asked}
use Rattle.pc_world.specs.declared.event.Asked.TheVariants.{TooLong, Faulty, Read}

-- what a read request, or its fault, is as what is asked
abbrev pub asked_of : Result Request RequestFault → Asked
asked_of (Ok request) = Read request
asked_of (Err fault) = Faulty fault

reads_same : (result : Result Request RequestFault) (request : Request) → result ≡ Ok request → Read request ≡ asked_of result
reads_same result request same = rw same refl

faults_same : (result : Result Request RequestFault) (fault : RequestFault) → result ≡ Err fault → Faulty fault ≡ asked_of result
faults_same result fault same = rw same refl

pub asked_once : (text : List ℕ) (result : Result Request RequestFault) → length text ≤ 512
    → ((request : Request) → IsRequest request text → result ≡ Ok request)
    → ((fault : RequestFault) → fault_of text ≡ Some fault → result ≡ Err fault)
    → (other : Asked) → IsAsked text other → other ≡ asked_of result
asked_once text result short only only_fault TooLong asked = absurd (omega (arith, asked, short))
asked_once text result short only only_fault (Faulty fault) asked = faults_same result fault (only_fault fault asked.1)
asked_once text result short only only_fault (Read request) asked = reads_same result request (only request asked.1)
