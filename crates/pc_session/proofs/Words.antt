-- The words of operations are lines.
use Rattle.std.proofs.Common.{IsTrue, refl}
use Rattle.pc_base.specs.Line.{is_line}
use Rattle.pc_request.specs.Operation.{word_of}
use Rattle.pc_request.specs.declared.operation.Operation.{Operation}
use Rattle.pc_request.specs.declared.operation.Operation.TheVariants as operation

pub word-line : (o : Operation) → IsTrue (is_line (word_of o))
unfolding word_of
word-line operation.SendVersion = refl
word-line operation.Help = refl
word-line operation.Login = refl
word-line operation.Logout = refl
word-line operation.SetPassword = refl
word-line operation.ListClients = refl
word-line operation.CreateClient = refl
word-line operation.DeleteClient = refl
word-line operation.ResetClient = refl
word-line operation.ListMailboxes = refl
word-line operation.CreateMailbox = refl
word-line operation.DeleteMailbox = refl
word-line operation.ResetMailbox = refl
word-line operation.SelectMailbox = refl
word-line operation.ExpungeMailbox = refl
word-line operation.ListAddresses = refl
word-line operation.CreateAddress = refl
word-line operation.DeleteAddress = refl
word-line operation.ListSubscriptions = refl
word-line operation.ListAvailableSubscriptions = refl
word-line operation.CreateSubscription = refl
word-line operation.DeleteSubscription = refl
word-line operation.ResetSubscription = refl
word-line operation.FetchDescriptors = refl
word-line operation.FetchChangedDescriptors = refl
word-line operation.ResetDescriptors = refl
word-line operation.FetchHeaders = refl
word-line operation.FetchMessage = refl
word-line operation.CopyMessage = refl
word-line operation.SetMessageFlag = refl
word-line operation.SendMessage = refl
