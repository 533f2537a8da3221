-- The definitions at lines worked out by hand.
use Rattle.std.proofs.Common.{◌≡◌, true, false, codes, Some, None, refl, lit≤}
use Rattle.std.specs.Fmt.{digits}
use Rattle.pc_base.specs.Number.{decimal_value}
use Rattle.pc_request.specs.Operation.{operations, word_of}
use Rattle.pc_request.specs.Argument.{IsSpelled, written}
use Rattle.pc_request.specs.Request.{call_of, IsRequest, line_of}
use Rattle.pc_request.specs.Fault.{kinds_of, fault_of_word, fault_of}
use Rattle.pc_request.specs.declared.request.Request.TheVariants as request
use Rattle.pc_request.specs.declared.request.RequestFault.TheVariants.{Unknown, Arguments, BadName, BadFlag}

-- spaces anywhere, small letters, zeros in front
reads_a_mailbox : IsRequest (request.CreateMailbox (codes "work")) (codes "  create-Mailbox   work ")
unfolding call_of word_of IsSpelled
reads_a_mailbox = (refl, ((refl, refl), tt))

reads_a_board : IsRequest (request.SelectBoard (codes "news")) (codes "SELECT-MAILBOX +news")
unfolding call_of word_of IsSpelled
reads_a_board = (refl, ((refl, refl), tt))

reads_a_flag : IsRequest (request.SetMessageFlag 7 15 true) (codes "set-message-flag 007 15 01")
unfolding call_of word_of IsSpelled decimal_value
reads_a_flag = (refl, ((refl, refl), (((refl, refl), lit≤ tt), ((refl, refl), tt))))

writes_a_login : line_of (request.Login (codes "ann") (codes "sesame") (codes "ws1") false true) ≡ codes "LOGIN ann sesame ws1 0 1"
unfolding call_of word_of written digits
writes_a_login = refl

writes_a_board : line_of (request.SelectBoard (codes "news")) ≡ codes "SELECT-MAILBOX +news"
unfolding call_of word_of written
writes_a_board = refl

-- no word, or no operation
nothing_is_unknown : fault_of (codes "  ") ≡ Some Unknown
nothing_is_unknown = refl

a_tab_is_no_space : fault_of (codes "HELP\tme") ≡ Some Unknown
unfolding operations word_of
a_tab_is_no_space = refl

-- the number of arguments goes before what they are
one_too_many : fault_of (codes "CREATE-MAILBOX Work 1") ≡ Some Arguments
unfolding operations word_of kinds_of
one_too_many = refl

-- the first wrong argument from the left
name_before_number : fault_of (codes "RESET-SUBSCRIPTION News -1") ≡ Some BadName
unfolding operations word_of kinds_of fault_of_word
name_before_number = refl

number_before_name : fault_of (codes "COPY-MESSAGE -1 Work") ≡ Some Arguments
unfolding operations word_of kinds_of fault_of_word
number_before_name = refl

flag_before_switch : fault_of (codes "SET-MESSAGE-FLAG 1 16 2") ≡ Some BadFlag
unfolding operations word_of kinds_of fault_of_word decimal_value
flag_before_switch = refl

no_fault : fault_of (codes "FETCH-CHANGED-DESCRIPTORS 256") ≡ None
unfolding operations word_of kinds_of fault_of_word decimal_value
no_fault = refl
