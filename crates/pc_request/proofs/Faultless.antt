-- A line without fault spells a request.
use Rattle.std.proofs.Common.{◌≡◌, ℕ, zero, suc, ◌≤◌, ◌==◌, Bool, true, false, IsTrue, cond, List, [], ◌∷◌, length, Option, Some, None, refl, sym, ap, ◌∙◌, subst, arith, if◌then◌else◌}
use Rattle.std.proofs.lemmas.Bool.{and_parts, false≢true}
use Rattle.std.proofs.lemmas.Bool.Decides.{nat_tests}
use Rattle.std.proofs.lemmas.Slice.Eq.{bytes_eq-Decides}
use Rattle.std.specs.Char.{to_ascii_lowercase}
use Rattle.std.specs.List.{find}
use Rattle.pc_base.specs.Name.{is_name}
use Rattle.pc_base.specs.Number.{decimal_value}
use Rattle.pc_wire.specs.Words.{words_of}
use Rattle.pc_request.specs.Argument.{Argument, IsSpelled, AreSpelled, digit_of}
use Rattle.pc_request.specs.Argument as argument
use Rattle.pc_request.specs.Fault.{Kind, kinds_of, is_digits, is_between, is_box, fault_of_word, fault_among, fault_of_arguments, fault_of_call, fault_of_words, fault_of, first_of_faults}
use Rattle.pc_request.specs.Fault as kind
use Rattle.pc_request.specs.Operation.{IsNamed, is_named, operations, operation_named, word_of}
use Rattle.pc_request.specs.Request.{call_of, SpellCall, IsRequest}
use Rattle.pc_request.specs.declared.operation.Operation.{Operation}
use Rattle.pc_request.specs.declared.operation.Operation.TheVariants as operation
use Rattle.pc_request.specs.declared.request.Request.{Request}
use Rattle.pc_request.specs.declared.request.RequestFault.{RequestFault}
use Rattle.pc_request.specs.declared.request.RequestFault.TheVariants.{Unknown, Arguments, BadFlag}
use Rattle.pc_request.proofs.ArgumentLemmas.{argument_of, box_of}
use Rattle.pc_request.proofs.Grammar.{request_of, selected}

-- ---- a word

passes : (test : Bool) (fault : RequestFault) → (if test then None else Some fault) ≡ None → test ≡ true
passes true fault none = refl
passes false fault none = cc

flag_passes : (test digits : Bool) → (if test then None else (if digits then Some BadFlag else Some Arguments)) ≡ None → test ≡ true
flag_passes true digits none = refl
flag_passes false true none = cc
flag_passes false false none = cc

between_digits : (least most : ℕ) (word : List ℕ) → is_between least most word ≡ true → is_digits word ≡ true
between_digits least most word fits = grind (arith, nat_tests)

between_least : (least most : ℕ) (word : List ℕ) → is_between least most word ≡ true → least ≤ decimal_value word
between_least least most word fits = grind (arith, nat_tests)

between_most : (least most : ℕ) (word : List ℕ) → is_between least most word ≡ true → decimal_value word ≤ most
between_most least most word fits = grind (arith, nat_tests)

one_or_none : (value : ℕ) → value ≤ 1 → value ≡ digit_of (value == 1)
one_or_none zero small = refl
one_or_none (suc zero) small = refl
one_or_none (suc (suc more)) small = absurd (omega (arith, small))

box_spelled : (word : List ℕ) → is_box word ≡ true → IsSpelled (box_of word) word
unfolding IsSpelled
box_spelled [] fits = absurd (false≢true fits)
box_spelled (first ∷ others) fits = by_test (first == 43) refl fits
  where
    by_test : (plus : Bool) → (first == 43) ≡ plus → (if plus then is_name others else is_name (first ∷ others)) ≡ true
        → IsSpelled (cond plus (argument.board others) (argument.mailbox (first ∷ others))) (first ∷ others)
    by_test true is named = (ap (λ (byte : ℕ). byte ∷ others) (grind (arith, nat_tests)), named)
    by_test false is named = (refl, named)

argument_of-faultless : (which : Kind) (word : List ℕ) → fault_of_word which word ≡ None → IsSpelled (argument_of which word) word
unfolding IsSpelled fault_of_word argument_of
argument_of-faultless kind.name word none = (refl, passes _ _ none)
argument_of-faultless kind.password word none = (refl, passes _ _ none)
argument_of-faultless kind.number word none = (passes _ _ none, refl)
argument_of-faultless kind.switch word none =
    let fits = passes _ _ none in
    (between_digits 0 1 word fits, one_or_none (decimal_value word) (between_most 0 1 word fits))
argument_of-faultless kind.flag word none =
    let fits = flag_passes _ _ none in
    ((between_digits 0 15 word fits, refl), between_most 0 15 word fits)
argument_of-faultless kind.count word none =
    let fits = passes _ _ none in
    ((between_digits 1 256 word fits, refl), between_least 1 256 word fits, between_most 1 256 word fits)
argument_of-faultless kind.box word none = box_spelled word (passes _ _ none)

-- ---- the words

abbrev first_word : List (List ℕ) → List ℕ
first_word [] = []
first_word (word ∷ words) = word

abbrev other_words : List (List ℕ) → List (List ℕ)
other_words [] = []
other_words (word ∷ words) = words

-- what words spell that are as many as the kinds
arguments_at : List Kind → List (List ℕ) → List Argument
arguments_at [] words = []
arguments_at (which ∷ kinds) words = argument_of which (first_word words) ∷ arguments_at kinds (other_words words)

none_first : (fault later : Option RequestFault) → first_of_faults fault later ≡ None → (fault ≡ None) × (later ≡ None)
none_first None later none = (refl, none)
none_first (Some fault) later none = cc

arguments_at-faultless : (kinds : List Kind) (words : List (List ℕ)) → length words ≡ length kinds → fault_among kinds words ≡ None → AreSpelled (arguments_at kinds words) words
unfolding arguments_at
arguments_at-faultless [] [] even none = tt
arguments_at-faultless [] (word ∷ words) even none = absurd (omega (arith, even))
arguments_at-faultless (which ∷ kinds) [] even none = absurd (omega (arith, even))
arguments_at-faultless (which ∷ kinds) (word ∷ words) even none =
    let parts = none_first _ _ none in
    (argument_of-faultless which word parts.0, arguments_at-faultless kinds words (omega (arith, even)) parts.1)

selected-box : (word : List ℕ) → call_of (selected (box_of word)) ≡ (operation.SelectMailbox, box_of word ∷ [])
unfolding call_of
selected-box [] = refl
selected-box (first ∷ others) = by_test (first == 43)
  where
    by_test : (plus : Bool) → call_of (selected (cond plus (argument.board others) (argument.mailbox (first ∷ others)))) ≡ (operation.SelectMailbox, cond plus (argument.board others) (argument.mailbox (first ∷ others)) ∷ [])
    by_test true = refl
    by_test false = refl

-- the request of an operation and the arguments that such words spell
call_of-arguments : (which : Operation) (words : List (List ℕ)) → call_of (request_of which (arguments_at (kinds_of which) words)) ≡ (which, arguments_at (kinds_of which) words)
unfolding call_of request_of kinds_of arguments_at argument_of
call_of-arguments operation.SelectMailbox words = selected-box (first_word words)
call_of-arguments operation.Help words = refl
call_of-arguments _ words = refl

-- ---- the operation

found_passes : (test : Operation → Bool) (xs : List Operation) (which : Operation) → find test xs ≡ Some which → test which ≡ true
found_passes test [] which found = cc
found_passes test (x ∷ xs) which found = by_test (test x) refl (found_passes test xs which) found
  where
    by_test : (passed : Bool) → test x ≡ passed → (find test xs ≡ Some which → test which ≡ true) → cond passed (Some x) (find test xs) ≡ Some which → test which ≡ true
    by_test true is behind here = cc
    by_test false is behind there = behind there

named : (which : Operation) (word : List ℕ) → operation_named word ≡ Some which → IsNamed which word
named which word found = (bytes_eq-Decides _ _).0 (found_passes (λ other. is_named other word) operations which found)

even_words : (length_is : Bool) (among : Option RequestFault) → (if length_is then among else Some Arguments) ≡ None → (length_is ≡ true) × (among ≡ None)
even_words true among none = (refl, none)
even_words false among none = cc

spelled : (which : Operation) (first : List ℕ) (others : List (List ℕ)) → IsNamed which first → fault_of_arguments (kinds_of which) others ≡ None → (request : Request) × SpellCall (call_of request) (first ∷ others)
spelled which first others is none =
    let parts = even_words (length others == length (kinds_of which)) (fault_among (kinds_of which) others) none in
    let even : length others ≡ length (kinds_of which) = grind (arith, nat_tests) in
    let arguments = arguments_at (kinds_of which) others in
    let call = call_of-arguments which others in
    (request_of which arguments, subst (λ (c : Operation × List Argument). SpellCall c (first ∷ others)) (sym call) (is, arguments_at-faultless (kinds_of which) others even parts.1))

called : (found : Option Operation) (first : List ℕ) (others : List (List ℕ)) → operation_named first ≡ found → fault_of_call found others ≡ None → (request : Request) × SpellCall (call_of request) (first ∷ others)
called None first others is none = cc
called (Some which) first others is none = spelled which first others (named which first is) none

words_spelled : (words : List (List ℕ)) → fault_of_words words ≡ None → (request : Request) × SpellCall (call_of request) words
words_spelled [] none = cc
words_spelled (first ∷ others) none = called (operation_named first) first others refl none

pub request_from : (line : List ℕ) → fault_of line ≡ None → (request : Request) × IsRequest request line
request_from line none = words_spelled (words_of line) none
