-- A word spells at most one argument of each kind, and then it has no fault.
use Rattle.std.proofs.Common.{◌≡◌, ℕ, suc, ◌==◌, true, false, IsTrue, cond, List, [], ◌∷◌, length, map, None, refl, ap, ◌∙◌, arith, eq-eqb}
use Rattle.std.proofs.lemmas.Bool.Decides.{nat_tests}
use Rattle.pc_base.specs.Name.{is_name}
use Rattle.pc_base.specs.Number.{decimal_value}
use Rattle.pc_request.specs.Argument.{Argument, IsDigits, digit_of, IsSpelled, AreSpelled}
use Rattle.pc_request.specs.Argument as argument
use Rattle.pc_request.specs.Fault.{Kind, is_box, fault_of_word, fault_among, fault_of_arguments}
use Rattle.pc_request.specs.Fault as kind

-- the kind of an argument
unfoldable pub kind_of : Argument → Kind
kind_of (argument.name bytes) = kind.name
kind_of (argument.password bytes) = kind.password
kind_of (argument.number value) = kind.number
kind_of (argument.switch on) = kind.switch
kind_of (argument.flag value) = kind.flag
kind_of (argument.count value) = kind.count
kind_of (argument.mailbox bytes) = kind.box
kind_of (argument.board bytes) = kind.box

-- what is selected by a word
abbrev pub box_of : List ℕ → Argument
box_of [] = argument.mailbox []
box_of (first ∷ others) = cond (first == 43) (argument.board others) (argument.mailbox (first ∷ others))

-- the only argument of a kind that a word can spell
unfoldable pub argument_of : Kind → List ℕ → Argument
argument_of kind.name word = argument.name word
argument_of kind.password word = argument.password word
argument_of kind.number word = argument.number (decimal_value word)
argument_of kind.switch word = argument.switch (decimal_value word == 1)
argument_of kind.flag word = argument.flag (decimal_value word)
argument_of kind.count word = argument.count (decimal_value word)
argument_of kind.box word = box_of word

no_plus : (first : ℕ) (others : List ℕ) → IsTrue (is_name (first ∷ others)) → (first == 43) ≡ false
no_plus first others named = grind (arith, nat_tests)

box_of-name : (bytes : List ℕ) → IsTrue (is_name bytes) → box_of bytes ≡ argument.mailbox bytes
box_of-name [] named = refl
box_of-name (first ∷ others) named = ap (λ plus. cond plus (argument.board others) (argument.mailbox (first ∷ others))) (no_plus first others named)

is_box-name : (bytes : List ℕ) → IsTrue (is_name bytes) → is_box bytes ≡ true
is_box-name [] named = named
is_box-name (first ∷ others) named = ap (λ plus. cond plus (is_name others) (is_name (first ∷ others))) (no_plus first others named) ∙ named

pub argument_of-spelled : (which : Argument) (word : List ℕ) → IsSpelled which word → argument_of (kind_of which) word ≡ which
unfolding IsSpelled argument_of kind_of
argument_of-spelled (argument.name bytes) word spelled = ap argument.name spelled.0
argument_of-spelled (argument.password bytes) word spelled = ap argument.password spelled.0
argument_of-spelled (argument.number value) word spelled = ap argument.number spelled.1
argument_of-spelled (argument.switch true) word spelled = rw (spelled.1)
argument_of-spelled (argument.switch false) word spelled = rw (spelled.1)
argument_of-spelled (argument.flag value) word spelled = ap argument.flag spelled.0.1
argument_of-spelled (argument.count value) word spelled = ap argument.count spelled.0.1
argument_of-spelled (argument.mailbox bytes) word spelled = ap box_of spelled.0 ∙ box_of-name bytes spelled.1
argument_of-spelled (argument.board bytes) word spelled = ap box_of spelled.0

pub fault_of_word-spelled : (which : Argument) (word : List ℕ) → IsSpelled which word → fault_of_word (kind_of which) word ≡ None
unfolding IsSpelled fault_of_word kind_of
fault_of_word-spelled (argument.name bytes) word spelled = rw (spelled.0, spelled.1)
fault_of_word-spelled (argument.password bytes) word spelled = rw (spelled.0, spelled.1)
fault_of_word-spelled (argument.number value) word spelled = rw (spelled.0)
fault_of_word-spelled (argument.switch true) word spelled = rw (spelled.0, spelled.1)
fault_of_word-spelled (argument.switch false) word spelled = rw (spelled.0, spelled.1)
fault_of_word-spelled (argument.flag value) word spelled = rw (spelled.0.0, spelled.0.1) (grind (arith, nat_tests))
fault_of_word-spelled (argument.count value) word spelled = rw (spelled.0.0, spelled.0.1) (grind (arith, nat_tests))
fault_of_word-spelled (argument.mailbox bytes) word spelled = rw (spelled.0, is_box-name bytes spelled.1)
fault_of_word-spelled (argument.board bytes) word spelled = rw (spelled.0, spelled.1)

-- the same of several
pub arguments_of : List Kind → List (List ℕ) → List Argument
arguments_of (first ∷ others) (word ∷ words) = argument_of first word ∷ arguments_of others words
arguments_of _ _ = []

pub arguments_of-spelled : (arguments : List Argument) (words : List (List ℕ)) → AreSpelled arguments words → arguments_of (map kind_of arguments) words ≡ arguments
unfolding arguments_of
arguments_of-spelled [] [] spelled = refl
arguments_of-spelled [] (word ∷ words) spelled = absurd spelled
arguments_of-spelled (first ∷ others) [] spelled = absurd spelled
arguments_of-spelled (first ∷ others) (word ∷ words) spelled = rw (argument_of-spelled first word spelled.0, arguments_of-spelled others words spelled.1)

length-spelled : (arguments : List Argument) (words : List (List ℕ)) → AreSpelled arguments words → length words ≡ length (map kind_of arguments)
length-spelled [] [] spelled = refl
length-spelled [] (word ∷ words) spelled = absurd spelled
length-spelled (first ∷ others) [] spelled = absurd spelled
length-spelled (first ∷ others) (word ∷ words) spelled = ap suc (length-spelled others words spelled.1)

fault_among-spelled : (arguments : List Argument) (words : List (List ℕ)) → AreSpelled arguments words → fault_among (map kind_of arguments) words ≡ None
fault_among-spelled [] [] spelled = refl
fault_among-spelled [] (word ∷ words) spelled = absurd spelled
fault_among-spelled (first ∷ others) [] spelled = absurd spelled
fault_among-spelled (first ∷ others) (word ∷ words) spelled = rw (fault_of_word-spelled first word spelled.0, fault_among-spelled others words spelled.1)

pub fault_of_arguments-spelled : (arguments : List Argument) (words : List (List ℕ)) → AreSpelled arguments words → fault_of_arguments (map kind_of arguments) words ≡ None
fault_of_arguments-spelled arguments words spelled =
    rw (eq-eqb _ _ (length-spelled arguments words spelled), fault_among-spelled arguments words spelled)
