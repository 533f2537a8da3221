-- What is written for a request spells it.
use Rattle.std.proofs.Common.{◌≡◌, ℕ, ◌^◌, ◌<◌, Bool, true, false, ◌&&◌, IsTrue, nat_lt, nat_le, List, [], ◌∷◌, ◌++◌, length, map, refl, sym, ap, ◌∙◌, subst, arith, inl}
use Rattle.std.specs.List.{list_all}
use Rattle.std.proofs.lemmas.Bool.Decides.{nat_tests}
use Rattle.pc_base.specs.Name.{is_printed, is_name_byte, is_name, is_password, is_letter}
use Rattle.pc_base.specs.Number.{is_digit, has_digits, is_number, decimal_value}
use Rattle.pc_wire.specs.Lines.{is_feed, has_feed, IsSpelling}
use Rattle.pc_wire.specs.Words.{is_space, is_between, with_byte, words_of}
use Rattle.pc_request.specs.Argument.{Argument, IsSpelled, AreSpelled, written, written_behind}
use Rattle.pc_request.specs.Argument as argument
use Rattle.pc_request.specs.Operation.{word_of}
use Rattle.pc_request.specs.Request.{call_of, IsRequest, line_of}
use Rattle.pc_request.specs.declared.operation.Operation.{Operation}
use Rattle.pc_request.specs.declared.operation.Operation.TheVariants as operation
use Rattle.pc_request.specs.declared.request.Request.{Request}

-- bytes that stand for themselves as a word
pub record IsWord (bytes : List ℕ) : Type 0 where
  pub printed : list_all is_printed bytes ≡ true
  pub some : 0 < length bytes

both : (a b : Bool) → (a && b) ≡ true → (a ≡ true) × (b ≡ true)
both true b h = (refl, h)
both false b h = (absurd (cc), absurd (cc))

-- a test that implies another, of all bytes
all_pass : (test other : ℕ → Bool) → ((byte : ℕ) → test byte ≡ true → other byte ≡ true) → (bytes : List ℕ) → list_all test bytes ≡ true → list_all other bytes ≡ true
all_pass test other implies [] all = refl
all_pass test other implies (byte ∷ bytes) all =
    let parts = both (test byte) (list_all test bytes) all in
    rw (implies byte parts.0, all_pass test other implies bytes parts.1)

name_printed : (byte : ℕ) → is_name_byte byte ≡ true → is_printed byte ≡ true
name_printed byte fits = grind (arith, nat_tests)

letter_printed : (byte : ℕ) → is_letter byte ≡ true → is_printed byte ≡ true
letter_printed byte fits = grind (arith, nat_tests)

digit_printed : (byte : ℕ) → is_digit byte ≡ true → is_printed byte ≡ true
digit_printed byte fits = grind (arith, nat_tests)

IsWord-name : (bytes : List ℕ) → IsTrue (is_name bytes) → IsWord bytes
IsWord-name [] named = absurd (cc)
IsWord-name (first ∷ others) named =
    let parts = both _ (nat_lt (length others) 32) named in
    let front = both (is_letter first) (list_all is_name_byte others) parts.0 in
    record { printed = rw (letter_printed first front.0, all_pass is_name_byte is_printed name_printed others front.1); some = omega arith }

IsWord-password : (bytes : List ℕ) → IsTrue (is_password bytes) → IsWord bytes
IsWord-password bytes passes =
    let parts = both _ (list_all is_printed bytes) passes in
    let front = both (nat_lt 0 (length bytes)) (nat_le (length bytes) 64) parts.0 in
    record { printed = parts.1; some = grind (arith, nat_tests) }

IsWord-digits : (bytes : List ℕ) → IsTrue (is_number 10 (2 ^ 32) bytes) → IsWord bytes
IsWord-digits bytes number =
    let parts = both (has_digits 10 bytes) (nat_lt (decimal_value bytes) (2 ^ 32)) number in
    let front = both _ (list_all is_digit bytes) parts.0 in
    let sizes = both (nat_lt 0 (length bytes)) (nat_le (length bytes) 10) front.0 in
    record { printed = all_pass is_digit is_printed digit_printed bytes front.1; some = grind (arith, nat_tests) }

-- a word that spells an argument is one
IsWord-spelled : (which : Argument) (word : List ℕ) → IsSpelled which word → IsWord word
unfolding IsSpelled
IsWord-spelled (argument.name bytes) word spelled = subst IsWord (sym spelled.0) (IsWord-name bytes spelled.1)
IsWord-spelled (argument.password bytes) word spelled = subst IsWord (sym spelled.0) (IsWord-password bytes spelled.1)
IsWord-spelled (argument.number value) word spelled = IsWord-digits word spelled.0
IsWord-spelled (argument.switch on) word spelled = IsWord-digits word spelled.0
IsWord-spelled (argument.flag value) word spelled = IsWord-digits word spelled.0.0
IsWord-spelled (argument.count value) word spelled = IsWord-digits word spelled.0.0
IsWord-spelled (argument.mailbox bytes) word spelled = subst IsWord (sym spelled.0) (IsWord-name bytes spelled.1)
IsWord-spelled (argument.board bytes) word spelled =
    let name = IsWord-name bytes spelled.1 in
    subst IsWord (sym spelled.0) (record { printed = name.printed; some = omega arith })

-- so is each operation's
IsWord-operation : (which : Operation) → IsWord (word_of which)
unfolding word_of
IsWord-operation operation.Help = record { printed = refl; some = omega arith }
IsWord-operation _ = record { printed = refl; some = omega arith }

no_space : (byte : ℕ) → is_printed byte ≡ true → is_space byte ≡ false
no_space byte fits = grind (arith, nat_tests)

no_feed : (byte : ℕ) → is_printed byte ≡ true → is_feed byte ≡ false
no_feed byte fits = grind (arith, nat_tests)

-- a word in front is the first word, where no word goes on behind it
words_of-word : (word rest : List ℕ) → IsWord word → is_between rest ≡ true → words_of (word ++ rest) ≡ word ∷ words_of rest
words_of-word [] rest is ends = absurd (omega (arith, is.some))
words_of-word (byte ∷ []) rest is ends =
    let parts = both (is_printed byte) true is.printed in
    rw (no_space byte parts.0, ends)
words_of-word (byte ∷ next ∷ bytes) rest is ends =
    let parts = both (is_printed byte) (list_all is_printed (next ∷ bytes)) is.printed in
    let others = both (is_printed next) (list_all is_printed bytes) parts.1 in
    let behind : words_of ((next ∷ bytes) ++ rest) ≡ (next ∷ bytes) ∷ words_of rest = words_of-word (next ∷ bytes) rest (record { printed = parts.1; some = omega arith }) ends in
    ap (with_byte byte (is_space next)) behind ∙ rw (no_space byte parts.0, no_space next others.0)

behind_ends : (arguments : List Argument) → is_between (written_behind arguments) ≡ true
behind_ends [] = refl
behind_ends (first ∷ others) = refl

words_of-written : (word : List ℕ) (arguments : List Argument) → IsWord word → AreSpelled arguments (map written arguments) → words_of (word ++ written_behind arguments) ≡ word ∷ map written arguments
words_of-written word [] is spelled = words_of-word word [] is refl
words_of-written word (first ∷ others) is spelled =
    words_of-word word (written_behind (first ∷ others)) is refl
    ∙ ap (λ words. word ∷ words) (words_of-written (written first) others (IsWord-spelled first (written first) spelled.0) spelled.1)

-- the line that is written spells the request
pub IsRequest-line_of : (request : Request) → AreSpelled (call_of request).1 (map written (call_of request).1) → IsRequest request (line_of request)
IsRequest-line_of request spelled =
    rw (words_of-written (word_of (call_of request).0) (call_of request).1 (IsWord-operation (call_of request).0) spelled) (refl, spelled)

has_feed-word : (word rest : List ℕ) → list_all is_printed word ≡ true → has_feed (word ++ rest) ≡ has_feed rest
has_feed-word [] rest all = refl
has_feed-word (byte ∷ bytes) rest all =
    let parts = both (is_printed byte) (list_all is_printed bytes) all in
    rw (no_feed byte parts.0, has_feed-word bytes rest parts.1)

has_feed-behind : (arguments : List Argument) → AreSpelled arguments (map written arguments) → has_feed (written_behind arguments) ≡ false
has_feed-behind [] spelled = refl
has_feed-behind (first ∷ others) spelled =
    has_feed-word (written first) (written_behind others) (IsWord-spelled first (written first) spelled.0).printed ∙ has_feed-behind others spelled.1

-- and has no LF
pub IsSpelling-line_of : (request : Request) → AreSpelled (call_of request).1 (map written (call_of request).1) → IsSpelling (line_of request ++ 13 ∷ 10 ∷ []) (line_of request)
IsSpelling-line_of request spelled =
    (has_feed-word (word_of (call_of request).0) (written_behind (call_of request).1) (IsWord-operation (call_of request).0).printed ∙ has_feed-behind (call_of request).1 spelled, inl refl)
