-- A script has a run or is refused: each of its lines plays in a world or stops it.
use Rattle.std.proofs.Common.{◌≡◌, ℕ, ◌+◌, ◌≤◌, ◌<◌, ◌==◌, nat_le, nat_lt, Bool, true, false, IsTrue, codes, List, [], ◌∷◌, ◌++◌, length, Option, Some, None, is_some, MatchOption, ◌⊎◌, inl, inr, refl, sym, ap, ◌∙◌, arith, append_assoc, length-append}
use Rattle.std.proofs.lemmas.Bool.Decides.{nat_tests}
use Rattle.std.proofs.lemmas.Slice.Eq.{bytes_eq-Decides}
use Rattle.std.specs.Cmp.Lexicographic.{pointwise}
use Rattle.pc_base.specs.Name.{is_name, is_password}
use Rattle.pc_wire.specs.Lines.{lines_of}
use Rattle.pc_wire.specs.Words.{is_between, words_of, without_spaces, from_space, after_word}
use Rattle.pc_wire.proofs.WordLemmas.{words_of-without_spaces, without_spaces-begins, words_of-first}
use Rattle.pc_request.specs.Fault.{fault_of}
use Rattle.pc_request.specs.Request.{IsRequest}
use Rattle.pc_request.specs.declared.request.Request.{Request}
use Rattle.pc_request.specs.declared.request.RequestFault.{RequestFault}
use Rattle.pc_world.proofs.Chains.{lines_in-push, Chain-push}
use Rattle.pc_world.proofs.OneEvent.{no_event}
use Rattle.pc_world.proofs.OneOutcome.{EventOnce}
use Rattle.pc_world.proofs.Stopped.{long_none, stops_bad, stops_unfit}
use Rattle.pc_world.specs.Account.{Account, history_of}
use Rattle.pc_world.specs.Events.{IsAsked, IsSaid, IsEvent, is_silent, text_asked, most_line, most_request}
use Rattle.pc_world.specs.Repository.{reply_to}
use Rattle.pc_world.specs.Runs.{Plays, Chain, GoesOn, IsRun, IsRefused, lines_in, text_of, most_lines}
use Rattle.pc_world.specs.Steps.{Answers, Step, entries_of, fits}
use Rattle.pc_world.specs.declared.event.Asked.{Asked}
use Rattle.pc_world.specs.declared.event.Asked.TheVariants.{TooLong, Faulty, Read}
use Rattle.pc_world.specs.declared.event.Event.{Event}
use Rattle.pc_world.specs.declared.event.Event.TheVariants.{Silent, User, Ask}

-- what is known of requests: a line without fault is one
abbrev pub Faultless : Type 0
Faultless = (line : List ℕ) → fault_of line ≡ None → (request : Request) × IsRequest request line

within : (n most : ℕ) → nat_le n most ≡ true → n ≤ most
within n most is = grind (arith, nat_tests)

beyond : (n most : ℕ) → nat_le n most ≡ false → most < n
beyond n most is = grind (arith, nat_tests)

-- ---- each text asks for something

asked_short : Faultless → (text : List ℕ) → length text ≤ most_request → (found : Option RequestFault) → fault_of text ≡ found → (asked : Asked) × IsAsked text asked
asked_short faultless text short None none = (Read (faultless text none).0, (short, (faultless text none).1))
asked_short faultless text short (Some fault) is = (Faulty fault, (short, is))

asked_by : Faultless → (text : List ℕ) (short : Bool) → nat_le (length text) most_request ≡ short → (asked : Asked) × IsAsked text asked
asked_by faultless text true is = asked_short faultless text (within (length text) most_request is) (fault_of text) refl
asked_by faultless text false is = (TooLong, beyond (length text) most_request is)

-- ---- a line says an event or none

abbrev Said : List ℕ → Type 0
Said line = ((event : Event) × IsSaid line event) ⊎ ((event : Event) → IsSaid line event → ⊥)

no_said : (line : List ℕ)
    → ((name password : List ℕ) → words_of line ≡ codes "user" ∷ name ∷ password ∷ [] → IsTrue (is_name name) → IsTrue (is_password password) → ⊥)
    → ((user : List ℕ) (others : List (List ℕ)) → words_of line ≡ codes "ask" ∷ user ∷ others → IsTrue (is_name user) → ⊥)
    → (event : Event) → IsSaid line event → ⊥
no_said line no_user no_ask Silent is = is
no_said line no_user no_ask (User name password) is = no_user name password is.0 is.1 is.2
no_said line no_user no_ask (Ask user asked) is = no_ask user (words_of (text_asked line)) is.0 is.1

user_named : (line name password : List ℕ) → words_of line ≡ codes "user" ∷ name ∷ password ∷ [] → (named passed : Bool) → is_name name ≡ named → is_password password ≡ passed → Said line
user_named line name password is true true fits opens = inl (User name password, (is, fits, opens))
user_named line name password is false passed fails opens = inr (no_said line (λ n p e named passed. cc (is, e, fails, named)) (λ u others e named. cc (is, e)))
user_named line name password is true false fits fails = inr (no_said line (λ n p e named passed. cc (is, e, fails, passed)) (λ u others e named. cc (is, e)))

user_said : (line : List ℕ) (others : List (List ℕ)) → words_of line ≡ codes "user" ∷ others → Said line
user_said line [] is = inr (no_said line (λ n p e named passed. cc (is, e)) (λ u others e named. cc (is, e)))
user_said line (name ∷ []) is = inr (no_said line (λ n p e named passed. cc (is, e)) (λ u others e named. cc (is, e)))
user_said line (name ∷ password ∷ []) is = user_named line name password is (is_name name) (is_password password) refl refl
user_said line (name ∷ password ∷ more ∷ others) is = inr (no_said line (λ n p e named passed. cc (is, e)) (λ u others e named. cc (is, e)))

-- what follows the first word has the other words
words_left : (text left first : List ℕ) (others : List (List ℕ)) → without_spaces text ≡ left → words_of text ≡ first ∷ others → words_of (from_space left) ≡ others
words_left text [] first others begins is =
    let none : words_of text ≡ [] = sym (words_of-without_spaces text) ∙ ap words_of begins in
    cc
words_left text (byte ∷ bytes) first others begins is =
    let solid : is_between (byte ∷ bytes) ≡ false = ap is_between (sym begins) ∙ without_spaces-begins text (omega (arith, ap length begins)) in
    let split = words_of-first (byte ∷ bytes) solid in
    let same : words_of (byte ∷ bytes) ≡ first ∷ others = ap words_of (sym begins) ∙ words_of-without_spaces text ∙ is in
    cc

words_behind : (text first : List ℕ) (others : List (List ℕ)) → words_of text ≡ first ∷ others → words_of (after_word text) ≡ others
words_behind text first others is = words_left text (without_spaces text) first others refl is

ask_named : Faultless → (line user : List ℕ) (others : List (List ℕ)) → words_of line ≡ codes "ask" ∷ user ∷ others → (named : Bool) → is_name user ≡ named → Said line
ask_named faultless line user others is true fits =
    let asked = asked_by faultless (text_asked line) (nat_le (length (text_asked line)) most_request) refl in
    let behind = words_behind (after_word line) user others (words_behind line (codes "ask") (user ∷ others) is) in
    let text : words_of (text_asked line) ≡ others = words_of-without_spaces (after_word (after_word line)) ∙ behind in
    inl (Ask user asked.0, (is ∙ ap (λ (words : List (List ℕ)). codes "ask" ∷ user ∷ words) (sym text), fits, asked.1))
ask_named faultless line user others is false fails = inr (no_said line (λ n p e named passed. cc (is, e)) (λ u more e named. cc (is, e, fails, named)))

ask_said : Faultless → (line : List ℕ) (others : List (List ℕ)) → words_of line ≡ codes "ask" ∷ others → Said line
ask_said faultless line [] is = inr (no_said line (λ n p e named passed. cc (is, e)) (λ u more e named. cc (is, e)))
ask_said faultless line (user ∷ others) is = ask_named faultless line user others is (is_name user) refl

first_is : (first word : List ℕ) (same : Bool) → pointwise ◌==◌ first word ≡ same → (first ≡ word) ⊎ (first ≡ word → ⊥)
first_is first word true is = inl ((bytes_eq-Decides first word).0 is)
first_is first word false is = inr (λ same. cc (is, (bytes_eq-Decides first word).1 same))

word_said : Faultless → (line first : List ℕ) (others : List (List ℕ)) → words_of line ≡ first ∷ others
    → (first ≡ codes "user") ⊎ (first ≡ codes "user" → ⊥) → (first ≡ codes "ask") ⊎ (first ≡ codes "ask" → ⊥) → Said line
word_said faultless line first others is (inl user) ask = user_said line others (is ∙ ap (λ (word : List ℕ). word ∷ others) user)
word_said faultless line first others is (inr no_user) (inl ask) = ask_said faultless line others (is ∙ ap (λ (word : List ℕ). word ∷ others) ask)
word_said faultless line first others is (inr no_user) (inr no_ask) =
    inr (no_said line (λ n p e named passed. no_user (cc (is, e))) (λ u more e named. no_ask (cc (is, e))))

words_said : Faultless → (line : List ℕ) (words : List (List ℕ)) → words_of line ≡ words → Said line
words_said faultless line [] is = inr (no_said line (λ n p e named passed. cc (is, e)) (λ u more e named. cc (is, e)))
words_said faultless line (first ∷ others) is =
    word_said faultless line first others is (first_is first (codes "user") (pointwise ◌==◌ first (codes "user")) refl) (first_is first (codes "ask") (pointwise ◌==◌ first (codes "ask")) refl)

-- ---- a line is an event or none

abbrev Decided : List ℕ → Type 0
Decided line = ((event : Event) × IsEvent (line ∷ []) event) ⊎ ((event : Event) → IsEvent (line ∷ []) event → ⊥)

loud_event : (line : List ℕ) → length line ≤ most_line → is_silent line ≡ false → Said line → Decided line
loud_event line short loud (inl (Silent, said)) = absurd said
loud_event line short loud (inl (User name password, said)) = inl (User name password, (short, loud, said))
loud_event line short loud (inl (Ask user asked, said)) = inl (Ask user asked, (short, loud, said))
loud_event line short loud (inr none) = inr (no_event line loud none)

short_event : Faultless → (line : List ℕ) → length line ≤ most_line → (silent : Bool) → is_silent line ≡ silent → Decided line
short_event faultless line short true is = inl (Silent, (short, is))
short_event faultless line short false loud = loud_event line short loud (words_said faultless line (words_of line) refl)

event_by : Faultless → (line : List ℕ) (short : Bool) → nat_le (length line) most_line ≡ short → Decided line
event_by faultless line true is = short_event faultless line (within (length line) most_line is) (is_silent line) refl
event_by faultless line false is = inr (long_none line (beyond (length line) most_line is))

-- ---- a line plays in a world or stops it

abbrev Turned : List Account → List ℕ → Type 0
Turned world line = ((printed : List (List ℕ)) × ((next : List Account) × Plays world (line ∷ []) printed next)) ⊎ ((rest : List (List ℕ)) → GoesOn world (line ∷ rest) → ⊥)

answers_from : (world : List Account) (user : List ℕ) (asked : Asked) (found : Option _) → is_some found ≡ true
    → (printed : List (List ℕ)) × ((next : List Account) × MatchOption found ⊥ (λ entries. Answers world user (reply_to (history_of entries) asked) printed next))
answers_from world user asked None there = cc
answers_from world user asked (Some entries) there = (_, (_, (refl, refl)))

step_from : (world : List Account) (event : Event) → fits world event ≡ true → (printed : List (List ℕ)) × ((next : List Account) × Step world event printed next)
step_from world Silent there = (_, (_, (refl, refl)))
step_from world (User name password) there = (_, (_, (refl, refl)))
step_from world (Ask user asked) there = answers_from world user asked (entries_of world user) there

fitting : EventOnce → (world : List Account) (line : List ℕ) (event : Event) → IsEvent (line ∷ []) event → (there : Bool) → fits world event ≡ there → Turned world line
fitting once world line event is true there =
    let step = step_from world event there in
    inl (step.0, (step.1.0, record { event = event; is_event = is; step = step.1.1 }))
fitting once world line event is false missing = inr (stops_unfit world line event (λ other also. once (line ∷ []) other event also is) missing)

turned : EventOnce → (world : List Account) (line : List ℕ) → Decided line → Turned world line
turned once world line (inl (event, is)) = fitting once world line event is (fits world event) refl
turned once world line (inr none) = inr (stops_bad world line none)

-- ---- so a script has an outcome

abbrev pub Outcome : List ℕ → Type 0
Outcome script = ((text : List ℕ) × IsRun script text) ⊎ ((number : ℕ) × ((text : List ℕ) × IsRefused script number text))

number_is : (front : List (List ℕ)) (line : List ℕ) (rest all : List (List ℕ)) → all ≡ front ++ line ∷ rest → length front + 1 + length rest ≡ length all
number_is front line rest all split = omega (arith, ap length split, length-append front (line ∷ rest))

module _ (script line : List ℕ) (rest : List (List ℕ)) (events : List (List (List ℕ))) (printed : List (List ℕ)) (last : List Account)
    (split : lines_of script ≡ lines_in events ++ line ∷ rest) (few : length (lines_in events) ≤ most_lines) (chain : Chain [] events printed last) where
  refused_at : (length (lines_in events) + 1 ≤ most_lines → GoesOn last (line ∷ rest) → ⊥) → Outcome script
  refused_at stops = inr (
    length (lines_in events) + 1,
    (
      text_of printed,
      record {
        line = line;
        rest = rest;
        printed = printed;
        last = last;
        begins = record { events = events; split = split; few = few; chain = chain };
        number_is = number_is (lines_in events) line rest (lines_of script) split;
        within = omega (arith, few);
        text_is = refl;
        stops = stops;
      },
    ),
  )

  outcome_at : Turned last line → ((shown : List (List ℕ)) (next : List Account) → length (lines_in events) + 1 ≤ most_lines → Plays last (line ∷ []) shown next → Outcome script)
      → (room : Bool) → nat_le (length (lines_in events) + 1) most_lines ≡ room → Outcome script
  outcome_at turn onward false full = refused_at (λ room. absurd (omega (arith, room, beyond (length (lines_in events) + 1) most_lines full)))
  outcome_at (inl plays) onward true room = onward plays.0 plays.1.0 (within (length (lines_in events) + 1) most_lines room) plays.1.1
  outcome_at (inr stops) onward true room = refused_at (λ _. stops rest)

outcome_behind : Faultless → EventOnce → (script : List ℕ) (rest : List (List ℕ)) (events : List (List (List ℕ))) (printed : List (List ℕ)) (last : List Account)
    → lines_of script ≡ lines_in events ++ rest → length (lines_in events) ≤ most_lines → Chain [] events printed last → Outcome script
outcome_behind faultless once script [] events printed last split few chain =
    inl (text_of printed, record { printed = printed; last = last; run = record { events = events; split = split; few = few; chain = chain }; text = refl })
outcome_behind faultless once script (line ∷ rest) events printed last split few chain =
    outcome_at script line rest events printed last split few chain
    (turned once last line (event_by faultless line (nat_le (length line) most_line) refl))
    (λ shown next room plays.
    outcome_behind faultless once script rest (events ++ (line ∷ []) ∷ []) (printed ++ shown) next
    (split ∙ sym (append_assoc (lines_in events) (line ∷ []) rest) ∙ ap (λ (lines : List (List ℕ)). lines ++ rest) (sym (lines_in-push events (line ∷ []))))
    (omega (arith, room, ap length (lines_in-push events (line ∷ [])), length-append (lines_in events) (line ∷ [])))
    (Chain-push [] events printed last (line ∷ []) shown next chain plays))
    (nat_le (length (lines_in events) + 1) most_lines)
    refl

pub outcome : Faultless → EventOnce → (script : List ℕ) → Outcome script
outcome faultless once script = outcome_behind faultless once script (lines_of script) [] [] [] refl (omega arith) (refl, refl)
