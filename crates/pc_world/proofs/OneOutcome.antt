-- Two beginnings of one script agree: they are one, or the world goes on behind one of them.
use Rattle.std.proofs.Common.{◌≡◌, ℕ, ◌<◌, List, [], ◌∷◌, ◌++◌, length, sym, ap, ◌∙◌, subst, arith, append_assoc, length-append}
use Rattle.pc_world.proofs.Chains.{plays_first}
use Rattle.pc_world.specs.Account.{Account}
use Rattle.pc_world.specs.Events.{IsEvent}
use Rattle.pc_world.specs.Runs.{Plays, Chain, Begins, GoesOn, IsRun, IsRefused, IsOfForm, lines_in, text_of}
use Rattle.pc_world.specs.Steps.{Step}
use Rattle.pc_world.specs.declared.event.Event.{Event}

-- what is known of events: lines are one at most, and it has one step
abbrev pub EventOnce : Type 0
EventOnce = (lines : List (List ℕ)) (one other : Event) → IsEvent lines one → IsEvent lines other → one ≡ other

abbrev pub StepOnce : Type 0
StepOnce = (old : List Account) (event : Event) (printed shown : List (List ℕ)) (new other : List Account)
    → Step old event printed new → Step old event shown other → (printed ≡ shown) × (new ≡ other)

-- the same lines play alike
plays_line_once : EventOnce → StepOnce → (old : List Account) (lines printed shown : List (List ℕ)) (new other : List Account)
    → Plays old lines printed new → Plays old lines shown other → (printed ≡ shown) × (new ≡ other)
plays_line_once event_once step_once old lines printed shown new other plays also =
    let same : also.event ≡ plays.event = event_once lines also.event plays.event also.is_event plays.is_event in
    step_once old plays.event printed shown new other plays.step (subst (λ (e : Event). Step old e shown other) same also.step)

-- an event has one line, so what lines begin with plays alike, and the same lines are left
pub record Alike (rest left printed shown : List (List ℕ)) (new other : List Account) : Type 0 where
  pub lines : rest ≡ left
  pub text : printed ≡ shown
  pub world : new ≡ other

plays_once : EventOnce → StepOnce → (old : List Account) (event also rest left printed shown : List (List ℕ)) (new other : List Account)
    → event ++ rest ≡ also ++ left → Plays old event printed new → Plays old also shown other → Alike rest left printed shown new other
plays_once event_once step_once old [] also rest left printed shown new other split plays same = absurd plays.is_event
plays_once event_once step_once old (line ∷ next ∷ lines) also rest left printed shown new other split plays same = absurd plays.is_event
plays_once event_once step_once old (line ∷ []) also rest left printed shown new other split plays same =
    let begun = plays_first old line rest also left shown other split same in
    let both = plays_line_once event_once step_once old (line ∷ []) printed shown new other plays begun.1 in
    record { lines = begun.0; text = both.0; world = both.1 }

plays_some : (old : List Account) (event printed : List (List ℕ)) (new : List Account) → Plays old event printed new → 0 < length event
plays_some old [] printed new plays = absurd plays.is_event
plays_some old (line ∷ lines) printed new plays = omega arith

-- the world goes on with what is left behind a beginning, and less is left behind another
pub record GoesFurther (last : List Account) (rest less : List (List ℕ)) : Type 0 where
  pub goes_on : GoesOn last rest
  pub shorter : length less < length rest

-- what two beginnings leave and print
pub data Compared (last other : List Account) (rest left printed shown : List (List ℕ)) : Type 0 where
  level : rest ≡ left → printed ≡ shown → Compared last other rest left printed shown
  first_goes_on : GoesFurther last rest left → Compared last other rest left printed shown
  second_goes_on : GoesFurther other left rest → Compared last other rest left printed shown

further : (old : List Account) (event rest left events printed : List (List ℕ)) (new : List Account)
    → rest ≡ (event ++ events) ++ left → Plays old event printed new → GoesFurther old rest left
further old event rest left events printed new split plays = record {
  goes_on = record { event = event; others = events ++ left; split = split ∙ append_assoc event events left; printed = printed; next = new; plays = plays };
  shorter = omega (arith, ap length split, length-append (event ++ events) left, length-append event events, plays_some old event printed new plays);
}

-- more was printed before both
compared_behind : (last other : List Account) (rest left before before' printed shown : List (List ℕ))
    → before ≡ before' → Compared last other rest left printed shown → Compared last other rest left (before ++ printed) (before' ++ shown)
compared_behind last other rest left before before' printed shown same (level lines text) = level lines cc
compared_behind last other rest left before before' printed shown same (first_goes_on more) = first_goes_on more
compared_behind last other rest left before before' printed shown same (second_goes_on more) = second_goes_on more

compared : EventOnce → StepOnce → (old : List Account) (events others : List (List (List ℕ))) (rest left printed shown : List (List ℕ)) (last other : List Account)
    → lines_in events ++ rest ≡ lines_in others ++ left → Chain old events printed last → Chain old others shown other
    → Compared last other rest left printed shown
compared event_once step_once old [] [] rest left printed shown last other split chain also = level split (cc (chain.0, also.0))
compared event_once step_once old [] (event ∷ others) rest left printed shown last other split chain also =
    first_goes_on (subst (λ (world : List Account). GoesFurther world rest left) (sym chain.1)
    (further old event rest left (lines_in others) also.0 also.1.0 split also.1.1.1.1))
compared event_once step_once old (event ∷ events) [] rest left printed shown last other split chain also =
    second_goes_on (subst (λ (world : List Account). GoesFurther world left rest) (sym also.1)
    (further old event left rest (lines_in events) chain.0 chain.1.0 (sym split) chain.1.1.1.1))
compared event_once step_once old (event ∷ events) (event' ∷ others) rest left printed shown last other split chain also =
    let tail = chain.1.1.1 in
    let tail' = also.1.1.1 in
    let same = plays_once event_once step_once old event event' (lines_in events ++ rest) (lines_in others ++ left) chain.0 also.0 chain.1.0 also.1.0
    (sym (append_assoc event (lines_in events) rest) ∙ split ∙ append_assoc event' (lines_in others) left) tail.1 tail'.1 in
    let onward = compared event_once step_once chain.1.0 events others rest left chain.1.1.0 also.1.1.0 last other same.lines tail.2
    (subst (λ (world : List Account). Chain world others also.1.1.0 other) (sym same.world) tail'.2) in
    let behind = compared_behind last other rest left chain.0 also.0 chain.1.1.0 also.1.1.0 same.text onward in
    let P : List (List ℕ) → Type 0 = λ p. Compared last other rest left p shown in
    let Q : List (List ℕ) → Type 0 = λ p. Compared last other rest left (chain.0 ++ chain.1.1.0) p in
    subst P (sym tail.0) (subst Q (sym tail'.0) behind)

-- two beginnings of one script
begun : EventOnce → StepOnce → (script : List ℕ) (rest left printed shown : List (List ℕ)) (last other : List Account)
    → Begins script rest printed last → Begins script left shown other → Compared last other rest left printed shown
begun event_once step_once script rest left printed shown last other begins also =
    compared event_once step_once [] begins.events also.events rest left printed shown last other (sym begins.split ∙ also.split) begins.chain also.chain

-- no world goes on where the script is refused
no_further : (script text : List ℕ) (number : ℕ) (left shown : List (List ℕ)) (other : List Account) (refusal : IsRefused script number text)
    → Begins script left shown other → GoesFurther refusal.last (refusal.line ∷ refusal.rest) left → ⊥
no_further script text number left shown other refusal begins more =
    refusal.stops (omega (arith, refusal.number_is, begins.few, ap length begins.split, length-append (lines_in begins.events) left, more.shorter)) more.goes_on

run_once : (t u : List ℕ) (last other : List Account) (printed shown : List (List ℕ))
    → t ≡ text_of printed → u ≡ text_of shown → Compared last other [] [] printed shown → t ≡ u
run_once t u last other printed shown is also (level lines text) = is ∙ ap text_of text ∙ sym also
run_once t u last other printed shown is also (first_goes_on more) = absurd (omega (arith, more.shorter))
run_once t u last other printed shown is also (second_goes_on more) = absurd (omega (arith, more.shorter))

pub IsRun-once : EventOnce → StepOnce → (script t u : List ℕ) → IsRun script t → IsRun script u → t ≡ u
IsRun-once event_once step_once script t u run also =
    run_once t u run.last also.last run.printed also.printed run.text also.text
    (begun event_once step_once script [] [] run.printed also.printed run.last also.last run.run also.run)

none_left : (script t : List ℕ) (number : ℕ) (shown : List (List ℕ)) (other : List Account) (refusal : IsRefused script number t)
    → Begins script [] shown other → Compared other refusal.last [] (refusal.line ∷ refusal.rest) shown refusal.printed → ⊥
none_left script t number shown other refusal begins (level lines text) = cc
none_left script t number shown other refusal begins (first_goes_on more) = omega (arith, more.shorter)
none_left script t number shown other refusal begins (second_goes_on more) = no_further script t number [] shown other refusal begins more

pub refused_or_run : EventOnce → StepOnce → (script t u : List ℕ) (number : ℕ) → IsRun script t → IsRefused script number u → ⊥
refused_or_run event_once step_once script t u number run refusal =
    none_left script u number run.printed run.last refusal run.run
    (begun event_once step_once script [] (refusal.line ∷ refusal.rest) run.printed refusal.printed run.last refusal.last run.run refusal.begins)

refusals_meet : (script t u : List ℕ) (n m : ℕ) (one : IsRefused script n t) (other : IsRefused script m u)
    → Compared one.last other.last (one.line ∷ one.rest) (other.line ∷ other.rest) one.printed other.printed → (n ≡ m) × (t ≡ u)
refusals_meet script t u n m one other (level lines text) =
    (omega (arith, ap length lines, one.number_is, other.number_is), one.text_is ∙ ap text_of text ∙ sym other.text_is)
refusals_meet script t u n m one other (first_goes_on more) =
    absurd (no_further script t n (other.line ∷ other.rest) other.printed other.last one other.begins more)
refusals_meet script t u n m one other (second_goes_on more) =
    absurd (no_further script u m (one.line ∷ one.rest) one.printed one.last other one.begins more)

pub IsRefused-once : EventOnce → StepOnce → (script t u : List ℕ) (n m : ℕ) → IsRefused script n t → IsRefused script m u → (n ≡ m) × (t ≡ u)
IsRefused-once event_once step_once script t u n m one other =
    refusals_meet script t u n m one other
    (begun event_once step_once script (one.line ∷ one.rest) (other.line ∷ other.rest) one.printed other.printed one.last other.last one.begins other.begins)

-- behind a beginning of a script that has a run, the world goes on with what is left
goes_on_with : (last other : List Account) (line : List ℕ) (rest shown printed : List (List ℕ))
    → Compared last other (line ∷ rest) [] shown printed → GoesOn last (line ∷ rest)
goes_on_with last other line rest shown printed (level lines text) = cc
goes_on_with last other line rest shown printed (first_goes_on more) = more.goes_on
goes_on_with last other line rest shown printed (second_goes_on more) = absurd (omega (arith, more.shorter))

pub IsOfForm-run : EventOnce → StepOnce → (script t : List ℕ) → IsRun script t → IsOfForm script
IsOfForm-run event_once step_once script t run = record {
  few = omega (arith, run.run.few, ap length run.run.split, length-append (lines_in run.run.events) []);
  goes_on = λ line rest shown last begins.
      goes_on_with last run.last line rest shown run.printed
      (begun event_once step_once script (line ∷ rest) [] shown run.printed last run.last begins run.run);
}
