-- Lines are one event at most, and an event has one step in a world.
use Rattle.std.proofs.Common.{◌≡◌, ℕ, List, [], ◌∷◌, Option, Some, None, MatchOption, Ok, Err, refl, sym, ap, ◌∙◌, arith}
use Rattle.pc_request.specs.Fault.{fault_of}
use Rattle.pc_request.specs.Request.{IsRequest}
use Rattle.pc_request.specs.declared.request.Request.{Request}
use Rattle.pc_world.proofs.Asking.{asked_once}
use Rattle.pc_world.proofs.OneEvent.{one_event}
use Rattle.pc_world.specs.Account.{Account}
use Rattle.pc_world.specs.Events.{IsAsked, IsSaid, IsEventLine, IsEvent, text_asked}
use Rattle.pc_world.specs.Steps.{Step, entries_of}
use Rattle.pc_world.specs.declared.event.Asked.{Asked}
use Rattle.pc_world.specs.declared.event.Asked.TheVariants.{TooLong, Faulty, Read}
use Rattle.pc_world.specs.declared.event.Event.{Event}
use Rattle.pc_world.specs.declared.event.Event.TheVariants.{Silent, User, Ask}

-- what is known of requests: a line is one at most, and then has no fault
abbrev pub ReadOnce : Type 0
ReadOnce = (one other : Request) (line : List ℕ) → IsRequest one line → IsRequest other line → one ≡ other

abbrev pub ReadClean : Type 0
ReadClean = (request : Request) (line : List ℕ) → IsRequest request line → fault_of line ≡ None

asks_once : ReadOnce → ReadClean → (text : List ℕ) (one other : Asked) → IsAsked text one → IsAsked text other → one ≡ other
asks_once once clean text TooLong TooLong is also = refl
asks_once once clean text TooLong (Faulty fault) is also = absurd (omega (arith, is, also.0))
asks_once once clean text TooLong (Read request) is also = absurd (omega (arith, is, also.0))
asks_once once clean text (Faulty fault) other is also =
    sym (asked_once text (Err fault) is.0 (λ request spelled. cc (is.1, clean request text spelled)) (λ wrong found. cc (is.1, found)) other also)
asks_once once clean text (Read request) other is also =
    sym (asked_once text (Ok request) is.0 (λ spelled is_spelled. ap Ok (once request spelled text is.1 is_spelled)) (λ wrong found. cc (found, clean request text is.1)) other also)

said_once : ReadOnce → ReadClean → (line : List ℕ) (one other : Event) → IsSaid line one → IsSaid line other → one ≡ other
said_once once clean line Silent other is also = absurd is
said_once once clean line (User name password) Silent is also = absurd also
said_once once clean line (Ask user asked) Silent is also = absurd also
said_once once clean line (User name password) (User name' password') is also = cc (is.0, also.0)
said_once once clean line (User name password) (Ask user asked) is also = cc (is.0, also.0)
said_once once clean line (Ask user asked) (User name password) is also = cc (is.0, also.0)
said_once once clean line (Ask user asked) (Ask user' asked') is also =
    let same : asked ≡ asked' = asks_once once clean (text_asked line) asked asked' is.2 also.2 in
    let named : user ≡ user' = cc (is.0, also.0) in
    cc

event_line_once : ReadOnce → ReadClean → (line : List ℕ) (one other : Event) → IsEventLine line one → IsEventLine line other → one ≡ other
event_line_once once clean line Silent Silent is also = refl
event_line_once once clean line Silent (User name password) is also = cc (is.1, also.1)
event_line_once once clean line Silent (Ask user asked) is also = cc (is.1, also.1)
event_line_once once clean line (User name password) other is also =
    sym (one_event line (User name password) is.1 (λ said says. said_once once clean line said (User name password) says is.2) other also)
event_line_once once clean line (Ask user asked) other is also =
    sym (one_event line (Ask user asked) is.1 (λ said says. said_once once clean line said (Ask user asked) says is.2) other also)

pub event_once : ReadOnce → ReadClean → (lines : List (List ℕ)) (one other : Event) → IsEvent lines one → IsEvent lines other → one ≡ other
event_once once clean [] one other is also = absurd is
event_once once clean (line ∷ []) one other is also = event_line_once once clean line one other is also
event_once once clean (line ∷ next ∷ lines) one other is also = absurd is

-- what holds of two facts about the value that is there
of_both : {X : Type 0} (o : Option X) (P Q : X → Type 0) (R : Type 0) → ((x : X) → P x → Q x → R) → MatchOption o ⊥ P → MatchOption o ⊥ Q → R
of_both None P Q R both p q = absurd p
of_both (Some x) P Q R both p q = both x p q

pub step_once : (old : List Account) (event : Event) (printed shown : List (List ℕ)) (new other : List Account)
    → Step old event printed new → Step old event shown other → (printed ≡ shown) × (new ≡ other)
step_once old Silent printed shown new other step also = (cc (step.0, also.0), cc (step.1, also.1))
step_once old (User name password) printed shown new other step also = (step.0 ∙ sym also.0, step.1 ∙ sym also.1)
step_once old (Ask user asked) printed shown new other step also =
    of_both (entries_of old user) _ _ ((printed ≡ shown) × (new ≡ other)) (λ entries answers same. (answers.0 ∙ sym same.0, answers.1 ∙ sym same.1)) step also
