-- A line that isn't silent is one event at most.
use Rattle.std.proofs.Common.{◌≡◌, ℕ, ◌≤◌, false, List, [], ◌∷◌, length, Result, Ok, Err, IfOk, OnErr, sym, ◌∙◌}
use Rattle.std.proofs.lemmas.Bool.{false≢true}
use Rattle.pc_world.specs.Events.{IsEvent, IsEventLine, IsSaid, is_silent, most_line}
use Rattle.pc_world.specs.Reading.{Says}
use Rattle.pc_world.specs.declared.event.Event.{Event}
use Rattle.pc_world.specs.declared.event.EventFault.{EventFault}
use Rattle.pc_world.specs.declared.event.Event.TheVariants.{Silent, User, Ask}

pub no_event : (line : List ℕ) → is_silent line ≡ false → ((event : Event) → IsSaid line event → ⊥) → (event : Event) → IsEventLine line event → ⊥
no_event line loud none Silent is = false≢true (sym loud ∙ is.1)
no_event line loud none (User name password) is = none (User name password) is.2
no_event line loud none (Ask user asked) is = none (Ask user asked) is.2

pub one_event : (line : List ℕ) (event : Event) → is_silent line ≡ false → ((other : Event) → IsSaid line other → other ≡ event) → (other : Event) → IsEventLine line other → other ≡ event
one_event line event loud only Silent is = absurd (false≢true (sym loud ∙ is.1))
one_event line event loud only (User name password) is = only (User name password) is.2
one_event line event loud only (Ask user asked) is = only (Ask user asked) is.2

-- what a line says that isn't silent is its event
pub said_ok : (line : List ℕ) (result : Result Event EventFault) → length line ≤ most_line → is_silent line ≡ false → Says line result → IfOk result (λ event. IsEvent (line ∷ []) event)
said_ok line (Ok Silent) short loud says = absurd says.0
said_ok line (Ok (User name password)) short loud says = (short, loud, says.0)
said_ok line (Ok (Ask user asked)) short loud says = (short, loud, says.0)
said_ok line (Err fault) short loud says = tt

-- and no other
pub said_only : (line : List ℕ) (result : Result Event EventFault) → is_silent line ≡ false → Says line result → IfOk result (λ event. (other : Event) → IsEvent (line ∷ []) other → other ≡ event)
said_only line (Ok event) loud says = one_event line event loud says.1
said_only line (Err fault) loud says = tt

-- and where it says none, it is none
pub said_bad : (line : List ℕ) (result : Result Event EventFault) → is_silent line ≡ false → Says line result → OnErr result ((event : Event) → IsEvent (line ∷ []) event → ⊥)
said_bad line (Ok event) loud says = tt
said_bad line (Err fault) loud says = no_event line loud says
