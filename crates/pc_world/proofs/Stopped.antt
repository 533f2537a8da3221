-- A line that stops a world.
use Rattle.std.proofs.Common.{◌≡◌, ℕ, ◌<◌, true, false, List, [], ◌∷◌, ◌++◌, length, Option, Some, None, is_some, MatchOption, refl, sym, ap, ◌∙◌, subst, arith}
use Rattle.std.proofs.lemmas.Bool.{false≢true}
use Rattle.pc_world.specs.Account.{Account}
use Rattle.pc_world.specs.Events.{IsEvent, IsEventLine}
use Rattle.pc_world.specs.Runs.{GoesOn}
use Rattle.pc_world.specs.Steps.{Step, fits, entries_of}
use Rattle.pc_world.specs.declared.event.Event.{Event}
use Rattle.pc_world.specs.declared.event.Event.TheVariants.{Silent, User, Ask}

-- the first event of some lines is their first line
first_line : (event others : List (List ℕ)) (line : List ℕ) (rest : List (List ℕ)) (e : Event) → line ∷ rest ≡ event ++ others → IsEvent event e → IsEventLine line e
first_line [] others line rest e split is = absurd is
first_line (first ∷ []) others line rest e split is =
    let same : first ≡ line = cc in
    subst (λ (l : List ℕ). IsEventLine l e) same is
first_line (first ∷ second ∷ more) others line rest e split is = absurd is

pub stops_bad : (world : List Account) (line : List ℕ) → ((e : Event) → IsEvent (line ∷ []) e → ⊥) → (rest : List (List ℕ)) → GoesOn world (line ∷ rest) → ⊥
stops_bad world line none rest goes =
    none goes.plays.event (first_line goes.event goes.others line rest goes.plays.event goes.split goes.plays.is_event)

some_from : {X : Type 0} (o : Option X) (P : X → Type 0) → MatchOption o ⊥ P → is_some o ≡ true
some_from None P h = absurd h
some_from (Some x) P h = refl

-- an event that is played names what is there
Step-fits : (world : List Account) (e : Event) (printed : List (List ℕ)) (new : List Account) → Step world e printed new → fits world e ≡ true
Step-fits world Silent printed new step = refl
Step-fits [] (User name password) printed new step = refl
Step-fits (account ∷ accounts) (User name password) printed new step = cc
Step-fits world (Ask user asked) printed new step = some_from (entries_of world user) _ step

pub stops_unfit : (world : List Account) (line : List ℕ) (e : Event) → ((other : Event) → IsEvent (line ∷ []) other → other ≡ e) → fits world e ≡ false → (rest : List (List ℕ)) → GoesOn world (line ∷ rest) → ⊥
stops_unfit world line e only unfit rest goes =
    let is = first_line goes.event goes.others line rest goes.plays.event goes.split goes.plays.is_event in
    let same = only goes.plays.event is in
    false≢true (sym unfit ∙ sym (ap (fits world) same) ∙ Step-fits world goes.plays.event goes.printed goes.next goes.plays.step)

-- a line that is too long is no event
pub long_none : (line : List ℕ) → 1000 < length line → (e : Event) → IsEvent (line ∷ []) e → ⊥
long_none line long Silent is = omega (arith, is.0)
long_none line long (User name password) is = omega (arith, is.0)
long_none line long (Ask user asked) is = omega (arith, is.0)
