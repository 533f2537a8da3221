-- A script of the form has a run and no refusal.
use Rattle.std.proofs.Common.{◌≡◌, ℕ, ◌≤◌, List, [], ◌∷◌, ◌++◌, length, refl, sym, ap, ◌∙◌, arith, append_assoc, length-append}
use Rattle.pc_wire.specs.Lines.{lines_of}
use Rattle.pc_world.proofs.Chains.{lines_in-push, Chain-push, plays_first}
use Rattle.pc_world.specs.Account.{Account}
use Rattle.pc_world.specs.Runs.{Chain, Begins, IsRun, IsRefused, IsOfForm, lines_in, text_of, most_lines}

-- no line of it stops the world, and there are few of them
pub not_refused : (script : List ℕ) (number : ℕ) (text : List ℕ) → IsOfForm script → IsRefused script number text → ⊥
not_refused script number text form refusal =
    refusal.stops (omega (arith, form.few, refusal.number_is)) (form.goes_on refusal.line refusal.rest refusal.printed refusal.last refusal.begins)

few_begun : (all front rest : List (List ℕ)) → length all ≤ most_lines → all ≡ front ++ rest → length front ≤ most_lines
few_begun all front rest few split = omega (arith, ap length split, length-append front rest)

-- a beginning of a script of the form goes on to a run
run_behind : (script : List ℕ) → IsOfForm script → (rest : List (List ℕ)) (events : List (List (List ℕ))) (printed : List (List ℕ)) (last : List Account)
    → lines_of script ≡ lines_in events ++ rest → Chain [] events printed last → (t : List ℕ) × IsRun script t
run_behind script form [] events printed last split chain =
    let begins : Begins script [] printed last = record { events = events; split = split; few = few_begun (lines_of script) (lines_in events) [] form.few split; chain = chain } in
    (text_of printed, record { printed = printed; last = last; run = begins; text = refl })
run_behind script form (line ∷ rest) events printed last split chain =
    let begins : Begins script (line ∷ rest) printed last = record { events = events; split = split; few = few_begun (lines_of script) (lines_in events) (line ∷ rest) form.few split; chain = chain } in
    let goes = form.goes_on line rest printed last begins in
    let plays = plays_first last line rest goes.event goes.others goes.printed goes.next goes.split goes.plays in
    run_behind script form rest (events ++ (line ∷ []) ∷ []) (printed ++ goes.printed) goes.next
    (split ∙ sym (append_assoc (lines_in events) (line ∷ []) rest) ∙ ap (λ (lines : List (List ℕ)). lines ++ rest) (sym (lines_in-push events (line ∷ []))))
    (Chain-push [] events printed last (line ∷ []) goes.printed goes.next chain plays.1)

pub has_run : (script : List ℕ) → IsOfForm script → (t : List ℕ) × IsRun script t
has_run script form = run_behind script form (lines_of script) [] [] [] refl (refl, refl)
