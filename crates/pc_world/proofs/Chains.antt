-- Chains of events, and the event that lines begin with.
use Rattle.std.proofs.Common.{◌≡◌, ℕ, List, [], ◌∷◌, ◌++◌, refl, sym, ap, ◌∙◌, subst, append-nil, append_assoc}
use Rattle.pc_world.specs.Account.{Account}
use Rattle.pc_world.specs.Runs.{Plays, Chain, lines_in}

pub lines_in-push : (events : List (List (List ℕ))) (event : List (List ℕ)) → lines_in (events ++ event ∷ []) ≡ lines_in events ++ event
lines_in-push [] event = append-nil event
lines_in-push (first ∷ others) event =
    ap (λ (lines : List (List ℕ)). first ++ lines) (lines_in-push others event) ∙ sym (append_assoc first (lines_in others) event)

-- a chain with one more event behind
pub Chain-push : (old : List Account) (events : List (List (List ℕ))) (printed : List (List ℕ)) (middle : List Account) (event first : List (List ℕ)) (new : List Account)
    → Chain old events printed middle → Plays middle event first new → Chain old (events ++ event ∷ []) (printed ++ first) new
Chain-push old [] printed middle event first new chain plays =
    let P : List (List ℕ) → Type 0 = λ lines. Chain old (event ∷ []) (lines ++ first) new in
    let Q : List Account → Type 0 = λ world. Plays world event first new in
    subst P (sym chain.0) (first, (new, ([], (sym (append-nil first), subst Q chain.1 plays, (refl, refl)))))
Chain-push old (earlier ∷ events) printed middle event first new chain plays =
    let shown = chain.0 in
    let next = chain.1.0 in
    let others = chain.1.1.0 in
    let rest = chain.1.1.1 in
    (shown, (next, (others ++ first, (ap (λ (lines : List (List ℕ)). lines ++ first) rest.0 ∙ append_assoc shown others first, rest.1, Chain-push next events others middle event first new rest.2 plays))))

-- the event that lines begin with is their first line
pub plays_first : (world : List Account) (line : List ℕ) (rest event others printed : List (List ℕ)) (next : List Account)
    → line ∷ rest ≡ event ++ others → Plays world event printed next → (rest ≡ others) × Plays world (line ∷ []) printed next
plays_first world line rest [] others printed next split plays = absurd plays.is_event
plays_first world line rest (first ∷ second ∷ more) others printed next split plays = absurd plays.is_event
plays_first world line rest (first ∷ []) others printed next split plays =
    let same : first ≡ line = cc in
    (cc, subst (λ (l : List ℕ). Plays world (l ∷ []) printed next) same plays)
