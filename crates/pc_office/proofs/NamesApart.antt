-- Names that come once.
use Rattle.std.proofs.Common.{◌≡◌, ℕ, ◌-◌, ◌≤◌, Bool, not, ◌&&◌, ◌||◌, List, [], ◌∷◌, length, take, drop, get_or, refl, sym, ◌∙◌, arith}
use Rattle.std.specs.List.{list_any}
use Rattle.std.proofs.lemmas.List.{take_rest}
use Rattle.pc_tables.specs.Table.{same, is_among}
use Rattle.pc_tables.proofs.Table.{same-sym}
use Rattle.pc_office_history.specs.Allowed.{are_apart}

among-turned : (name : List ℕ) (names : List (List ℕ)) → list_any (λ other. same other name) names ≡ is_among name names
among-turned name [] = refl
among-turned name (other ∷ names) = λ i. same-sym other name i || among-turned name names i

drop-one : (name : List ℕ) (names : List (List ℕ)) → drop 1 (name ∷ names) ≡ names
drop-one name [] = refl
drop-one name (other ∷ names) = refl

-- the names behind the first one
abbrev pub behind : List (List ℕ) → List (List ℕ)
behind names = take (length names - 1) (drop 1 names)

-- names come once where the first isn't among the others and these come once
pub apart-step : (name : List ℕ) (names : List (List ℕ)) (found : Bool) → 1 ≤ length names → name ≡ get_or names 0 name → found ≡ list_any (λ other. same other name) (behind names) → are_apart names ≡ (not found && are_apart (behind names))
apart-step name [] found some first e = absurd (omega arith)
apart-step name (one ∷ names) found some first e =
    let others : behind (one ∷ names) ≡ names = take_rest (one ∷ names) 1 ∙ drop-one one names in
    let among : found ≡ is_among one names = e ∙ among-turned name (behind (one ∷ names)) ∙ (λ i. is_among (first i) (others i)) in
    sym (λ i. not (among i) && are_apart (others i))
