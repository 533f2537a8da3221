-- A list of one word.
use Rattle.std.proofs.Common.{◌≡◌, ℕ, ◌<◌, ◌≤◌, ◌↔◌, List, [], ◌∷◌, length, get_or, map, ap, arith}

pub one_word : {X : Type 0} (f : X → List ℕ) (xs : List X) (x : X) (wanted : List ℕ) → 1 ≤ length xs → length xs < 2 → x ≡ get_or xs 0 x → (map f xs ≡ wanted ∷ []) ↔ (f x ≡ wanted)
one_word f [] x wanted some few is = absurd (omega (arith, some))
one_word f (y ∷ []) x wanted some few is = (λ whole. let same : f y ≡ wanted = cc in cc, λ same. let there : f y ≡ wanted = cc in ap (λ (w : List ℕ). w ∷ []) there)
one_word f (y ∷ z ∷ zs) x wanted some few is = absurd (omega (arith, few))
