-- Lists in order.
use Rattle.std.proofs.Common.{ℕ, Bool, true, false, cond, List, [], ◌∷◌, ◌++◌, suc, filter, zero, ◌<◌}
use Rattle.std.specs.List.{AllByRecursion as Every}
use Rattle.pc_tables.specs.Table.{numbers}
use Rattle.pc_tables.specs.Order.{Ordered}
use Rattle.pc_tables.proofs.Lists.{Every-weaker, Every-append, Every-filter, Every-insert}
use Rattle.pc_tables.proofs.Numbers.{Every-numbers}

module _ {X : Type 0} (R : X → X → Type 0) where
  pub Ordered-filter : (p : X → Bool) (xs : List X) → Ordered R xs → Ordered R (filter p xs)
  Ordered-filter p [] h = h
  Ordered-filter p (x ∷ xs) h = elim (p x) as (λ b. Ordered R (cond b (x ∷ filter p xs) (filter p xs))) [ true ↦ (Every-filter (R x) p xs h.0, Ordered-filter p xs h.1) | false ↦ Ordered-filter p xs h.1 ]

  pub Ordered-append : (xs ys : List X) → Ordered R xs → Ordered R ys → Every (λ x. Every (R x) ys) xs → Ordered R (xs ++ ys)
  Ordered-append [] ys h g f = g
  Ordered-append (x ∷ xs) ys h g f = (Every-append (R x) xs ys h.0 f.0, Ordered-append xs ys h.1 g f.1)

  pub Ordered-back : (xs ys : List X) → Ordered R (xs ++ ys) → Ordered R ys
  Ordered-back [] ys h = h
  Ordered-back (x ∷ xs) ys h = Ordered-back xs ys h.1

  -- one more at the end, or between two parts
  pub Ordered-push : (xs : List X) (y : X) → Ordered R xs → Every (λ x. R x y) xs → Ordered R (xs ++ y ∷ [])
  Ordered-push xs y h f = Ordered-append xs (y ∷ []) h (tt, tt) (Every-weaker (λ x. R x y) (λ x. Every (R x) (y ∷ [])) (λ x g. (g, tt)) xs f)

  pub Ordered-insert : (xs ys : List X) (y : X) → Ordered R (xs ++ ys) → Every (λ x. R x y) xs → Every (R y) ys → Ordered R ((xs ++ y ∷ []) ++ ys)
  Ordered-insert [] ys y h f g = (g, h)
  Ordered-insert (x ∷ xs) ys y h f g = (Every-insert (R x) xs ys y h.0 f.0, Ordered-insert xs ys y h.1 f.1 g)

pub numbers-rise : (low count : ℕ) → Ordered (λ (uid later : ℕ). uid < later) (numbers low count)
numbers-rise low zero = tt
numbers-rise low (suc count) = (Every-numbers (λ uid. suc low < uid) (suc low) count (λ uid a b. a), numbers-rise (suc low) count)
