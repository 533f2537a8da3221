-- Reading item after item, where each depends on those before it.
use Rattle.std.proofs.Common.{◌≡◌, ℕ, zero, suc, ◌+◌, ◌-◌, ◌<◌, ◌≤◌, List, [], ◌∷◌, ◌++◌, Result, Ok, Err, sym, ap, subst, arith}
use Rattle.std.specs.Result.{IsErr, IsErrAnd}
use Rattle.pc_fields.specs.Format.{Format, bind, Reads}
use Rattle.pc_fields.specs.declared.cursor.Halt.{Halt}
use Rattle.pc_fields.proofs.Follows.{Follows, follows_first, follows_part, follows_halt, follows_last}
use Rattle.pc_office_spelling.specs.RecordFormat.{items_from}

module _ {X : Type 0} (item : ℕ → List X → Format X) where
  -- the items behind one
  abbrev behind : ℕ → List X → X → Format (List X)
  behind count before x = items_from item count (before ++ x ∷ [])

  pub items_first : (count : ℕ) (start : List ℕ) → Follows (items_from item count []) (items_from item (count - 0) []) start start
  items_first count start = subst (λ (n : ℕ). Follows (items_from item count []) (items_from item n []) start start) (let same : count ≡ count - 0 = omega arith in same) (follows_first (items_from item count []) start)

  module _ (count taken : ℕ) (before : List X) (whole : Format (List X)) (start now : List ℕ) where
    pub items_last : count ≤ taken → Follows whole (items_from item (count - taken) before) start now → Reads whole start now (Ok before)
    items_last le follows = follows_last whole (items_from item (count - taken) before) start now before follows (ap (λ (n : ℕ). items_from item n before) (let none : count - taken ≡ zero = omega (arith, le) in none))

    module _ (lt : taken < count) (follows : Follows whole (items_from item (count - taken) before) start now) where
      step : items_from item (count - taken) before ≡ bind (item (count - (taken + 1)) before) (behind (count - (taken + 1)) before)
      step = ap (λ (n : ℕ). items_from item n before) (let one-left : count - taken ≡ suc (count - (taken + 1)) = omega (arith, lt) in one-left)

      pub items_more : (mid : List ℕ) (x : X) → Reads (item (count - (taken + 1)) before) now mid (Ok x) → Follows whole (items_from item (count - (taken + 1)) (before ++ x ∷ [])) start mid
      items_more mid x reads = follows_part whole (items_from item (count - taken) before) (item (count - (taken + 1)) before) (behind (count - (taken + 1)) before) start now mid x follows step reads

      pub items_halt : (new : List ℕ) (halt : Halt) → Reads (item (count - (taken + 1)) before) now new (Err halt) → Reads whole start new (Err halt)
      items_halt new halt none = follows_halt whole (items_from item (count - taken) before) (item (count - (taken + 1)) before) (behind (count - (taken + 1)) before) start now new halt follows step none

-- an error is the one that was made
pub as_err : {Y : Type 0} (result : Result Y Halt) (halt : Halt) (Q : Result Y Halt → Type 0) → IsErr result × IsErrAnd result (λ made. made ≡ halt) → Q (Err halt) → Q result
as_err (Ok y) halt Q same q = absurd (let is = same.0 in cc)
as_err (Err other) halt Q same q = subst (λ h. Q (Err h)) (sym same.1) q
