-- Uids and names that come once.
use Rattle.std.proofs.Common.{◌≡◌, ℕ, ◌-◌, ◌<◌, ◌≤◌, ◌==◌, Bool, true, false, not, ◌&&◌, ◌||◌, nat_lt, List, [], ◌∷◌, map, length, take, drop, get_or, refl, sym, ◌∙◌, ap, arith, ne_eqb}
use Rattle.std.specs.List.{list_any}
use Rattle.std.proofs.lemmas.Bool.{and_parts, ltb-true}
use Rattle.std.proofs.lemmas.List.{take_rest}
use Rattle.pc_message.specs.declared.descriptor.Change.{Change}
use Rattle.pc_tables.specs.Order.{rises_from}
use Rattle.pc_tables.specs.Table.{same, is_among}
use Rattle.pc_tables.proofs.Table.{same-sym}
use Rattle.pc_cache_history.specs.Entry.{uid_of}
use Rattle.pc_cache_history.specs.Allowed.{are_different}

-- ---- numbers that rise come once

not-among : (uid low : ℕ) (uids : List ℕ) → uid ≤ low → rises_from low uids ≡ true → list_any (λ other. uid == other) uids ≡ false
not-among uid low [] le h = refl
not-among uid low (first ∷ uids) le h =
    let parts = and_parts (nat_lt low first) (rises_from first uids) h in
    let above : low < first = ltb-true low first parts.0 in
    rw (ne_eqb uid first (λ e. absurd (omega (arith, above, le, e)))) (not-among uid first uids (omega (arith, above, le)) parts.1)

pub rise-differ : (low : ℕ) (uids : List ℕ) → rises_from low uids ≡ true → are_different ◌==◌ uids ≡ true
rise-differ low [] h = refl
rise-differ low (first ∷ uids) h =
    let parts = and_parts (nat_lt low first) (rises_from first uids) h in
    rw (not-among first first uids (omega arith) parts.1) (rise-differ first uids parts.1)

-- ---- one after the other is looked for among those behind it

-- what is behind the first
abbrev pub behind : {X : Type 0} → List X → List X
behind items = take (length items - 1) (drop 1 items)

drop-one : {X : Type 0} (item : X) (items : List X) → drop 1 (item ∷ items) ≡ items
drop-one item [] = refl
drop-one item (other ∷ items) = refl

uids-named : (uid : ℕ) (changes : List Change) → list_any (λ (change : Change). uid == uid_of change) changes ≡ list_any (λ other. uid == other) (map uid_of changes)
uids-named uid [] = refl
uids-named uid (change ∷ changes) = ap (λ b. uid == uid_of change || b) (uids-named uid changes)

pub uids-step : (change : Change) (changes : List Change) (found : Bool) → 1 ≤ length changes → change ≡ get_or changes 0 change → found ≡ list_any (λ (other : Change). uid_of change == uid_of other) (behind changes) → are_different ◌==◌ (map uid_of changes) ≡ (not found && are_different ◌==◌ (map uid_of (behind changes)))
uids-step change [] found some first e = absurd (omega arith)
uids-step change (one ∷ changes) found some first e =
    let others : behind (one ∷ changes) ≡ changes = take_rest (one ∷ changes) 1 ∙ drop-one one changes in
    let among : found ≡ list_any (λ other. uid_of one == other) (map uid_of changes) = e ∙ (λ i. list_any (λ (other : Change). uid_of (first i) == uid_of other) (others i)) ∙ uids-named (uid_of one) changes in
    sym (λ i. not (among i) && are_different ◌==◌ (map uid_of (others i)))

among-turned : (name : List ℕ) (names : List (List ℕ)) → list_any (λ other. same other name) names ≡ is_among name names
among-turned name [] = refl
among-turned name (other ∷ names) = λ i. same-sym other name i || among-turned name names i

pub names-step : (name : List ℕ) (names : List (List ℕ)) (found : Bool) → 1 ≤ length names → name ≡ get_or names 0 name → found ≡ list_any (λ other. same other name) (behind names) → are_different same names ≡ (not found && are_different same (behind names))
names-step name [] found some first e = absurd (omega arith)
names-step name (one ∷ names) found some first e =
    let others : behind (one ∷ names) ≡ names = take_rest (one ∷ names) 1 ∙ drop-one one names in
    let among : found ≡ is_among one names = e ∙ among-turned name (behind (one ∷ names)) ∙ (λ i. is_among (first i) (others i)) in
    sym (λ i. not (among i) && are_different same (others i))
