-- Sets of names.
use Rattle.std.proofs.Common.{◌≡◌, ℕ, Bool, true, false, cond, ◌||◌, List, [], ◌∷◌, ◌++◌, refl, sym, ap, ◌∙◌}
use Rattle.std.proofs.lemmas.List.Folds.{list_any-append}
use Rattle.indexmap.specs.IndexSet.{insert_key}
use Rattle.pc_tables.specs.Table.{same, is_among}
use Rattle.pc_tables.proofs.Table.{same-true}
use Rattle.pc_cache_history.specs.Step.{under}

or-false : (b : Bool) → (b || false) ≡ b
or-false true = refl
or-false false = refl

or-assoc : (a b c : Bool) → ((a || b) || c) ≡ (a || (b || c))
or-assoc true b c = refl
or-assoc false b c = refl

among-insert : (name new : List ℕ) (names : List (List ℕ)) → is_among name (insert_key same names new) ≡ (is_among name names || same name new)
among-insert name new names = elim (is_among new names) as (λ b. is_among new names ≡ b → is_among name (cond b names (names ++ new ∷ [])) ≡ (is_among name names || same name new)) [
  | true ↦ λ e. elim (same name new) as (λ b. same name new ≡ b → is_among name names ≡ (is_among name names || b)) [
    | true ↦ λ g. let there : is_among name names ≡ true = ap (λ n. is_among n names) (same-true name new g) ∙ e in there ∙ sym (ap (λ b. b || true) there)
    | false ↦ λ g. sym (or-false (is_among name names))
  ] refl
  | false ↦ λ e. list_any-append (same name) names (new ∷ []) ∙ ap (λ b. is_among name names || b) (or-false (same name new))
] refl

-- a name more in the set, and one fewer still to come
pub set-step : (name new : List ℕ) (names rest : List (List ℕ)) → (is_among name (insert_key same names new) || is_among name rest) ≡ (is_among name names || is_among name (new ∷ rest))
set-step name new names rest = ap (λ b. b || is_among name rest) (among-insert name new names) ∙ or-assoc (is_among name names) (same name new) (is_among name rest)

-- what stands under the same names
pub under-same : {X : Type 0} (names others : List (List ℕ)) (table : List (List ℕ × X)) → ((name : List ℕ) → is_among name names ≡ is_among name others) → under names table ≡ under others table
under-same names others [] h = refl
under-same names others (entry ∷ table) h = λ i. cond (h entry.0 i) (entry ∷ under-same names others table h i) (under-same names others table h i)
