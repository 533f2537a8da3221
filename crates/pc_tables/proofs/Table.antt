-- Look-ups in tables that were changed.
use Rattle.std.proofs.Common.{◌≡◌, ℕ, Bool, true, false, cond, not, ◌||◌, List, [], ◌∷◌, ◌++◌, Option, None, Some, is_some, option_map, refl, sym, ap, true≢false, ◌∙◌, MatchOption, length, suc, length-append, arith, ◌+◌}
use Rattle.std.specs.Cmp.Lexicographic.{bytes_decides}
use Rattle.std.specs.Option.{option_or}
use Rattle.std.specs.Map.{lookup, keys_of, set_value, remove_entry}
use Rattle.std.specs.List.{AllByRecursion, IsDistinct, list_all, AllByRecursion as Every}
use Rattle.std.proofs.lemmas.Cmp.{nat_list_eq_equiv}
use Rattle.std.proofs.lemmas.Bool.{and_parts}
use Rattle.std.specs.Prelude.{⊤}
use Rattle.pc_tables.specs.Table.{same, is_among, other_names, others, map_values}
use Rattle.pc_tables.proofs.Booleans.{cond_same}
use Rattle.pc_tables.proofs.Options.{some-none}

pub same-refl : (name : List ℕ) → same name name ≡ true
same-refl name = (bytes_decides name name).1 refl

pub same-true : (name other : List ℕ) → same name other ≡ true → name ≡ other
same-true name other h = (bytes_decides name other).0 h

pub same-sym : (name other : List ℕ) → same name other ≡ same other name
same-sym name other = nat_list_eq_equiv.symm name other

module _ {X : Type 0} where
  pub lookup-append : (p : List ℕ → Bool) (table more : List (List ℕ × X)) → lookup p (table ++ more) ≡ option_or (lookup p table) (lookup p more)
  lookup-append p [] more = refl
  lookup-append p (entry ∷ table) more = elim (p entry.0) as (λ b. cond b (Some entry.1) (lookup p (table ++ more)) ≡ option_or (cond b (Some entry.1) (lookup p table)) (lookup p more)) [ true ↦ refl | false ↦ lookup-append p table more ]

  others-step : (name asked : List ℕ) (key : List ℕ) (value : X) (rest : List (List ℕ × X)) (found : Option X) (a b : Bool) → same name key ≡ a → same asked key ≡ b → lookup (same asked) rest ≡ cond (same name asked) None found → lookup (same asked) (cond (not a) ((key, value) ∷ rest) rest) ≡ cond (same name asked) None (cond b (Some value) found)
  others-step name asked key value rest found true true h g ih = let e = same-true asked key g in rw ih (rw (e, h))
  others-step name asked key value rest found true false h g ih = ih
  others-step name asked key value rest found false true h g ih = let e = same-true asked key g in rw (e, h, same-refl key)
  others-step name asked key value rest found false false h g ih = rw g ih

  pub lookup-others : (name asked : List ℕ) (table : List (List ℕ × X)) → lookup (same asked) (others name table) ≡ cond (same name asked) None (lookup (same asked) table)
  lookup-others name asked [] = cond_same (same name asked) None
  lookup-others name asked (entry ∷ table) = others-step name asked entry.0 entry.1 (others name table) (lookup (same asked) table) (same name entry.0) (same asked entry.0) refl refl (lookup-others name asked table)

  pub lookup-map_values : {Y : Type 0} (f : X → Y) (p : List ℕ → Bool) (table : List (List ℕ × X)) → lookup p (map_values f table) ≡ option_map f (lookup p table)
  lookup-map_values f p [] = refl
  lookup-map_values f p (entry ∷ table) = elim (p entry.0) as (λ b. cond b (Some (f entry.1)) (lookup p (map_values f table)) ≡ option_map f (cond b (Some entry.1) (lookup p table))) [ true ↦ refl | false ↦ lookup-map_values f p table ]

  set_value-step : (name asked : List ℕ) (key : List ℕ) (old value : X) (table rest : List (List ℕ × X)) (a b : Bool) → same name key ≡ a → same asked key ≡ b → lookup (same asked) rest ≡ cond (same name asked) (option_map (λ _. value) (lookup (same name) table)) (lookup (same asked) table) → lookup (same asked) (cond a ((key, value) ∷ table) ((key, old) ∷ rest)) ≡ cond (same name asked) (option_map (λ _. value) (cond a (Some old) (lookup (same name) table))) (cond b (Some old) (lookup (same asked) table))
  set_value-step name asked key old value table rest true true h g ih = let e = same-true asked key g in rw (g, e, h)
  set_value-step name asked key old value table rest true false h g ih = let e = same-true name key h in let f : same name asked ≡ false = rw (e, same-sym key asked) g in rw (g, f)
  set_value-step name asked key old value table rest false true h g ih = let e = same-true asked key g in rw (g, e, h)
  set_value-step name asked key old value table rest false false h g ih = rw g ih

  pub lookup-set_value : (name asked : List ℕ) (table : List (List ℕ × X)) (value : X) → lookup (same asked) (set_value (same name) table value) ≡ cond (same name asked) (option_map (λ _. value) (lookup (same name) table)) (lookup (same asked) table)
  lookup-set_value name asked [] value = cond_same (same name asked) None
  lookup-set_value name asked (entry ∷ table) value = set_value-step name asked entry.0 entry.1 value table (set_value (same name) table value) (same name entry.0) (same asked entry.0) refl refl (lookup-set_value name asked table value)

  pub keys-others : (name : List ℕ) (table : List (List ℕ × X)) → keys_of (others name table) ≡ other_names name (keys_of table)
  keys-others name [] = refl
  keys-others name (entry ∷ table) = elim (not (same name entry.0)) as (λ b. keys_of (cond b (entry ∷ others name table) (others name table)) ≡ cond b (entry.0 ∷ other_names name (keys_of table)) (other_names name (keys_of table))) [ true ↦ ap (λ names. entry.0 ∷ names) (keys-others name table) | false ↦ keys-others name table ]

  pub keys-append : (table more : List (List ℕ × X)) → keys_of (table ++ more) ≡ keys_of table ++ keys_of more
  keys-append [] more = refl
  keys-append (entry ∷ table) more = ap (λ names. entry.0 ∷ names) (keys-append table more)

  pub keys-map_values : {Y : Type 0} (f : X → Y) (table : List (List ℕ × X)) → keys_of (map_values f table) ≡ keys_of table
  keys-map_values f [] = refl
  keys-map_values f (entry ∷ table) = ap (λ names. entry.0 ∷ names) (keys-map_values f table)

  pub keys-set_value : (p : List ℕ → Bool) (table : List (List ℕ × X)) (value : X) → keys_of (set_value p table value) ≡ keys_of table
  keys-set_value p [] value = refl
  keys-set_value p (entry ∷ table) value = elim (p entry.0) as (λ b. keys_of (cond b ((entry.0, value) ∷ table) (entry ∷ set_value p table value)) ≡ entry.0 ∷ keys_of table) [ true ↦ refl | false ↦ ap (λ names. entry.0 ∷ names) (keys-set_value p table value) ]

  -- a name is among the keys where something stands under it
  pub is_among-keys : (name : List ℕ) (table : List (List ℕ × X)) → is_among name (keys_of table) ≡ is_some (lookup (same name) table)
  is_among-keys name [] = refl
  is_among-keys name (entry ∷ table) = elim (same name entry.0) as (λ b. (b || is_among name (keys_of table)) ≡ is_some (cond b (Some entry.1) (lookup (same name) table))) [ true ↦ refl | false ↦ is_among-keys name table ]

  pub map_values-append : {Y : Type 0} (f : X → Y) (table more : List (List ℕ × X)) → map_values f (table ++ more) ≡ map_values f table ++ map_values f more
  map_values-append f [] more = refl
  map_values-append f (entry ∷ table) more = ap (λ entries. (entry.0, f entry.1) ∷ entries) (map_values-append f table more)

  pub map_values-others : {Y : Type 0} (f : X → Y) (name : List ℕ) (table : List (List ℕ × X)) → map_values f (others name table) ≡ others name (map_values f table)
  map_values-others f name [] = refl
  map_values-others f name (entry ∷ table) = elim (not (same name entry.0)) as (λ b. map_values f (cond b (entry ∷ others name table) (others name table)) ≡ cond b ((entry.0, f entry.1) ∷ others name (map_values f table)) (others name (map_values f table))) [ true ↦ ap (λ entries. (entry.0, f entry.1) ∷ entries) (map_values-others f name table) | false ↦ map_values-others f name table ]

  -- a value that all names have is set for nothing
  pub set_value-constant : {Y : Type 0} (p : List ℕ → Bool) (value : Y) (table : List (List ℕ × X)) → set_value p (map_values (λ _. value) table) value ≡ map_values (λ _. value) table
  set_value-constant p value [] = refl
  set_value-constant p value (entry ∷ table) = elim (p entry.0) as (λ b. cond b ((entry.0, value) ∷ map_values (λ _. value) table) ((entry.0, value) ∷ set_value p (map_values (λ _. value) table) value) ≡ (entry.0, value) ∷ map_values (λ _. value) table) [ true ↦ refl | false ↦ ap (λ entries. (entry.0, value) ∷ entries) (set_value-constant p value table) ]

  pub lookup-absent : (name : List ℕ) (table : List (List ℕ × X)) → AllByRecursion (λ (other : List ℕ). same name other ≡ false) (keys_of table) → lookup (same name) table ≡ None
  lookup-absent name [] h = refl
  lookup-absent name (entry ∷ table) h = rw h.0 (lookup-absent name table h.1)

  pub others-absent : (name : List ℕ) (table : List (List ℕ × X)) → lookup (same name) table ≡ None → others name table ≡ table
  others-absent name [] h = refl
  others-absent name (entry ∷ table) h = elim (same name entry.0) as (λ b. ◌≡◌ {A = Option X} (cond b (Some entry.1) (lookup (same name) table)) None → cond (not b) (entry ∷ others name table) (others name table) ≡ entry ∷ table) [
    | true ↦ λ g. absurd (some-none entry.1 g)
    | false ↦ λ g. ap (λ rest. entry ∷ rest) (others-absent name table g)
  ] h

  pub remove_entry-others : (name : List ℕ) (table : List (List ℕ × X)) → IsDistinct same (keys_of table) → remove_entry (same name) table ≡ others name table
  unfolding IsDistinct
  remove_entry-others name [] h = refl
  remove_entry-others name (entry ∷ table) h = elim (same name entry.0) as (λ b. same name entry.0 ≡ b → cond b table (entry ∷ remove_entry (same name) table) ≡ cond (not b) (entry ∷ others name table) (others name table)) [
    | true ↦ λ e. sym (others-absent name table (lookup-absent name table (rw (same-true name entry.0 e) h.0)))
    | false ↦ λ e. ap (λ rest. entry ∷ rest) (remove_entry-others name table h.1)
  ] refl

pub is_among-append : (name : List ℕ) (xs ys : List (List ℕ)) → is_among name (xs ++ ys) ≡ (is_among name xs || is_among name ys)
is_among-append name [] ys = refl
is_among-append name (x ∷ xs) ys = elim (same name x) as (λ b. (b || is_among name (xs ++ ys)) ≡ ((b || is_among name xs) || is_among name ys)) [ true ↦ refl | false ↦ is_among-append name xs ys ]

pub list_all-among : (p : List ℕ → Bool) (name : List ℕ) (names : List (List ℕ)) → list_all p names ≡ true → is_among name names ≡ true → p name ≡ true
list_all-among p name [] h g = absurd (true≢false (sym g))
list_all-among p name (x ∷ xs) h g =
    let parts = and_parts (p x) (list_all p xs) h in
    elim (same name x) as (λ b. same name x ≡ b → (b || is_among name xs) ≡ true → p name ≡ true) [
      | true ↦ λ e f. ap p (same-true name x e) ∙ parts.0
      | false ↦ λ e f. list_all-among p name xs parts.1 f
    ] refl g

pub Every-found : {X : Type 0} (P : X → Type 0) (p : List ℕ → Bool) (table : List (List ℕ × X)) → Every (λ (entry : List ℕ × X). P entry.1) table → MatchOption (lookup p table) ⊤ P
Every-found P p [] h = tt
Every-found P p (entry ∷ table) h = elim (p entry.0) as (λ b. MatchOption (cond b (Some entry.1) (lookup p table)) ⊤ P) [ true ↦ h.0 | false ↦ Every-found P p table h.1 ]

-- ---- a table where nothing stands under a name

module _ {X : Type 0} where
  abbrev pub missing : Option X
  missing = None

  unset-step : (b : Bool) (entry : List ℕ × X) (table rest : List (List ℕ × X)) (found : Option X) (new : X) → (missing ≡ found → rest ≡ table) → missing ≡ cond b (Some entry.1) found → cond b ((entry.0, new) ∷ table) (entry ∷ rest) ≡ entry ∷ table
  unset-step true entry table rest found new h e = absurd (some-none entry.1 (sym e))
  unset-step false entry table rest found new h e = ap (λ (l : List (List ℕ × X)). entry ∷ l) (h e)

  -- nothing is set where nothing is found
  pub unset : (name : List ℕ) (table : List (List ℕ × X)) (new : X) → missing ≡ lookup (same name) table → set_value (same name) table new ≡ table
  unset name [] new e = refl
  unset name (entry ∷ table) new e = unset-step (same name entry.0) entry table (set_value (same name) table new) (lookup (same name) table) new (unset name table new) e

-- ---- how many there are

pub length-keys : {X : Type 0} (table : List (List ℕ × X)) → length (keys_of table) ≡ length table
length-keys [] = refl
length-keys (entry ∷ table) = ap suc (length-keys table)

pub keys-push : {X : Type 0} (table : List (List ℕ × X)) (name : List ℕ) (x : X) → keys_of (table ++ (name, x) ∷ []) ≡ keys_of table ++ name ∷ []
keys-push table name x = keys-append table ((name, x) ∷ [])

-- one more in a table that hasn't the name
pub length-pushed : {X : Type 0} (name : List ℕ) (table : List (List ℕ × X)) (value : X) → lookup (same name) table ≡ None → length (others name table ++ (name, value) ∷ []) ≡ suc (length table)
length-pushed name table value absent = length-append (others name table) ((name, value) ∷ []) ∙ ap (λ t. length t + 1) (others-absent name table absent) ∙ omega arith
