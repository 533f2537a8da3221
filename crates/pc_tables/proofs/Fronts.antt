-- Lists and tables that are changed at one place after the other.
use Rattle.std.proofs.Common.{◌≡◌, ℕ, zero, suc, ◌+◌, ◌<◌, List, [], ◌∷◌, ◌++◌, map, length, take, drop, slice_get, slice_index_or, slice_set, None, Some, refl, sym, ap, ◌∙◌, arith, append-nil}
use Rattle.std.specs.Map.{keys_of, values_of}
use Rattle.std.proofs.lemmas.List.{take_all, drop_all}
use Rattle.indexmap.specs.IndexMap.{set_value_at}
use Rattle.pc_tables.specs.Table.{total}
use Rattle.pc_tables.proofs.Options.{some-none, some-same}
use Rattle.pc_tables.specs.Fronts.{front_mapped}

module _ {X : Type 0} where
  -- something stands at each place
  pub item-at : (place : ℕ) (items : List X) → place < length items → (x : X) × (slice_get items place ≡ Some x)
  item-at place [] within = absurd (omega arith)
  item-at zero (item ∷ items) within = (item, refl)
  item-at (suc place) (item ∷ items) within = item-at place items (omega arith)

  -- the item of a place stands there
  pub found-at : (items : List X) (place : ℕ) (item : X) → place < length items → item ≡ slice_index_or items place item → slice_get items place ≡ Some item
  found-at [] place item within e = absurd (omega arith)
  found-at (first ∷ items) zero item within e = ap Some (sym e)
  found-at (first ∷ items) (suc place) item within e = found-at items place item (omega arith) e

  pub none-at : (place : ℕ) (items : List X) → place < length items → slice_get items place ≡ None → ⊥
  none-at place items within none = let found = item-at place items within in some-none found.0 (sym found.1 ∙ none)

module _ {X : Type 0} (change : X → X) where
  -- the front grows by an item that the change leaves as it is
  pub front-kept : (place : ℕ) (all : List X) (item : X) → slice_get (front_mapped change place all) place ≡ Some item → change item ≡ item → front_mapped change place all ≡ front_mapped change (suc place) all
  front-kept zero [] item e h = refl
  front-kept (suc place) [] item e h = refl
  front-kept zero (first ∷ all) item e h = let is = some-same first item e in ap (λ (x : X). x ∷ all) (is ∙ sym h ∙ ap change (sym is))
  front-kept (suc place) (first ∷ all) item e h = ap (λ (rest : List X). change first ∷ rest) (front-kept place all item e h)

  -- the front grows by an item that is changed in its place
  pub front-put : (place : ℕ) (all : List X) (default new : X) → place < length all → new ≡ change (slice_index_or (front_mapped change place all) place default) → slice_set (front_mapped change place all) place new ≡ front_mapped change (suc place) all
  front-put place [] default new within e = absurd (omega arith)
  front-put zero (first ∷ all) default new within e = ap (λ (item : X). item ∷ all) e
  front-put (suc place) (first ∷ all) default new within e = ap (λ (rest : List X). change first ∷ rest) (front-put place all default new (omega arith) e)

  -- at last the front is all
  pub front-all : (all : List X) → front_mapped change (length all) all ≡ map change all
  front-all [] = refl
  front-all (first ∷ all) = ap (λ (rest : List X). change first ∷ rest) (front-all all)

-- a list that was changed in each place stands where it stood
pub written-back : {X : Type 0} (count : ℕ) (changed items : List X) → length items ≡ count → length changed ≡ length items → take count (changed ++ drop (length changed) items) ≡ changed
written-back count changed items whole same =
    ap (λ rest. take count (changed ++ rest)) (drop_all (length changed) items (omega arith)) ∙ ap (take count) (append-nil changed) ∙ take_all count changed (omega arith)

module _ {V : Type 0} where
  -- an entry is the name and the value of its place
  pub entry-at : (table : List (List ℕ × V)) (place : ℕ) (name : List ℕ) (value : V) → slice_get (keys_of table) place ≡ Some name → slice_get (values_of table) place ≡ Some value → slice_get table place ≡ Some (name, value)
  entry-at [] place name value e f = absurd (some-none name (sym e))
  entry-at (entry ∷ table) zero name value e f = let key = some-same entry.0 name e in let held = some-same entry.1 value f in (λ i. Some (key i, held i))
  entry-at (entry ∷ table) (suc place) name value e f = entry-at table place name value e f

  -- an entry has the name of its place
  pub key-at : (table : List (List ℕ × V)) (place : ℕ) (entry : List ℕ × V) (name : List ℕ) → slice_get table place ≡ Some entry → slice_get (keys_of table) place ≡ Some name → entry.0 ≡ name
  key-at [] place entry name e f = absurd (some-none entry (sym e))
  key-at (first ∷ table) zero entry name e f = ap (λ (one : List ℕ × V). one.0) (sym (some-same first entry e)) ∙ some-same first.0 name f
  key-at (first ∷ table) (suc place) entry name e f = key-at table place entry name e f

  -- an entry has the value of its place
  pub value-at : (table : List (List ℕ × V)) (place : ℕ) (entry : List ℕ × V) (value : V) → slice_get table place ≡ Some entry → slice_get (values_of table) place ≡ Some value → entry.1 ≡ value
  value-at [] place entry value e f = absurd (some-none entry (sym e))
  value-at (first ∷ table) zero entry value e f = ap (λ (one : List ℕ × V). one.1) (sym (some-same first entry e)) ∙ some-same first.1 value f
  value-at (first ∷ table) (suc place) entry value e f = value-at table place entry value e f

  -- there is an entry where there is a value
  pub within-values : (table : List (List ℕ × V)) → length (values_of table) ≡ length table
  within-values [] = refl
  within-values (entry ∷ table) = ap suc (within-values table)

  -- the names stay
  pub keys-set-at : (table : List (List ℕ × V)) (place : ℕ) (value : V) → keys_of (set_value_at table place value) ≡ keys_of table
  keys-set-at [] place value = refl
  keys-set-at (entry ∷ table) zero value = refl
  keys-set-at (entry ∷ table) (suc place) value = ap (λ keys. entry.0 ∷ keys) (keys-set-at table place value)

  -- what stands there already changes nothing
  pub set-at-same : (table : List (List ℕ × V)) (place : ℕ) (value : V) → slice_get (values_of table) place ≡ Some value → set_value_at table place value ≡ table
  set-at-same [] place value e = refl
  set-at-same (entry ∷ table) zero value e = let is = some-same entry.1 value e in ap (λ (held : V). (entry.0, held) ∷ table) (sym is)
  set-at-same (entry ∷ table) (suc place) value e = ap (λ (rest : List (List ℕ × V)). entry ∷ rest) (set-at-same table place value e)

  -- the front grows by an entry whose value is set to what the change makes of it
  pub front-set : (change : List ℕ × V → List ℕ × V) (place : ℕ) (all : List (List ℕ × V)) (entry : List ℕ × V) (value : V) → slice_get (front_mapped change place all) place ≡ Some entry → change entry ≡ (entry.0, value) → set_value_at (front_mapped change place all) place value ≡ front_mapped change (suc place) all
  front-set change zero [] entry value e h = refl
  front-set change (suc place) [] entry value e h = refl
  front-set change zero (first ∷ all) entry value e h = let is = some-same first entry e in ap (λ (x : List ℕ × V). x ∷ all) (ap (λ (x : List ℕ × V). (x.0, value)) is ∙ sym h ∙ ap change (sym is))
  front-set change (suc place) (first ∷ all) entry value e h = ap (λ (rest : List (List ℕ × V)). change first ∷ rest) (front-set change place all entry value e h)

  -- one value in place of another in a sum
  pub total-set-at : (f : V → ℕ) (table : List (List ℕ × V)) (place : ℕ) (old new : V) → slice_get (values_of table) place ≡ Some old → total (λ (entry : List ℕ × V). f entry.1) (set_value_at table place new) + f old ≡ total (λ (entry : List ℕ × V). f entry.1) table + f new
  total-set-at f [] place old new e = absurd (some-none old (sym e))
  total-set-at f (entry ∷ table) zero old new e = let is = ap f (some-same entry.1 old e) in omega (arith, is)
  total-set-at f (entry ∷ table) (suc place) old new e = let rest = total-set-at f table place old new e in omega (arith, rest)
