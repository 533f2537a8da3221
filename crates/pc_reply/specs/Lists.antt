-- Lists as lines, and where lines stop being a list.
use Rattle.std.specs.Prelude.{◌≡◌, ℕ, ◌+◌, ◌<◌, ◌≤◌, ⊤, Bool, true, false, not, ◌&&◌, IsTrue, All, List, [], ◌∷◌, ◌++◌, length, map, take, Result, Ok, Err}
use Rattle.std.specs.List.{flat_map, list_any}
use Rattle.pc_reply.specs.declared.items.ItemFault.{ItemFault}
use Rattle.pc_reply.specs.declared.items.ItemFault.TheVariants.{Bad, Memory}

-- no item of a list is the same as a later one
abbrev pub are_apart : {K : Type 0} → (K → K → Bool) → List K → Bool
are_apart same [] = true
are_apart same (item ∷ items) = not (list_any (same item) items) && are_apart same items

-- these are the lines of the items, one item after another; each item fits, and no two have the same key
pub record AreItems {T K : Type 0} (lines_of : T → List (List ℕ)) (Fits : T → Type 0) (same : K → K → Bool) (key_of : T → K) (items : List T) (lines : List (List ℕ)) : Type 0 where
  pub spelled : lines ≡ flat_map lines_of items
  pub fit : All Fits items
  pub apart : IsTrue (are_apart same (map key_of items))

-- some list begins with these lines
abbrev pub Begins : {T : Type 0} → (T → List (List ℕ) → Type 0) → List (List ℕ) → Type 0
Begins {T} AreLinesOf lines = (items : T) × ((more : List (List ℕ)) × AreLinesOf items (lines ++ more))

-- the first line at fault: some list begins with those before it, and none with it too; where it's the number of
-- lines, they are the front of a list but no list
pub record IsFirstFault {T : Type 0} (AreLinesOf : T → List (List ℕ) → Type 0) (lines : List (List ℕ)) (line : ℕ) : Type 0 where
  pub within : line ≤ length lines
  pub before : Begins AreLinesOf (take line lines)
  pub here : line < length lines → ¬ Begins AreLinesOf (take (line + 1) lines)
  pub end : line ≡ length lines → (items : T) → ¬ AreLinesOf items lines

-- what reading lines as a list gives: the list or the first line at fault; want of memory is free
abbrev pub ReadsItems : {T : Type 0} → (T → List (List ℕ) → Type 0) → List (List ℕ) → Result T ItemFault → Type 0
ReadsItems AreLinesOf lines (Ok items) = AreLinesOf items lines
ReadsItems AreLinesOf lines (Err (Bad line)) = IsFirstFault AreLinesOf lines line
ReadsItems AreLinesOf lines (Err Memory) = ⊤

-- the item fits and its key isn't known
abbrev pub IsNew : {T K : Type 0} → (T → Type 0) → (T → K) → (K → Bool) → T → Type 0
IsNew Fits key_of known item = Fits item × (known (key_of item) ≡ false)

-- the first line at which no new item goes on, counted from where it is to begin
pub record IsBadItem {T K : Type 0} (lines_of : T → List (List ℕ)) (Fits : T → Type 0) (key_of : T → K) (known : K → Bool) (lines : List (List ℕ)) (line : ℕ) : Type 0 where
  pub within : line ≤ length lines
  pub some : 0 < length lines
  -- it's the first, or some new item begins with those before it
  pub before : 0 < line → (item : T) × ((more : List (List ℕ)) × (IsNew Fits key_of known item × (lines_of item ≡ take line lines ++ more)))
  pub here : line < length lines → (item : T) (more other : List (List ℕ)) → IsNew Fits key_of known item → ¬ (lines_of item ++ more ≡ take (line + 1) lines ++ other)
  pub end : line ≡ length lines → (item : T) (more : List (List ℕ)) → IsNew Fits key_of known item → ¬ (lines_of item ++ more ≡ lines)
