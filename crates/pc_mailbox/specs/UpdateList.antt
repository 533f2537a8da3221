-- The update list of one client: what it hasn't taken, the longest untouched first.
use Rattle.std.specs.Prelude.{◌≡◌, ℕ, ◌^◌, ◌-◌, ◌<◌, Bool, List, map, length, is_some, zero, suc, [], ◌∷◌, ◌++◌}
use Rattle.std.specs.List.{filter, list_all}
use Rattle.lru.specs.LruCache.{LruCache}
use Rattle.pc_account_history.specs.declared.kept.Listed.{Listed}
use Rattle.pc_tables.specs.Table.{total}
use Rattle.pc_account_history.specs.Record.{stamp_at}
use Rattle.pc_tables.specs.Order.{Ordered}
use Rattle.pc_account_history.specs.Step.{without, touched}

-- uids with their stamps, as a list of changes
abbrev pub changes_of : List (ℕ × ℕ) → List Listed
changes_of stamps = map (λ (entry : ℕ × ℕ). record { uid = entry.0; stamp = entry.1 }) stamps

-- a uid is on the list
abbrev pub is_on : List Listed → ℕ → Bool
is_on list uid = is_some (stamp_at uid list)

-- each of these uids is on the list
abbrev pub are_on : List ℕ → List Listed → Bool
are_on uids list = list_all (is_on list) uids

-- the list has no end but that its length is a number of 32 bits
pub record IsList (stamps : LruCache ℕ ℕ) : Type 0 where
  pub short : length stamps.entries < 2 ^ 32
  pub open_end : stamps.cap ≡ 2 ^ 64 - 1

-- uids that rise
abbrev pub Rise : List ℕ → Type 0
Rise uids = Ordered (λ (uid later : ℕ). uid < later) uids

-- how many clients have the uid on their lists
abbrev pub takers_of : ℕ → List (List ℕ × List Listed) → ℕ
takers_of uid lists = length (filter (λ (entry : List ℕ × List Listed). is_on entry.1 uid) lists)

-- how many changes are on all lists
abbrev pub listed_in : List (List ℕ × List Listed) → ℕ
listed_in lists = total (λ (entry : List ℕ × List Listed). length entry.1) lists

-- every client has all these uids on its list
abbrev pub all_list : List ℕ → List (List ℕ × List Listed) → Bool
all_list uids lists = list_all (λ (entry : List ℕ × List Listed). are_on uids entry.1) lists

-- the list with more changes behind it, all of these uids
pub record Grown (uids : List ℕ) (old new : List Listed) : Type 0 where
  pub more : List Listed
  pub grown : new ≡ old ++ more
  pub among : without uids more ≡ []

-- what a function makes of the items from this place on
abbrev pub back_mapped : {X : Type 0} → (X → X) → ℕ → List X → List X
back_mapped f zero xs = map f xs
back_mapped f (suc place) [] = []
back_mapped f (suc place) (x ∷ xs) = x ∷ back_mapped f place xs

-- the list of a client once these uids are touched
abbrev pub touched_entry : ℕ → List ℕ → List ℕ × List Listed → List ℕ × List Listed
touched_entry at uids entry = (entry.0, touched at uids entry.1)
