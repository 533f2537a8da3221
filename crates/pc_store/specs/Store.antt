-- What a store holds, and what a crash leaves of it.
use Rattle.std.specs.Prelude.{◌≡◌, ℕ, ◌+◌, ◌-◌, ◌^◌, ◌<◌, min, Bool, false, List, [], ◌∷◌, ◌++◌, length, Option, None, Some}
use Rattle.pc_base.specs.declared.machine.Machine.{Ghosts}
use Rattle.pc_base.specs.declared.room.Room.{Room}
use Rattle.pc_disk.specs.Images.{Images, other_of}
use Rattle.pc_disk.specs.Outcomes.{Only}
use Rattle.pc_log.specs.Area.{Head, IsHead, IsTrail, bytes_of}
use Rattle.pc_log.specs.Logs.{LogState, Stands}
use Rattle.pc_store.specs.History.{IsHistory, written_of}
use Rattle.pc_store.specs.Current.{IsOlder, OpensIn}

-- the disk, the number of the area that counts, the head with the base, the entries since, the state after
-- them, whether the store is broken, the entry in doubt, and the head in doubt: one that the other area may
-- have, whole and with no entries
pub record StoreState (M D E : Type 0) : Type 0 where
  pub disk : D
  pub area : ℕ
  pub head : Head
  pub trail : List E
  pub state : M
  pub broken : Bool
  pub doubt : Option E
  pub renewal : Option Head

-- the number of the next entry
abbrev pub next_number : {M D E : Type 0} → StoreState M D E → ℕ
next_number store = store.head.first + length store.trail

-- how many bytes the entries have as they are written
abbrev pub trail_bytes : {M E : Type 0} → Ghosts M E → List E → ℕ
trail_bytes machine trail = bytes_of (written_of machine trail)

-- how much the store still takes
abbrev pub room_of : {M D E : Type 0} → Ghosts M E → StoreState M D E → Room
room_of machine store = record { entries = min (65536 - length store.trail) (2 ^ 63 - next_number store); bytes = 16777216 - trail_bytes machine store.trail }

-- the images hold the history, or the history with the entry in doubt, or the head in doubt
pub data MayOpen {M E : Type 0} (machine : Ghosts M E) (area : ℕ) (head : Head) (trail : List E) (doubt : Option E) (renewal : Option Head) (images : Images) : Type 0 where
  as_it_was : OpensIn machine area head trail images → MayOpen machine area head trail doubt renewal images
  with_entry : (entry : E) → doubt ≡ Some entry → OpensIn machine area head (trail ++ entry ∷ []) images → MayOpen machine area head trail doubt renewal images
  renewed : (other : Head) → renewal ≡ Some other → OpensIn machine (1 - area) other [] images → MayOpen machine area head trail doubt renewal images

abbrev pub OpensInDoubt : {M D E : Type 0} → Ghosts M E → StoreState M D E → Images → Type 0
OpensInDoubt machine store images = MayOpen machine store.area store.head store.trail store.doubt store.renewal images

-- the history is acknowledged: a crash leaves what is read, and that holds it
pub record Acknowledges {M D E : Type 0} (machine : Ghosts M E) (seen : D → Images) (may_leave : D → Images → Type 0) (store : StoreState M D E) : Type 0 where
  pub settled : Only (seen store.disk) (may_leave store.disk)
  pub opens : OpensIn machine store.area store.head store.trail (seen store.disk)

-- what is true of each store, with its log and the bytes of its entries
pub record IsSound {M D E : Type 0} (machine : Ghosts M E) (tells : Type 0) (seen : D → Images) (may_leave : D → Images → Type 0) (store : StoreState M D E) (log : LogState) (bytes : ℕ) : Type 0 where
  pub right : IsHead store.head
  pub of_kind : store.head.kind ≡ machine.KIND
  pub trail : IsTrail (written_of machine store.trail)
  pub count : bytes ≡ trail_bytes machine store.trail
  pub in_area : log.area ≡ store.area
  pub within : store.area < 2
  pub at : M
  pub history : IsHistory machine store.head store.trail at
  pub state : store.broken ≡ false → store.state ≡ at
  pub no_doubt : store.broken ≡ false → store.doubt ≡ None
  pub no_renewal : store.broken ≡ false → store.renewal ≡ None
  pub stands : tells → store.broken ≡ false → Stands log store.head (written_of machine store.trail) (seen store.disk) (may_leave store.disk)
  pub settled : tells → store.broken ≡ false → Only (seen store.disk) (may_leave store.disk)
  pub older : tells → store.broken ≡ false → IsOlder machine.KIND store.head.generation (other_of store.area (seen store.disk))
  pub leaves : tells → (left : Images) → may_leave store.disk left → OpensInDoubt machine store left

-- the history is as it was, or has the entry that was in doubt, or the head that was in doubt
pub data SameHistory {M D E : Type 0} (old new : StoreState M D E) : Type 0 where
  as_it_was : new.area ≡ old.area → new.head ≡ old.head → new.trail ≡ old.trail → SameHistory old new
  with_entry : (entry : E) → old.doubt ≡ Some entry → new.area ≡ old.area → new.head ≡ old.head → new.trail ≡ old.trail ++ entry ∷ [] → SameHistory old new
  renewed : (head : Head) → old.renewal ≡ Some head → new.area ≡ 1 - old.area → new.head ≡ head → new.trail ≡ [] → SameHistory old new
