-- The room of a history is the room of its store.
use Rattle.std.proofs.Common.{◌≡◌, ℕ, ◌+◌, ◌-◌, ◌≤◌, min, true, false, nat_lt, nat_le, ◌&&◌, ◌||◌, not, length, sym, ap, ◌∙◌, arith}
use Rattle.pc_account_history.specs.declared.entry.Entry.{Entry}
use Rattle.pc_account_history.specs.Record.{AccountRecord}
use Rattle.pc_account_history.specs.History.{start, next}
use Rattle.pc_account_spelling.specs.Spelling.{spelled_entry}
use Rattle.pc_account_holdings.specs.State.{State}
use Rattle.pc_account.specs.contracts.machine.AccountMachine.TheImpl.{ghosts as machine}
use Rattle.pc_store.specs.Store.{StoreState, next_number, room_of as room_in, trail_bytes as bytes_in}
use Rattle.pc_store.specs.Commit.{is_full}
use Rattle.pc_session.specs.Desk.{trail_count, trail_bytes, room_of, has_room}
use Rattle.pc_house.specs.Desk.{history_of}
use Rattle.pc_house.proofs.Trails.{next-▸▸, trail_count-▸▸, trail_bytes-▸▸}

module _ {D : Type 0} (base : AccountRecord) (store : StoreState State D Entry) where
  count_is : trail_count (history_of base store) ≡ length store.trail
  count_is = omega (arith, trail_count-▸▸ (start base store.head.first) store.trail)

  pub next_is : next (history_of base store) ≡ next_number store
  next_is = next-▸▸ (start base store.head.first) store.trail

  bytes_are : trail_bytes (history_of base store) ≡ bytes_in machine store.trail
  bytes_are = omega (arith, trail_bytes-▸▸ (start base store.head.first) store.trail)

  pub room_is : room_in machine store ≡ room_of (history_of base store)
  room_is = sym (λ i. record { entries = min (65536 - count_is i) (9223372036854775808 - next_is i); bytes = 16777216 - bytes_are i })

-- an entry has a byte at least
some_bytes : (entry : Entry) → 1 ≤ length (spelled_entry entry)
some_bytes entry = omega arith

-- there is room exactly where no limit would be passed
fits_where : (count bytes size number : ℕ) → 1 ≤ size → (nat_lt 0 (min (65536 - count) (9223372036854775808 - number)) && nat_le size (16777216 - bytes)) ≡ not (nat_le 65536 count || nat_lt 16777216 (bytes + size) || nat_le 9223372036854775808 number)
fits_where count bytes size number some = grind arith

module _ {D : Type 0} (base : AccountRecord) (store : StoreState State D Entry) (entry : Entry) where
  has_room_is : has_room (history_of base store) entry ≡ not (is_full machine store (length (spelled_entry entry)))
  has_room_is =
      (λ i. nat_lt 0 (min (65536 - count_is base store i) (9223372036854775808 - next_is base store i)) && nat_le (length (spelled_entry entry)) (16777216 - bytes_are base store i))
      ∙ fits_where (length store.trail) (bytes_in machine store.trail) (length (spelled_entry entry)) (next_number store) (some_bytes entry)

  pub has_room_where : is_full machine store (length (spelled_entry entry)) ≡ false → has_room (history_of base store) entry ≡ true
  has_room_where full = has_room_is ∙ ap not full

  pub no_room_where : is_full machine store (length (spelled_entry entry)) ≡ true → has_room (history_of base store) entry ≡ false
  no_room_where full = has_room_is ∙ ap not full
