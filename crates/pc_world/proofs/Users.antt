-- The user of a name, by the place in the list.
use Rattle.std.proofs.Common.{◌≡◌, ℕ, suc, ◌+◌, ◌<◌, ◌≤◌, nat_lt, Bool, true, false, not, cond, List, [], ◌∷◌, ◌++◌, length, get_or, Option, Some, None, is_some, IsTrue, if◌then◌else◌, refl, sym, ap, ◌∙◌, arith}
use Rattle.std.proofs.Math.ListN.{set}
use Rattle.std.specs.List.{position_or_len}
use Rattle.std.proofs.lemmas.Bool.{false≢true, ltb-false}
use borrow.Author.Tests.{ltb-true}
use Rattle.pc_base.specs.declared.refusal.LimitWord.TheVariants.{Users}
use Rattle.pc_base.specs.declared.refusal.Refusal.{Refusal}
use Rattle.pc_base.specs.declared.refusal.Refusal.TheVariants.{AddressTaken, LimitReached}
use Rattle.pc_tables.specs.Table.{same}
use Rattle.pc_account_history.specs.declared.entry.Entry.{Entry}
use Rattle.pc_tables.proofs.Options.{some-none, some-same}
use Rattle.pc_world.specs.Account.{Account}
use Rattle.pc_world.specs.Steps.{enrol_refusal, entries_of, most_users, place_in, with_entries}

abbrev no_place : Option ℕ
no_place = None

abbrev no_refusal : Option Refusal
no_refusal = None

module _ (name : List ℕ) where
  abbrev place : List Account → ℕ
  place accounts = position_or_len (λ (account : Account). same account.user name) accounts

  found-place : (b : Bool) (n index : ℕ) → Some index ≡ cond b (Some n) None → (b ≡ true) × (index ≡ n)
  found-place true n index h = (refl, some-same index n h)
  found-place false n index h = absurd (some-none index h)

  entries-step : (b : Bool) (a : Account) (accounts : List Account) (found : Option (List Entry)) (d : Account) (n : ℕ) → (n < length accounts → found ≡ Some (get_or accounts n d).entries) → cond (not b) (1 + n) 0 < length (a ∷ accounts) → cond b (Some a.entries) found ≡ Some (get_or (a ∷ accounts) (cond (not b) (1 + n) 0) d).entries
  entries-step true a accounts found d n h lt = refl
  entries-step false a accounts found d n h lt = let one : 1 + n ≡ suc n = omega arith in rw one (h (omega (arith, lt)))

  entries-placed : (accounts : List Account) (d : Account) → place accounts < length accounts → entries_of accounts name ≡ Some (get_or accounts (place accounts) d).entries
  entries-placed [] d lt = absurd (omega (arith, lt))
  entries-placed (a ∷ accounts) d lt = entries-step (same a.user name) a accounts (entries_of accounts name) d (place accounts) (entries-placed accounts d) lt

  user-step : (b : Bool) (a : Account) (accounts : List Account) (d : Account) (n : ℕ) → same a.user name ≡ b → (n < length accounts → same (get_or accounts n d).user name ≡ true) → cond (not b) (1 + n) 0 < length (a ∷ accounts) → same (get_or (a ∷ accounts) (cond (not b) (1 + n) 0) d).user name ≡ true
  user-step true a accounts d n e h lt = e
  user-step false a accounts d n e h lt = let one : 1 + n ≡ suc n = omega arith in rw one (h (omega (arith, lt)))

  user-placed : (accounts : List Account) (d : Account) → place accounts < length accounts → same (get_or accounts (place accounts) d).user name ≡ true
  user-placed [] d lt = absurd (omega (arith, lt))
  user-placed (a ∷ accounts) d lt = user-step (same a.user name) a accounts d (place accounts) refl (user-placed accounts d) lt

  set-step : (b : Bool) (a : Account) (accounts rest : List Account) (d : Account) (n : ℕ) (kept : List Entry) → (n < length accounts → rest ≡ set accounts n (record (get_or accounts n d) { entries = (get_or accounts n d).entries ++ kept })) → cond (not b) (1 + n) 0 < length (a ∷ accounts) → cond b (record a { entries = a.entries ++ kept } ∷ accounts) (a ∷ rest) ≡ set (a ∷ accounts) (cond (not b) (1 + n) 0) (record (get_or (a ∷ accounts) (cond (not b) (1 + n) 0) d) { entries = (get_or (a ∷ accounts) (cond (not b) (1 + n) 0) d).entries ++ kept })
  set-step true a accounts rest d n kept h lt = refl
  set-step false a accounts rest d n kept h lt = let one : 1 + n ≡ suc n = omega arith in rw one (ap (λ (l : List Account). a ∷ l) (h (omega (arith, lt))))

  set-placed : (accounts : List Account) (d : Account) (kept : List Entry) → place accounts < length accounts → with_entries name kept accounts ≡ set accounts (place accounts) (record (get_or accounts (place accounts) d) { entries = (get_or accounts (place accounts) d).entries ++ kept })
  set-placed [] d kept lt = absurd (omega (arith, lt))
  set-placed (a ∷ accounts) d kept lt = set-step (same a.user name) a accounts (with_entries name kept accounts) d (place accounts) kept (set-placed accounts d kept) lt

  none-step : (b : Bool) (a : Account) (accounts : List Account) (found : Option (List Entry)) (n : ℕ) → (length accounts ≤ n → found ≡ None) → length (a ∷ accounts) ≤ cond (not b) (1 + n) 0 → cond b (Some a.entries) found ≡ None
  none-step true a accounts found n h most = absurd (omega (arith, most))
  none-step false a accounts found n h most = h (omega (arith, most))

  none-placed : (accounts : List Account) → length accounts ≤ place accounts → entries_of accounts name ≡ None
  none-placed [] most = refl
  none-placed (a ∷ accounts) most = none-step (same a.user name) a accounts (entries_of accounts name) (place accounts) (none-placed accounts) most

  module _ (accounts : List Account) (d : Account) (index : ℕ) (at : Some index ≡ place_in accounts name) where
    parts : (nat_lt (place accounts) (length accounts) ≡ true) × (index ≡ place accounts)
    parts = found-place (nat_lt (place accounts) (length accounts)) (place accounts) index at

    here : place accounts < length accounts
    here = ltb-true (place accounts) (length accounts) parts.0

    -- the user is there
    pub within : index < length accounts
    within = omega (arith, parts.1, here)

    pub entries_at : entries_of accounts name ≡ Some (get_or accounts index d).entries
    entries_at = rw parts.1 (entries-placed accounts d here)

    pub user_at : same (get_or accounts index d).user name ≡ true
    user_at = rw parts.1 (user-placed accounts d here)

    pub set_at : (kept : List Entry) → with_entries name kept accounts ≡ set accounts index (record (get_or accounts index d) { entries = (get_or accounts index d).entries ++ kept })
    set_at kept = rw parts.1 (set-placed accounts d kept here)

  -- whether one is, by the place and by the entries
  pub is_there : (accounts : List Account) → is_some (place_in accounts name) ≡ is_some (entries_of accounts name)
  is_there accounts = by (nat_lt (place accounts) (length accounts)) refl
    where
      by : (b : Bool) → nat_lt (place accounts) (length accounts) ≡ b → is_some (cond b (Some (place accounts)) no_place) ≡ is_some (entries_of accounts name)
      by true e =
          let d : Account = record { user = []; entries = [] } in
          sym (ap is_some (entries-placed accounts d (ltb-true (place accounts) (length accounts) e)))
      by false e = sym (ap is_some (none-placed accounts (ltb-false (place accounts) (length accounts) e)))

-- a user who is there has a place
pub no_way : (accounts : List Account) (name : List ℕ) → no_place ≡ place_in accounts name → IsTrue (is_some (entries_of accounts name)) → ⊥
no_way accounts name none there = false≢true (ap is_some none ∙ is_there name accounts ∙ there)

module _ (old : List Account) (name : List ℕ) where
  -- one of this name is there
  pub taken : is_some (place_in old name) ≡ true → Some AddressTaken ≡ enrol_refusal old name
  taken there = ap (λ b. if b then Some AddressTaken else (if nat_lt (length old) most_users then None else Some (LimitReached Users))) (sym there ∙ is_there name old)

  -- none is, and there are few, or as many as may be
  pub may_enrol : is_some (place_in old name) ≡ false → length old < 32 → no_refusal ≡ enrol_refusal old name
  may_enrol none few =
      let less : nat_lt (length old) 32 ≡ true = grind (arith, few) in
      sym (ap (λ b. if b then no_refusal else Some (LimitReached Users)) less)
      ∙ ap (λ b. if b then Some AddressTaken else (if nat_lt (length old) most_users then no_refusal else Some (LimitReached Users))) (sym none ∙ is_there name old)

  pub too_many : is_some (place_in old name) ≡ false → 32 ≤ length old → Some (LimitReached Users) ≡ enrol_refusal old name
  too_many none many =
      let more : nat_lt (length old) 32 ≡ false = grind (arith, many) in
      sym (ap (λ b. if b then no_refusal else Some (LimitReached Users)) more)
      ∙ ap (λ b. if b then Some AddressTaken else (if nat_lt (length old) most_users then no_refusal else Some (LimitReached Users))) (sym none ∙ is_there name old)
