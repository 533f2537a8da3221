-- Reading clients and subscriptions, one after the other.
use Rattle.std.proofs.Common.{◌≡◌, ℕ, zero, suc, ◌+◌, ◌-◌, ◌<◌, ◌≤◌, Bool, true, false, not, is_some, List, [], ◌∷◌, ◌++◌, Ok, Err, refl, ap, subst, ◌∙◌, arith}
use Rattle.std.specs.Map.{keys_of, lookup}
use Rattle.pc_tables.specs.Table.{same}
use Rattle.pc_tables.proofs.Table.{is_among-keys}
use Rattle.pc_fields.specs.Fields.{name_kind, u32_kind, u64_kind, within, FieldReads, is_new}
use Rattle.pc_fields.specs.Format.{Format, goes, Reads}
use Rattle.pc_account_spelling.specs.RecordFormat.{last_number, clients_from, subscriptions_from}
use Rattle.pc_fields.specs.declared.cursor.Halt.{Halt}
use Rattle.pc_fields.proofs.Follows.{Follows, follows_first, follows_field, follows_no_field, follows_last}
use Rattle.pc_fields.proofs.Pushes.{within-parts}

abbrev Rows : Type 0
Rows = List (List ℕ × ℕ)

-- ---- clients

abbrev pub births_to : ℕ → ℕ → ℕ → ℕ → Bool
births_to count taken low = within (low + 1) (last_number - (count - (taken + 1)))

abbrev behind_client : ℕ → Rows → List ℕ → ℕ → Format Rows
behind_client count before name birth = clients_from count birth (before ++ (name, birth) ∷ [])

clients-step : (count low : ℕ) (before : Rows) → clients_from (suc count) low before ≡ goes name_kind (is_new (keys_of before)) (λ name. goes u64_kind (within (low + 1) (last_number - count)) (behind_client count before name))
clients-step count low before =
    let one-more : suc low ≡ low + 1 = omega arith in
    λ i. goes name_kind (is_new (keys_of before)) (λ name. goes u64_kind (within (one-more i) (last_number - count)) (behind_client count before name))

module _ (count taken low : ℕ) (before : Rows) (whole : Format Rows) (start now : List ℕ) (lt : taken < count) (follows : Follows whole (clients_from (count - taken) low before) start now) where
  step : clients_from (count - taken) low before ≡ goes name_kind (is_new (keys_of before)) (λ name. goes u64_kind (births_to count taken low) (behind_client (count - (taken + 1)) before name))
  step =
      let one-left : count - taken ≡ suc (count - (taken + 1)) = omega (arith, lt) in
      ap (λ (n : ℕ). clients_from n low before) one-left ∙ clients-step (count - (taken + 1)) low before

  pub clients_no_name : (new : List ℕ) (halt : Halt) → FieldReads name_kind (is_new (keys_of before)) now new (Err halt) → Reads whole start new (Err halt)
  clients_no_name new halt none = follows_no_field name_kind (is_new (keys_of before)) (λ name. goes u64_kind (births_to count taken low) (behind_client (count - (taken + 1)) before name)) halt follows step none

  named : (mid name : List ℕ) → FieldReads name_kind (is_new (keys_of before)) now mid (Ok name) → Follows whole (goes u64_kind (births_to count taken low) (behind_client (count - (taken + 1)) before name)) start mid
  named mid name reads = follows_field name_kind (is_new (keys_of before)) (λ name. goes u64_kind (births_to count taken low) (behind_client (count - (taken + 1)) before name)) name follows step reads

  pub clients_no_birth : (mid name new : List ℕ) (halt : Halt) → FieldReads name_kind (is_new (keys_of before)) now mid (Ok name) → FieldReads u64_kind (births_to count taken low) mid new (Err halt) → Reads whole start new (Err halt)
  clients_no_birth mid name new halt reads none = follows_no_field u64_kind (births_to count taken low) (behind_client (count - (taken + 1)) before name) halt (named mid name reads) refl none

  pub clients_more : (mid name new : List ℕ) (birth : ℕ) → FieldReads name_kind (is_new (keys_of before)) now mid (Ok name) → FieldReads u64_kind (births_to count taken low) mid new (Ok birth) → Follows whole (clients_from (count - (taken + 1)) birth (before ++ (name, birth) ∷ [])) start new
  clients_more mid name new birth reads then = follows_field u64_kind (births_to count taken low) (behind_client (count - (taken + 1)) before name) birth (named mid name reads) refl then

  pub clients_born : (mid new : List ℕ) (birth : ℕ) → FieldReads u64_kind (births_to count taken low) mid new (Ok birth) → birth ≤ last_number
  clients_born mid new birth reads = let range = within-parts (low + 1) (last_number - (count - (taken + 1))) birth reads.told.passed in omega (arith, range.1)

pub clients_first : (count : ℕ) (start : List ℕ) → Follows (clients_from count 0 []) (clients_from (count - 0) 0 []) start start
clients_first count start = subst (λ (n : ℕ). Follows (clients_from count 0 []) (clients_from n 0 []) start start) (let same : count ≡ count - 0 = omega arith in same) (follows_first (clients_from count 0 []) start)

pub clients_last : (count taken low : ℕ) (clients : Rows) (whole : Format Rows) (start now : List ℕ) → count ≤ taken → Follows whole (clients_from (count - taken) low clients) start now → Reads whole start now (Ok clients)
clients_last count taken low clients whole start now le follows = follows_last whole (clients_from (count - taken) low clients) start now clients follows (ap (λ (n : ℕ). clients_from n low clients) (let none : count - taken ≡ zero = omega (arith, le) in none))

-- ---- subscriptions

abbrev behind_board : ℕ → Rows → List ℕ → ℕ → Format Rows
behind_board count before board mark = subscriptions_from count (before ++ (board, mark) ∷ [])

module _ (count taken : ℕ) (before : Rows) (whole : Format Rows) (start now : List ℕ) (lt : taken < count) (follows : Follows whole (subscriptions_from (count - taken) before) start now) where
  board-step : subscriptions_from (count - taken) before ≡ goes name_kind (is_new (keys_of before)) (λ board. goes u32_kind (within 0 4294967295) (behind_board (count - (taken + 1)) before board))
  board-step = ap (λ (n : ℕ). subscriptions_from n before) (let one-left : count - taken ≡ suc (count - (taken + 1)) = omega (arith, lt) in one-left)

  pub boards_no_name : (new : List ℕ) (halt : Halt) → FieldReads name_kind (is_new (keys_of before)) now new (Err halt) → Reads whole start new (Err halt)
  boards_no_name new halt none = follows_no_field name_kind (is_new (keys_of before)) (λ board. goes u32_kind (within 0 4294967295) (behind_board (count - (taken + 1)) before board)) halt follows board-step none

  board-named : (mid board : List ℕ) → FieldReads name_kind (is_new (keys_of before)) now mid (Ok board) → Follows whole (goes u32_kind (within 0 4294967295) (behind_board (count - (taken + 1)) before board)) start mid
  board-named mid board reads = follows_field name_kind (is_new (keys_of before)) (λ board. goes u32_kind (within 0 4294967295) (behind_board (count - (taken + 1)) before board)) board follows board-step reads

  pub boards_no_mark : (mid board new : List ℕ) (halt : Halt) → FieldReads name_kind (is_new (keys_of before)) now mid (Ok board) → FieldReads u32_kind (within 0 4294967295) mid new (Err halt) → Reads whole start new (Err halt)
  boards_no_mark mid board new halt reads none = follows_no_field u32_kind (within 0 4294967295) (behind_board (count - (taken + 1)) before board) halt (board-named mid board reads) refl none

  pub boards_more : (mid board new : List ℕ) (mark : ℕ) → FieldReads name_kind (is_new (keys_of before)) now mid (Ok board) → FieldReads u32_kind (within 0 4294967295) mid new (Ok mark) → Follows whole (subscriptions_from (count - (taken + 1)) (before ++ (board, mark) ∷ [])) start new
  boards_more mid board new mark reads then = follows_field u32_kind (within 0 4294967295) (behind_board (count - (taken + 1)) before board) mark (board-named mid board reads) refl then

pub boards_first : (count : ℕ) (start : List ℕ) → Follows (subscriptions_from count []) (subscriptions_from (count - 0) []) start start
boards_first count start = subst (λ (n : ℕ). Follows (subscriptions_from count []) (subscriptions_from n []) start start) (let same : count ≡ count - 0 = omega arith in same) (follows_first (subscriptions_from count []) start)

pub boards_last : (count taken : ℕ) (subscriptions : Rows) (whole : Format Rows) (start now : List ℕ) → count ≤ taken → Follows whole (subscriptions_from (count - taken) subscriptions) start now → Reads whole start now (Ok subscriptions)
boards_last count taken subscriptions whole start now le follows = follows_last whole (subscriptions_from (count - taken) subscriptions) start now subscriptions follows (ap (λ (n : ℕ). subscriptions_from n subscriptions) (let none : count - taken ≡ zero = omega (arith, le) in none))

-- ---- names under which nothing stands yet

pub name_known : {X : Type 0} (name : List ℕ) (table : List (List ℕ × X)) → is_some (lookup (same name) table) ≡ true → is_new (keys_of table) name ≡ false
name_known name table found = ap not (is_among-keys name table ∙ found)

pub name_new : {X : Type 0} (name : List ℕ) (table : List (List ℕ × X)) → is_some (lookup (same name) table) ≡ false → is_new (keys_of table) name ≡ true
name_new name table none = ap not (is_among-keys name table ∙ none)
