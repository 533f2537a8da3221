-- The mails that wait, while they are read: what is counted of them beside each user.
use Rattle.std.specs.Prelude.{◌≡◌, ℕ, suc, ◌+◌, ◌<◌, ◌≤◌, Bool, true, not, ◌&&◌, ◌||◌, ◌==◌, nat_lt, nat_le, List, length, map, if◌then◌else◌}
use Rattle.std.specs.List.{filter, list_all, AllByRecursion}
use Rattle.std.specs.Map.{keys_of}
use Rattle.pc_tables.specs.Table.{is_among, total}
use Rattle.pc_office_history.specs.declared.limits.TheConstants.{MOST_WAITING_WEIGHT}
use Rattle.pc_office_history.specs.declared.kept.Target.{Target}
use Rattle.pc_office_history.specs.declared.kept.KeptMail.{KeptMail}
use Rattle.pc_office_history.specs.Record.{mails_for}
use Rattle.pc_office_history.specs.Limits.{mail_weight}
use Rattle.pc_office_spelling.specs.Spaces.{space_beside, users_of}
use Rattle.pc_office_holdings.specs.declared.users.Standing.{Standing}
use Rattle.pc_office_records.specs.declared.loading.kept.Row.{Row}

abbrev pub Table : Type 0
Table = List (List ℕ × Standing)

-- ---- rows: what is counted of each user, and whether a mail is for it

abbrev pub row_in : List Target → List ℕ × Standing → Row
row_in targets user = record { standing = user.1; taken = is_among user.0 (users_of targets) }

abbrev pub rows_in : List Target → Table → List Row
rows_in targets users = map (row_in targets) users

-- how many more may wait for a user, once a mail of this size waits for those for whom it is
abbrev pub space_in : ℕ → Row → ℕ
space_in size row = if row.taken then space_beside (suc row.standing.mails) (row.standing.weight + (size + 256)) else space_beside row.standing.mails row.standing.weight

-- the same for all of whom less than a number is noted
abbrev pub upto_in : List Row → ℕ → ℕ → ℕ
upto_in rows size number = total (λ (row : Row). if nat_lt row.standing.noted number then space_in size row else 0) rows

abbrev pub suits_in : List Row → ℕ → ℕ → ℕ → ℕ → Row → Bool
suits_in rows size accepted count taken row = nat_le (row.standing.noted + count) accepted || nat_le (row.standing.noted + count + taken) (accepted + upto_in rows size row.standing.noted)

-- so many mails can come behind
abbrev pub follow_in : List Row → ℕ → ℕ → ℕ → ℕ → Bool
follow_in rows size accepted count taken = count == 0 || (nat_le (count + taken) (upto_in rows size accepted) && list_all (suits_in rows size accepted count taken) rows)

abbrev pub is_light_in : ℕ → Row → Bool
is_light_in size row = not row.taken || nat_le (row.standing.weight + (size + 256)) MOST_WAITING_WEIGHT

-- a mail of this size may wait for those for whom it is
abbrev pub may_in : List Row → ℕ → ℕ → ℕ → Bool
may_in rows accepted count size = list_all (is_light_in size) rows && follow_in rows size accepted count 0

-- ---- who is open to a mail of a number

abbrev pub is_open_in : ℕ → List ℕ × Standing → Bool
is_open_in number user = nat_lt user.1.noted number && nat_lt 0 (space_beside user.1.mails user.1.weight)

abbrev pub open_in : Table → ℕ → List (List ℕ)
open_in users number = keys_of (filter (is_open_in number) users)

abbrev pub is_open_row : ℕ → Row → Bool
is_open_row number row = nat_lt row.standing.noted number && nat_lt 0 (space_in 0 row)

abbrev pub count_open : List Row → ℕ → ℕ
count_open rows number = length (filter (is_open_row number) rows)

-- a number that can come behind the last one
abbrev pub is_next_number : ℕ → List Row → ℕ → ℕ → ℕ → Bool
is_next_number last rows accepted count number = nat_lt last number && nat_le (number + count) accepted && nat_lt 0 (count_open rows number)

-- how many targets a mail of this number can have
abbrev pub is_many : List Row → ℕ → ℕ → ℕ → ℕ → Bool
is_many rows number accepted count many = nat_lt 0 many && nat_le many (count_open rows number) && follow_in rows 0 accepted count many

-- a target among those that are open
abbrev pub AreOpen : Table → ℕ → List Target → Type 0
AreOpen users number targets = AllByRecursion (λ (target : Target). is_among target.user (open_in users number) ≡ true) targets

-- ---- what is counted

-- the mails that wait for a user are counted, and they are few enough that nothing wraps
pub record IsTallied (before : List KeptMail) (user : List ℕ × Standing) : Type 0 where
  pub mails : user.1.mails ≡ length (mails_for user.0 before)
  pub weight : user.1.weight ≡ mail_weight (mails_for user.0 before)
  pub few : user.1.mails ≤ 1024
  pub light : user.1.weight ≤ 4294967296

abbrev pub AreTallied : List KeptMail → Table → Type 0
AreTallied before users = AllByRecursion (IsTallied before) users

-- the positive numbers past those of the mails are those past the last one
abbrev pub IsLast : List KeptMail → ℕ → Type 0
IsLast before last = (number : ℕ) → 0 < number → list_all (λ (mail : KeptMail). nat_lt mail.number number) before ≡ nat_lt last number
