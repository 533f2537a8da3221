-- How many mails more may wait: at each place of a record what can still come behind it.
use Rattle.std.specs.Prelude.{ℕ, zero, suc, ◌+◌, ◌-◌, ◌/◌, min, Bool, ◌&&◌, ◌||◌, ◌==◌, nat_lt, nat_le, List, length, map, if◌then◌else◌}
use Rattle.std.specs.List.{filter, list_all}
use Rattle.std.specs.Map.{keys_of}
use Rattle.pc_tables.specs.Table.{is_among, total}
use Rattle.pc_office_history.specs.declared.limits.TheConstants.{MOST_WAITING, MOST_WAITING_WEIGHT}
use Rattle.pc_office_history.specs.declared.kept.Target.{Target}
use Rattle.pc_office_history.specs.declared.kept.KeptMail.{KeptMail}
use Rattle.pc_office_history.specs.Record.{mails_for}
use Rattle.pc_office_history.specs.Limits.{mail_weight}

-- how many mails more may wait for a user for whom so many do, of this weight: the least mail weighs 256
abbrev pub space_beside : ℕ → ℕ → ℕ
space_beside mails weight = min (MOST_WAITING - mails) ((MOST_WAITING_WEIGHT - weight) / 256)

-- how many more may wait for a user
abbrev pub space_of : List KeptMail → List ℕ → ℕ
space_of before user = space_beside (length (mails_for user before)) (mail_weight (mails_for user before))

abbrev pub users_of : List Target → List (List ℕ)
users_of targets = map (λ target. target.user) targets

-- how many more may wait for a user once a mail of this size waits for these targets
abbrev pub space_after : List KeptMail → List Target → ℕ → List ℕ → ℕ
space_after before targets size user =
    if is_among user (users_of targets) then space_beside (suc (length (mails_for user before))) (mail_weight (mails_for user before) + (size + 256)) else space_of before user

-- for how many mails of numbers up to this one there is space, one for each of its targets
abbrev pub space_upto : (List ℕ → ℕ) → List (List ℕ × ℕ) → ℕ → ℕ
space_upto space users number = total (λ (user : List ℕ × ℕ). if nat_lt user.1 number then space user.0 else 0) users

-- so many mails can come behind, with the last numbers of those that were accepted, where so much of the space is taken by others:
-- for those of the numbers up to what is noted of a user there is space for the users of whom less is noted
abbrev pub can_follow : (List ℕ → ℕ) → List (List ℕ × ℕ) → ℕ → ℕ → ℕ → Bool
can_follow space users accepted count taken =
    count == 0 || (nat_le (count + taken) (space_upto space users accepted) && list_all (λ (user : List ℕ × ℕ). nat_le (user.1 + count) accepted || nat_le (user.1 + count + taken) (accepted + space_upto space users user.1)) users)

-- the users for whom a mail of this number may wait
abbrev pub open_users : (List ℕ → ℕ) → List (List ℕ × ℕ) → ℕ → List (List ℕ)
open_users space users number = keys_of (filter (λ (user : List ℕ × ℕ). nat_lt user.1 number && nat_lt 0 (space user.0)) users)

-- a mail of this size may wait for these targets, and so many can come behind it
abbrev pub may_wait : List (List ℕ × ℕ) → ℕ → ℕ → List KeptMail → List Target → ℕ → Bool
may_wait users accepted count before targets size =
    list_all (λ user. nat_le (mail_weight (mails_for user before) + (size + 256)) MOST_WAITING_WEIGHT) (users_of targets) && can_follow (space_after before targets size) users accepted count 0

-- the greatest number up to this one that passes the test, or 0
unfoldable pub greatest : (ℕ → Bool) → ℕ → ℕ
greatest test zero = zero
greatest test (suc number) = if test (suc number) then suc number else greatest test number
