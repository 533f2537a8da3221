-- What is counted beside the users is what the format asks of the mails before.
use Rattle.std.proofs.Common.{◌≡◌, ℕ, suc, ◌+◌, ◌<◌, ◌≤◌, Bool, true, false, cond, not, ◌&&◌, ◌||◌, ◌==◌, nat_lt, nat_le, List, [], ◌∷◌, ◌++◌, length, filter, map, is_some, refl, sym, ap, subst, ◌∙◌, arith, true≢false}
use Rattle.std.specs.List.{list_all, AllByRecursion as Every}
use Rattle.std.specs.Map.{keys_of}
use Rattle.std.proofs.lemmas.Bool.{lt-ltb, ltb-true, ltb-false, and_parts, and_from}
use Rattle.pc_message.specs.Message.{size_of, weight_of}
use Rattle.pc_tables.specs.Table.{same, is_among}
use Rattle.pc_tables.specs.Order.{AreDistinct}
use Rattle.pc_tables.proofs.Table.{same-true, same-refl, list_all-among}
use Rattle.std.proofs.lemmas.List.Folds.{list_all-append}
use Rattle.pc_tables.proofs.Lists.{Every-weaker}
use Rattle.pc_office_history.specs.declared.limits.TheConstants.{MOST_WAITING_WEIGHT}
use Rattle.pc_office_history.specs.declared.kept.Target.{Target}
use Rattle.pc_office_history.specs.declared.kept.KeptMail.{KeptMail}
use Rattle.pc_office_history.specs.Record.{target_of, mails_for}
use Rattle.pc_office_history.specs.Limits.{mail_weight}
use Rattle.pc_office_spelling.specs.Spaces.{space_beside, space_of, space_after, space_upto, users_of, can_follow, open_users, may_wait, greatest}
use Rattle.pc_office_spelling.proofs.Waits.{behind-long, behind-heavy}
use Rattle.pc_fields.proofs.NewNames.{or-second}
use Rattle.pc_office_spelling.proofs.OpenUsers.{open-below}
use Rattle.pc_office_holdings.specs.declared.users.Standing.{Standing}
use Rattle.pc_office_holdings.specs.Held.{noted_of, IsCounted}
use Rattle.pc_office_holdings.specs.Step.{with_mail, awaited}
use Rattle.pc_office_records.specs.declared.loading.kept.Row.{Row}
use Rattle.pc_office_records.specs.Loading.{IsUncounted}
use Rattle.pc_office_records.specs.ReadKept.{Table, row_in, rows_in, space_in, upto_in, suits_in, follow_in, is_light_in, may_in, is_open_in, open_in, is_open_row, count_open, is_next_number, is_many, AreOpen, IsTallied, AreTallied, IsLast}
use Rattle.pc_office_records.proofs.Rows.{target-among}

-- ---- names and lengths

pub keys-noted : (users : Table) → keys_of (map noted_of users) ≡ keys_of users
keys-noted [] = refl
keys-noted (user ∷ users) = ap (λ (names : List (List ℕ)). user.0 ∷ names) (keys-noted users)

pub count-open : (users : Table) (number : ℕ) → count_open (rows_in [] users) number ≡ length (open_in users number)
count-open [] number = refl
count-open (user ∷ users) number =
    elim (is_open_in number user) as (λ b. length (cond b (row_in [] user ∷ filter (is_open_row number) (rows_in [] users)) (filter (is_open_row number) (rows_in [] users))) ≡ length (keys_of (cond b (user ∷ filter (is_open_in number) users) (filter (is_open_in number) users)))) [
      | true ↦ ap suc (count-open users number)
      | false ↦ count-open users number
    ]

-- nobody is open to a mail of number 0
none-at-0 : (rows : List Row) → count_open rows 0 ≡ 0
none-at-0 [] = refl
none-at-0 (row ∷ rows) = ap (λ (b : Bool). length (cond (b && nat_lt 0 (space_in 0 row)) (row ∷ filter (is_open_row 0) rows) (filter (is_open_row 0) rows))) (not-below row.standing.noted) ∙ none-at-0 rows
  where
    not-below : (n : ℕ) → nat_lt n 0 ≡ false
    not-below n = by-test (nat_lt n 0) refl
      where
        by-test : (b : Bool) → nat_lt n 0 ≡ b → b ≡ false
        by-test true e = absurd (let lt = ltb-true n 0 e in omega (arith, lt))
        by-test false e = refl

-- ---- the spaces

module _ (before : List KeptMail) (targets : List Target) (size : ℕ) where
  space-same : (user : List ℕ × Standing) → IsTallied before user → space_after before targets size user.0 ≡ space_in size (row_in targets user)
  space-same user tallied =
      let mails = sym tallied.mails in
      let weight = sym tallied.weight in
      λ i. cond (is_among user.0 (users_of targets)) (space_beside (suc (mails i)) (weight i + (size + 256))) (space_beside (mails i) (weight i))

  upto-same : (users : Table) (number : ℕ) → AreTallied before users → space_upto (space_after before targets size) (map noted_of users) number ≡ upto_in (rows_in targets users) size number
  upto-same [] number tallied = refl
  upto-same (user ∷ users) number tallied =
      let here = space-same user tallied.0 in
      let rest = upto-same users number tallied.1 in
      λ i. cond (nat_lt user.1.noted number) (here i) 0 + rest i

  all-same : (p : List ℕ × ℕ → Bool) (q : Row → Bool) → ((user : List ℕ × Standing) → p (noted_of user) ≡ q (row_in targets user)) → (users : Table) → list_all p (map noted_of users) ≡ list_all q (rows_in targets users)
  all-same p q same [] = refl
  all-same p q same (user ∷ users) = λ i. same user i && all-same p q same users i

  pub follow-same : (users : Table) (accepted count taken : ℕ) → AreTallied before users → can_follow (space_after before targets size) (map noted_of users) accepted count taken ≡ follow_in (rows_in targets users) size accepted count taken
  follow-same users accepted count taken tallied =
      let upto = λ (number : ℕ). upto-same users number tallied in
      let all = all-same (λ (user : List ℕ × ℕ). nat_le (user.1 + count) accepted || nat_le (user.1 + count + taken) (accepted + space_upto (space_after before targets size) (map noted_of users) user.1)) (suits_in (rows_in targets users) size accepted count taken) (λ user. λ i. nat_le (user.1.noted + count) accepted || nat_le (user.1.noted + count + taken) (accepted + upto user.1.noted i)) users in
      λ i. count == 0 || (nat_le (count + taken) (upto accepted i) && all i)

-- ---- who is open

pub open-same : (before : List KeptMail) (users : Table) (number : ℕ) → AreTallied before users → open_users (space_of before) (map noted_of users) number ≡ open_in users number
open-same before [] number tallied = refl
open-same before (user ∷ users) number tallied =
    let here = space-same before [] 0 user tallied.0 in
    let rest = open-same before users number tallied.1 in
    (λ i. keys_of (cond (nat_lt user.1.noted number && nat_lt 0 (here i)) (noted_of user ∷ filter (λ (other : List ℕ × ℕ). nat_lt other.1 number && nat_lt 0 (space_of before other.0)) (map noted_of users)) (filter (λ (other : List ℕ × ℕ). nat_lt other.1 number && nat_lt 0 (space_of before other.0)) (map noted_of users))))
    ∙ (elim (is_open_in number user) as (λ b. keys_of (cond b (noted_of user ∷ filter (λ (other : List ℕ × ℕ). nat_lt other.1 number && nat_lt 0 (space_of before other.0)) (map noted_of users)) (filter (λ (other : List ℕ × ℕ). nat_lt other.1 number && nat_lt 0 (space_of before other.0)) (map noted_of users))) ≡ keys_of (cond b (user ∷ filter (is_open_in number) users) (filter (is_open_in number) users))) [
      | true ↦ ap (λ (names : List (List ℕ)). user.0 ∷ names) rest
      | false ↦ rest
    ])

-- ---- the tests

module _ (before : List KeptMail) (users : Table) (accepted count : ℕ) (tallied : AreTallied before users) where
  open-long : (number : ℕ) → length (open_users (space_of before) (map noted_of users) number) ≡ count_open (rows_in [] users) number
  open-long number = ap (λ (names : List (List ℕ)). length names) (open-same before users number tallied) ∙ sym (count-open users number)

  pub number-same : (last : ℕ) → IsLast before last
      → (λ (number : ℕ). list_all (λ (mail : KeptMail). nat_lt mail.number number) before && nat_le (number + count) accepted && nat_lt 0 (length (open_users (space_of before) (map noted_of users) number))) ≡ is_next_number last (rows_in [] users) accepted count
  number-same last is = λ i number. each number i
    where
      no-open : (number : ℕ) (a b : Bool) → number ≡ 0 → (a && nat_lt 0 (count_open (rows_in [] users) number)) ≡ (b && nat_lt 0 (count_open (rows_in [] users) number))
      no-open number a b e = let none = ap (λ (n : ℕ). count_open (rows_in [] users) n) e ∙ none-at-0 (rows_in [] users) in rw none (both a b)
        where
          both : (a b : Bool) → (a && nat_lt 0 0) ≡ (b && nat_lt 0 0)
          both true true = refl
          both true false = refl
          both false true = refl
          both false false = refl

      by-size : (number : ℕ) (positive : Bool) → nat_lt 0 number ≡ positive → (list_all (λ (mail : KeptMail). nat_lt mail.number number) before && nat_le (number + count) accepted && nat_lt 0 (count_open (rows_in [] users) number)) ≡ is_next_number last (rows_in [] users) accepted count number
      by-size number true e = ap (λ (b : Bool). b && nat_le (number + count) accepted && nat_lt 0 (count_open (rows_in [] users) number)) (is number (ltb-true 0 number e))
      by-size number false e = no-open number (list_all (λ (mail : KeptMail). nat_lt mail.number number) before && nat_le (number + count) accepted) (nat_lt last number && nat_le (number + count) accepted) (let le = ltb-false 0 number e in omega (arith, le))

      each : (number : ℕ) → (list_all (λ (mail : KeptMail). nat_lt mail.number number) before && nat_le (number + count) accepted && nat_lt 0 (length (open_users (space_of before) (map noted_of users) number))) ≡ is_next_number last (rows_in [] users) accepted count number
      each number = ap (λ (n : ℕ). list_all (λ (mail : KeptMail). nat_lt mail.number number) before && nat_le (number + count) accepted && nat_lt 0 n) (open-long number) ∙ by-size number (nat_lt 0 number) refl

  pub many-same : (number : ℕ) → (λ (many : ℕ). nat_lt 0 many && nat_le many (length (open_users (space_of before) (map noted_of users) number)) && can_follow (space_of before) (map noted_of users) accepted count many) ≡ is_many (rows_in [] users) number accepted count
  many-same number = λ i many. nat_lt 0 many && nat_le many (open-long number i) && follow-same before [] 0 users accepted count many tallied i

-- ---- the greatest size

-- a test of names that are all users' is one of those users
module _ (p : List ℕ → Bool) (names : List (List ℕ)) where
  abbrev asked : List ℕ × ℕ → Bool
  asked user = not (is_among user.0 names) || p user.0

  for-users : list_all p names ≡ true → (users : List (List ℕ × ℕ)) → list_all asked users ≡ true
  for-users all [] = refl
  for-users all (user ∷ users) = and-true (asked user) (list_all asked users) (by-test (is_among user.0 names) refl) (for-users all users)
    where
      and-true : (a b : Bool) → a ≡ true → b ≡ true → (a && b) ≡ true
      and-true a b h g = and_from a b h g

      by-test : (b : Bool) → is_among user.0 names ≡ b → (not b || p user.0) ≡ true
      by-test true e = list_all-among p user.0 names all e
      by-test false e = refl

  of-user : (name : List ℕ) (users : List (List ℕ × ℕ)) → list_all asked users ≡ true → is_among name (keys_of users) ≡ true → is_among name names ≡ true → p name ≡ true
  of-user name [] all there among = absurd (true≢false (sym there))
  of-user name (user ∷ users) all there among =
      let parts = and_parts (asked user) (list_all asked users) all in
      elim (same name user.0) as (λ b. same name user.0 ≡ b → (b || is_among name (keys_of users)) ≡ true → p name ≡ true) [
        | true ↦ λ e _.
            let is = same-true name user.0 e in
            let here : (not (is_among name names) || p name) ≡ true = subst (λ (n : List ℕ). (not (is_among n names) || p n) ≡ true) (sym is) parts.0 in
            ap (λ (b : Bool). not b || p name) (sym among) ∙ here
        | false ↦ λ e rest. of-user name users parts.1 rest among
      ] refl there

  for-names : (users : List (List ℕ × ℕ)) → list_all asked users ≡ true → (some : List (List ℕ)) → Every (λ (name : List ℕ). is_among name (keys_of users) ≡ true) some → Every (λ (name : List ℕ). is_among name names ≡ true) some → list_all p some ≡ true
  for-names users all [] there among = refl
  for-names users all (name ∷ some) there among = and_from (p name) (list_all p some) (of-user name users all there.0 among.0) (for-names users all some there.1 among.1)

same-answer : (a b : Bool) → (a ≡ true → b ≡ true) → (b ≡ true → a ≡ true) → a ≡ b
same-answer true b f g = sym (f refl)
same-answer false true f g = g refl
same-answer false false f g = refl

all-among : (names : List (List ℕ)) → Every (λ (name : List ℕ). is_among name names ≡ true) names
all-among [] = tt
all-among (name ∷ names) = (
  ap (λ (b : Bool). b || is_among name names) (same-refl name),
  Every-weaker (λ (one : List ℕ). is_among one names ≡ true) (λ (one : List ℕ). is_among one (name ∷ names) ≡ true) (λ one is. or-second (same one name) (is_among one names) is) names (all-among names),
)

pub users-asked : (p : List ℕ → Bool) (names : List (List ℕ)) (users : List (List ℕ × ℕ)) → Every (λ (name : List ℕ). is_among name (keys_of users) ≡ true) names → list_all p names ≡ list_all (asked p names) users
users-asked p names users there = same-answer (list_all p names) (list_all (asked p names) users) (λ all. for-users p names all users) (λ all. for-names p names users all names there (all-among names))

module _ (before : List KeptMail) (users : Table) (accepted count : ℕ) (targets : List Target) (tallied : AreTallied before users) (there : Every (λ (name : List ℕ). is_among name (keys_of users) ≡ true) (users_of targets)) where
  abbrev is_light : ℕ → List ℕ → Bool
  is_light size user = nat_le (mail_weight (mails_for user before) + (size + 256)) MOST_WAITING_WEIGHT

  light-rows : (size : ℕ) (some : Table) → AreTallied before some → list_all (asked (is_light size) (users_of targets)) (map noted_of some) ≡ list_all (is_light_in size) (rows_in targets some)
  light-rows size [] tallies = refl
  light-rows size (user ∷ some) tallies =
      let weight = sym tallies.0.weight in
      let rest = light-rows size some tallies.1 in
      λ i. (not (is_among user.0 (users_of targets)) || nat_le (weight i + (size + 256)) MOST_WAITING_WEIGHT) && rest i

  light-same : (size : ℕ) → list_all (is_light size) (users_of targets) ≡ list_all (is_light_in size) (rows_in targets users)
  light-same size =
      users-asked (is_light size) (users_of targets) (map noted_of users) (subst (λ (names : List (List ℕ)). Every (λ (name : List ℕ). is_among name names ≡ true) (users_of targets)) (sym (keys-noted users)) there)
      ∙ light-rows size users tallied

  may-same : may_wait (map noted_of users) accepted count before targets ≡ may_in (rows_in targets users) accepted count
  may-same = λ i size. light-same size i && follow-same before targets size users accepted count 0 tallied i

  pub greatest-same : greatest (may_wait (map noted_of users) accepted count before targets) 65536 ≡ greatest (may_in (rows_in targets users) accepted count) 65536
  greatest-same = ap (λ (test : ℕ → Bool). greatest test 65536) may-same

-- targets that are open are users
pub open-there : (users : Table) (number : ℕ) (targets : List Target) → AreOpen users number targets → Every (λ (name : List ℕ). is_among name (keys_of users) ≡ true) (users_of targets)
open-there users number [] opens = tt
open-there users number (target ∷ targets) opens = (open-user users opens.0, open-there users number targets opens.1)
  where
    open-user : (some : Table) → is_among target.user (open_in some number) ≡ true → is_among target.user (keys_of some) ≡ true
    open-user [] among = among
    open-user (user ∷ some) among =
        elim (is_open_in number user) as (λ b. is_among target.user (keys_of (cond b (user ∷ filter (is_open_in number) some) (filter (is_open_in number) some))) ≡ true → (same target.user user.0 || is_among target.user (keys_of some)) ≡ true) [
          | true ↦ λ is.
              elim (same target.user user.0) as (λ b. (b || is_among target.user (open_in some number)) ≡ true → (b || is_among target.user (keys_of some)) ≡ true) [ true ↦ λ _. refl | false ↦ λ rest. open-user some rest ] is
          | false ↦ λ is. or-second (same target.user user.0) (is_among target.user (keys_of some)) (open-user some is)
        ] among

-- ---- one mail more

pub noted-same : (targets : List Target) (weight : ℕ) (users : Table) → map noted_of (map (awaited targets weight) users) ≡ map noted_of users
noted-same targets weight [] = refl
noted-same targets weight (user ∷ users) = λ i. (user.0, by-case (is_some (target_of user.0 targets)) i) ∷ noted-same targets weight users i
  where
    by-case : (b : Bool) → (cond b (with_mail weight user.1) user.1).noted ≡ user.1.noted
    by-case true = refl
    by-case false = refl

module _ (before : List KeptMail) (all : Table) (mail : KeptMail) (distinct : AreDistinct (keys_of all)) (tallied : AreTallied before all) (opens : AreOpen all mail.number mail.targets) (small : size_of mail.message ≤ 65536) where
  -- a user among the targets has space
  target-open : (targets : List Target) (name : List ℕ) → AreOpen all mail.number targets → is_among name (users_of targets) ≡ true → nat_lt 0 (space_of before name) ≡ true
  target-open [] name some among = absurd (true≢false (sym among))
  target-open (target ∷ targets) name some among =
      elim (same name target.user) as (λ b. same name target.user ≡ b → (b || is_among name (users_of targets)) ≡ true → nat_lt 0 (space_of before name) ≡ true) [
        | true ↦ λ e _.
            let path = open-same before all mail.number tallied in
            let among-open : is_among target.user (open_users (space_of before) (map noted_of all) mail.number) ≡ true = ap (λ (names : List (List ℕ)). is_among target.user names) path ∙ some.0 in
            let below = open-below (space_of before) mail.number target.user (map noted_of all) (subst (λ (names : List (List ℕ)). AreDistinct names) (sym (keys-noted all)) distinct) among-open in
            ap (λ (n : List ℕ). nat_lt 0 (space_of before n)) (same-true name target.user e) ∙ below.1
        | false ↦ λ e rest. target-open targets name some.1 rest
      ] refl among

  one-more : (user : List ℕ × Standing) → IsTallied before user → IsTallied (before ++ mail ∷ []) (awaited mail.targets (weight_of mail.message) user)
  one-more user tally = by-case (is_among user.0 (users_of mail.targets)) refl
    where
      long : length (mails_for user.0 (before ++ mail ∷ [])) ≡ length (mails_for user.0 before) + cond (is_among user.0 (users_of mail.targets)) 1 0
      long = behind-long mail user.0 before

      heavy : mail_weight (mails_for user.0 (before ++ mail ∷ [])) ≡ mail_weight (mails_for user.0 before) + cond (is_among user.0 (users_of mail.targets)) (weight_of mail.message) 0
      heavy = behind-heavy mail user.0 before

      by-case : (b : Bool) → is_among user.0 (users_of mail.targets) ≡ b → IsTallied (before ++ mail ∷ []) (user.0, cond (is_some (target_of user.0 mail.targets)) (with_mail (weight_of mail.message) user.1) user.1)
      by-case true e =
          let mails = tally.mails in
          let weight = tally.weight in
          let some = ltb-true 0 (space_of before user.0) (target-open mail.targets user.0 opens e) in
          let longer = long ∙ ap (λ (b : Bool). length (mails_for user.0 before) + cond b 1 0) e in
          let heavier = heavy ∙ ap (λ (b : Bool). mail_weight (mails_for user.0 before) + cond b (weight_of mail.message) 0) e in
          rw (target-among user.0 mail.targets ∙ e) (record {
            mails = omega (arith, mails, longer, some);
            weight = omega (arith, weight, heavier, some, small);
            few = omega (arith, mails, some);
            light = omega (arith, weight, some, small);
          })
      by-case false e =
          let mails = tally.mails in
          let weight = tally.weight in
          let few = tally.few in
          let light = tally.light in
          let longer = long ∙ ap (λ (b : Bool). length (mails_for user.0 before) + cond b 1 0) e in
          let heavier = heavy ∙ ap (λ (b : Bool). mail_weight (mails_for user.0 before) + cond b (weight_of mail.message) 0) e in
          rw (target-among user.0 mail.targets ∙ e) (record {
            mails = omega (arith, mails, longer);
            weight = omega (arith, weight, heavier);
            few = few;
            light = light;
          })

  tallied-each : (users : Table) → AreTallied before users → AreTallied (before ++ mail ∷ []) (map (awaited mail.targets (weight_of mail.message)) users)
  tallied-each [] tallies = tt
  tallied-each (user ∷ users) tallies = (one-more user tallies.0, tallied-each users tallies.1)

  pub tallied-more : AreTallied (before ++ mail ∷ []) (map (awaited mail.targets (weight_of mail.message)) all)
  tallied-more = tallied-each all tallied

-- the last number is that of the last mail
pub last-more : (before : List KeptMail) (last : ℕ) (mail : KeptMail) → IsLast before last → last < mail.number → IsLast (before ++ mail ∷ []) mail.number
last-more before last mail is past number positive =
    list_all-append (λ (m : KeptMail). nat_lt m.number number) before (mail ∷ [])
    ∙ (λ i. is number positive i && (nat_lt mail.number number && true))
    ∙ by-test (nat_lt last number) (nat_lt mail.number number) refl refl
  where
    by-test : (a b : Bool) → nat_lt last number ≡ a → nat_lt mail.number number ≡ b → (a && (b && true)) ≡ b
    by-test true true e f = refl
    by-test true false e f = refl
    by-test false true e f = absurd (let low = ltb-false last number e in let lt = ltb-true mail.number number f in omega (arith, low, lt, past))
    by-test false false e f = refl

pub last-first : IsLast [] 0
last-first number positive = sym (lt-ltb 0 number positive)

-- ---- at the start and at the end

pub tallied-first : (users : Table) → Every IsUncounted users → AreTallied [] users
tallied-first [] none = tt
tallied-first (user ∷ users) none =
    let mails = none.0.mails in
    let weight = none.0.weight in
    (record { mails = mails; weight = weight; few = omega (arith, mails); light = omega (arith, weight) }, tallied-first users none.1)

pub counted-last : (before : List KeptMail) (users : Table) → AreTallied before users → Every (IsCounted before) users
counted-last before [] tallied = tt
counted-last before (user ∷ users) tallied =
    let mails = tallied.0.mails in
    let weight = tallied.0.weight in
    let few = tallied.0.few in
    let light = tallied.0.light in
    (record { mails = omega (arith, mails, few); weight = omega (arith, weight, light) }, counted-last before users tallied.1)
