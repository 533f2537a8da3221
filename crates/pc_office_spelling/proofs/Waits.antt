-- How mails that wait take space.
use Rattle.std.proofs.Common.{◌≡◌, ℕ, suc, ◌+◌, ◌*◌, ◌<◌, ◌≤◌, Bool, true, false, cond, ◌||◌, nat_lt, nat_le, List, [], ◌∷◌, ◌++◌, length, Option, None, Some, MatchOption, option_map, refl, sym, ap, ◌∙◌, arith, length-append, true≢false}
use Rattle.std.specs.List.{AllByRecursion as Every, cons_option}
use Rattle.std.specs.Map.{lookup, keys_of}
use Rattle.std.proofs.lemmas.Bool.{leb-true, leb-false}
use Rattle.pc_message.specs.declared.lists.Mail.{Mail}
use Rattle.pc_message.specs.Message.{size_of, weight_of}
use Rattle.pc_tables.specs.Table.{same, is_among}
use Rattle.pc_tables.specs.Order.{Ordered, AreDistinct}
use Rattle.pc_tables.proofs.Table.{same-refl}
use Rattle.pc_tables.proofs.Lists.{Every-from}
use Rattle.pc_tables.proofs.Totals.{total-append}
use Rattle.pc_office_history.specs.declared.limits.TheConstants.{MOST_WAITING, MOST_WAITING_WEIGHT}
use Rattle.pc_office_history.specs.declared.kept.Target.{Target}
use Rattle.pc_office_history.specs.declared.kept.KeptMail.{KeptMail}
use Rattle.pc_office_history.specs.Record.{target_of, mail_at, mails_for}
use Rattle.pc_office_history.specs.Limits.{mail_weight}
use Rattle.pc_office_history.specs.Step.{is_awaited}
use Rattle.pc_office_history.specs.Legal.{HasOtherUser, IsUnpulled, IsKept}
use Rattle.pc_office_history.proofs.Mails.{mails_for-append}
use Rattle.pc_office_spelling.specs.Spaces.{space_beside, space_of, users_of, space_after, space_upto}
use Rattle.pc_office_spelling.proofs.Spaces.{cond-none, cond-one, upto-le, upto-sum, upto-more, once-upto, Enough}

-- the numbers of mails rise
abbrev pub Rising : List KeptMail → Type 0
Rising mails = Ordered (λ (mail later : KeptMail). mail.number < later.number) mails

-- 1 where a user is among the targets
abbrev pub is_for : List Target → List ℕ → ℕ
is_for targets user = cond (is_among user (users_of targets)) 1 0

-- ---- one mail more

module _ (mail : KeptMail) (user : List ℕ) where
  abbrev found : Option Target → List Mail
  found target = cons_option (option_map (mail_at mail) target) []

  one-long : (targets : List Target) → length (found (target_of user targets)) ≡ is_for targets user
  one-long [] = refl
  one-long (target ∷ targets) =
      elim (same user target.user) as (λ b. length (found (cond b (Some target) (target_of user targets))) ≡ cond (b || is_among user (users_of targets)) 1 0) [ true ↦ refl | false ↦ one-long targets ]

  one-heavy : (targets : List Target) → mail_weight (found (target_of user targets)) ≡ cond (is_among user (users_of targets)) (weight_of mail.message) 0
  one-heavy [] = refl
  one-heavy (target ∷ targets) =
      elim (same user target.user) as (λ b. mail_weight (found (cond b (Some target) (target_of user targets))) ≡ cond (b || is_among user (users_of targets)) (weight_of mail.message) 0) [
        | true ↦ omega arith
        | false ↦ one-heavy targets
      ]

  pub behind-long : (before : List KeptMail) → length (mails_for user (before ++ mail ∷ [])) ≡ length (mails_for user before) + is_for mail.targets user
  behind-long before = ap length (mails_for-append user before (mail ∷ [])) ∙ length-append (mails_for user before) (found (target_of user mail.targets)) ∙ ap (λ (n : ℕ). length (mails_for user before) + n) (one-long mail.targets)

  pub front-long : (rest : List KeptMail) → length (mails_for user (mail ∷ rest)) ≡ is_for mail.targets user + length (mails_for user rest)
  front-long rest = ap length (mails_for-append user (mail ∷ []) rest) ∙ length-append (found (target_of user mail.targets)) (mails_for user rest) ∙ ap (λ (n : ℕ). n + length (mails_for user rest)) (one-long mail.targets)

  pub behind-heavy : (before : List KeptMail) → mail_weight (mails_for user (before ++ mail ∷ [])) ≡ mail_weight (mails_for user before) + cond (is_among user (users_of mail.targets)) (weight_of mail.message) 0
  behind-heavy before =
      ap mail_weight (mails_for-append user before (mail ∷ [])) ∙ total-append (λ (m : Mail). weight_of m.message) (mails_for user before) (found (target_of user mail.targets)) ∙ ap (λ (n : ℕ). mail_weight (mails_for user before) + n) (one-heavy mail.targets)

  -- the space behind the mail
  pub behind-space : (before : List KeptMail) → space_of (before ++ mail ∷ []) user ≡ space_after before mail.targets (size_of mail.message) user
  behind-space before =
      (λ i. space_beside (behind-long before i) (behind-heavy before i))
      ∙ by-case (is_among user (users_of mail.targets))
    where
      by-case : (b : Bool) → space_beside (length (mails_for user before) + cond b 1 0) (mail_weight (mails_for user before) + cond b (weight_of mail.message) 0) ≡ cond b (space_beside (suc (length (mails_for user before))) (mail_weight (mails_for user before) + (size_of mail.message + 256))) (space_of before user)
      by-case true = ap (λ (n : ℕ). space_beside n (mail_weight (mails_for user before) + (size_of mail.message + 256))) (let one : length (mails_for user before) + 1 ≡ suc (length (mails_for user before)) = omega arith in one)
      by-case false = λ i. space_beside ((let same : length (mails_for user before) + 0 ≡ length (mails_for user before) = omega arith in same) i) ((let same : mail_weight (mails_for user before) + 0 ≡ mail_weight (mails_for user before) = omega arith in same) i)

-- each mail weighs 256 at least
pub weight-least : (mails : List Mail) → 256 * length mails ≤ mail_weight mails
weight-least [] = omega arith
weight-least (mail ∷ mails) = let rest = weight-least mails in omega (arith, rest)

-- ---- the targets of a mail take one space each

-- less is noted of the user
abbrev pub IsBelow : List (List ℕ × ℕ) → ℕ → List ℕ → Type 0
IsBelow users number name = MatchOption (lookup (same name) users) ⊥ (λ noted. noted < number)

pub below-more : (users : List (List ℕ × ℕ)) (number most : ℕ) (name : List ℕ) → number ≤ most → IsBelow users number name → IsBelow users most name
below-more users number most name le is = weaker (lookup (same name) users) is
  where
    weaker : (noted : Option ℕ) → MatchOption noted ⊥ (λ n. n < number) → MatchOption noted ⊥ (λ n. n < most)
    weaker None h = absurd h
    weaker (Some n) h = omega (arith, h, le)

none-for : (user : List ℕ) (targets : List Target) → Every (λ (later : Target). same user later.user ≡ false) targets → is_for targets user ≡ 0
none-for user [] h = refl
none-for user (target ∷ targets) h = rw h.0 (none-for user targets h.1)

for-more : (target : Target) (targets : List Target) (name : List ℕ) → is_for targets name ≤ is_for (target ∷ targets) name
for-more target targets name = by-case (same name target.user) (is_among name (users_of targets))
  where
    by-case : (a b : Bool) → cond b 1 0 ≤ cond (a || b) 1 0
    by-case true b = cond-one b
    by-case false b = omega arith

module _ (users : List (List ℕ × ℕ)) (number : ℕ) where
  pub targets-least : (targets : List Target) → Ordered HasOtherUser targets → Every (λ (target : Target). IsBelow users number target.user) targets → length targets ≤ space_upto (is_for targets) users number
  targets-least [] apart below = omega arith
  targets-least (target ∷ targets) apart below =
      let rest = targets-least targets apart.1 below.1 in
      let none = none-for target.user targets apart.0 in
      let own : is_for (target ∷ targets) target.user ≡ 1 = rw (same-refl target.user) refl in
      let more = upto-more number (is_for targets) (is_for (target ∷ targets)) 1 target.user users below.0 (for-more target targets) (omega (arith, none, own)) in
      omega (arith, rest, more)

  pub targets-most : AreDistinct (keys_of users) → (targets : List Target) → space_upto (is_for targets) users number ≤ length targets
  targets-most distinct [] = nothing users
    where
      nothing : (some : List (List ℕ × ℕ)) → space_upto (λ user. 0) some number ≤ 0
      nothing [] = omega arith
      nothing (user ∷ some) = let rest = nothing some in let here = cond-none (nat_lt user.1 number) in omega (arith, rest, here)
  targets-most distinct (target ∷ targets) =
      let rest = targets-most distinct targets in
      let one = once-upto number target.user users distinct in
      let split = upto-sum number (λ user. cond (same user target.user) 1 0) (is_for targets) users in
      let le = upto-le number (is_for (target ∷ targets)) (λ user. cond (same user target.user) 1 0 + is_for targets user) users (Every-from (λ (user : List ℕ × ℕ). is_for (target ∷ targets) user.0 ≤ cond (same user.0 target.user) 1 0 + is_for targets user.0) (λ user. by-case (same user.0 target.user) (is_among user.0 (users_of targets))) users) in
      omega (arith, rest, one, split, le)
    where
      by-case : (a b : Bool) → cond (a || b) 1 0 ≤ cond a 1 0 + cond b 1 0
      by-case true true = omega arith
      by-case true false = omega arith
      by-case false true = omega arith
      by-case false false = omega arith

-- ---- mails that follow

module _ (users : List (List ℕ × ℕ)) (accepted : ℕ) where
  -- numbers that rise up to the last one leave it out of reach for so many
  pub rising-room : (number : ℕ) (mails : List KeptMail) → number ≤ accepted → Every (λ (mail : KeptMail). number < mail.number) mails → Rising mails → Every (IsKept users accepted) mails → number + length mails ≤ accepted
  rising-room number [] le above rising kept = omega (arith, le)
  rising-room number (mail ∷ mails) le above rising kept =
      let rest = rising-room mail.number mails kept.0.so_far rising.0 rising.1 kept.1 in
      let here = above.0 in
      omega (arith, rest, here)

  abbrev pub waiting_in : List KeptMail → List ℕ → ℕ
  waiting_in mails user = length (mails_for user mails)

  pub waiting-split : (number : ℕ) (mail : KeptMail) (rest : List KeptMail) → space_upto (waiting_in (mail ∷ rest)) users number ≡ space_upto (is_for mail.targets) users number + space_upto (waiting_in rest) users number
  waiting-split number mail rest = by-users users ∙ upto-sum number (is_for mail.targets) (waiting_in rest) users
    where
      by-users : (some : List (List ℕ × ℕ)) → space_upto (waiting_in (mail ∷ rest)) some number ≡ space_upto (λ user. is_for mail.targets user + waiting_in rest user) some number
      by-users [] = refl
      by-users (user ∷ some) = λ i. cond (nat_lt user.1 number) (front-long mail user.0 rest i) 0 + by-users some i

  below-each : (number most : ℕ) (targets : List Target) → number ≤ most → Every (IsUnpulled users number) targets → Every (λ (target : Target). IsBelow users most target.user) targets
  below-each number most [] le unpulled = tt
  below-each number most (target ∷ targets) le unpulled = (below-more users number most target.user le unpulled.0, below-each number most targets le unpulled.1)

  -- the targets of a mail take space up to each number past its own
  pub mail-least : (number : ℕ) (mail : KeptMail) → IsKept users accepted mail → mail.number ≤ number → length mail.targets ≤ space_upto (is_for mail.targets) users number
  mail-least number mail kept le = targets-least users number mail.targets kept.apart (below-each mail.number number mail.targets le kept.unpulled)

  some-target : (targets : List Target) → is_awaited targets ≡ true → 1 ≤ length targets
  some-target [] h = absurd (true≢false (sym h))
  some-target (target ∷ targets) h = omega arith

  -- of mails whose numbers rise up to the last one, all but as many as there are numbers past this one wait up to it
  pub wait-upto : (number : ℕ) (mails : List KeptMail) → number ≤ accepted → Rising mails → Every (IsKept users accepted) mails → number + length mails ≤ accepted + space_upto (waiting_in mails) users number
  wait-upto number [] le rising kept = omega (arith, le)
  wait-upto number (mail ∷ mails) le rising kept =
      let split = waiting-split number mail mails in
      elim (nat_le mail.number number) as (λ b. nat_le mail.number number ≡ b → number + suc (length mails) ≤ accepted + space_upto (waiting_in (mail ∷ mails)) users number) [
        | true ↦ λ e.
            let rest = wait-upto number mails le rising.1 kept.1 in
            let one = some-target mail.targets kept.0.waits in
            let here = mail-least number mail kept.0 (leb-true mail.number number e) in
            omega (arith, split, rest, one, here)
        | false ↦ λ e.
            let past = leb-false mail.number number e in
            let room = rising-room mail.number mails kept.0.so_far rising.0 rising.1 kept.1 in
            omega (arith, past, room)
      ] refl

-- ---- what there is space for

-- for each of these users no more wait than may
abbrev pub AreFew : List (List ℕ × ℕ) → List KeptMail → Type 0
AreFew users mails = Every (λ (user : List ℕ × ℕ). (length (mails_for user.0 mails) ≤ MOST_WAITING) × (mail_weight (mails_for user.0 mails) ≤ MOST_WAITING_WEIGHT)) users

-- what comes behind the mails before fits their space
pub space-for : (users : List (List ℕ × ℕ)) (before rest : List KeptMail) → AreFew users (before ++ rest) → Every (λ (user : List ℕ × ℕ). length (mails_for user.0 rest) ≤ space_of before user.0) users
space-for [] before rest few = tt
space-for (user ∷ users) before rest few =
    let split = mails_for-append user.0 before rest in
    let long = ap length split ∙ length-append (mails_for user.0 before) (mails_for user.0 rest) in
    let heavy = ap mail_weight split ∙ total-append (λ (m : Mail). weight_of m.message) (mails_for user.0 before) (mails_for user.0 rest) in
    let least = weight-least (mails_for user.0 rest) in
    let few-here = few.0.0 in
    let light = few.0.1 in
    (omega (arith, long, heavy, least, few-here, light), space-for users before rest few.1)

module _ (users : List (List ℕ × ℕ)) (accepted : ℕ) where
  -- mails that follow have space enough
  pub enough-rest : (before rest : List KeptMail) → AreFew users (before ++ rest) → Rising rest → Every (IsKept users accepted) rest → Enough (space_of before) users accepted (length rest) 0
  enough-rest before rest few rising kept number le past =
      let wait = wait-upto users accepted number rest le rising kept in
      let fit = upto-le number (waiting_in users accepted rest) (space_of before) users (space-for users before rest few) in
      omega (arith, wait, fit)

  -- so have the targets of the one in front of them
  pub enough-many : (before rest : List KeptMail) (mail : KeptMail) → AreFew users (before ++ mail ∷ rest) → Rising (mail ∷ rest) → Every (IsKept users accepted) (mail ∷ rest) → Enough (space_of before) users accepted (length rest) (length mail.targets)
  enough-many before rest mail few rising kept number le past =
      let wait = wait-upto users accepted number rest le rising.1 kept.1 in
      let room = rising-room users accepted mail.number rest kept.0.so_far rising.0 rising.1 kept.1 in
      let here = mail-least users accepted number mail kept.0 (omega (arith, room, past)) in
      let split = waiting-split users accepted number mail rest in
      let fit = upto-le number (waiting_in users accepted (mail ∷ rest)) (space_of before) users (space-for users before (mail ∷ rest) few) in
      omega (arith, wait, here, split, fit)

  -- space for so many targets is space for a mail of no lines
  pub enough-least : (before : List KeptMail) (targets : List Target) (count : ℕ) → AreDistinct (keys_of users) → Enough (space_of before) users accepted count (length targets) → Enough (space_after before targets 0) users accepted count 0
  enough-least before targets count distinct enough number le past =
      let all = enough number le past in
      let most = targets-most users number distinct targets in
      let split = upto-sum number (space_after before targets 0) (is_for targets) users in
      let less = upto-le number (space_of before) (λ user. space_after before targets 0 user + is_for targets user) users
      (Every-from (λ (user : List ℕ × ℕ). space_of before user.0 ≤ space_after before targets 0 user.0 + is_for targets user.0) (λ user. by-case (length (mails_for user.0 before)) (mail_weight (mails_for user.0 before)) (is_among user.0 (users_of targets))) users)
      in
      omega (arith, all, most, split, less)
    where
      by-case : (mails weight : ℕ) (b : Bool) → space_beside mails weight ≤ cond b (space_beside (suc mails) (weight + 256)) (space_beside mails weight) + cond b 1 0
      by-case mails weight true = omega arith
      by-case mails weight false = omega arith

  -- less of it is taken by a smaller message
  pub enough-smaller : (before : List KeptMail) (targets : List Target) (count size smaller : ℕ) → smaller ≤ size → Enough (space_after before targets size) users accepted count 0 → Enough (space_after before targets smaller) users accepted count 0
  enough-smaller before targets count size smaller fewer enough number le past =
      let all = enough number le past in
      let more = upto-le number (space_after before targets size) (space_after before targets smaller) users
      (Every-from (λ (user : List ℕ × ℕ). space_after before targets size user.0 ≤ space_after before targets smaller user.0) (λ user. by-case (length (mails_for user.0 before)) (mail_weight (mails_for user.0 before)) (is_among user.0 (users_of targets))) users)
      in
      omega (arith, all, more)
    where
      by-case : (mails weight : ℕ) (b : Bool) → cond b (space_beside (suc mails) (weight + (size + 256))) (space_beside mails weight) ≤ cond b (space_beside (suc mails) (weight + (smaller + 256))) (space_beside mails weight)
      by-case mails weight true = omega (arith, fewer)
      by-case mails weight false = omega arith

  -- the space behind a mail
  pub enough-behind : (before : List KeptMail) (mail : KeptMail) (count : ℕ) → Enough (space_after before mail.targets (size_of mail.message)) users accepted count 0 → Enough (space_of (before ++ mail ∷ [])) users accepted count 0
  enough-behind before mail count enough number le past =
      let all = enough number le past in
      let same = upto-le number (space_after before mail.targets (size_of mail.message)) (space_of (before ++ mail ∷ [])) users
      (Every-from (λ (user : List ℕ × ℕ). space_after before mail.targets (size_of mail.message) user.0 ≤ space_of (before ++ mail ∷ []) user.0) (λ user. let is = behind-space mail user.0 before in omega (arith, is)) users)
      in
      omega (arith, all, same)

  pub enough-before : (before : List KeptMail) (mail : KeptMail) (count : ℕ) → Enough (space_of (before ++ mail ∷ [])) users accepted count 0 → Enough (space_after before mail.targets (size_of mail.message)) users accepted count 0
  enough-before before mail count enough number le past =
      let all = enough number le past in
      let same = upto-le number (space_of (before ++ mail ∷ [])) (space_after before mail.targets (size_of mail.message)) users
      (Every-from (λ (user : List ℕ × ℕ). space_of (before ++ mail ∷ []) user.0 ≤ space_after before mail.targets (size_of mail.message) user.0) (λ user. let is = behind-space mail user.0 before in omega (arith, is)) users)
      in
      omega (arith, all, same)
