-- How much a canonical record keeps of mails.
use Rattle.std.proofs.Common.{◌≡◌, ℕ, ◌+◌, ◌*◌, ◌<◌, ◌≤◌, Bool, true, false, cond, ◌||◌, nat_lt, List, [], ◌∷◌, length, Option, None, Some, option_map, MatchOption, refl, sym, ◌∙◌, ap, subst, arith, le_refl, le_trans, ltb-false, true≢false, is_some}
use Rattle.std.specs.List.{AllByRecursion as Every, list_any, cons_option}
use Rattle.std.specs.Map.{lookup, keys_of}
use Rattle.std.proofs.lemmas.Bool.{or_parts}
use Rattle.std.proofs.Math.Nat.{mul-le-mul_right}
use Rattle.pc_message.specs.declared.lists.Mail.{Mail}
use Rattle.pc_message.specs.Message.{weight_of}
use Rattle.pc_message.specs.declared.limits.TheConstants.{LAST_MAIL}
use Rattle.pc_tables.specs.Table.{same, is_among, total}
use Rattle.pc_tables.specs.Order.{Ordered}
use Rattle.pc_tables.proofs.Table.{same-true, same-refl, is_among-keys}
use Rattle.pc_office_history.specs.declared.limits.TheConstants.{MOST_USERS, MOST_WAITING, MOST_WAITING_WEIGHT}
use Rattle.pc_office_history.specs.declared.kept.Target.{Target}
use Rattle.pc_office_history.specs.declared.kept.KeptMail.{KeptMail}
use Rattle.pc_office_history.specs.Record.{OfficeRecord, target_of, mail_at, mails_for}
use Rattle.pc_office_history.specs.Limits.{mail_weight, are_too_many}
use Rattle.pc_office_history.specs.Step.{is_awaited}
use Rattle.pc_office_history.specs.Legal.{HasOtherUser, IsUnpulled, IsKept, IsCanonical}
use Rattle.pc_office_history.specs.Laws.{IsBounded}

-- ---- sums over users

total-sum : (f g : List ℕ → ℕ) (names : List (List ℕ)) → total (λ name. f name + g name) names ≡ total f names + total g names
total-sum f g [] = refl
total-sum f g (name ∷ names) = omega (arith, total-sum f g names)

total-agree : (f g : List ℕ → ℕ) (names : List (List ℕ)) → ((name : List ℕ) → f name ≡ g name) → total f names ≡ total g names
total-agree f g [] h = refl
total-agree f g (name ∷ names) h = λ i. h name i + total-agree f g names h i

-- a sum over names with more for one of them
total-more : (f g : List ℕ → ℕ) (more : ℕ) (one : List ℕ) (names : List (List ℕ)) → is_among one names ≡ true → ((name : List ℕ) → f name ≤ g name) → f one + more ≤ g one → total f names + more ≤ total g names
total-more f g more one [] h le here = absurd (true≢false (sym h))
total-more f g more one (name ∷ names) h le here = elim (same one name) as (λ b. same one name ≡ b → (b || is_among one names) ≡ true → (f name + total f names) + more ≤ g name + total g names) [
  | true ↦ λ e i. let same_name = same-true one name e in let first : f name + more ≤ g name = subst (λ n. f n + more ≤ g n) same_name here in omega (arith, first, total-less names)
  | false ↦ λ e i. omega (arith, le name, total-more f g more one names i le here)
] refl h
  where
    total-less : (others : List (List ℕ)) → total f others ≤ total g others
    total-less [] = le_refl 0
    total-less (other ∷ others) = omega (arith, le other, total-less others)

total-most : (f : List ℕ → ℕ) (most : ℕ) (names : List (List ℕ)) → Every (λ name. f name ≤ most) names → total f names ≤ length names * most
total-most f most [] h = omega arith
total-most f most (name ∷ names) h = omega (arith, h.0, total-most f most names h.1)

-- ---- what one mail adds

-- 1 for a user for whom it is, or 0
counts : Option Target → ℕ
counts None = 0
counts (Some target) = 1

weighs : ℕ → Option Target → ℕ
weighs weight None = 0
weighs weight (Some target) = weight

no-target : (user : List ℕ) (targets : List Target) → Every (λ (later : Target). same user later.user ≡ false) targets → target_of user targets ≡ None
no-target user [] h = refl
no-target user (t ∷ ts) h = rw h.0 (no-target user ts h.1)

counts-le : (t : Target) (b : Bool) (rest : Option Target) → counts rest ≤ counts (cond b (Some t) rest)
unfolding counts
counts-le t true None = omega arith
counts-le t true (Some u) = le_refl 1
counts-le t false rest = le_refl (counts rest)

counts-own : (t : Target) (rest : Option Target) (b : Bool) → b ≡ true → rest ≡ None → counts rest + 1 ≤ counts (cond b (Some t) rest)
unfolding counts
counts-own t rest b e none = subst (λ (o : Option Target). counts o + 1 ≤ counts (cond b (Some t) o)) (sym none) (subst (λ c. counts None + 1 ≤ counts (cond c (Some t) None)) (sym e) (le_refl 1))

-- a mail counts for each of its targets
targets-counted : (users : List (List ℕ)) (targets : List Target) → Every (λ (target : Target). is_among target.user users ≡ true) targets → Ordered HasOtherUser targets → length targets ≤ total (λ user. counts (target_of user targets)) users
targets-counted users [] h apart = omega arith
targets-counted users (t ∷ ts) h apart =
    let step = total-more (λ user. counts (target_of user ts)) (λ user. counts (target_of user (t ∷ ts))) 1 t.user users h.0 (λ user. counts-le t (same user t.user) (target_of user ts)) (counts-own t (target_of t.user ts) (same t.user t.user) (same-refl t.user) (no-target t.user ts apart.0)) in
    omega (arith, step, targets-counted users ts h.1 apart.1)

-- a mail that is for somebody weighs for one user at least
weight-counted : (users : List (List ℕ)) (weight : ℕ) (targets : List Target) → is_awaited targets ≡ true → Every (λ (target : Target). is_among target.user users ≡ true) targets → weight ≤ total (λ user. weighs weight (target_of user targets)) users
unfolding weighs
weight-counted users weight [] some h = absurd (true≢false (sym some))
weight-counted users weight (t ∷ ts) some h =
    let own : weighs weight (target_of t.user (t ∷ ts)) ≡ weight = ap (λ b. weighs weight (cond b (Some t) (target_of t.user ts))) (same-refl t.user) in
    let step = total-more (λ user. 0) (λ user. weighs weight (target_of user (t ∷ ts))) weight t.user users h.0 (λ user. omega arith) (omega (arith, own)) in
    omega (arith, step)

-- ---- over all mails

module _ (r : OfficeRecord) where
  abbrev users : List (List ℕ)
  users = keys_of r.users

  target-users : (number : ℕ) (targets : List Target) → Every (IsUnpulled r.users number) targets → Every (λ (target : Target). is_among target.user users ≡ true) targets
  target-users number [] h = tt
  target-users number (t ∷ ts) h = (is_among-keys t.user r.users ∙ found (lookup (same t.user) r.users) h.0, target-users number ts h.1)
    where
      found : (o : Option ℕ) → MatchOption o ⊥ (λ noted. noted < number) → is_some o ≡ true
      found None g = absurd g
      found (Some noted) g = refl

  length-cons : (mail : KeptMail) (found : Option Target) (mails : List Mail) → length (cons_option (option_map (mail_at mail) found) mails) ≡ counts found + length mails
  unfolding counts
  length-cons mail None mails = omega arith
  length-cons mail (Some target) mails = omega arith

  weight-cons : (mail : KeptMail) (found : Option Target) (mails : List Mail) → mail_weight (cons_option (option_map (mail_at mail) found) mails) ≡ weighs (weight_of mail.message) found + mail_weight mails
  unfolding weighs
  weight-cons mail None mails = omega arith
  weight-cons mail (Some target) mails = refl

  all-targets : (kept : List KeptMail) → Every (IsKept r.users r.accepted) kept → total (λ (mail : KeptMail). length mail.targets) kept ≤ total (λ user. length (mails_for user kept)) users
  all-targets [] h = omega arith
  all-targets (mail ∷ kept) h =
      let split = total-agree (λ user. length (mails_for user (mail ∷ kept))) (λ user. counts (target_of user mail.targets) + length (mails_for user kept)) users (λ user. length-cons mail (target_of user mail.targets) (mails_for user kept)) in
      let sum = total-sum (λ user. counts (target_of user mail.targets)) (λ user. length (mails_for user kept)) users in
      omega (arith, split, sum, targets-counted users mail.targets (target-users mail.number mail.targets h.0.unpulled) h.0.apart, all-targets kept h.1)

  all-weight : (kept : List KeptMail) → Every (IsKept r.users r.accepted) kept → total (λ (mail : KeptMail). weight_of mail.message) kept ≤ total (λ user. mail_weight (mails_for user kept)) users
  all-weight [] h = omega arith
  all-weight (mail ∷ kept) h =
      let split = total-agree (λ user. mail_weight (mails_for user (mail ∷ kept))) (λ user. weighs (weight_of mail.message) (target_of user mail.targets) + mail_weight (mails_for user kept)) users (λ user. weight-cons mail (target_of user mail.targets) (mails_for user kept)) in
      let sum = total-sum (λ user. weighs (weight_of mail.message) (target_of user mail.targets)) (λ user. mail_weight (mails_for user kept)) users in
      omega (arith, split, sum, weight-counted users (weight_of mail.message) mail.targets h.0.waits (target-users mail.number mail.targets h.0.unpulled), all-weight kept h.1)

  all-mails : (kept : List KeptMail) → Every (IsKept r.users r.accepted) kept → length kept ≤ total (λ (mail : KeptMail). length mail.targets) kept
  all-mails [] h = omega arith
  all-mails (mail ∷ kept) h = omega (arith, one mail.targets h.0.waits, all-mails kept h.1)
    where
      one : (targets : List Target) → is_awaited targets ≡ true → 1 ≤ length targets
      one [] g = absurd (true≢false (sym g))
      one (t ∷ ts) g = omega arith

  few-each : (names : List (List ℕ)) → list_any (λ user. are_too_many (mails_for user r.kept)) names ≡ false → Every (λ user. length (mails_for user r.kept) ≤ MOST_WAITING) names × Every (λ user. mail_weight (mails_for user r.kept) ≤ MOST_WAITING_WEIGHT) names
  few-each [] h = (tt, tt)
  few-each (name ∷ names) h =
      let parts = or_parts (are_too_many (mails_for name r.kept)) (list_any (λ user. are_too_many (mails_for user r.kept)) names) h in
      let here = or_parts (nat_lt MOST_WAITING (length (mails_for name r.kept))) (nat_lt MOST_WAITING_WEIGHT (mail_weight (mails_for name r.kept))) parts.0 in
      let rest = few-each names parts.1 in
      ((ltb-false MOST_WAITING (length (mails_for name r.kept)) here.0, rest.0), (ltb-false MOST_WAITING_WEIGHT (mail_weight (mails_for name r.kept)) here.1, rest.1))

  pub bounded : IsCanonical r → IsBounded r
  bounded canonical =
      let kept = canonical.well_formed.kept in
      let few = ltb-false MOST_USERS (length users) canonical.within.0 in
      let each = few-each users (or_parts (list_any (λ user. are_too_many (mails_for user r.kept)) users) (nat_lt LAST_MAIL r.accepted) canonical.within.1.1.1.0).0 in
      record {
        mails = all-mails r.kept kept;
        targets = le_trans (all-targets r.kept kept) (le_trans (total-most (λ user. length (mails_for user r.kept)) MOST_WAITING users each.0) (mul-le-mul_right MOST_WAITING few));
        weight = le_trans (all-weight r.kept kept) (le_trans (total-most (λ user. mail_weight (mails_for user r.kept)) MOST_WAITING_WEIGHT users each.1) (mul-le-mul_right MOST_WAITING_WEIGHT few));
      }
