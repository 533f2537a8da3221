-- What waits for a user, over many entries.
use Rattle.std.proofs.Common.{◌≡◌, ℕ, zero, suc, ◌+◌, ◌<◌, ◌≤◌, ◌==◌, Bool, true, false, cond, ◌&&◌, ◌⊎◌, nat_lt, List, [], ◌∷◌, ◌++◌, length, map, filter, find, take, Option, None, Some, unwrap_or, option_map, MatchOption, slice_get, refl, sym, ◌∙◌, ap, subst, inl, inr, arith, le_refl, le_trans, append-nil, append_assoc, lt-ltb, le-ltb, eq-eqb, ne_eqb}
use Rattle.std.specs.Prelude.{⊤, Contains}
use Rattle.std.specs.List.{AllByRecursion as Every, cons_option}
use Rattle.std.specs.Map.{lookup}
use Rattle.std.specs.Option.{option_or}
use Rattle.std.proofs.lemmas.List.Folds.{find-append}
use Rattle.std.proofs.lemmas.Bool.{cases_lt, ltb-true}
use Rattle.std.proofs.lemmas.List.Elements.{filter-append, Contains-append_left, Contains-append_right}
use Rattle.pc_message.specs.declared.lists.Mail.{Mail}
use Rattle.pc_message.specs.declared.limits.TheConstants.{MOST_LETTERS, LAST_MAIL}
use Rattle.pc_tables.specs.Table.{same, is_among, numbers}
use Rattle.pc_tables.specs.Order.{Ordered}
use Rattle.pc_tables.proofs.Table.{same-true, is_among-keys}
use Rattle.pc_tables.proofs.Lists.{Every-weaker, Every-append, Every-filter, Every-zip, Every-passes}
use Rattle.pc_tables.proofs.Numbers.{numbers-append}
use Rattle.pc_tables.proofs.Order.{Ordered-filter}
use Rattle.pc_office_history.specs.declared.kept.Target.{Target}
use Rattle.pc_office_history.specs.declared.kept.KeptMail.{KeptMail}
use Rattle.pc_office_history.specs.declared.entry.OfficeEntry.{OfficeEntry}
use Rattle.pc_office_history.specs.declared.entry.OfficeEntry.TheVariants.{AddUser, Accept, Pulled}
use Rattle.pc_office_history.specs.Record.{OfficeRecord, target_of, mail_at, mail_for, mails_for}
use Rattle.pc_office_history.specs.Effect.{noted_after, accepted_after, targets_of, new_mails, new_messages}
use Rattle.pc_office_history.specs.Known.{Known, said_by, is_past}
use Rattle.pc_office_history.specs.History.{History, start, ◌▹◌, ◌▹▹◌, known, mails, mail_numbered}
use Rattle.pc_office_history.specs.Allowed.{is_allowed, is_user, is_board}
use Rattle.pc_office_history.specs.Step.{record_of}
use Rattle.pc_office_history.specs.Legal.{IsKept, IsWellFormed, IsLegal}
use Rattle.pc_office_history.specs.Laws.{IsInOrder, IsToldFirst, AreToldInOrder, AreAllTold, last_number, sent_to, mail_to, accept_count}
use Rattle.pc_office_history.proofs.Mails.{mails_for-append, past-all, Every-mails_for}
use Rattle.pc_office_history.proofs.Agreement.{pulled-parts, absent, noted-upto, waiting-past}
use Rattle.pc_office_history.proofs.Histories.{Stands-legal, legal-front}
use Rattle.pc_office_history.proofs.Within.{KnowsNames-legal}

-- ---- numbers never fall

pub accepted-grows : (e : OfficeEntry) (count : ℕ) → count ≤ accepted_after e count
accepted-grows (Accept names message) count = omega arith
accepted-grows (AddUser user) count = le_refl count
accepted-grows _ count = le_refl count

pub noted-grows : (k : Known) (e : OfficeEntry) → is_allowed k e ≡ true → (user : List ℕ) → k.noted user ≤ noted_after e user (k.noted user)
noted-grows k (Pulled by number) h user = elim (same by user) as (λ b. same by user ≡ b → k.noted user ≤ cond b number (k.noted user)) [
  | true ↦ λ e. let own : k.noted by ≡ k.noted user = ap k.noted (same-true by user e) in let past = ltb-true (k.noted by) number (pulled-parts k by number h).1 in omega (arith, own, past)
  | false ↦ λ e. le_refl (k.noted user)
] refl
noted-grows k (AddUser made) h user = le_refl (k.noted user)
noted-grows k _ h user = le_refl (k.noted user)

pub never-fall : (h : History) (es : List OfficeEntry) → IsLegal (h ▹▹ es) → ((known h).accepted ≤ (known (h ▹▹ es)).accepted) × ((user : List ℕ) → (known h).noted user ≤ (known (h ▹▹ es)).noted user)
never-fall h [] legal = (le_refl (known h).accepted, λ user. le_refl ((known h).noted user))
never-fall h (e ∷ es) legal =
    let rest = never-fall (h ▹ e) es legal in
    let allowed = (legal-front (h ▹ e) es legal).1 in (
      le_trans (accepted-grows e (known h).accepted) rest.0,
      λ user. le_trans (noted-grows (known h) e allowed user) (rest.1 user),
    )

-- ---- what waits, in order

mail-numbers : (P : ℕ → Type 0) (user : List ℕ) (kept : List KeptMail) → Every (λ (mail : KeptMail). P mail.number) kept → Every (λ (mail : Mail). P mail.number) (mails_for user kept)
mail-numbers P user kept h = Every-mails_for (λ (mail : Mail). P mail.number) user kept (Every-weaker (λ (mail : KeptMail). P mail.number) (λ (mail : KeptMail). MatchOption (mail_for user mail) ⊤ (λ (waits : Mail). P waits.number)) (λ mail g. found mail (target_of user mail.targets) g) kept h)
  where
    found : (mail : KeptMail) (o : Option Target) → P mail.number → MatchOption (option_map (mail_at mail) o) ⊤ (λ (waits : Mail). P waits.number)
    found mail None g = tt
    found mail (Some target) g = g

mails-rising : (user : List ℕ) (kept : List KeptMail) → Ordered (λ (mail later : KeptMail). mail.number < later.number) kept → Ordered (λ (mail later : Mail). mail.number < later.number) (mails_for user kept)
mails-rising user [] h = tt
mails-rising user (mail ∷ kept) h = elim (target_of user mail.targets) as (λ o. Ordered (λ (one later : Mail). one.number < later.number) (cons_option (option_map (mail_at mail) o) (mails_for user kept))) [
  | None ↦ mails-rising user kept h.1
  | Some target ↦ (mail-numbers (λ number. mail.number < number) user kept h.0, mails-rising user kept h.1)
]

in-order-said_by : (r : OfficeRecord) → IsWellFormed r → (user : List ℕ) → (is_user (said_by r) user ≡ false → mails_for user r.kept ≡ []) → IsInOrder (said_by r) user
in-order-said_by r formed user none = record {
  rising = mails-rising user r.kept formed.rising;
  past = Every-zip (λ (mail : Mail). unwrap_or (lookup (same user) r.users) 0 < mail.number) (λ (mail : Mail). mail.number ≤ r.accepted) (λ (mail : Mail). (unwrap_or (lookup (same user) r.users) 0 < mail.number) × (mail.number ≤ r.accepted)) (λ mail a b. (a, b)) (mails_for user r.kept) (waiting-past r formed user) (mail-numbers (λ number. number ≤ r.accepted) user r.kept (Every-weaker (IsKept r.users r.accepted) (λ (mail : KeptMail). mail.number ≤ r.accepted) (λ mail g. g.so_far) r.kept formed.kept));
  noted = noted-upto r.accepted user r.users formed.noted;
  nobody = λ h. (none h, ap (λ o. unwrap_or o 0) (absent (lookup (same user) r.users) (sym (is_among-keys user r.users) ∙ h)));
}

pub in-order : (h : History) → IsLegal h → (user : List ℕ) → IsInOrder (known h) user
in-order h legal user =
    let stands = Stands-legal h legal in
    let none = λ (g : is_user (said_by (record_of h)) user ≡ false). ap (λ (k : Known). k.waiting user) (sym stands.alike) ∙ (KnowsNames-legal h legal).nothing user (ap (λ (k : Known). is_user k user) stands.alike ∙ g) in
    subst (λ k. IsInOrder k user) (sym stands.alike) (in-order-said_by (record_of h) stands.formed user none)

-- ---- what waits are the mails past the noted number

past-twice : (low high : ℕ) (ms : List Mail) → low ≤ high → filter (is_past high) (filter (is_past low) ms) ≡ filter (is_past high) ms
past-twice low high [] le = refl
past-twice low high (mail ∷ ms) le = elim (cases_lt low mail.number) [
  | inl past ↦ rw (lt-ltb low mail.number past) (ap (λ rest. cond (nat_lt high mail.number) (mail ∷ rest) rest) (past-twice low high ms le))
  | inr upto ↦ rw (le-ltb low mail.number upto, le-ltb high mail.number (omega (arith, le, upto))) (past-twice low high ms le)
]

pub waiting-is-past : (h : History) → IsLegal h → (user : List ℕ) → (known h).waiting user ≡ filter (is_past ((known h).noted user)) (mails_for user (mails h))
waiting-is-past (start r number) legal user = sym (past-all (unwrap_or (lookup (same user) r.users) 0) (mails_for user r.kept) (waiting-past r legal.well_formed user))
waiting-is-past (h ▹ e) legal user =
    let k = known h in
    let low = k.noted user in
    let high = noted_after e user low in
    let before = mails_for user (mails h) in
    let new = mails_for user (new_mails e k.owner k.accepted) in
    ap (λ ms. filter (is_past high) (ms ++ new)) (waiting-is-past h legal.0 user)
    ∙ filter-append (is_past high) (filter (is_past low) before) new
    ∙ ap (λ ms. ms ++ filter (is_past high) new) (past-twice low high before (noted-grows k e legal.1 user))
    ∙ sym (filter-append (is_past high) before new)
    ∙ sym (ap (filter (is_past high)) (mails_for-append user (mails h) (new_mails e k.owner k.accepted)))

-- ---- a mail that was accepted waits

IsIn : {X : Type 0} → X → List X → Type 0
IsIn x [] = ⊥
IsIn x (y ∷ ys) = (y ≡ x) ⊎ IsIn x ys

module _ {X : Type 0} where
  Contains-in : (x : X) (xs : List X) → IsIn x xs → Contains xs x
  unfolding IsIn
  Contains-in x [] h = absurd h
  Contains-in x (y ∷ ys) (inl e) = Contains-append_left (y ∷ []) ys x (0, omega arith, e)
  Contains-in x (y ∷ ys) (inr h) = Contains-append_right (y ∷ []) ys x (Contains-in x ys h)

  in-append : (x : X) (xs ys : List X) → IsIn x xs → IsIn x (xs ++ ys)
  unfolding IsIn
  in-append x [] ys h = absurd h
  in-append x (y ∷ xs) ys (inl e) = inl e
  in-append x (y ∷ xs) ys (inr h) = inr (in-append x xs ys h)

  in-last : (x : X) (xs : List X) → IsIn x (xs ++ x ∷ [])
  unfolding IsIn
  in-last x [] = inl refl
  in-last x (y ∷ xs) = inr (in-last x xs)

  in-filter : (x : X) (p : X → Bool) (xs : List X) → p x ≡ true → IsIn x xs → IsIn x (filter p xs)
  unfolding IsIn
  in-filter x p [] e h = h
  in-filter x p (y ∷ xs) e (inl g) = subst (λ b. IsIn x (cond b (y ∷ filter p xs) (filter p xs))) (sym (ap p g ∙ e)) (inl g)
  in-filter x p (y ∷ xs) e (inr h) = elim (p y) as (λ b. IsIn x (cond b (y ∷ filter p xs) (filter p xs))) [ true ↦ inr (in-filter x p xs e h) | false ↦ in-filter x p xs e h ]

still-waits : (h : History) (es : List OfficeEntry) → IsLegal (h ▹▹ es) → (user : List ℕ) (mail : Mail) → IsIn mail ((known h).waiting user) → (known (h ▹▹ es)).noted user < mail.number → IsIn mail ((known (h ▹▹ es)).waiting user)
still-waits h [] legal user mail waits past = waits
still-waits h (e ∷ es) legal user mail waits past =
    let rest = (never-fall (h ▹ e) es legal).1 user in
    let k = known h in
    still-waits (h ▹ e) es legal user mail (in-filter mail (is_past (noted_after e user (k.noted user))) (k.waiting user ++ mails_for user (new_mails e k.owner k.accepted)) (lt-ltb (noted_after e user (k.noted user)) mail.number (omega (arith, rest, past))) (in-append mail (k.waiting user) (mails_for user (new_mails e k.owner k.accepted)) waits)) past

-- what is past all mails that were accepted before is first
first-past : (low : ℕ) (mail : Mail) (ms : List Mail) → mail.number ≡ suc low → Ordered (λ (one later : Mail). one.number < later.number) ms → IsIn mail ms → slice_get (take 64 (filter (is_past low) ms)) 0 ≡ Some mail
unfolding IsIn
first-past low mail [] e order h = absurd h
first-past low mail (one ∷ ms) e order (inl same_mail) = let past : low < one.number = omega (arith, ap (λ (m : Mail). m.number) same_mail, e) in rw (lt-ltb low one.number past) (ap Some same_mail)
first-past low mail (one ∷ ms) e order (inr h) = let before = every-in ms order.0 h in rw (le-ltb low one.number (omega (arith, before, e))) (first-past low mail ms e order.1 h)
  where
    every-in : (xs : List Mail) → Every (λ (later : Mail). one.number < later.number) xs → IsIn mail xs → one.number < mail.number
    every-in [] all g = absurd g
    every-in (x ∷ xs) all (inl same_mail) = omega (arith, all.0, ap (λ (m : Mail). m.number) same_mail)
    every-in (x ∷ xs) all (inr g) = every-in xs all.1 g

mails_for-one : (user : List ℕ) (mail : KeptMail) (target : Target) → target_of user mail.targets ≡ Some target → mails_for user (mail ∷ []) ≡ mail_at mail target ∷ []
mails_for-one user mail target h = ap (λ o. cons_option (option_map (mail_at mail) o) []) h

module _ (h : History) (names message : List (List ℕ)) where
  abbrev sent_mail : KeptMail
  sent_mail = record { number = suc (known h).accepted; targets = targets_of (known h).owner names; message = message }

  -- what waits after a mail: what waited, and the mail
  pub mail-added : IsLegal h → (user : List ℕ) → (known (h ▹ Accept names message)).waiting user ≡ (known h).waiting user ++ mails_for user (sent_mail ∷ [])
  mail-added legal user =
      let order = in-order h legal user in
      past-all ((known h).noted user) ((known h).waiting user ++ mails_for user (sent_mail ∷ []))
      (Every-append (λ (mail : Mail). (known h).noted user < mail.number) ((known h).waiting user) (mails_for user (sent_mail ∷ []))
      (Every-weaker (λ (mail : Mail). ((known h).noted user < mail.number) × (mail.number ≤ (known h).accepted)) (λ (mail : Mail). (known h).noted user < mail.number) (λ mail g. g.0) ((known h).waiting user) order.past)
      (mail-numbers (λ number. (known h).noted user < number) user (sent_mail ∷ []) (omega (arith, order.noted), tt)))

  pub accepted-waits : (es : List OfficeEntry) → IsLegal (h ▹ Accept names message ▹▹ es) → (user : List ℕ) (target : Target) → target_of user (targets_of (known h).owner names) ≡ Some target → (known (h ▹ Accept names message ▹▹ es)).noted user ≤ (known h).accepted → IsToldFirst (known (h ▹ Accept names message ▹▹ es)) user (known h).accepted (mail_to h message target)
  accepted-waits es legal user target goes noted =
      let mail = mail_to h message target in
      let legal_there = (legal-front (h ▹ Accept names message) es legal).0 in
      let there : IsIn mail ((known (h ▹ Accept names message)).waiting user) = subst (IsIn mail) (sym (mail-added legal_there user ∙ ap (λ ms. (known h).waiting user ++ ms) (mails_for-one user sent_mail target goes))) (in-last mail ((known h).waiting user)) in
      let waits = still-waits (h ▹ Accept names message) es legal user mail there (omega (arith, noted)) in
      record {
        waits = Contains-in mail ((known (h ▹ Accept names message ▹▹ es)).waiting user) waits;
        first = first-past (known h).accepted mail ((known (h ▹ Accept names message ▹▹ es)).waiting user) refl (in-order (h ▹ Accept names message ▹▹ es) legal user).rising waits;
      }

-- ---- what other entries leave

still-past : (h : History) → IsLegal h → (user : List ℕ) → filter (is_past ((known h).noted user)) ((known h).waiting user ++ []) ≡ (known h).waiting user
still-past h legal user =
    ap (filter (is_past ((known h).noted user))) (append-nil ((known h).waiting user))
    ∙ past-all ((known h).noted user) ((known h).waiting user) (Every-weaker (λ (mail : Mail). ((known h).noted user < mail.number) × (mail.number ≤ (known h).accepted)) (λ (mail : Mail). (known h).noted user < mail.number) (λ mail g. g.0) ((known h).waiting user) (in-order h legal user).past)

pub pulled-taken : (h : History) (by : List ℕ) (number : ℕ) → IsLegal h → (user : List ℕ) → (known (h ▹ Pulled by number)).waiting user ≡ cond (same by user) (filter (is_past number) ((known h).waiting user)) ((known h).waiting user)
pulled-taken h by number legal user = elim (same by user) as (λ b. filter (is_past (cond b number ((known h).noted user))) ((known h).waiting user ++ []) ≡ cond b (filter (is_past number) ((known h).waiting user)) ((known h).waiting user)) [
  | true ↦ ap (filter (is_past number)) (append-nil ((known h).waiting user))
  | false ↦ still-past h legal user
]

no-new : (e : OfficeEntry) (owner : List ℕ → Option Target) (accepted : ℕ) → accepted_after e 0 ≡ 0 → new_mails e owner accepted ≡ []
no-new (Accept names message) owner accepted h = absurd (omega (arith, h))
no-new (AddUser user) owner accepted h = refl
no-new _ owner accepted h = refl

pub waiting-stays : (h : History) (e : OfficeEntry) → IsLegal h → accepted_after e 0 ≡ 0 → (user : List ℕ) → noted_after e user ((known h).noted user) ≡ (known h).noted user → (known (h ▹ e)).waiting user ≡ (known h).waiting user
waiting-stays h e legal none user noted =
    (λ i. filter (is_past (noted i)) ((known h).waiting user ++ mails_for user (no-new e (known h).owner (known h).accepted none i)))
    ∙ still-past h legal user

-- ---- what is told at once

Every-take : {X : Type 0} (P : X → Type 0) (n : ℕ) (xs : List X) → Every P xs → Every P (take n xs)
Every-take P zero xs h = tt
Every-take P (suc n) [] h = tt
Every-take P (suc n) (x ∷ xs) h = (h.0, Every-take P n xs h.1)

Ordered-take : {X : Type 0} (R : X → X → Type 0) (n : ℕ) (xs : List X) → Ordered R xs → Ordered R (take n xs)
Ordered-take R zero xs h = tt
Ordered-take R (suc n) [] h = tt
Ordered-take R (suc n) (x ∷ xs) h = (Every-take (R x) n xs h.0, Ordered-take R n xs h.1)

length-take-upto : {X : Type 0} (n : ℕ) (xs : List X) → length (take n xs) ≤ n
length-take-upto zero xs = omega arith
length-take-upto (suc n) [] = omega arith
length-take-upto (suc n) (x ∷ xs) = omega (arith, length-take-upto n xs)

pub told-in-order : (h : History) → IsLegal h → (user : List ℕ) (number : ℕ) → AreToldInOrder (known h) user number
told-in-order h legal user number =
    let order = in-order h legal user in
    let k = known h in
    let Told = λ (mail : Mail). (k.noted user < mail.number) × (mail.number ≤ k.accepted) in
    let told = filter (is_past number) (k.waiting user) in
    record {
      rising = Ordered-take (λ (mail later : Mail). mail.number < later.number) MOST_LETTERS told (Ordered-filter (λ (mail later : Mail). mail.number < later.number) (is_past number) (k.waiting user) order.rising);
      past = Every-take (λ (mail : Mail). (number < mail.number) × (k.noted user < mail.number) × (mail.number ≤ k.accepted)) MOST_LETTERS told (Every-zip (λ (mail : Mail). is_past number mail ≡ true) Told (λ (mail : Mail). (number < mail.number) × (k.noted user < mail.number) × (mail.number ≤ k.accepted)) (λ mail a b. (ltb-true number mail.number a, b.0, b.1)) told (Every-passes (is_past number) (k.waiting user)) (Every-filter Told (is_past number) (k.waiting user) order.past));
      few = length-take-upto MOST_LETTERS told;
      last = let stands = Stands-legal h legal in subst (λ (k : Known). k.accepted ≤ LAST_MAIL) (sym stands.alike) stands.formed.accepted;
    }

-- ---- nothing is left out

-- no number is less than all before it
last-upto : (low number : ℕ) (ms : List Mail) → low ≤ number → Every (λ (mail : Mail). low < mail.number) ms → low ≤ last_number number ms
last-upto low number [] le h = le
last-upto low number (mail ∷ ms) le h = last-upto low mail.number ms (omega (arith, h.0)) h.1

take-rest : (n number : ℕ) (ms : List Mail) → Ordered (λ (mail later : Mail). mail.number < later.number) ms → filter (is_past number) ms ≡ take n (filter (is_past number) ms) ++ filter (is_past (last_number number (take n (filter (is_past number) ms)))) ms
take-rest zero number ms order = refl
take-rest (suc n) number [] order = refl
take-rest (suc n) number (mail ∷ ms) order = elim (cases_lt number mail.number) [
  | inl past ↦
      let all : filter (is_past number) ms ≡ filter (is_past mail.number) ms = past-all number ms (Every-weaker (λ (later : Mail). mail.number < later.number) (λ (later : Mail). number < later.number) (λ later g. omega (arith, past, g)) ms order.0) ∙ sym (past-all mail.number ms order.0) in
      let told = take n (filter (is_past mail.number) ms) in
      let upto : mail.number ≤ last_number mail.number told = last-upto mail.number mail.number told (le_refl mail.number) (Every-take (λ (later : Mail). mail.number < later.number) n (filter (is_past mail.number) ms) (Every-filter (λ (later : Mail). mail.number < later.number) (is_past mail.number) ms order.0)) in
      let front : filter (is_past number) (mail ∷ ms) ≡ mail ∷ filter (is_past mail.number) ms = rw (lt-ltb number mail.number past) (ap (λ rest. mail ∷ rest) all) in
      subst (λ (rest : List Mail). rest ≡ take (suc n) rest ++ filter (is_past (last_number number (take (suc n) rest))) (mail ∷ ms)) (sym front) (rw (le-ltb (last_number mail.number told) mail.number upto) (ap (λ rest. mail ∷ rest) (take-rest n mail.number ms order.1)))
  | inr upto ↦
      let told = take (suc n) (filter (is_past number) ms) in
      let last : number ≤ last_number number told = last-upto number number told (le_refl number) (Every-take (λ (later : Mail). number < later.number) (suc n) (filter (is_past number) ms) (Every-weaker (λ (later : Mail). is_past number later ≡ true) (λ (later : Mail). number < later.number) (λ later g. ltb-true number later.number g) (filter (is_past number) ms) (Every-passes (is_past number) ms))) in
      let rest_alone : filter (is_past number) (mail ∷ ms) ≡ filter (is_past number) ms = rw (le-ltb number mail.number upto) refl in
      subst (λ (rest : List Mail). rest ≡ take (suc n) rest ++ filter (is_past (last_number number (take (suc n) rest))) (mail ∷ ms)) (sym rest_alone) (rw (le-ltb (last_number number told) mail.number (le_trans upto last)) (take-rest (suc n) number ms order.1))
]

take-all : {X : Type 0} (n : ℕ) (xs : List X) → length (take n xs) < n → xs ≡ take n xs
take-all zero xs h = absurd (omega (arith, h))
take-all (suc n) [] h = refl
take-all (suc n) (x ∷ xs) h = ap (λ rest. x ∷ rest) (take-all n xs (omega (arith, h)))

pub nothing-left-out : (h : History) → IsLegal h → (user : List ℕ) (number : ℕ) → AreAllTold (known h) user number
nothing-left-out h legal user number = record {
  told_first = take-rest MOST_LETTERS number ((known h).waiting user) (in-order h legal user).rising;
  all = take-all MOST_LETTERS (filter (is_past number) ((known h).waiting user));
}

-- ---- the numbers of mails

map-append : {X Y : Type 0} (f : X → Y) (xs ys : List X) → map f (xs ++ ys) ≡ map f xs ++ map f ys
map-append f [] ys = refl
map-append f (x ∷ xs) ys = ap (λ zs. f x ∷ zs) (map-append f xs ys)

numbered-step : (h : History) (e : OfficeEntry) → map (λ (mail : KeptMail). mail.number) (mails (h ▹ e)) ≡ map (λ (mail : KeptMail). mail.number) (mails h) ++ numbers (known h).accepted (accepted_after e 0)
numbered-step h (Accept names message) = map-append (λ (mail : KeptMail). mail.number) (mails h) _
numbered-step h (AddUser user) = map-append (λ (mail : KeptMail). mail.number) (mails h) []
numbered-step h _ = map-append (λ (mail : KeptMail). mail.number) (mails h) []

accepted-step : (e : OfficeEntry) (count : ℕ) → accepted_after e count ≡ count + accepted_after e 0
accepted-step (Accept names message) count = omega arith
accepted-step (AddUser user) count = omega arith
accepted-step _ count = omega arith

pub mails-numbered : (h : History) (es : List OfficeEntry) → ((known (h ▹▹ es)).accepted ≡ (known h).accepted + accept_count es) × (map (λ (mail : KeptMail). mail.number) (mails (h ▹▹ es)) ≡ map (λ (mail : KeptMail). mail.number) (mails h) ++ numbers (known h).accepted (accept_count es))
mails-numbered h [] = (omega arith, sym (append-nil (map (λ (mail : KeptMail). mail.number) (mails h))))
mails-numbered h (e ∷ es) =
    let rest = mails-numbered (h ▹ e) es in
    let step = accepted-step e (known h).accepted in
    let one = accepted_after e 0 in
    let numbers_of = map (λ (mail : KeptMail). mail.number) in (
      omega (arith, rest.0, step),
      rest.1
          ∙ (λ i. numbered-step h e i ++ numbers (step i) (accept_count es))
          ∙ append_assoc (numbers_of (mails h)) (numbers (known h).accepted one) (numbers ((known h).accepted + one) (accept_count es))
          ∙ ap (λ ns. numbers_of (mails h) ++ ns) (sym (numbers-append (known h).accepted one (accept_count es))),
    )

-- ---- the mail of a number

numbers-upto : (h : History) → IsLegal h → Every (λ (mail : KeptMail). mail.number ≤ (known h).accepted) (mails h)
numbers-upto (start r number) legal = Every-weaker (IsKept r.users r.accepted) (λ (mail : KeptMail). mail.number ≤ r.accepted) (λ mail g. g.so_far) r.kept legal.well_formed.kept
numbers-upto (h ▹ e) legal =
    let most = accepted_after e (known h).accepted in
    Every-append (λ (mail : KeptMail). mail.number ≤ most) (mails h) (new_mails e (known h).owner (known h).accepted)
    (Every-weaker (λ (mail : KeptMail). mail.number ≤ (known h).accepted) (λ (mail : KeptMail). mail.number ≤ most) (λ mail g. le_trans g (accepted-grows e (known h).accepted)) (mails h) (numbers-upto h legal.0))
    (new e)
  where
    new : (e' : OfficeEntry) → Every (λ (mail : KeptMail). mail.number ≤ accepted_after e' (known h).accepted) (new_mails e' (known h).owner (known h).accepted)
    new (Accept names message) = (le_refl (suc (known h).accepted), tt)
    new (AddUser user) = tt
    new _ = tt

none-numbered : (low : ℕ) (ms : List KeptMail) → Every (λ (mail : KeptMail). mail.number ≤ low) ms → find (λ (mail : KeptMail). mail.number == suc low) ms ≡ None
none-numbered low [] h = refl
none-numbered low (mail ∷ ms) h = rw (ne_eqb mail.number (suc low) (λ e. absurd (omega (arith, h.0)))) (none-numbered low ms h.1)

mails-grow : (h : History) (es : List OfficeEntry) → (more : List KeptMail) × (mails (h ▹▹ es) ≡ mails h ++ more)
mails-grow h [] = ([], sym (append-nil (mails h)))
mails-grow h (e ∷ es) = let rest = mails-grow (h ▹ e) es in (new_mails e (known h).owner (known h).accepted ++ rest.0, rest.1 ∙ append_assoc (mails h) (new_mails e (known h).owner (known h).accepted) rest.0)

pub own-number : (h : History) → IsLegal h → (names message : List (List ℕ)) (es : List OfficeEntry) → mail_numbered (h ▹ Accept names message ▹▹ es) (suc (known h).accepted) ≡ Some (sent_mail h names message)
own-number h legal names message es =
    let p = λ (mail : KeptMail). mail.number == suc (known h).accepted in
    let new = sent_mail h names message in
    let rest = mails-grow (h ▹ Accept names message) es in
    ap (find p) rest.1
    ∙ find-append p (mails h ++ new ∷ []) rest.0
    ∙ ap (λ o. option_or o (find p rest.0)) (find-append p (mails h) (new ∷ []) ∙ ap (λ o. option_or o (find p (new ∷ []))) (none-numbered (known h).accepted (mails h) (numbers-upto h legal)))
    ∙ ap (λ b. option_or (cond {A = Option KeptMail} b (Some new) None) (find p rest.0)) (eq-eqb (suc (known h).accepted) (suc (known h).accepted) refl)

-- ---- what stands on a board

pub boards-grow : (h : History) (es : List OfficeEntry) (board : List ℕ) → (more : List (List (List ℕ))) × ((known (h ▹▹ es)).messages board ≡ (known h).messages board ++ more)
boards-grow h [] board = ([], sym (append-nil ((known h).messages board)))
boards-grow h (e ∷ es) board = let rest = boards-grow (h ▹ e) es board in (new_messages e (known h).boards board ++ rest.0, rest.1 ∙ append_assoc ((known h).messages board) (new_messages e (known h).boards board) rest.0)

pub message-added : (h : History) (e : OfficeEntry) (board : List ℕ) → (known (h ▹ e)).messages board ≡ (known h).messages board ++ cond (is_board (known h) board) (sent_to board e) []
message-added h e board = ap (λ messages. (known h).messages board ++ messages) (new e)
  where
    named : (among known_board : Bool) (message : List (List ℕ)) → cond {A = List (List (List ℕ))} (among && known_board) (message ∷ []) [] ≡ cond known_board (cond among (message ∷ []) []) []
    named true true message = refl
    named true false message = refl
    named false true message = refl
    named false false message = refl

    none : (known_board : Bool) → [] ≡ cond {A = List (List (List ℕ))} known_board [] []
    none true = refl
    none false = refl

    new : (e' : OfficeEntry) → new_messages e' (known h).boards board ≡ cond (is_board (known h) board) (sent_to board e') []
    new (Accept names message) = named (is_among board names) (is_board (known h) board) message
    new (AddUser user) = none (is_board (known h) board)
    new _ = none (is_board (known h) board)
