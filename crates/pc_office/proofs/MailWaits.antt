-- Whether too much would wait once a mail is accepted, by what is counted.
use Rattle.std.proofs.Common.{◌≡◌, ℕ, suc, ◌+◌, ◌<◌, ◌^◌, Bool, true, false, cond, not, ◌&&◌, ◌||◌, nat_lt, nat_le, List, [], ◌∷◌, ◌++◌, length, Option, None, Some, option_map, is_some, refl, sym, ◌∙◌, ap, subst, inl, inr, arith, true≢false, ltb-false, lt-ltb, le-ltb, le-leb, length-append}
use Rattle.std.specs.List.{AllByRecursion as Every, list_any, cons_option}
use Rattle.std.specs.Map.{lookup}
use Rattle.std.specs.Option.{option_map_or}
use Rattle.std.proofs.Math.Nat.{mod-eq_of_lt}
use Rattle.std.proofs.lemmas.Bool.{or_parts, cases_lt, lt-leb}
use Rattle.pc_base.specs.declared.refusal.LimitWord.TheVariants as limit
use Rattle.pc_message.specs.declared.lists.Mail.{Mail}
use Rattle.pc_message.specs.Message.{weight_of}
use Rattle.pc_message.specs.declared.limits.TheConstants.{LAST_MAIL}
use Rattle.pc_tables.specs.Table.{same, is_among}
use Rattle.pc_tables.proofs.Table.{same-refl, same-true}
use Rattle.pc_tables.proofs.Options.{some-same, some-none}
use Rattle.pc_tables.proofs.Totals.{total-append}
use Rattle.pc_tables.proofs.Lists.{Every-zip}
use Rattle.pc_office_history.specs.declared.limits.TheConstants.{MOST_WAITING, MOST_WAITING_WEIGHT}
use Rattle.pc_office_history.specs.declared.kept.Target.{Target}
use Rattle.pc_office_history.specs.declared.kept.KeptMail.{KeptMail}
use Rattle.pc_office_history.specs.declared.entry.OfficeEntry.TheVariants.{Accept}
use Rattle.pc_office_history.specs.Record.{target_of, mail_at, mails_for}
use Rattle.pc_office_history.specs.Effect.{other_targets, targets_of}
use Rattle.pc_office_history.specs.Known.{Known, said_by}
use Rattle.pc_office_history.specs.History.{History, start, ◌▹◌, known}
use Rattle.pc_office_history.specs.Allowed.{is_allowed}
use Rattle.pc_office_history.specs.Limits.{mail_weight, are_too_many, would_pass}
use Rattle.pc_office_history.proofs.Mails.{targets-every}
use Rattle.pc_office_history.proofs.Names.{AreApart-legal, waiting-of-targets}
use Rattle.pc_office_history.proofs.Waiting.{mail-added}
use Rattle.pc_office_holdings.specs.declared.users.Standing.{Standing}
use Rattle.pc_office_holdings.specs.Held.{Held, record_in, AreCounted, IsCounted}
use Rattle.pc_office.specs.Limits.{IsSendable, has_room, is_over}
use Rattle.pc_office_holdings.specs.State.{IsSound}
use Rattle.pc_office_holdings.proofs.Noted.{is_among-noted}

-- ---- tests over lists

any-agree : {X : Type 0} (p q : X → Bool) (xs : List X) → Every (λ x. p x ≡ q x) xs → list_any p xs ≡ list_any q xs
any-agree p q [] h = refl
any-agree p q (x ∷ xs) h = λ i. h.0 i || any-agree p q xs h.1 i

-- a test that passes for none of these
pub none-among : (p : List ℕ → Bool) (name : List ℕ) (names : List (List ℕ)) → list_any p names ≡ false → is_among name names ≡ true → p name ≡ false
none-among p name [] none h = absurd (true≢false (sym h))
none-among p name (other ∷ names) none h =
    let parts = or_parts (p other) (list_any p names) none in
    elim (same name other) as (λ b. same name other ≡ b → (b || is_among name names) ≡ true → p name ≡ false) [
      | true ↦ λ e g. ap p (same-true name other e) ∙ parts.0
      | false ↦ λ e g. none-among p name names parts.1 g
    ] refl h

-- ---- the users to whom names belong

module _ (p : List ℕ → Bool) where
  abbrev any-user : List Target → Bool
  any-user targets = list_any (λ (target : Target). p target.user) targets

  any-others : (user : List ℕ) (targets : List Target) → p user ≡ false → any-user (other_targets user targets) ≡ any-user targets
  any-others user [] h = refl
  any-others user (t ∷ ts) h = elim (same user t.user) as (λ b. same user t.user ≡ b → any-user (cond (not b) (t ∷ other_targets user ts) (other_targets user ts)) ≡ (p t.user || any-user ts)) [
    | true ↦ λ e. any-others user ts h ∙ sym (ap (λ b. b || any-user ts) (sym (ap p (same-true user t.user e)) ∙ h))
    | false ↦ λ e. ap (λ b. p t.user || b) (any-others user ts h)
  ] refl

  owner-step : (found : Option Target) (targets : List Target) (rest : Bool) → any-user targets ≡ rest → any-user (option_map_or (λ (t : Target). t ∷ other_targets t.user targets) found targets) ≡ (option_map_or (λ (t : Target). p t.user) found false || rest)
  owner-step None targets rest h = h
  owner-step (Some t) targets rest h = elim (p t.user) as (λ b. p t.user ≡ b → (b || any-user (other_targets t.user targets)) ≡ (b || rest)) [
    | true ↦ λ e. refl
    | false ↦ λ e. any-others t.user targets e ∙ h
  ] refl

  -- a test passes for one of the targets just where it does for one to whom a name belongs
  any-owner : (owner : List ℕ → Option Target) (names : List (List ℕ)) → any-user (targets_of owner names) ≡ list_any (λ name. option_map_or (λ (t : Target). p t.user) (owner name) false) names
  any-owner owner [] = refl
  any-owner owner (name ∷ names) = owner-step (owner name) (targets_of owner names) (list_any (λ other. option_map_or (λ (t : Target). p t.user) (owner other) false) names) (any-owner owner names)

-- each target is found under its user
found-each : (targets : List Target) (p : List ℕ → Bool) → ((user : List ℕ) → is_some (target_of user targets) ≡ true → p user ≡ true) → Every (λ (target : Target). p target.user ≡ true) targets
found-each [] p f = tt
found-each (t ∷ ts) p f = (
  f t.user (ap (λ b. is_some (cond b (Some t) (target_of t.user ts))) (same-refl t.user)),
  found-each ts p (λ user h. f user (elim (same user t.user) as (λ b. is_some (cond b (Some t) (target_of user ts)) ≡ true) [ true ↦ refl | false ↦ h ])),
)

-- ---- what is counted of a user

pub counted-of : (kept : List KeptMail) (user : List ℕ) (users : List (List ℕ × Standing)) (standing : Standing) → Every (IsCounted kept) users → lookup (same user) users ≡ Some standing → AreCounted standing (mails_for user kept)
counted-of kept user [] standing h found = absurd (some-none standing (sym found))
counted-of kept user (one ∷ users) standing h found = elim (same user one.0) as (λ b. same user one.0 ≡ b → cond b (Some one.1) (lookup (same user) users) ≡ Some standing → AreCounted standing (mails_for user kept)) [
  | true ↦ λ e g. subst (λ (s : Standing). AreCounted s (mails_for user kept)) (some-same one.1 standing g) (subst (λ (name : List ℕ). AreCounted one.1 (mails_for name kept)) (sym (same-true user one.0 e)) h.0)
  | false ↦ λ e g. counted-of kept user users standing h.1 g
] refl found

above-next : (most count more : ℕ) → more ≡ suc count → nat_lt most more ≡ not (nat_lt count most)
above-next most count more e = elim (cases_lt count most) [
  | inl below ↦ le-ltb most more (omega (arith, e, below)) ∙ sym (ap not (lt-ltb count most below))
  | inr upto ↦ lt-ltb most more (omega (arith, e, upto)) ∙ sym (ap not (le-ltb count most upto))
]

above-upto : (most count : ℕ) → nat_lt most count ≡ not (nat_le count most)
above-upto most count = elim (cases_lt most count) [
  | inl above ↦ lt-ltb most count above ∙ sym (ap not (lt-leb count most above))
  | inr upto ↦ le-ltb most count upto ∙ sym (ap not (le-leb count most upto))
]

not-both : (a b : Bool) → (not a || not b) ≡ not (a && b)
not-both true b = refl
not-both false b = refl

-- one mail more is too much just where the standing has no room for it
one-too-many : (mails : List Mail) (standing : Standing) (mail : Mail) → AreCounted standing mails → are_too_many mails ≡ false → are_too_many (mails ++ mail ∷ []) ≡ not (has_room (weight_of mail.message) standing)
one-too-many mails standing mail counted few =
    let parts = or_parts (nat_lt MOST_WAITING (length mails)) (nat_lt MOST_WAITING_WEIGHT (mail_weight mails)) few in
    let low_count : length mails < 2 ^ 64 = omega (arith, ltb-false MOST_WAITING (length mails) parts.0) in
    let low_weight : mail_weight mails < 2 ^ 64 = omega (arith, ltb-false MOST_WAITING_WEIGHT (mail_weight mails) parts.1) in
    let count : length (mails ++ mail ∷ []) ≡ suc standing.mails = length-append mails (mail ∷ []) ∙ omega (arith, counted.mails ∙ mod-eq_of_lt low_count) in
    let weight : mail_weight (mails ++ mail ∷ []) ≡ standing.weight + weight_of mail.message = total-append (λ (m : Mail). weight_of m.message) mails (mail ∷ []) ∙ omega (arith, counted.weight ∙ mod-eq_of_lt low_weight) in
    (λ i. above-next MOST_WAITING standing.mails (length (mails ++ mail ∷ [])) count i || nat_lt MOST_WAITING_WEIGHT (weight i))
    ∙ ap (λ b. not (nat_lt standing.mails MOST_WAITING) || b) (above-upto MOST_WAITING_WEIGHT (standing.weight + weight_of mail.message))
    ∙ not-both (nat_lt standing.mails MOST_WAITING) (nat_le (standing.weight + weight_of mail.message) MOST_WAITING_WEIGHT)

-- ---- all together

-- more would wait for a user than may
abbrev pub over_user : ℕ → Held → List ℕ → Bool
over_user weight held user = option_map_or (λ standing. not (has_room weight standing)) (lookup (same user) held.users) false

module _ (held : Held) (sound : IsSound held) (names message : List (List ℕ)) where
  abbrev k : Known
  k = said_by (record_in held)

  abbrev here : History
  here = start (record_in held) 1

  abbrev sent : KeptMail
  sent = record { number = suc held.accepted; targets = targets_of k.owner names; message = message }

  abbrev more-for : List ℕ → List Mail
  more-for user = (known (here ▹ Accept names message)).waiting user

  over-found : (user : List ℕ) (standing : Option Standing) (target : Option Target) → lookup (same user) held.users ≡ standing → is_some standing ≡ true → is_some target ≡ true → are_too_many (mails_for user held.kept) ≡ false → are_too_many (mails_for user held.kept ++ cons_option (option_map (mail_at sent) target) []) ≡ option_map_or (λ (s : Standing). not (has_room (weight_of message) s)) standing false
  over-found user None target found one two few = absurd (true≢false (sym one))
  over-found user (Some standing) None found one two few = absurd (true≢false (sym two))
  over-found user (Some standing) (Some target) found one two few = one-too-many (mails_for user held.kept) standing (mail_at sent target) (counted-of held.kept user held.users standing sound.counted found) few

  over-at : (user : List ℕ) → is_among user k.users ≡ true → is_some (target_of user sent.targets) ≡ true → are_too_many (more-for user) ≡ over_user (weight_of message) held user
  over-at user is_user is_target =
      let few = or_parts (list_any (λ user. are_too_many (k.waiting user)) k.users) (nat_lt LAST_MAIL held.accepted) sound.canonical.within.1.1.1.0 in
      ap are_too_many (mail-added here names message sound.canonical user)
      ∙ over-found user (lookup (same user) held.users) (target_of user sent.targets) refl (sym (is_among-noted user held.users) ∙ is_user) is_target (none-among (λ name. are_too_many (k.waiting name)) user k.users few.0 is_user)

  allowed-here : IsSendable k names → held.accepted < LAST_MAIL → is_allowed k (Accept names message) ≡ true
  allowed-here sendable room = λ i. lt-ltb 0 (length names) sendable.some i && sendable.apart i && sendable.known i && lt-ltb held.accepted LAST_MAIL room i

  -- too much would wait just where it would for one to whom a name belongs
  pub waits-over : IsSendable k names → held.accepted < LAST_MAIL → would_pass k (Accept names message) limit.Waiting ≡ list_any (is_over (weight_of message) held) names
  waits-over sendable room =
      waiting-of-targets here names message sound.canonical (allowed-here sendable room)
      ∙ any-agree (λ (target : Target). are_too_many (more-for target.user)) (λ (target : Target). over_user (weight_of message) held target.user) sent.targets
      (Every-zip (λ (target : Target). is_among target.user k.users ≡ true) (λ (target : Target). is_some (target_of target.user sent.targets) ≡ true) (λ (target : Target). are_too_many (more-for target.user) ≡ over_user (weight_of message) held target.user) (λ target a b. over-at target.user a b) sent.targets
      (targets-every (λ (target : Target). is_among target.user k.users ≡ true) k.owner names (AreApart-legal here sound.canonical).owners)
      (found-each sent.targets (λ user. is_some (target_of user sent.targets)) (λ user h. h)))
      ∙ any-owner (over_user (weight_of message) held) k.owner names
