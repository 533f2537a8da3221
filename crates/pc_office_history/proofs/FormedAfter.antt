-- The record after an entry is well-formed again.
use Rattle.std.proofs.Common.{◌≡◌, ℕ, suc, ◌<◌, ◌≤◌, Bool, true, false, cond, not, ◌||◌, nat_le, List, [], ◌∷◌, ◌++◌, map, filter, Option, None, Some, is_some, unwrap_or, option_map, MatchOption, refl, sym, ◌∙◌, ap, subst, arith, true≢false}
use Rattle.std.specs.Prelude.{⊤}
use Rattle.std.specs.List.{AllByRecursion as Every}
use Rattle.std.specs.Map.{lookup, keys_of, set_value}
use Rattle.std.specs.Option.{option_or}
use Rattle.std.proofs.lemmas.Bool.{and_parts, or_parts, not-true, ltb-true, leb-true, leb-false}
use Rattle.pc_message.specs.declared.limits.TheConstants.{LAST_MAIL}
use Rattle.pc_tables.specs.Table.{same, is_among}
use Rattle.pc_tables.specs.Order.{Ordered, AreDistinct}
use Rattle.pc_tables.proofs.Table.{same-true, same-sym, same-refl, lookup-append, lookup-set_value, keys-append, keys-others, keys-set_value, is_among-keys}
use Rattle.pc_tables.proofs.Lists.{Every-weaker, Every-append, Every-filter, Every-zip, Every-passes}
use Rattle.pc_tables.proofs.Order.{Ordered-filter, Ordered-append, Ordered-push, Ordered-insert}
use Rattle.pc_office_history.specs.declared.kept.Target.{Target}
use Rattle.pc_office_history.specs.declared.kept.KeptMail.{KeptMail}
use Rattle.pc_office_history.specs.declared.entry.OfficeEntry.{OfficeEntry}
use Rattle.pc_office_history.specs.declared.entry.OfficeEntry.TheVariants.{AddUser, AddBoard, TakeAddress, DropAddress, Accept, Pulled}
use Rattle.pc_office_history.specs.Record.{OfficeRecord}
use Rattle.pc_office_history.specs.Effect.{other_targets, targets_of}
use Rattle.pc_office_history.specs.Known.{said_by}
use Rattle.pc_office_history.specs.Allowed.{is_allowed, is_free}
use Rattle.pc_office_history.specs.Step.{is_awaited, still_waiting, pulled_by, new_mail, after}
use Rattle.pc_office_history.specs.Legal.{HasOtherUser, IsUnpulled, IsKept, IsWellFormed}
use Rattle.pc_office_history.proofs.Mails.{targets-apart, targets-every}
use Rattle.pc_office_history.proofs.Agreement.{is_free-parts, accept-parts, pulled-parts, keys-new_messages, noted-upto}

-- ---- names

pub differs-before : (name : List ℕ) (names : List (List ℕ)) → is_among name names ≡ false → Every (λ other. same name other ≡ false) names
differs-before name [] h = tt
differs-before name (other ∷ names) h = let parts = or_parts (same name other) (is_among name names) h in (parts.0, differs-before name names parts.1)

differs-behind : (name : List ℕ) (names : List (List ℕ)) → is_among name names ≡ false → Every (λ other. same other name ≡ false) names
differs-behind name names h = Every-weaker (λ other. same name other ≡ false) (λ other. same other name ≡ false) (λ other g. same-sym other name ∙ g) names (differs-before name names h)

-- a new name behind the first of two lists, or behind the second
names-between : (name : List ℕ) (names more : List (List ℕ)) → is_among name names ≡ false → is_among name more ≡ false → AreDistinct (names ++ more) → AreDistinct ((names ++ name ∷ []) ++ more)
names-between name names more h g distinct = Ordered-insert (λ (a b : List ℕ). same a b ≡ false) names more name distinct (differs-behind name names h) (differs-before name more g)

names-behind : (name : List ℕ) (names more : List (List ℕ)) → is_among name names ≡ false → is_among name more ≡ false → AreDistinct (names ++ more) → AreDistinct (names ++ (more ++ name ∷ []))
names-behind name [] more h g distinct = Ordered-push (λ (a b : List ℕ). same a b ≡ false) more name distinct (differs-behind name more g)
names-behind name (other ∷ names) more h g distinct =
    let parts = or_parts (same name other) (is_among name names) h in (
      behind names more distinct.0 (same-sym other name ∙ parts.0),
      names-behind name names more parts.1 g distinct.1,
    )
  where
    behind : (xs ys : List (List ℕ)) → Every (λ x. same other x ≡ false) (xs ++ ys) → same other name ≡ false → Every (λ x. same other x ≡ false) (xs ++ (ys ++ name ∷ []))
    behind [] ys all e = Every-append (λ x. same other x ≡ false) ys (name ∷ []) all (e, tt)
    behind (x ∷ xs) ys all e = (all.0, behind xs ys all.1 e)

-- fewer names in the first of two lists
names-fewer : (p : List ℕ → Bool) (names more : List (List ℕ)) → AreDistinct (names ++ more) → AreDistinct (filter p names ++ more)
names-fewer p [] more h = h
names-fewer p (name ∷ names) more h = elim (p name) as (λ b. AreDistinct (cond b (name ∷ filter p names) (filter p names) ++ more)) [
  | true ↦ (fewer names h.0, names-fewer p names more h.1)
  | false ↦ names-fewer p names more h.1
]
  where
    fewer : (xs : List (List ℕ)) → Every (λ x. same name x ≡ false) (xs ++ more) → Every (λ x. same name x ≡ false) (filter p xs ++ more)
    fewer [] all = all
    fewer (x ∷ xs) all = elim (p x) as (λ b. Every (λ x. same name x ≡ false) (cond b (x ∷ filter p xs) (filter p xs) ++ more)) [ true ↦ (all.0, fewer xs all.1) | false ↦ fewer xs all.1 ]

pub is_among-push : (name new : List ℕ) (names : List (List ℕ)) → is_among name names ≡ true → is_among name (names ++ new ∷ []) ≡ true
is_among-push name new [] h = absurd (true≢false (sym h))
is_among-push name new (other ∷ names) h = elim (same name other) as (λ b. (b || is_among name names) ≡ true → (b || is_among name (names ++ new ∷ [])) ≡ true) [ true ↦ λ g. refl | false ↦ λ g. is_among-push name new names g ] h

pub is_among-last : (name : List ℕ) (names : List (List ℕ)) → is_among name (names ++ name ∷ []) ≡ true
is_among-last name [] = ap (λ b. b || false) (same-refl name)
is_among-last name (other ∷ names) = elim (same name other) as (λ b. (b || is_among name (names ++ name ∷ [])) ≡ true) [ true ↦ refl | false ↦ is_among-last name names ]

-- ---- mails that are kept

kept-weaker : (users more : List (List ℕ × ℕ)) (accepted later : ℕ) → ((number : ℕ) (target : Target) → IsUnpulled users number target → IsUnpulled more number target) → accepted ≤ later → (mail : KeptMail) → IsKept users accepted mail → IsKept more later mail
kept-weaker users more accepted later f le mail h = record {
  waits = h.waits;
  apart = h.apart;
  unpulled = Every-weaker (IsUnpulled users mail.number) (IsUnpulled more mail.number) (f mail.number) mail.targets h.unpulled;
  so_far = omega (arith, h.so_far, le);
}

-- a user more
unpulled-push : (users : List (List ℕ × ℕ)) (user : List ℕ) (number : ℕ) (target : Target) → IsUnpulled users number target → IsUnpulled (users ++ (user, 0) ∷ []) number target
unpulled-push users user number target h = subst (λ (o : Option ℕ). MatchOption o ⊥ (λ noted. noted < number)) (sym (lookup-append (same target.user) users ((user, 0) ∷ []))) (found (lookup (same target.user) users) (lookup (same target.user) ((user, 0) ∷ [])) h)
  where
    found : (one other : Option ℕ) → MatchOption one ⊥ (λ noted. noted < number) → MatchOption (option_or one other) ⊥ (λ noted. noted < number)
    found None other g = absurd g
    found (Some noted) other g = g

-- a user noted to have pulled up to a number, if it isn't the target's or the mail is past that number
unpulled-set : (users : List (List ℕ × ℕ)) (user : List ℕ) (upto number : ℕ) (target : Target) → (same user target.user ≡ true → upto < number) → IsUnpulled users number target → IsUnpulled (set_value (same user) users upto) number target
unpulled-set users user upto number target past h = subst (λ (o : Option ℕ). MatchOption o ⊥ (λ noted. noted < number)) (sym (lookup-set_value user target.user users upto)) (elim (same user target.user) as (λ b. same user target.user ≡ b → MatchOption (cond b (option_map (λ _. upto) (lookup (same user) users)) (lookup (same target.user) users)) ⊥ (λ noted. noted < number)) [
  | true ↦ λ e. found (lookup (same user) users) (subst (λ name. MatchOption (lookup (same name) users) ⊥ (λ noted. noted < number)) (sym (same-true user target.user e)) h) (past e)
  | false ↦ λ e. h
] refl)
  where
    found : (one : Option ℕ) → MatchOption one ⊥ (λ noted. noted < number) → upto < number → MatchOption (option_map (λ _. upto) one) ⊥ (λ noted. noted < number)
    found None g lt = absurd g
    found (Some noted) g lt = lt

module _ (users : List (List ℕ × ℕ)) (accepted : ℕ) (user : List ℕ) (upto : ℕ) where
  abbrev set : List (List ℕ × ℕ)
  set = set_value (same user) users upto

  pulled-apart : (b : Bool) (targets : List Target) → Ordered HasOtherUser targets → Ordered HasOtherUser (cond b (other_targets user targets) targets)
  pulled-apart true targets h = Ordered-filter HasOtherUser (λ (target : Target). not (same user target.user)) targets h
  pulled-apart false targets h = h

  unpulled-others : (number : ℕ) (targets : List Target) → Every (IsUnpulled users number) targets → Every (IsUnpulled set number) (other_targets user targets)
  unpulled-others number targets h = Every-zip (λ (target : Target). not (same user target.user) ≡ true) (IsUnpulled users number) (IsUnpulled set number) (λ target other g. unpulled-set users user upto number target (λ e. absurd (true≢false (sym e ∙ not-true (same user target.user) other))) g) (other_targets user targets) (Every-passes (λ (target : Target). not (same user target.user)) targets) (Every-filter (IsUnpulled users number) (λ (target : Target). not (same user target.user)) targets h)

  pulled-targets : (number : ℕ) (b : Bool) (targets : List Target) → nat_le number upto ≡ b → Every (IsUnpulled users number) targets → Every (IsUnpulled set number) (cond b (other_targets user targets) targets)
  pulled-targets number true targets e h = unpulled-others number targets h
  pulled-targets number false targets e h = Every-weaker (IsUnpulled users number) (IsUnpulled set number) (λ target g. unpulled-set users user upto number target (λ own. leb-false number upto e) g) targets h

  kept-pulled : (mail : KeptMail) → IsKept users accepted mail → is_awaited (pulled_by user upto mail).targets ≡ true → IsKept set accepted (pulled_by user upto mail)
  kept-pulled mail h left = record {
    waits = left;
    apart = pulled-apart (nat_le mail.number upto) mail.targets h.apart;
    unpulled = pulled-targets mail.number (nat_le mail.number upto) mail.targets refl h.unpulled;
    so_far = h.so_far;
  }

  -- those of the mails that still wait are kept
  Every-pulled : (kept : List KeptMail) → Every (IsKept users accepted) kept → Every (IsKept set accepted) (still_waiting (map (pulled_by user upto) kept))
  Every-pulled [] h = tt
  Every-pulled (mail ∷ kept) h =
      let new = pulled_by user upto mail in
      elim (is_awaited new.targets) as (λ b. is_awaited new.targets ≡ b → Every (IsKept set accepted) (cond b (new ∷ still_waiting (map (pulled_by user upto) kept)) (still_waiting (map (pulled_by user upto) kept)))) [
        | true ↦ λ e. (kept-pulled mail h.0 e, Every-pulled kept h.1)
        | false ↦ λ e. Every-pulled kept h.1
      ] refl

  pulled-above : (number : ℕ) (kept : List KeptMail) → Every (λ (mail : KeptMail). number < mail.number) kept → Every (λ (mail : KeptMail). number < mail.number) (map (pulled_by user upto) kept)
  pulled-above number [] h = tt
  pulled-above number (mail ∷ kept) h = (h.0, pulled-above number kept h.1)

  pulled-rising : (kept : List KeptMail) → Ordered (λ (mail later : KeptMail). mail.number < later.number) kept → Ordered (λ (mail later : KeptMail). mail.number < later.number) (map (pulled_by user upto) kept)
  pulled-rising [] h = tt
  pulled-rising (mail ∷ kept) h = (pulled-above mail.number kept h.0, pulled-rising kept h.1)

Every-set : (most : ℕ) (user : List ℕ) (number : ℕ) (users : List (List ℕ × ℕ)) → number ≤ most → Every (λ (one : List ℕ × ℕ). one.1 ≤ most) users → Every (λ (one : List ℕ × ℕ). one.1 ≤ most) (set_value (same user) users number)
Every-set most user number [] le h = tt
Every-set most user number (one ∷ users) le h = elim (same user one.0) as (λ b. Every (λ (one : List ℕ × ℕ). one.1 ≤ most) (cond b ((one.0, number) ∷ users) (one ∷ set_value (same user) users number))) [ true ↦ (le, h.1) | false ↦ (h.0, Every-set most user number users le h.1) ]

-- what an address is for is a user
pub owner-found : (users : List (List ℕ)) (name : List ℕ) (addresses : List (List ℕ × Target)) → Every (λ (address : List ℕ × Target). is_among address.1.user users ≡ true) addresses → MatchOption (lookup (same name) addresses) ⊤ (λ target. is_among target.user users ≡ true)
owner-found users name [] h = tt
owner-found users name (address ∷ addresses) h = elim (same name address.0) as (λ b. MatchOption (cond b (Some address.1) (lookup (same name) addresses)) ⊤ (λ target. is_among target.user users ≡ true)) [ true ↦ h.0 | false ↦ owner-found users name addresses h.1 ]

-- ---- all together

module _ (r : OfficeRecord) (formed : IsWellFormed r) where
  owners-push : (user name : List ℕ) (target : Target) → is_among target.user (keys_of (r.users ++ (user, 0) ∷ [])) ≡ true → Every (λ (address : List ℕ × Target). is_among address.1.user (keys_of (r.users ++ (user, 0) ∷ [])) ≡ true) (r.addresses ++ (name, target) ∷ [])
  owners-push user name target h = Every-append (λ (address : List ℕ × Target). is_among address.1.user (keys_of (r.users ++ (user, 0) ∷ [])) ≡ true) r.addresses ((name, target) ∷ [])
      (Every-weaker (λ (address : List ℕ × Target). is_among address.1.user (keys_of r.users) ≡ true) (λ (address : List ℕ × Target). is_among address.1.user (keys_of (r.users ++ (user, 0) ∷ [])) ≡ true) (λ address g. ap (is_among address.1.user) (keys-append r.users ((user, 0) ∷ [])) ∙ is_among-push address.1.user user (keys_of r.users) g) r.addresses formed.owners)
      (h, tt)

  addresses-push : (name : List ℕ) (target : Target) → is_free (said_by r) name ≡ true → AreDistinct (keys_of (r.addresses ++ (name, target) ∷ []) ++ keys_of r.boards)
  addresses-push name target free =
      let parts = is_free-parts (said_by r) name free in
      subst (λ names. AreDistinct (names ++ keys_of r.boards)) (sym (keys-append r.addresses ((name, target) ∷ []))) (names-between name (keys_of r.addresses) (keys_of r.boards) (is_among-keys name r.addresses ∙ parts.2) parts.1 formed.address_names)

  unpulled-found : (found : Option ℕ) (number : ℕ) → is_some found ≡ true → unwrap_or found 0 ≤ r.accepted → MatchOption found ⊥ (λ noted. noted < suc r.accepted)
  unpulled-found None number h le = absurd (true≢false (sym h))
  unpulled-found (Some noted) number h le = omega (arith, le)

  target-new : (target : Target) → is_among target.user (keys_of r.users) ≡ true → IsUnpulled r.users (suc r.accepted) target
  target-new target h = unpulled-found (lookup (same target.user) r.users) 0 (sym (is_among-keys target.user r.users) ∙ h) (noted-upto r.accepted target.user r.users formed.noted)

  new-kept : (names message : List (List ℕ)) → is_awaited (new_mail r names message).targets ≡ true → IsKept r.users (suc r.accepted) (new_mail r names message)
  new-kept names message left = record {
    waits = left;
    apart = targets-apart (λ name. lookup (same name) r.addresses) names;
    unpulled = Every-weaker (λ (target : Target). is_among target.user (keys_of r.users) ≡ true) (IsUnpulled r.users (suc r.accepted)) target-new (targets_of (λ name. lookup (same name) r.addresses) names) (targets-every (λ (target : Target). is_among target.user (keys_of r.users) ≡ true) (λ name. lookup (same name) r.addresses) names (λ name. owner-found (keys_of r.users) name r.addresses formed.owners));
    so_far = omega arith;
  }

  new-left : (names message : List (List ℕ)) → Every (IsKept r.users (suc r.accepted)) (still_waiting (new_mail r names message ∷ []))
  new-left names message =
      let new = new_mail r names message in
      elim (is_awaited new.targets) as (λ b. is_awaited new.targets ≡ b → Every (IsKept r.users (suc r.accepted)) (cond b (new ∷ []) [])) [ true ↦ λ e. (new-kept names message e, tt) | false ↦ λ e. tt ] refl

  pub IsWellFormed-after : (e : OfficeEntry) → is_allowed (said_by r) e ≡ true → IsWellFormed (after r e)
  IsWellFormed-after (AddUser user) h =
      let parts = is_free-parts (said_by r) user h in
      record {
        user_names = subst (λ names. AreDistinct (names ++ keys_of r.boards)) (sym (keys-append r.users ((user, 0) ∷ []))) (names-between user (keys_of r.users) (keys_of r.boards) parts.0 parts.1 formed.user_names);
        address_names = addresses-push user _ h;
        owners = owners-push user user _ (ap (is_among user) (keys-append r.users ((user, 0) ∷ [])) ∙ is_among-last user (keys_of r.users));
        noted = Every-append (λ (one : List ℕ × ℕ). one.1 ≤ r.accepted) r.users ((user, 0) ∷ []) formed.noted (omega arith, tt);
        rising = formed.rising;
        kept = Every-weaker (IsKept r.users r.accepted) (IsKept (r.users ++ (user, 0) ∷ []) r.accepted) (kept-weaker r.users (r.users ++ (user, 0) ∷ []) r.accepted r.accepted (unpulled-push r.users user) (omega arith)) r.kept formed.kept;
        accepted = formed.accepted;
      }
  IsWellFormed-after (AddBoard board) h =
      let parts = is_free-parts (said_by r) board h in
      record {
        owners = formed.owners;
        noted = formed.noted;
        rising = formed.rising;
        kept = formed.kept;
        accepted = formed.accepted;
        user_names = subst (λ names. AreDistinct (keys_of r.users ++ names)) (sym (keys-append r.boards ((board, []) ∷ []))) (names-behind board (keys_of r.users) (keys_of r.boards) parts.0 parts.1 formed.user_names);
        address_names = subst (λ names. AreDistinct (keys_of r.addresses ++ names)) (sym (keys-append r.boards ((board, []) ∷ []))) (names-behind board (keys_of r.addresses) (keys_of r.boards) (is_among-keys board r.addresses ∙ parts.2) parts.1 formed.address_names);
      }
  IsWellFormed-after (TakeAddress address user mailbox) h =
      let parts = and_parts _ _ h in
      record {
        user_names = formed.user_names;
        address_names = addresses-push address (record { user = user; mailbox = mailbox }) parts.0;
        owners = Every-append (λ (one : List ℕ × Target). is_among one.1.user (keys_of r.users) ≡ true) r.addresses ((address, record { user = user; mailbox = mailbox }) ∷ []) formed.owners (parts.1, tt);
        noted = formed.noted;
        rising = formed.rising;
        kept = formed.kept;
        accepted = formed.accepted;
      }
  IsWellFormed-after (DropAddress address) h = record {
    user_names = formed.user_names;
    address_names = subst (λ names. AreDistinct (names ++ keys_of r.boards)) (sym (keys-others address r.addresses)) (names-fewer (λ other. not (same address other)) (keys_of r.addresses) (keys_of r.boards) formed.address_names);
    owners = Every-filter (λ (one : List ℕ × Target). is_among one.1.user (keys_of r.users) ≡ true) (λ one. not (same address one.0)) r.addresses formed.owners;
    noted = formed.noted;
    rising = formed.rising;
    kept = formed.kept;
    accepted = formed.accepted;
  }
  IsWellFormed-after (Accept names message) h =
      let new = new_mail r names message in
      let below : Every (λ (mail : KeptMail). Every (λ (later : KeptMail). mail.number < later.number) (still_waiting (new ∷ []))) r.kept = Every-weaker (IsKept r.users r.accepted) (λ (mail : KeptMail). Every (λ (later : KeptMail). mail.number < later.number) (still_waiting (new ∷ []))) (λ mail g. Every-filter (λ (later : KeptMail). mail.number < later.number) (λ (later : KeptMail). is_awaited later.targets) (new ∷ []) (omega (arith, g.so_far), tt)) r.kept formed.kept in
      record {
        user_names = subst (λ keys. AreDistinct (keys_of r.users ++ keys)) (sym (keys-new_messages names message r.boards)) formed.user_names;
        address_names = subst (λ keys. AreDistinct (keys_of r.addresses ++ keys)) (sym (keys-new_messages names message r.boards)) formed.address_names;
        owners = formed.owners;
        noted = Every-weaker (λ (one : List ℕ × ℕ). one.1 ≤ r.accepted) (λ (one : List ℕ × ℕ). one.1 ≤ suc r.accepted) (λ one g. omega (arith, g)) r.users formed.noted;
        rising = Ordered-append (λ (mail later : KeptMail). mail.number < later.number) r.kept (still_waiting (new ∷ [])) formed.rising (Ordered-filter (λ (mail later : KeptMail). mail.number < later.number) (λ (later : KeptMail). is_awaited later.targets) (new ∷ []) (tt, tt)) below;
        kept = Every-append (IsKept r.users (suc r.accepted)) r.kept (still_waiting (new ∷ [])) (Every-weaker (IsKept r.users r.accepted) (IsKept r.users (suc r.accepted)) (kept-weaker r.users r.users r.accepted (suc r.accepted) (λ number target g. g) (omega arith)) r.kept formed.kept) (new-left names message);
        accepted = omega (arith, ltb-true r.accepted LAST_MAIL (accept-parts (said_by r) names message h).3);
      }
  IsWellFormed-after (Pulled user number) h =
      let parts = pulled-parts (said_by r) user number h in
      let keys = sym (keys-set_value (same user) r.users number) in
      record {
        user_names = subst (λ names. AreDistinct (names ++ keys_of r.boards)) keys formed.user_names;
        address_names = formed.address_names;
        owners = subst (λ names. Every (λ (one : List ℕ × Target). is_among one.1.user names ≡ true) r.addresses) keys formed.owners;
        noted = Every-set r.accepted user number r.users (leb-true number r.accepted parts.2) formed.noted;
        rising = Ordered-filter (λ (mail later : KeptMail). mail.number < later.number) (λ (later : KeptMail). is_awaited later.targets) (map (pulled_by user number) r.kept) (pulled-rising r.users r.accepted user number r.kept formed.rising);
        kept = Every-pulled r.users r.accepted user number r.kept formed.kept;
        accepted = formed.accepted;
      }
