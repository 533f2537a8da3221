-- What an entry makes of what is held is what it makes of the record, and what waits is counted again.
use Rattle.std.proofs.Common.{◌≡◌, ℕ, suc, true, false, cond, IsTrue, List, [], ◌∷◌, ◌++◌, map, Option, None, Some, is_none, is_some, option_map, refl, sym, ◌∙◌, ap, subst, arith, append-nil, length-append, true≢false}
use Rattle.std.specs.List.{AllByRecursion as Every, cons_option}
use Rattle.std.specs.Map.{lookup, keys_of, set_value}
use Rattle.std.proofs.lemmas.Bool.{and_parts}
use Rattle.pc_message.specs.declared.lists.Mail.{Mail}
use Rattle.pc_message.specs.Message.{weight_of}
use Rattle.pc_tables.specs.Table.{same}
use Rattle.pc_tables.specs.Order.{AreDistinct}
use Rattle.pc_tables.proofs.Table.{same-true}
use Rattle.pc_tables.proofs.Lists.{Every-append, Every-split}
use Rattle.pc_tables.proofs.Totals.{total-append}
use Rattle.pc_office_history.specs.declared.kept.Target.{Target}
use Rattle.pc_office_history.specs.declared.kept.KeptMail.{KeptMail}
use Rattle.pc_office_history.specs.declared.entry.OfficeEntry.{OfficeEntry}
use Rattle.pc_office_history.specs.declared.entry.OfficeEntry.TheVariants.{AddUser, AddBoard, TakeAddress, DropAddress, Accept, Pulled}
use Rattle.pc_office_history.specs.Record.{OfficeRecord, target_of, mail_at, mails_for}
use Rattle.pc_office_history.specs.Effect.{targets_of}
use Rattle.pc_office_history.specs.Known.{Known, said_by}
use Rattle.pc_office_history.specs.History.{start, ◌▹◌}
use Rattle.pc_office_history.specs.Allowed.{is_allowed}
use Rattle.pc_office_history.specs.Limits.{limit_passed}
use Rattle.pc_office_history.specs.Step.{after, still_waiting, pulled_by}
use Rattle.pc_office_history.specs.Legal.{IsCanonical}
use Rattle.pc_office_history.proofs.Mails.{mails_for-append, mails_for-left, pulled-other}
use Rattle.pc_office_history.proofs.Agreement.{is_free-parts}
use Rattle.pc_office_history.proofs.Waiting.{in-order}
use Rattle.pc_office_history.proofs.Within.{IsCanonical-legal}
use Rattle.pc_office_holdings.specs.declared.users.Standing.{Standing}
use Rattle.pc_office_holdings.specs.Held.{Held, noted_of, record_in, AreCounted, IsCounted, AreAllCounted}
use Rattle.pc_office_holdings.specs.Step.{new_standing, with_mail, awaited, standing_of, kept_after, entered}
use Rattle.pc_office_holdings.specs.State.{may_follow, IsSound}
use Rattle.pc_office_holdings.proofs.Noted.{keys-noted}

-- ---- an entry that may come next

none-from : {X : Type 0} (found : Option X) → is_none found ≡ true → found ≡ None
none-from None h = refl
none-from (Some x) h = absurd (true≢false (sym h))

-- it is allowed and passes no limit
pub may-parts : (k : Known) (e : OfficeEntry) → IsTrue (may_follow k e) → (is_allowed k e ≡ true) × (limit_passed k e ≡ None)
may-parts k e h = let parts = and_parts (is_allowed k e) (is_none (limit_passed k e)) h in (parts.0, none-from (limit_passed k e) parts.1)

-- ---- the record

noted-append : (users more : List (List ℕ × Standing)) → map noted_of (users ++ more) ≡ map noted_of users ++ map noted_of more
noted-append [] more = refl
noted-append (user ∷ users) more = ap (λ rest. noted_of user ∷ rest) (noted-append users more)

noted-awaited : (targets : List Target) (weight : ℕ) (users : List (List ℕ × Standing)) → map noted_of (map (awaited targets weight) users) ≡ map noted_of users
noted-awaited targets weight [] = refl
noted-awaited targets weight (user ∷ users) = elim (is_some (target_of user.0 targets)) as (λ b. noted_of (user.0, cond b (with_mail weight user.1) user.1) ∷ map noted_of (map (awaited targets weight) users) ≡ noted_of user ∷ map noted_of users) [
  | true ↦ ap (λ rest. noted_of user ∷ rest) (noted-awaited targets weight users)
  | false ↦ ap (λ rest. noted_of user ∷ rest) (noted-awaited targets weight users)
]

noted-set : (name : List ℕ) (standing : Standing) (users : List (List ℕ × Standing)) → map noted_of (set_value (same name) users standing) ≡ set_value (same name) (map noted_of users) standing.noted
noted-set name standing [] = refl
noted-set name standing (user ∷ users) = elim (same name user.0) as (λ b. map noted_of (cond b ((user.0, standing) ∷ users) (user ∷ set_value (same name) users standing)) ≡ cond b ((user.0, standing.noted) ∷ map noted_of users) (noted_of user ∷ set_value (same name) (map noted_of users) standing.noted)) [
  | true ↦ refl
  | false ↦ ap (λ rest. noted_of user ∷ rest) (noted-set name standing users)
]

-- the record of what is held after an entry is the record after it
pub record_in-entered : (held : Held) (e : OfficeEntry) → record_in (entered held e) ≡ after (record_in held) e
record_in-entered held (AddUser user) = λ i. record (after (record_in held) (AddUser user)) { users = noted-append held.users ((user, new_standing) ∷ []) i }
record_in-entered held (AddBoard board) = refl
record_in-entered held (TakeAddress address user mailbox) = refl
record_in-entered held (DropAddress address) = refl
record_in-entered held (Accept names message) = λ i. record (after (record_in held) (Accept names message)) { users = noted-awaited (targets_of (λ name. lookup (same name) held.addresses) names) (weight_of message) held.users i }
record_in-entered held (Pulled user number) = λ i. record (after (record_in held) (Pulled user number)) { users = noted-set user (standing_of number (mails_for user (kept_after user number held.kept))) held.users i }

-- ---- what is counted

-- a user for whom nothing waits
none-counted : (waiting : List Mail) → waiting ≡ [] → AreCounted new_standing waiting
none-counted waiting h = subst (AreCounted new_standing) (sym h) (record { mails = refl; weight = refl })

-- one mail more
one-more : (standing : Standing) (waiting : List Mail) (mail : Mail) → AreCounted standing waiting → AreCounted (with_mail (weight_of mail.message) standing) (waiting ++ mail ∷ [])
one-more standing waiting mail counted =
    let longer = length-append waiting (mail ∷ []) in
    let heavier = total-append (λ (one : Mail). weight_of one.message) waiting (mail ∷ []) in
    record { mails = omega (arith, longer, counted.mails); weight = omega (arith, heavier, counted.weight) }

module _ (kept : List KeptMail) (mail : KeptMail) where
  found-counted : (name : List ℕ) (standing : Standing) → AreCounted standing (mails_for name kept) → (found : Option Target) → AreCounted (cond (is_some found) (with_mail (weight_of mail.message) standing) standing) (mails_for name kept ++ cons_option (option_map (mail_at mail) found) [])
  found-counted name standing counted None = subst (AreCounted standing) (sym (append-nil (mails_for name kept))) counted
  found-counted name standing counted (Some target) = one-more standing (mails_for name kept) (mail_at mail target) counted

  awaited-counted : (user : List ℕ × Standing) → IsCounted kept user → IsCounted (kept ++ still_waiting (mail ∷ [])) (awaited mail.targets (weight_of mail.message) user)
  awaited-counted user counted =
      subst (AreCounted (cond (is_some (target_of user.0 mail.targets)) (with_mail (weight_of mail.message) user.1) user.1))
      (sym (mails_for-append user.0 kept (still_waiting (mail ∷ [])) ∙ ap (λ mails. mails_for user.0 kept ++ mails) (mails_for-left user.0 (mail ∷ []))))
      (found-counted user.0 user.1 counted (target_of user.0 mail.targets))

  -- once a mail waits for its targets
  all-awaited : (users : List (List ℕ × Standing)) → Every (IsCounted kept) users → Every (IsCounted (kept ++ still_waiting (mail ∷ []))) (map (awaited mail.targets (weight_of mail.message)) users)
  all-awaited [] all = tt
  all-awaited (user ∷ users) all = (awaited-counted user all.0, all-awaited users all.1)

module _ (by : List ℕ) (number : ℕ) (kept : List KeptMail) where
  abbrev left : List KeptMail
  left = kept_after by number kept

  abbrev counted_anew : Standing
  counted_anew = standing_of number (mails_for by left)

  -- who doesn't pull
  other-counted : (user : List ℕ × Standing) → same by user.0 ≡ false → IsCounted kept user → IsCounted left user
  other-counted user other counted = subst (AreCounted user.1) (sym (mails_for-left user.0 (map (pulled_by by number) kept) ∙ pulled-other user.0 by number kept other)) counted

  others-counted : (users : List (List ℕ × Standing)) → Every (λ name. same by name ≡ false) (keys_of users) → Every (IsCounted kept) users → Every (IsCounted left) users
  others-counted [] other all = tt
  others-counted (user ∷ users) other all = (other-counted user other.0 all.0, others-counted users other.1 all.1)

  own-counted : (name : List ℕ) → same by name ≡ true → AreCounted counted_anew (mails_for name left)
  own-counted name own = subst (λ n. AreCounted counted_anew (mails_for n left)) (same-true by name own) (record { mails = refl; weight = refl })

  -- once a user has pulled up to a number
  all-pulled : (users : List (List ℕ × Standing)) → AreDistinct (keys_of users) → Every (IsCounted kept) users → Every (IsCounted left) (set_value (same by) users counted_anew)
  all-pulled [] distinct all = tt
  all-pulled (user ∷ users) distinct all = elim (same by user.0) as (λ b. same by user.0 ≡ b → Every (IsCounted left) (cond b ((user.0, counted_anew) ∷ users) (user ∷ set_value (same by) users counted_anew))) [
    | true ↦ λ own. (own-counted user.0 own, others-counted users (subst (λ n. Every (λ name. same n name ≡ false) (keys_of users)) (sym (same-true by user.0 own)) distinct.0) all.1)
    | false ↦ λ other. (other-counted user other all.0, all-pulled users distinct.1 all.1)
  ] refl

distinct-first : (names more : List (List ℕ)) → AreDistinct (names ++ more) → AreDistinct names
distinct-first [] more h = tt
distinct-first (name ∷ names) more h = ((Every-split (λ other. same name other ≡ false) names more h.0).0, distinct-first names more h.1)

-- ---- all together

module _ (held : Held) (sound : IsSound held) where
  abbrev before : OfficeRecord
  before = record_in held

  distinct-users : AreDistinct (keys_of held.users)
  distinct-users = subst AreDistinct (keys-noted held.users) (distinct-first (keys_of before.users) (keys_of before.boards) sound.canonical.well_formed.user_names)

  -- nothing waits for who is no user
  nothing-waits : (user : List ℕ) → is_allowed (said_by before) (AddUser user) ≡ true → mails_for user held.kept ≡ []
  nothing-waits user allowed = ((in-order (start before 1) sound.canonical user).nobody (is_free-parts (said_by before) user allowed).0).0

  -- what waits is counted after an entry
  pub counted-entered : (e : OfficeEntry) → is_allowed (said_by before) e ≡ true → AreAllCounted (entered held e)
  counted-entered (AddUser user) allowed = Every-append (IsCounted held.kept) held.users ((user, new_standing) ∷ []) sound.counted (none-counted (mails_for user held.kept) (nothing-waits user allowed), tt)
  counted-entered (AddBoard board) allowed = sound.counted
  counted-entered (TakeAddress address user mailbox) allowed = sound.counted
  counted-entered (DropAddress address) allowed = sound.counted
  counted-entered (Accept names message) allowed = all-awaited held.kept (record { number = suc held.accepted; targets = targets_of (λ name. lookup (same name) held.addresses) names; message = message }) held.users sound.counted
  counted-entered (Pulled user number) allowed = all-pulled user number held.kept held.users distinct-users sound.counted

  canonical-entered : (e : OfficeEntry) → is_allowed (said_by before) e ≡ true → limit_passed (said_by before) e ≡ None → IsCanonical (record_in (entered held e))
  canonical-entered e allowed passed = subst IsCanonical (sym (record_in-entered held e)) (IsCanonical-legal (start before 1 ▹ e) (sound.canonical, allowed, passed))

  -- what is held after an entry that may come next is sound
  pub sound-entered : (e : OfficeEntry) → IsTrue (may_follow (said_by before) e) → IsSound (entered held e)
  sound-entered e follows =
      let parts = may-parts (said_by before) e follows in
      record { canonical = canonical-entered e parts.0 parts.1; counted = counted-entered e parts.0 }
