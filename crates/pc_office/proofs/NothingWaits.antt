-- Where nothing is counted of a user, nothing waits for it; and nothing waits for who is no user.
use Rattle.std.proofs.Common.{◌≡◌, ℕ, ◌<◌, ◌≤◌, ◌==◌, true, nat_lt, List, [], ◌∷◌, length, Option, None, Some, option_map, is_some, MatchOption, refl, sym, ap, ◌∙◌, subst, arith, ltb-false, eqb-true}
use Rattle.std.specs.List.{AllByRecursion as Every, list_any}
use Rattle.std.specs.Map.{lookup}
use Rattle.std.proofs.Math.Nat.{mod-eq_of_lt}
use Rattle.std.proofs.lemmas.Bool.{or_parts}
use Rattle.pc_message.specs.declared.lists.Mail.{Mail}
use Rattle.pc_message.specs.declared.limits.TheConstants.{LAST_MAIL}
use Rattle.pc_tables.specs.Table.{same}
use Rattle.pc_office_history.specs.declared.limits.TheConstants.{MOST_WAITING, MOST_WAITING_WEIGHT}
use Rattle.pc_office_history.specs.Record.{mails_for}
use Rattle.pc_office_history.specs.Known.{said_by}
use Rattle.pc_office_history.specs.Limits.{mail_weight, are_too_many}
use Rattle.pc_office_history.proofs.Agreement.{waiting-unpulled}
use Rattle.pc_office_holdings.specs.declared.users.Standing.{Standing}
use Rattle.pc_office_holdings.specs.Held.{Held, record_in}
use Rattle.pc_office_holdings.specs.State.{IsSound}
use Rattle.pc_office_holdings.proofs.Noted.{is_among-noted, lookup-noted}
use Rattle.pc_office.proofs.MailWaits.{none-among, counted-of}

module _ (held : Held) (sound : IsSound held) (user : List ℕ) where
  abbrev waiting : List Mail
  waiting = mails_for user held.kept

  few : is_some (lookup (same user) held.users) ≡ true → length waiting ≤ MOST_WAITING
  few there =
      let k = said_by (record_in held) in
      let users = or_parts (list_any (λ name. are_too_many (k.waiting name)) k.users) (nat_lt LAST_MAIL k.accepted) sound.canonical.within.1.1.1.0 in
      let mine = none-among (λ name. are_too_many (k.waiting name)) user k.users users.0 (is_among-noted user held.users ∙ there) in
      ltb-false MOST_WAITING (length waiting) (or_parts (nat_lt MOST_WAITING (length waiting)) (nat_lt MOST_WAITING_WEIGHT (mail_weight waiting)) mine).0

  pub counted-none : (standing : Standing) → lookup (same user) held.users ≡ Some standing → (standing.mails == 0) ≡ (length waiting == 0)
  counted-none standing found =
      let upto = few (ap is_some found) in
      let counted = counted-of held.kept user held.users standing sound.counted found in
      ap (λ n. n == 0) (counted.mails ∙ mod-eq_of_lt (omega (arith, upto)))

  none-of : (mails : List Mail) → Every (λ (mail : Mail). MatchOption (lookup (same user) (record_in held).users) ⊥ (λ noted. noted < mail.number)) mails → lookup (same user) (record_in held).users ≡ None → mails ≡ []
  none-of [] h none = refl
  none-of (mail ∷ mails) h none = absurd (subst (λ (o : Option ℕ). MatchOption o ⊥ (λ noted. noted < mail.number)) none h.0)

  pub for-no_user : lookup (same user) held.users ≡ None → true ≡ (length waiting == 0)
  for-no_user none =
      let nobody = lookup-noted user held.users ∙ ap (option_map (λ (standing : Standing). standing.noted)) none in
      sym (ap (λ (mails : List Mail). length mails == 0) (none-of waiting (waiting-unpulled (record_in held) sound.canonical.well_formed user) nobody))

pub empty : (mails : List Mail) → (length mails == 0) ≡ true → mails ≡ []
empty [] h = refl
empty (mail ∷ mails) h = let e : length (mail ∷ mails) ≡ 0 = eqb-true (length (mail ∷ mails)) 0 h in absurd (omega (arith, e))
