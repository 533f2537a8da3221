-- Mails whose numbers rise, parted at a number.
use Rattle.std.proofs.Common.{◌≡◌, ℕ, zero, suc, ◌<◌, ◌≤◌, true, false, nat_le, List, [], ◌∷◌, length, drop, get_or, filter, Option, None, Some, option_map, refl, sym, ap, ◌∙◌, arith, lt-ltb, le-ltb, leb-true, leb-false}
use Rattle.std.specs.List.{cons_option}
use Rattle.pc_message.specs.declared.lists.Mail.{Mail}
use Rattle.pc_office_history.specs.declared.kept.Target.{Target}
use Rattle.pc_office_history.specs.declared.kept.KeptMail.{KeptMail}
use Rattle.pc_office_history.specs.Record.{target_of, mail_at, mails_for}
use Rattle.pc_office_history.specs.Known.{is_past}

module _ (user : List ℕ) (after : ℕ) where
  abbrev past-of : List Mail → List Mail
  past-of mails = filter (is_past after) mails

  -- a mail in front isn't past the number, and one behind is
  front-step : (mail : KeptMail) (found : Option Target) (mails : List Mail) → mail.number ≤ after → past-of (cons_option (option_map (mail_at mail) found) mails) ≡ past-of mails
  front-step mail None mails le = refl
  front-step mail (Some target) mails le = rw (le-ltb after mail.number le) refl

  back-step : (mail : KeptMail) (found : Option Target) (mails : List Mail) → after < mail.number → past-of mails ≡ mails → past-of (cons_option (option_map (mail_at mail) found) mails) ≡ cons_option (option_map (mail_at mail) found) mails
  back-step mail None mails lt h = h
  back-step mail (Some target) mails lt h = rw (lt-ltb after mail.number lt) (ap (λ rest. mail_at mail target ∷ rest) h)

  all-past : (kept : List KeptMail) → ((k : ℕ) (d : KeptMail) → k < length kept → nat_le (get_or kept k d).number after ≡ false) → past-of (mails_for user kept) ≡ mails_for user kept
  all-past [] behind = refl
  all-past (mail ∷ kept) behind = back-step mail (target_of user mail.targets) (mails_for user kept) (leb-false mail.number after (behind 0 mail (omega arith))) (all-past kept (λ k d lt. behind (suc k) d (omega (arith, lt))))

  pub parted : (kept : List KeptMail) (i : ℕ) → i ≤ length kept → ((k : ℕ) (d : KeptMail) → k < i → nat_le (get_or kept k d).number after ≡ true) → ((k : ℕ) (d : KeptMail) → i ≤ k → k < length kept → nat_le (get_or kept k d).number after ≡ false) → mails_for user (drop i kept) ≡ past-of (mails_for user kept)
  parted kept zero le before behind = sym (all-past kept (λ k d lt. behind k d (omega arith) lt))
  parted [] (suc i) le before behind = absurd (omega (arith, le))
  parted (mail ∷ kept) (suc i) le before behind =
      parted kept i (omega (arith, le)) (λ k d lt. before (suc k) d (omega (arith, lt))) (λ k d l lt. behind (suc k) d (omega (arith, l)) (omega (arith, lt)))
      ∙ sym (front-step mail (target_of user mail.targets) (mails_for user kept) (leb-true mail.number after (before 0 mail (omega arith))))
