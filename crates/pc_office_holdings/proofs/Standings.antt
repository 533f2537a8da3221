-- The standing of a user, counted one mail after the other.
use Rattle.std.proofs.Common.{◌≡◌, ℕ, ◌+◌, ◌%◌, ◌<◌, ◌≤◌, true, false, List, [], ◌∷◌, ◌++◌, length, take, slice_index_or, Option, None, Some, is_some, option_map, sym, ap, ◌∙◌, arith, append-nil, true≢false}
use Rattle.std.specs.List.{cons_option}
use Rattle.std.proofs.lemmas.List.{take_more, take_all, length-append}
use Rattle.pc_message.specs.declared.lists.Mail.{Mail}
use Rattle.pc_message.specs.Message.{weight_of}
use Rattle.pc_tables.proofs.Totals.{total-append}
use Rattle.pc_office_history.specs.declared.kept.Target.{Target}
use Rattle.pc_office_history.specs.declared.kept.KeptMail.{KeptMail}
use Rattle.pc_office_history.specs.Record.{target_of, mail_at, mail_for, mails_for}
use Rattle.pc_office_history.specs.Limits.{mail_weight}
use Rattle.pc_office_history.proofs.Mails.{mails_for-append}
use Rattle.pc_office_holdings.specs.declared.users.Standing.{Standing}
use Rattle.pc_office_holdings.specs.Step.{with_mail, standing_of}

-- a mail more counts for one more
pub standing-more : (number : ℕ) (mails : List Mail) (mail : Mail) → standing_of number (mails ++ mail ∷ []) ≡ with_mail (weight_of mail.message) (standing_of number mails)
standing-more number mails mail =
    let count : length (mails ++ mail ∷ []) % 18446744073709551616 ≡ (length mails % 18446744073709551616 + 1) % 18446744073709551616 = omega (arith, length-append mails (mail ∷ [])) in
    let sum : mail_weight (mails ++ mail ∷ []) ≡ mail_weight mails + mail_weight (mail ∷ []) = total-append (λ (one : Mail). weight_of one.message) mails (mail ∷ []) in
    let weight : mail_weight (mails ++ mail ∷ []) % 18446744073709551616 ≡ (mail_weight mails % 18446744073709551616 + weight_of mail.message) % 18446744073709551616 = omega (arith, sum) in
    λ i. record { noted = number; mails = count i; weight = weight i }

mails-more : (user : List ℕ) (kept : List KeptMail) (place : ℕ) (mail : KeptMail) → place < length kept → mail ≡ slice_index_or kept place mail → mails_for user (take (place + 1) kept) ≡ mails_for user (take place kept) ++ cons_option (mail_for user mail) []
mails-more user kept place mail within is =
    ap (mails_for user) (take_more kept place mail within ∙ ap (λ (one : KeptMail). take place kept ++ one ∷ []) (sym is))
    ∙ mails_for-append user (take place kept) (mail ∷ [])

module _ (user : List ℕ) (number : ℕ) (kept : List KeptMail) (place : ℕ) (mail : KeptMail) (before now : Standing) (within : place < length kept) (is : mail ≡ slice_index_or kept place mail) (counted : before ≡ standing_of number (mails_for user (take place kept))) where
  found-mail : (found : Option Target) → is_some found ≡ true → now ≡ with_mail (weight_of mail.message) before → now ≡ standing_of number (mails_for user (take place kept) ++ cons_option (option_map (mail_at mail) found) [])
  found-mail None e step = absurd (true≢false (sym e))
  found-mail (Some target) e step = step ∙ ap (with_mail (weight_of mail.message)) counted ∙ sym (standing-more number (mails_for user (take place kept)) (mail_at mail target))

  other-mail : (found : Option Target) → is_some found ≡ false → now ≡ before → now ≡ standing_of number (mails_for user (take place kept) ++ cons_option (option_map (mail_at mail) found) [])
  other-mail None e step = step ∙ counted ∙ sym (ap (standing_of number) (append-nil (mails_for user (take place kept))))
  other-mail (Some target) e step = absurd (true≢false e)

  -- a mail for the user is counted
  pub front-counted : is_some (target_of user mail.targets) ≡ true → now ≡ with_mail (weight_of mail.message) before → now ≡ standing_of number (mails_for user (take (place + 1) kept))
  front-counted e step = found-mail (target_of user mail.targets) e step ∙ sym (ap (standing_of number) (mails-more user kept place mail within is))

  -- one for others isn't
  pub front-uncounted : is_some (target_of user mail.targets) ≡ false → now ≡ before → now ≡ standing_of number (mails_for user (take (place + 1) kept))
  front-uncounted e step = other-mail (target_of user mail.targets) e step ∙ sym (ap (standing_of number) (mails-more user kept place mail within is))

pub all-counted : (user : List ℕ) (number : ℕ) (kept : List KeptMail) (place : ℕ) → length kept ≤ place → standing_of number (mails_for user (take place kept)) ≡ standing_of number (mails_for user kept)
all-counted user number kept place past = ap (λ (mails : List KeptMail). standing_of number (mails_for user mails)) (take_all place kept past)
