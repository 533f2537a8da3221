-- A line is at most one head.
use Rattle.std.proofs.Common.{◌≡◌, ℕ, ◌-◌, ◌^◌, ◌<◌, ◌≤◌, ◌==◌, true, false, ◌&&◌, nat_lt, nat_le, IsTrue, Some, None, List, [], ◌∷◌, ◌++◌, length, map, take, drop, codes, decimal, refl, sym, ap, ◌∙◌, arith, length-append}
use Rattle.std.specs.List.{list_all}
use Rattle.std.specs.Option.{option_map}
use Rattle.std.proofs.lemmas.Bool.{and_parts}
use Rattle.std.proofs.lemmas.Bool.Decides.{nat_tests}
use Rattle.std.proofs.lemmas.List.{take_at, take_all}
use Rattle.pc_base.specs.Name.{is_printed}
use Rattle.pc_base.specs.Number.{decimal_value}
use Rattle.pc_base.specs.Recipient.{shown_byte, shown_of, is_shown}
use Rattle.pc_base.specs.Refusal.{head_of, limit_word}
use Rattle.pc_base.specs.declared.refusal.Refusal.{Refusal}
use Rattle.pc_base.specs.declared.refusal.Refusal.TheVariants as refused
use Rattle.pc_base.specs.declared.refusal.LimitWord.{LimitWord}
use Rattle.pc_base.specs.declared.refusal.LimitWord.TheVariants as limit
use Rattle.pc_wire.proofs.DecimalLemmas.{decimal_digits, is_number-decimal}
use Rattle.pc_reply.specs.Head.{head_text, HeadFits, RefusalFits, IsHead}
use Rattle.pc_reply.specs.Candidate.{limits, limit_named, number_of, candidate_of}
use Rattle.pc_reply.specs.declared.head.Head.{Head}
use Rattle.pc_reply.specs.declared.head.Head.TheVariants as head

number_of-decimal : (n : ℕ) → n < 2 ^ 64 → number_of (decimal n) ≡ Some n
number_of-decimal n fits =
    rw (is_number-decimal 20 (2 ^ 64) n (omega arith) (omega arith) fits fits, (decimal_digits n fits).value) refl

limit_named-word : (limit : LimitWord) → limit_named (limit_word limit) ≡ Some limit
unfolding limits
limit_named-word limit.Sessions = refl
limit_named-word limit.Clients = refl
limit_named-word limit.Mailboxes = refl
limit_named-word limit.Users = refl
limit_named-word limit.Boards = refl
limit_named-word limit.Addresses = refl
limit_named-word limit.Recipients = refl
limit_named-word limit.Uids = refl
limit_named-word limit.Messages = refl
limit_named-word limit.Bytes = refl
limit_named-word limit.Changes = refl
limit_named-word limit.Waiting = refl
limit_named-word limit.Board = refl
limit_named-word limit.Subscriptions = refl

-- what is shown is shown as it is
map-shown : (bytes : List ℕ) → list_all is_printed bytes ≡ true → map shown_byte bytes ≡ bytes
map-shown [] all = refl
map-shown (byte ∷ bytes) all =
    let parts = and_parts (is_printed byte) (list_all is_printed bytes) all in
    rw (parts.0, map-shown bytes parts.1) refl

shown_of-shown : (shown : List ℕ) → IsTrue (is_shown shown) → shown_of shown ≡ shown
shown_of-shown shown fits =
    let parts = and_parts (nat_lt 0 (length shown) && nat_le (length shown) 64) (list_all is_printed shown) fits in
    let sizes = and_parts (nat_lt 0 (length shown)) (nat_le (length shown) 64) parts.0 in
    let some : (length shown == 0) ≡ false = grind (arith, nat_tests) in
    let few : length shown ≤ 64 = grind (arith, nat_tests) in
    rw (some, take_all 64 shown few) (map-shown shown parts.1)

-- the digits between the two parts of a text
middle : (digits : List ℕ) → take (length ((codes "502 Change " ++ digits) ++ codes " is missing") - 11) ((codes "502 Change " ++ digits) ++ codes " is missing") ≡ codes "502 Change " ++ digits
middle digits =
    take_at (codes "502 Change " ++ digits) (codes " is missing") _ (omega (arith, length-append (codes "502 Change " ++ digits) (codes " is missing")))

candidate_of-refusal : (refusal : Refusal) → RefusalFits refusal → candidate_of (head_of refusal) ≡ Some (head.Refused refusal)
unfolding head_of decimal_value
candidate_of-refusal (refused.Superseded number) fits = ap (option_map (λ n. head.Refused (refused.Superseded n))) (number_of-decimal number fits)
candidate_of-refusal (refused.UnknownRecipient shown) fits = ap (λ bytes. Some (head.Refused (refused.UnknownRecipient bytes))) (shown_of-shown shown fits)
candidate_of-refusal (refused.LimitReached limit) fits = ap (option_map (λ l. head.Refused (refused.LimitReached l))) (limit_named-word limit)
candidate_of-refusal refused.UnknownOperation fits = refl
candidate_of-refusal refused.WrongArguments fits = refl
candidate_of-refusal refused.LineTooLong fits = refl
candidate_of-refusal refused.NotLoggedIn fits = refl
candidate_of-refusal refused.AlreadyLoggedIn fits = refl
candidate_of-refusal refused.BadUserOrPassword fits = refl
candidate_of-refusal refused.NoSuchClient fits = refl
candidate_of-refusal refused.NoMailboxSelected fits = refl
candidate_of-refusal refused.NoSuchMailbox fits = refl
candidate_of-refusal refused.MailboxExists fits = refl
candidate_of-refusal refused.BadName fits = refl
candidate_of-refusal refused.NoSuchMessage fits = refl
candidate_of-refusal refused.NoSuchFlag fits = refl
candidate_of-refusal refused.NoSuchAddress fits = refl
candidate_of-refusal refused.AddressTaken fits = refl
candidate_of-refusal refused.MessageTooLarge fits = refl
candidate_of-refusal refused.NoSuchBoard fits = refl
candidate_of-refusal refused.NotSubscribed fits = refl
candidate_of-refusal refused.AlreadySubscribed fits = refl
candidate_of-refusal refused.ReadOnly fits = refl
candidate_of-refusal refused.ClientExists fits = refl
candidate_of-refusal refused.ClientHasSession fits = refl
candidate_of-refusal refused.VersionUnknown fits = refl
candidate_of-refusal refused.JournalFull fits = refl

candidate_of-head_text : (head : Head) → HeadFits head → candidate_of (head_text head) ≡ Some head
unfolding head_text decimal_value
candidate_of-head_text head.Ok fits = refl
candidate_of-head_text head.ListFollows fits = refl
candidate_of-head_text head.MessageFollows fits = refl
candidate_of-head_text (head.Birth birth) fits = ap (option_map head.Birth) (number_of-decimal birth fits)
candidate_of-head_text head.Ready fits = refl
candidate_of-head_text head.Closing fits = refl
candidate_of-head_text head.SendMessage fits = refl
candidate_of-head_text (head.Refused refusal) fits = candidate_of-refusal refusal fits
candidate_of-head_text head.WantOfMemory fits = refl
candidate_of-head_text head.DeviceFailed fits = refl
candidate_of-head_text (head.ChangeMissing number) fits =
    ap (λ text. option_map head.ChangeMissing (number_of (drop 11 text))) (middle (decimal number)) ∙ ap (option_map head.ChangeMissing) (number_of-decimal number fits)

-- the candidate is the head that the line is
pub candidate_of-line : (head : Head) (line : List ℕ) → IsHead head line → candidate_of line ≡ Some head
candidate_of-line head line is = ap candidate_of is.0 ∙ candidate_of-head_text head is.1

-- a line is at most one head
pub one_head : (one other : Head) (line : List ℕ) → IsHead one line → IsHead other line → one ≡ other
one_head one other line is also =
    let same : Some one ≡ Some other = sym (candidate_of-line one line is) ∙ candidate_of-line other line also in
    cc

-- what `read` answers where the line isn't the candidate's text, or there is no candidate
pub no_candidate : (head : Head) (line : List ℕ) → IsHead head line → None ≡ candidate_of line → None ≡ Some head
no_candidate head line is none = none ∙ candidate_of-line head line is

pub that_candidate : (head found : Head) (line : List ℕ) → IsHead head line → Some found ≡ candidate_of line → Some found ≡ Some head
that_candidate head found line is some = some ∙ candidate_of-line head line is

pub other_candidate : (head found : Head) (line text : List ℕ) → IsHead head line → Some found ≡ candidate_of line → text ≡ head_text found → (text ≡ line → ⊥) → None ≡ Some head
other_candidate head found line text is some written differs =
    let same : found ≡ head = let both : Some found ≡ Some head = that_candidate head found line is some in cc in
    absurd (differs (written ∙ ap head_text same ∙ sym is.0))
