-- The one head that a line can be, by the number in front.
use Rattle.std.specs.Prelude.{ℕ, ◌-◌, ◌^◌, ◌==◌, List, [], ◌∷◌, length, take, drop, Option, Some, None, if◌then◌else◌}
use Rattle.std.specs.List.{find}
use Rattle.std.specs.Option.{option_map}
use Rattle.std.specs.Str.{bytes_eq}
use Rattle.pc_base.specs.Number.{is_number, decimal_value}
use Rattle.pc_base.specs.Recipient.{shown_of}
use Rattle.pc_base.specs.Refusal.{limit_word}
use Rattle.pc_base.specs.declared.refusal.LimitWord.{LimitWord}
use Rattle.pc_base.specs.declared.refusal.LimitWord.TheVariants as limit
use Rattle.pc_base.specs.declared.refusal.Refusal.{Refusal}
use Rattle.pc_base.specs.declared.refusal.Refusal.TheVariants as refused
use Rattle.pc_reply.specs.declared.head.Head.{Head}
use Rattle.pc_reply.specs.declared.head.Head.TheVariants as head

-- the refusal with this number, of those that say nothing more
abbrev pub refusal_numbered : ℕ → Option Refusal
refusal_numbered code =
    if code == 400 then Some refused.UnknownOperation else
    (if code == 401 then Some refused.WrongArguments else
    (if code == 402 then Some refused.LineTooLong else
    (if code == 403 then Some refused.NotLoggedIn else
    (if code == 404 then Some refused.AlreadyLoggedIn else
    (if code == 405 then Some refused.BadUserOrPassword else
    (if code == 406 then Some refused.NoSuchClient else
    (if code == 408 then Some refused.NoMailboxSelected else
    (if code == 409 then Some refused.NoSuchMailbox else
    (if code == 410 then Some refused.MailboxExists else
    (if code == 411 then Some refused.BadName else
    (if code == 412 then Some refused.NoSuchMessage else
    (if code == 413 then Some refused.NoSuchFlag else
    (if code == 414 then Some refused.NoSuchAddress else
    (if code == 415 then Some refused.AddressTaken else
    (if code == 417 then Some refused.MessageTooLarge else
    (if code == 419 then Some refused.NoSuchBoard else
    (if code == 420 then Some refused.NotSubscribed else
    (if code == 421 then Some refused.AlreadySubscribed else
    (if code == 422 then Some refused.ReadOnly else
    (if code == 423 then Some refused.ClientExists else
    (if code == 428 then Some refused.ClientHasSession else
    (if code == 429 then Some refused.VersionUnknown else
    (if code == 430 then Some refused.JournalFull else None)))))))))))))))))))))))

-- the head with this number, of those that say nothing more
abbrev pub plain_head : ℕ → Option Head
plain_head code =
    if code == 200 then Some head.Ok else
    (if code == 201 then Some head.ListFollows else
    (if code == 202 then Some head.MessageFollows else
    (if code == 220 then Some head.Ready else
    (if code == 221 then Some head.Closing else
    (if code == 300 then Some head.SendMessage else
    (if code == 500 then Some head.WantOfMemory else
    (if code == 501 then Some head.DeviceFailed else option_map head.Refused (refusal_numbered code))))))))

-- all words of limits
unfoldable pub limits : List LimitWord
limits =
    limit.Sessions ∷ limit.Clients ∷ limit.Mailboxes ∷ limit.Users ∷ limit.Boards ∷ limit.Addresses ∷ limit.Recipients
    ∷ limit.Uids ∷ limit.Messages ∷ limit.Bytes ∷ limit.Changes ∷ limit.Waiting ∷ limit.Board ∷ limit.Subscriptions ∷ []

-- the limit that a word names
abbrev pub limit_named : List ℕ → Option LimitWord
limit_named word = find (λ limit. bytes_eq (limit_word limit) word) limits

-- a number of 64 bits in digits
abbrev pub number_of : List ℕ → Option ℕ
number_of digits = if is_number 20 (2 ^ 64) digits then Some (decimal_value digits) else None

-- what can stand behind the number in front
abbrev pub birth_in : List ℕ → Option Head
birth_in line = option_map head.Birth (number_of (drop 10 line))

abbrev pub superseded_in : List ℕ → Option Head
superseded_in line = option_map (λ number. head.Refused (refused.Superseded number)) (number_of (drop 26 line))

abbrev pub recipient_in : List ℕ → Option Head
recipient_in line = Some (head.Refused (refused.UnknownRecipient (shown_of (drop 22 line))))

abbrev pub limit_in : List ℕ → Option Head
limit_in line = option_map (λ limit. head.Refused (refused.LimitReached limit)) (limit_named (drop 18 line))

abbrev pub missing_in : List ℕ → Option Head
missing_in line = option_map head.ChangeMissing (number_of (drop 11 (take (length line - 11) line)))

-- by the number in front
abbrev pub head_numbered : ℕ → List ℕ → Option Head
head_numbered code line =
    if code == 205 then birth_in line else
    (if code == 407 then superseded_in line else
    (if code == 416 then recipient_in line else
    (if code == 418 then limit_in line else
    (if code == 502 then missing_in line else plain_head code))))

-- the one head that the line can be
abbrev pub candidate_of : List ℕ → Option Head
candidate_of line =
    if is_number 10 (2 ^ 32) (take 3 line) then head_numbered (decimal_value (take 3 line)) line else None
