-- The heads of refusals, and how an address that is unknown is shown.
use Rattle.std.specs.Prelude.{ℕ, Bool, true, false, List, ◌++◌, codes, decimal}
use Rattle.pc_base.specs.declared.refusal.LimitWord.{LimitWord}
use Rattle.pc_base.specs.declared.refusal.LimitWord.TheVariants as limit
use Rattle.pc_base.specs.declared.refusal.Refusal.{Refusal}
use Rattle.pc_base.specs.declared.refusal.Refusal.TheVariants as refused

-- the word that names a limit
abbrev pub limit_word : LimitWord → List ℕ
limit_word limit.Sessions = codes "sessions"
limit_word limit.Clients = codes "clients"
limit_word limit.Mailboxes = codes "mailboxes"
limit_word limit.Users = codes "users"
limit_word limit.Boards = codes "boards"
limit_word limit.Addresses = codes "addresses"
limit_word limit.Recipients = codes "recipients"
limit_word limit.Uids = codes "uids"
limit_word limit.Messages = codes "messages"
limit_word limit.Bytes = codes "bytes"
limit_word limit.Changes = codes "changes"
limit_word limit.Waiting = codes "waiting"
limit_word limit.Board = codes "board"
limit_word limit.Subscriptions = codes "subscriptions"

-- the head of the reply that tells a refusal
unfoldable pub head_of : Refusal → List ℕ
head_of refused.UnknownOperation = codes "400 Unknown operation"
head_of refused.WrongArguments = codes "401 Wrong arguments"
head_of refused.LineTooLong = codes "402 Line too long"
head_of refused.NotLoggedIn = codes "403 Not logged in"
head_of refused.AlreadyLoggedIn = codes "404 Already logged in"
head_of refused.BadUserOrPassword = codes "405 Bad user or password"
head_of refused.NoSuchClient = codes "406 No such client"
head_of (refused.Superseded number) = codes "407 Superseded by session " ++ decimal number
head_of refused.NoMailboxSelected = codes "408 No mailbox selected"
head_of refused.NoSuchMailbox = codes "409 No such mailbox"
head_of refused.MailboxExists = codes "410 Mailbox exists"
head_of refused.BadName = codes "411 Bad name"
head_of refused.NoSuchMessage = codes "412 No such message"
head_of refused.NoSuchFlag = codes "413 No such flag"
head_of refused.NoSuchAddress = codes "414 No such address"
head_of refused.AddressTaken = codes "415 Address taken"
head_of (refused.UnknownRecipient shown) = codes "416 Unknown recipient " ++ shown
head_of refused.MessageTooLarge = codes "417 Message too large"
head_of (refused.LimitReached word) = codes "418 Limit reached " ++ limit_word word
head_of refused.NoSuchBoard = codes "419 No such board"
head_of refused.NotSubscribed = codes "420 Not subscribed"
head_of refused.AlreadySubscribed = codes "421 Already subscribed"
head_of refused.ReadOnly = codes "422 Read only"
head_of refused.ClientExists = codes "423 Client exists"
head_of refused.ClientHasSession = codes "428 Client has a session"
head_of refused.VersionUnknown = codes "429 Version unknown"
head_of refused.JournalFull = codes "430 Journal full"

-- whether the head of a refusal has a number or an address in it
unfoldable pub tells_more : Refusal → Bool
tells_more (refused.Superseded _) = true
tells_more (refused.UnknownRecipient _) = true
tells_more _ = false
