-- What a wish comes to: its entry, or none where it holds already, or the first refusal.
use Rattle.std.specs.Prelude.{ℕ, zero, suc, ◌+◌, ◌==◌, ◌<◌, ◌≤◌, ⊤, Bool, false, not, ◌&&◌, nat_lt, nat_le, List, [], ◌∷◌, map, fold, take, length, Option, None, Some, is_none, Result, Ok, Err, if◌then◌else◌}
use Rattle.std.specs.Option.{option_map_or}
use Rattle.std.specs.List.{filter, list_any, list_all}
use Rattle.std.specs.Map.{lookup}
use Rattle.pc_base.specs.declared.refusal.Refusal.{Refusal}
use Rattle.pc_base.specs.declared.refusal.Refusal.TheVariants.{NoSuchClient, NoSuchMailbox, MailboxExists, NoSuchMessage, LimitReached, NotSubscribed, AlreadySubscribed, ReadOnly, ClientExists}
use Rattle.pc_base.specs.declared.room.Room.{Room}
use Rattle.pc_base.specs.Name.{inbox}
use Rattle.pc_message.specs.declared.lists.Mail.{Mail}
use Rattle.pc_message.specs.Message.{size_of}
use Rattle.pc_account_history.specs.declared.kept.Kept.{Kept}
use Rattle.pc_account_history.specs.declared.kept.Listed.{Listed}
use Rattle.pc_account_history.specs.declared.entry.Entry.{Entry}
use Rattle.pc_account_history.specs.declared.entry.Entry.TheVariants as entry
use Rattle.pc_message.specs.declared.limits.TheConstants.{MOST_LETTERS, LAST_MAIL}
use Rattle.pc_account_history.specs.Record.{MailboxRecord, list_of, stamp_at}
use Rattle.pc_message.specs.Flags.{flag_of}
use Rattle.pc_tables.specs.Table.{same, numbers, total}
use Rattle.pc_account_history.specs.Known.{Known}
use Rattle.pc_account_history.specs.Allowed.{is_mailbox, is_client, is_subscribed, messages}
use Rattle.pc_account_history.specs.Limits.{limit_passed}
use Rattle.pc_account.specs.declared.wish.Wish.{Wish}
use Rattle.pc_account.specs.declared.wish.Wish.TheVariants as wish

-- ---- what is there

-- the refusal where the first is so, and else what the others come to
abbrev pub refused_where : Bool → Refusal → Option Refusal → Option Refusal
refused_where wrong refusal others = if wrong then Some refusal else others

-- the first thing that a wish needs and that isn't there, or that is there already
abbrev pub refusal_of : Known → Wish → Option Refusal
refusal_of k (wish.MakeMailbox mailbox) = refused_where (is_mailbox k mailbox) MailboxExists None
refusal_of k (wish.DropMailbox mailbox) = refused_where (not (is_mailbox k mailbox)) NoSuchMailbox (refused_where (same mailbox inbox) ReadOnly None)
refusal_of k (wish.Flag mailbox uid _ _) = refused_where (not (is_mailbox k mailbox)) NoSuchMailbox (refused_where (is_none (k.kept mailbox uid)) NoSuchMessage None)
refusal_of k (wish.Expunge mailbox) = refused_where (not (is_mailbox k mailbox)) NoSuchMailbox None
refusal_of k (wish.Copy mailbox uid target) = refused_where (not (is_mailbox k mailbox)) NoSuchMailbox (refused_where (is_none (k.kept mailbox uid)) NoSuchMessage (refused_where (not (is_mailbox k target)) NoSuchMailbox None))
refusal_of k (wish.MakeClient client) = refused_where (is_client k client) ClientExists None
refusal_of k (wish.DropClient client) = refused_where (not (is_client k client)) NoSuchClient None
refusal_of k (wish.ResetClient client) = refused_where (not (is_client k client)) NoSuchClient None
refusal_of k (wish.ResetMailbox client mailbox) = refused_where (not (is_client k client)) NoSuchClient (refused_where (not (is_mailbox k mailbox)) NoSuchMailbox None)
refusal_of k (wish.Forget client mailbox _ _ _) = refused_where (not (is_client k client)) NoSuchClient (refused_where (not (is_mailbox k mailbox)) NoSuchMailbox None)
refusal_of k (wish.Take _ _) = None
refusal_of k (wish.Password _) = None
refusal_of k (wish.Subscribe board) = refused_where (is_subscribed k board) AlreadySubscribed None
refusal_of k (wish.Unsubscribe board) = refused_where (not (is_subscribed k board)) NotSubscribed None
refusal_of k (wish.Mark board _) = refused_where (not (is_subscribed k board)) NotSubscribed None

-- ---- taking changes that were shown

-- the uid is listed for the client with a stamp that it was shown
abbrev pub is_shown : Known → List ℕ → List ℕ → List Listed → ℕ → Bool
is_shown k client mailbox shown uid = option_map_or (λ stamp. list_any (λ (listed : Listed). listed.uid == uid && listed.stamp == stamp) shown) (k.listed client mailbox uid) false

-- the uids from low to high that are listed as they were shown, rising
abbrev pub taken_uids : Known → List ℕ → List ℕ → ℕ → ℕ → List Listed → List ℕ
taken_uids k client mailbox low high shown = filter (λ uid. nat_le low uid && nat_le uid high && is_shown k client mailbox shown uid) (numbers 0 (k.highest mailbox))

-- a change that was shown is one from low to high that is still listed so
abbrev pub is_taken : List ℕ → MailboxRecord → ℕ → ℕ → Listed → Bool
is_taken client box low high shown = nat_le low shown.uid && nat_le shown.uid high && option_map_or (λ stamp. stamp == shown.stamp) (stamp_at shown.uid (list_of box client)) false

-- uids that rise with one among them
abbrev pub inserted : ℕ → List ℕ → List ℕ
inserted uid [] = uid ∷ []
inserted uid (other ∷ uids) = if nat_le uid other then (if other == uid then other ∷ uids else uid ∷ other ∷ uids) else other ∷ inserted uid uids

-- the uids that are taken, one change that was shown after the other
abbrev pub with_taken : List ℕ → MailboxRecord → ℕ → ℕ → List ℕ → Listed → List ℕ
with_taken client box low high uids shown = if is_taken client box low high shown then inserted shown.uid uids else uids

abbrev pub all_taken : List ℕ → MailboxRecord → ℕ → ℕ → List Listed → List ℕ
all_taken client box low high shown = fold (with_taken client box low high) [] shown

-- ---- taking mail

-- the mailbox that a mail goes to: its own, or inbox where that doesn't live
abbrev pub target_of : Known → Mail → List ℕ
target_of k mail = if is_mailbox k mail.mailbox then mail.mailbox else inbox

-- the number of the last of these mails
abbrev pub last_number : List Mail → ℕ
last_number [] = 0
last_number (mail ∷ []) = mail.number
last_number (mail ∷ mails) = last_number mails

-- the pull of these mails
abbrev pub pull_of : Known → List Mail → Entry
pull_of k mails = entry.Pull (last_number mails) (map (λ (mail : Mail). (target_of k mail, mail.message)) mails)

-- the bytes of a pull in a journal: tag, number and count take 11; a letter its name, a byte before it, and
-- its message, in which four bytes are the number of lines and two go before each line
abbrev pub pull_bytes : Known → List Mail → ℕ
pull_bytes k mails = 11 + total (λ (mail : Mail). 5 + length (target_of k mail) + size_of mail.message) mails

-- these mails can be pulled: each goes to a mailbox that lives, no limit is passed, and the journal has room
abbrev pub can_pull : Known → Room → List Mail → Bool
can_pull k room mails = list_all (λ (mail : Mail). is_mailbox k (target_of k mail)) mails && is_none (limit_passed k (pull_of k mails)) && nat_lt 0 room.entries && nat_le (pull_bytes k mails) room.bytes

-- the longest front, of at most so many of these mails, that can be pulled
abbrev pub longest_front : Known → Room → ℕ → List Mail → List Mail
longest_front k room zero mails = []
longest_front k room (suc count) mails = if can_pull k room (take (suc count) mails) then take (suc count) mails else longest_front k room count mails

-- the mails that are pulled
abbrev pub pulled_mails : Known → Room → List Mail → List Mail
pulled_mails k room mails = longest_front k room (length mails) mails

-- ---- the plan

-- the entry that a wish comes to where nothing stands against it
abbrev pub entry_of : Known → Wish → Entry
entry_of k (wish.MakeMailbox mailbox) = entry.MakeMailbox mailbox
entry_of k (wish.DropMailbox mailbox) = entry.DropMailbox mailbox
entry_of k (wish.Flag mailbox uid flag on) = entry.Flag mailbox uid flag on
entry_of k (wish.Expunge mailbox) = entry.Expunge mailbox
entry_of k (wish.Copy mailbox uid target) = entry.Copy mailbox uid target
entry_of k (wish.MakeClient client) = entry.MakeClient client
entry_of k (wish.DropClient client) = entry.DropClient client
entry_of k (wish.ResetClient client) = entry.ResetClient client
entry_of k (wish.ResetMailbox client mailbox) = entry.ResetMailbox client mailbox
entry_of k (wish.Forget client mailbox low high shown) = entry.Forget client mailbox (taken_uids k client mailbox low high shown)
entry_of k (wish.Take mails room) = pull_of k (pulled_mails k room mails)
entry_of k (wish.Password digest) = entry.Password digest
entry_of k (wish.Subscribe board) = entry.Subscribe board
entry_of k (wish.Unsubscribe board) = entry.Unsubscribe board
entry_of k (wish.Mark board uid) = entry.Mark board uid

-- the wish holds already, so that no entry is made
abbrev pub holds : Known → Wish → Bool
holds k (wish.Flag mailbox uid flag on) = option_map_or (λ (kept : Kept). if on then flag_of kept.flags flag else not (flag_of kept.flags flag)) (k.kept mailbox uid) false
holds k (wish.Expunge mailbox) = not (list_any (λ (kept : Kept). flag_of kept.flags 0) (messages k mailbox))
holds k (wish.Forget client mailbox low high shown) = length (taken_uids k client mailbox low high shown) == 0
holds k (wish.Take mails room) = length (pulled_mails k room mails) == 0
holds k (wish.Password digest) = option_map_or (same digest) k.digest false
holds k (wish.Mark board uid) = option_map_or (λ mark. mark == uid) (lookup (same board) k.subscriptions) false
holds k _ = false

-- the entry, unless it passes a limit
abbrev pub within_limits : Known → Entry → Result (Option Entry) Refusal
within_limits k e = option_map_or (λ limit. Err (LimitReached limit)) (limit_passed k e) (Ok (Some e))

-- what a wish comes to: first what isn't there, then that it holds already, then the limits, then its entry
abbrev pub planned : Known → Wish → Result (Option Entry) Refusal
planned k w = option_map_or Err (refusal_of k w) (if holds k w then Ok None else within_limits k (entry_of k w))

-- ---- what may be wished

-- the numbers rise, from past the first one on, up to the last number of a mail
abbrev pub NumbersRise : ℕ → List Mail → Type 0
NumbersRise low [] = ⊤
NumbersRise low (mail ∷ mails) = (low < mail.number) × (mail.number ≤ LAST_MAIL) × NumbersRise mail.number mails

-- a flag is one of sixteen; mails to be taken are few, and come one after the other behind what was pulled
abbrev pub IsWish : Known → Wish → Type 0
IsWish k (wish.Flag _ _ flag _) = flag ≤ 15
IsWish k (wish.Take mails _) = (length mails ≤ MOST_LETTERS) × NumbersRise k.pulled mails
IsWish k _ = ⊤

-- a wish that is settled without memory: all but to forget and to take
abbrev pub IsAtOnce : Wish → Type 0
IsAtOnce (wish.Forget _ _ _ _ _) = ⊥
IsAtOnce (wish.Take _ _) = ⊥
IsAtOnce _ = ⊤
