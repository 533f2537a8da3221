-- How much an account may have, and which limit an entry would pass first.
use Rattle.std.specs.Prelude.{◌≡◌, ℕ, Bool, false, not, nat_lt, nat_le, List, [], ◌∷◌, ◌++◌, length, Option}
use Rattle.std.specs.List.{list_all, find, AllByRecursion}
use Rattle.pc_base.specs.declared.refusal.LimitWord.{LimitWord}
use Rattle.pc_base.specs.declared.refusal.LimitWord.TheVariants as limit
use Rattle.pc_message.specs.Message.{weight_of}
use Rattle.pc_account_history.specs.declared.entry.Entry.{Entry}
use Rattle.pc_account_history.specs.declared.entry.Entry.TheVariants.{MakeMailbox, DropMailbox, Flag, Expunge, Copy, MakeClient, ResetClient, ResetMailbox, Pull, Subscribe}
use Rattle.pc_account_history.specs.declared.limits.TheConstants.{MOST_CLIENTS, MOST_MAILBOXES, MOST_SUBSCRIPTIONS, MOST_UIDS, MOST_MESSAGES, MOST_WEIGHT, MOST_CHANGES}
use Rattle.pc_tables.specs.Table.{total}
use Rattle.pc_account_history.specs.Known.{Known, after_entry}
use Rattle.pc_account_history.specs.Allowed.{messages}

-- all mailbox names, those dropped too
abbrev pub mailbox_names : Known → List (List ℕ)
mailbox_names k = k.live ++ k.dropped

-- what all messages count for
abbrev pub weight : Known → ℕ
weight k = total (λ mailbox. total (λ kept. weight_of kept.message) (messages k mailbox)) k.live

-- how many changes are on all lists
abbrev pub listed_count : Known → ℕ
listed_count k = total (λ mailbox. total (λ client. length (k.changes client.0 mailbox)) k.clients) (mailbox_names k)

-- a limit is passed
abbrev pub is_passed : Known → LimitWord → Bool
is_passed k limit.Clients = nat_lt MOST_CLIENTS (length k.clients)
is_passed k limit.Mailboxes = nat_lt MOST_MAILBOXES (length (mailbox_names k))
is_passed k limit.Uids = not (list_all (λ mailbox. nat_le (k.highest mailbox) MOST_UIDS) (mailbox_names k))
is_passed k limit.Messages = not (list_all (λ mailbox. nat_le (length (messages k mailbox)) MOST_MESSAGES) k.live)
is_passed k limit.Bytes = nat_lt MOST_WEIGHT (weight k)
is_passed k limit.Changes = nat_lt MOST_CHANGES (listed_count k)
is_passed k limit.Subscriptions = nat_lt MOST_SUBSCRIPTIONS (length k.subscriptions)
is_passed k _ = false

-- the limits that an entry can pass, in the order in which they are told
abbrev pub limits_of : Entry → List LimitWord
limits_of (MakeClient _) = limit.Clients ∷ limit.Changes ∷ []
limits_of (MakeMailbox _) = limit.Mailboxes ∷ []
limits_of (Copy _ _ _) = limit.Uids ∷ limit.Messages ∷ limit.Bytes ∷ limit.Changes ∷ []
limits_of (Pull _ _) = limit.Uids ∷ limit.Messages ∷ limit.Bytes ∷ limit.Changes ∷ []
limits_of (Flag _ _ _ _) = limit.Changes ∷ []
limits_of (Expunge _) = limit.Changes ∷ []
limits_of (DropMailbox _) = limit.Changes ∷ []
limits_of (ResetClient _) = limit.Changes ∷ []
limits_of (ResetMailbox _ _) = limit.Changes ∷ []
limits_of (Subscribe _) = limit.Subscriptions ∷ []
limits_of _ = []

-- the limit that an entry would pass first
abbrev pub limit_passed : Known → Entry → Option LimitWord
limit_passed k e = find (is_passed (after_entry k e)) (limits_of e)

-- none of these limits is passed
abbrev pub IsWithin : Known → List LimitWord → Type 0
IsWithin k limits = AllByRecursion (λ limit. is_passed k limit ≡ false) limits

-- the limits that hold at every place of a legal history, in its base too
abbrev pub limits_of_bases : List LimitWord
limits_of_bases = limit.Clients ∷ limit.Mailboxes ∷ limit.Uids ∷ limit.Messages ∷ limit.Bytes ∷ limit.Changes ∷ limit.Subscriptions ∷ []
