-- What is counted where limits are tried.
use Rattle.std.specs.Prelude.{ℕ, ◌+◌, ◌*◌, Bool, not, nat_lt, nat_le, List, length, Option, Some, None, if◌then◌else◌}
use Rattle.std.specs.List.{filter, list_all}
use Rattle.pc_base.specs.declared.refusal.LimitWord.{LimitWord}
use Rattle.pc_base.specs.declared.refusal.LimitWord.TheVariants.{Uids, Messages, Bytes, Changes}
use Rattle.pc_message.specs.Message.{size_of}
use Rattle.pc_account_history.specs.declared.limits.TheConstants.{MOST_UIDS, MOST_MESSAGES, MOST_WEIGHT, MOST_CHANGES}
use Rattle.pc_tables.specs.Table.{same, total}
use Rattle.pc_account_history.specs.Record.{MailboxRecord}
use Rattle.pc_account_history.specs.Known.{Known}
use Rattle.pc_account_history.specs.Allowed.{messages}
use Rattle.pc_account_history.specs.Limits.{weight, listed_count}
use Rattle.pc_mailbox.specs.Growth.{unlisted_for}

-- the limit where it is passed, and else what the others come to
abbrev pub limit_where : Bool → LimitWord → Option LimitWord → Option LimitWord
limit_where passed limit others = if passed then Some limit else others

-- how many messages live in a mailbox
abbrev pub counts_in : List ℕ × MailboxRecord → ℕ
counts_in entry = length entry.1.messages

-- how many of them aren't listed for a client
abbrev pub unlisted_in : List ℕ → List ℕ × MailboxRecord → ℕ
unlisted_in client entry = unlisted_for client entry.1

-- ---- messages on their way: each with the mailbox that it goes to, and its size

abbrev pub parcel_of : List ℕ × List (List ℕ) → List ℕ × ℕ
parcel_of letter = (letter.0, size_of letter.1)

-- those that go to a mailbox
abbrev pub parcels_to : List ℕ → List (List ℕ × ℕ) → List (List ℕ × ℕ)
parcels_to mailbox parcels = filter (λ (parcel : List ℕ × ℕ). same parcel.0 mailbox) parcels

-- what a parcel counts for
abbrev pub weight_in : List ℕ × ℕ → ℕ
weight_in parcel = parcel.1 + 256

-- a mailbox has uids, and places, for its parcels
abbrev pub has_uids : Known → List (List ℕ × ℕ) → List ℕ → Bool
has_uids k parcels mailbox = nat_le (k.highest mailbox + length (parcels_to mailbox parcels)) MOST_UIDS

abbrev pub has_places : Known → List (List ℕ × ℕ) → List ℕ → Bool
has_places k parcels mailbox = nat_le (length (messages k mailbox) + length (parcels_to mailbox parcels)) MOST_MESSAGES

-- the limit that is passed first once all parcels have come
abbrev pub limit_of_parcels : Known → List (List ℕ × ℕ) → Option LimitWord
limit_of_parcels k parcels =
    limit_where (not (list_all (λ (parcel : List ℕ × ℕ). has_uids k parcels parcel.0) parcels)) Uids
    (limit_where (not (list_all (λ (parcel : List ℕ × ℕ). has_places k parcels parcel.0) parcels)) Messages
    (limit_where (nat_lt MOST_WEIGHT (weight k + total weight_in parcels)) Bytes
    (limit_where (nat_lt MOST_CHANGES (listed_count k + length parcels * length k.clients)) Changes None)))
