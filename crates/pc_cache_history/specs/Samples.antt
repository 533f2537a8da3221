-- Small histories with what each answer must be.
use Rattle.std.specs.Prelude.{◌≡◌, ℕ, ◌-◌, Bool, true, false, List, [], ◌∷◌, map, replicate, codes, Some, None}
use Rattle.pc_message.specs.declared.descriptor.Descriptor.{Descriptor}
use Rattle.pc_message.specs.declared.descriptor.Change.{Change}
use Rattle.pc_message.specs.declared.descriptor.Change.TheVariants.{Present, Expunged}
use Rattle.pc_tables.specs.Table.{numbers}
use Rattle.pc_cache_history.specs.declared.item.Item.{Item}
use Rattle.pc_cache_history.specs.declared.entry.CacheEntry.{CacheEntry}
use Rattle.pc_cache_history.specs.declared.entry.CacheEntry.TheVariants.{Begin, Synced, Took, Kept, Queue, Answered}
use Rattle.pc_cache_history.specs.Record.{CacheRecord}
use Rattle.pc_cache_history.specs.View.{view, shown_changes, view_at}
use Rattle.pc_cache_history.specs.History.{History, start, ◌▻◌, new_cache, known, next}
use Rattle.pc_cache_history.specs.Allowed.{descriptor_count, base_is_empty, took_bytes, queue_is_full, no_number_is_left, is_allowed}
use Rattle.pc_cache_history.specs.Step.{record_of}
use Rattle.pc_cache_history.specs.Legal.{IsCanonical, IsLegal}

abbrev pub inbox : List ℕ
inbox = codes "inbox"

abbrev pub work : List ℕ
work = codes "work"

-- the descriptor of a message with this uid and these flags
abbrev pub message : ℕ → ℕ → Descriptor
message uid flags = record { uid = uid; flags = flags; bytes = 300; lines = 4; date = []; from = codes "ann"; to = codes "bob"; subject = codes "one" }

abbrev pub there : ℕ → ℕ → Change
there uid flags = Present (message uid flags)

abbrev pub item : ℕ → List ℕ → ℕ → ℕ → Bool → Item
item number mailbox uid flag on = record { number = number; mailbox = mailbox; uid = uid; flag = flag; on = on }

-- of each entry, whether it is allowed
abbrev pub allows : History → List CacheEntry → List Bool
allows h entries = map (is_allowed (known h)) entries

-- the queue at the end of a history
abbrev pub queue_of : History → List Item
queue_of h = (known h).queue

-- what is shown of a mailbox at the end of a history
abbrev pub view_of : History → List ℕ → List Descriptor
view_of h mailbox = view (known h) mailbox

-- a cache of a client of birth 5 of which everything is listed anew; nothing is taken yet
abbrev pub synced : History
synced = new_cache ▻ Begin 5 ▻ Synced

-- where there was no Begin either: changes are taken, and the client has no birth
abbrev pub SyncedAtOnce : Type 0
SyncedAtOnce = (allows new_cache (Synced ∷ []) ≡ true ∷ [])
    × ((known (new_cache ▻ Synced)).resetting ≡ false)
    × ((known (new_cache ▻ Synced)).birth ≡ 0)
    × (allows (new_cache ▻ Synced) (Begin 5 ∷ Synced ∷ Took inbox [] ∷ Kept [] ∷ []) ≡ true ∷ false ∷ true ∷ true ∷ [])

-- two messages were taken
abbrev pub two_taken : History
two_taken = synced ▻ Took inbox (there 3 0 ∷ there 7 1 ∷ [])

-- they are shown as they were taken, and no other is
abbrev pub TwoTaken : Type 0
TwoTaken = ((known two_taken).birth ≡ 5)
    × ((known two_taken).resetting ≡ false)
    × ((known two_taken).mailboxes ≡ inbox ∷ [])
    × ((known two_taken).base inbox 7 ≡ Some (message 7 1))
    × ((known two_taken).base inbox 4 ≡ None)
    × ((known two_taken).base work 7 ≡ None)
    × (view_of two_taken inbox ≡ message 3 0 ∷ message 7 1 ∷ [])
    × (view_of two_taken work ≡ [])
    × (queue_of two_taken ≡ [])
    × (descriptor_count (known two_taken) ≡ 2)
    × (next two_taken ≡ 4)

-- flag 2 of the second one is to be set
abbrev pub flag_queued : History
flag_queued = two_taken ▻ Queue inbox 7 2 true

-- it is shown as set, and what was taken is what it was
abbrev pub FlagQueued : Type 0
FlagQueued = (queue_of flag_queued ≡ item 1 inbox 7 2 true ∷ [])
    × ((known flag_queued).last ≡ 1)
    × (view_of flag_queued inbox ≡ message 3 0 ∷ message 7 5 ∷ [])
    × (shown_changes (known flag_queued) inbox ≡ there 3 0 ∷ there 7 5 ∷ [])
    × (view_at (known flag_queued) inbox 7 ≡ Some (message 7 5))
    × (view_at (known flag_queued) inbox 8 ≡ None)
    × ((known flag_queued).base inbox 7 ≡ Some (message 7 1))

-- once it is answered nothing is laid over any more; what the repository has is taken anew
abbrev pub FlagAnswered : Type 0
FlagAnswered = (queue_of (flag_queued ▻ Answered 1) ≡ [])
    × ((known (flag_queued ▻ Answered 1)).last ≡ 1)
    × (view_of (flag_queued ▻ Answered 1) inbox ≡ message 3 0 ∷ message 7 1 ∷ [])
    × (view_of (flag_queued ▻ Answered 1 ▻ Took inbox (there 7 5 ∷ [])) inbox ≡ message 3 0 ∷ message 7 5 ∷ [])
    × (view_of (flag_queued ▻ Took inbox (there 7 5 ∷ []) ▻ Answered 1) inbox ≡ message 3 0 ∷ message 7 5 ∷ [])
    × (record_of (flag_queued ▻ Answered 1) ≡ record { birth = 5; resetting = false; mailboxes = (inbox, message 3 0 ∷ message 7 1 ∷ []) ∷ []; last = 1; queue = [] })

-- a flag on and off again, and one of the other message
abbrev pub three_queued : History
three_queued = flag_queued ▻ Queue inbox 7 2 false ▻ Queue inbox 3 0 true

-- the last one holds; each can be answered alone; a number that was answered doesn't come again
abbrev pub LastOneHolds : Type 0
LastOneHolds = (view_of three_queued inbox ≡ message 3 1 ∷ message 7 1 ∷ [])
    × (view_of (three_queued ▻ Answered 2) inbox ≡ message 3 1 ∷ message 7 5 ∷ [])
    × (queue_of (three_queued ▻ Answered 2) ≡ item 1 inbox 7 2 true ∷ item 3 inbox 3 0 true ∷ [])
    × (queue_of (three_queued ▻ Answered 3 ▻ Queue inbox 3 15 true) ≡ item 1 inbox 7 2 true ∷ item 2 inbox 7 2 false ∷ item 4 inbox 3 15 true ∷ [])
    × (view_of (three_queued ▻ Answered 3 ▻ Queue inbox 3 15 true) inbox ≡ message 3 32768 ∷ message 7 1 ∷ [])

-- the copies are begun anew
abbrev pub begun_anew : History
begun_anew = flag_queued ▻ Begin 9

-- no copy is left, and the queue is; it is laid over what is taken then, and its numbers go on
abbrev pub BegunAnew : Type 0
BegunAnew = ((known begun_anew).birth ≡ 9)
    × ((known begun_anew).resetting ≡ true)
    × ((known begun_anew).mailboxes ≡ [])
    × (view_of begun_anew inbox ≡ [])
    × (queue_of begun_anew ≡ item 1 inbox 7 2 true ∷ [])
    × (view_of (begun_anew ▻ Synced ▻ Took inbox (there 7 0 ∷ [])) inbox ≡ message 7 4 ∷ [])
    × (queue_of (begun_anew ▻ Synced ▻ Took inbox (there 7 0 ∷ []) ▻ Queue inbox 7 3 true) ≡ item 1 inbox 7 2 true ∷ item 2 inbox 7 3 true ∷ [])
    × (queue_of (flag_queued ▻ Answered 1 ▻ Begin 9 ▻ Synced ▻ Took inbox (there 7 0 ∷ []) ▻ Queue inbox 7 3 true) ≡ item 2 inbox 7 3 true ∷ [])

-- in whatever order changes are taken, the uids rise; a uid that is there is replaced, and one that isn't there can be gone
abbrev pub UidsRise : Type 0
UidsRise = (view_of (synced ▻ Took inbox (there 7 1 ∷ there 3 0 ∷ there 5 2 ∷ [])) inbox ≡ message 3 0 ∷ message 5 2 ∷ message 7 1 ∷ [])
    × (view_of (two_taken ▻ Took inbox (there 9 0 ∷ Expunged 3 ∷ there 7 8 ∷ Expunged 4 ∷ [])) inbox ≡ message 7 8 ∷ message 9 0 ∷ [])
    × (view_of (two_taken ▻ Took work (there 3 4 ∷ [])) inbox ≡ message 3 0 ∷ message 7 1 ∷ [])
    × (view_of (two_taken ▻ Took work (there 3 4 ∷ [])) work ≡ message 3 4 ∷ [])

-- a message that is gone isn't shown, though a change of it waits; where it is there again, the change is laid over it
abbrev pub GoneAndThere : Type 0
GoneAndThere = (view_of (flag_queued ▻ Took inbox (Expunged 7 ∷ [])) inbox ≡ message 3 0 ∷ [])
    × (queue_of (flag_queued ▻ Took inbox (Expunged 7 ∷ [])) ≡ item 1 inbox 7 2 true ∷ [])
    × (view_of (flag_queued ▻ Took inbox (Expunged 7 ∷ []) ▻ Took inbox (there 7 0 ∷ [])) inbox ≡ message 3 0 ∷ message 7 4 ∷ [])

-- two mailboxes
abbrev pub two_mailboxes : History
two_mailboxes = flag_queued ▻ Took work (there 1 0 ∷ [])

-- one is left out
abbrev pub left_out : History
left_out = two_mailboxes ▻ Kept (work ∷ [])

-- what is left out has no copies, and what is taken again comes last, without what it had; its queue stays
abbrev pub LeftOut : Type 0
LeftOut = ((known two_mailboxes).mailboxes ≡ inbox ∷ work ∷ [])
    × ((known left_out).mailboxes ≡ work ∷ [])
    × ((known left_out).base inbox 3 ≡ None)
    × (view_of left_out inbox ≡ [])
    × (view_of left_out work ≡ message 1 0 ∷ [])
    × (queue_of left_out ≡ item 1 inbox 7 2 true ∷ [])
    × (descriptor_count (known left_out) ≡ 1)
    × ((known (left_out ▻ Took inbox (there 7 1 ∷ []))).mailboxes ≡ work ∷ inbox ∷ [])
    × (view_of (left_out ▻ Took inbox (there 7 1 ∷ [])) inbox ≡ message 7 5 ∷ [])
    × ((record_of (left_out ▻ Took inbox (there 7 1 ∷ []))).mailboxes ≡ (work, message 1 0 ∷ []) ∷ (inbox, message 7 1 ∷ []) ∷ [])

-- a mailbox whose messages are all gone stays, in its place; so is one there of which nothing was taken; Kept makes none
abbrev pub EmptiedStays : Type 0
EmptiedStays = ((known (two_mailboxes ▻ Took inbox (Expunged 3 ∷ Expunged 7 ∷ []))).mailboxes ≡ inbox ∷ work ∷ [])
    × (view_of (two_mailboxes ▻ Took inbox (Expunged 3 ∷ Expunged 7 ∷ [])) inbox ≡ [])
    × ((record_of (synced ▻ Took work [])).mailboxes ≡ (work, []) ∷ [])
    × ((known (synced ▻ Kept (work ∷ []))).mailboxes ≡ [])
    × ((known (two_mailboxes ▻ Kept [])).mailboxes ≡ [])
    × ((known (two_mailboxes ▻ Kept (work ∷ inbox ∷ []))).mailboxes ≡ inbox ∷ work ∷ [])

-- only descriptors make a base that isn't empty
abbrev pub EmptyBases : Type 0
EmptyBases = (base_is_empty (known new_cache) ≡ true)
    × (base_is_empty (known (synced ▻ Took work [])) ≡ true)
    × (base_is_empty (known (two_taken ▻ Took inbox (Expunged 7 ∷ []))) ≡ false)
    × (base_is_empty (known (two_taken ▻ Took inbox (Expunged 3 ∷ Expunged 7 ∷ []))) ≡ true)
    × (base_is_empty (known begun_anew) ≡ true)

-- ---- what is allowed

-- before the repository lists everything anew, and after
abbrev pub OnlyWhereSynced : Type 0
OnlyWhereSynced = (allows new_cache (Begin 0 ∷ Synced ∷ Took inbox [] ∷ Kept [] ∷ Queue inbox 7 2 true ∷ Answered 1 ∷ []) ≡ true ∷ true ∷ false ∷ false ∷ false ∷ false ∷ [])
    × (allows synced (Begin 5 ∷ Synced ∷ Took inbox [] ∷ Kept [] ∷ Queue inbox 7 2 true ∷ Answered 1 ∷ []) ≡ true ∷ false ∷ true ∷ true ∷ false ∷ false ∷ [])
    × (allows begun_anew (Begin 9 ∷ Synced ∷ Took inbox [] ∷ Kept [] ∷ Queue inbox 7 2 true ∷ Answered 1 ∷ []) ≡ true ∷ true ∷ false ∷ false ∷ false ∷ true ∷ [])

-- a Took of one message that is there and one that is gone
abbrev pub TookIsWritten : Type 0
TookIsWritten = (took_bytes inbox (there 3 0 ∷ Expunged 4 ∷ []) ≡ 46) × (took_bytes work [] ≡ 8)

-- a message with four texts of 65,535 bytes, the last of them shorter by so many
abbrev pub long_message : ℕ → ℕ → Change
long_message less uid = let text = replicate 65535 97 in Present (record (message uid 0) { date = text; from = text; to = text; subject = replicate (65535 - less) 97 })

-- 31 such messages, and one whose last text is shorter
abbrev pub long_messages : ℕ → List Change
long_messages less = long_message less 32 ∷ map (long_message 0) (numbers 0 31)

-- 8,388,608 bytes are the most
abbrev pub TookIsTooLong : Type 0
TookIsTooLong = allows synced (Took inbox (long_messages 617) ∷ Took inbox (long_messages 616) ∷ []) ≡ true ∷ false ∷ []

-- a uid twice, a flag past the sixteen, and a name twice
abbrev pub NothingTwice : Type 0
NothingTwice = (allows two_taken (Took inbox (there 3 0 ∷ there 3 0 ∷ []) ∷ Took inbox (there 3 0 ∷ Expunged 4 ∷ Expunged 3 ∷ []) ∷ Took work (there 3 65536 ∷ []) ∷ Took work (there 3 65535 ∷ []) ∷ []) ≡ false ∷ false ∷ false ∷ true ∷ [])
    × (allows two_taken (Kept (work ∷ inbox ∷ work ∷ []) ∷ Kept (work ∷ inbox ∷ []) ∷ []) ≡ false ∷ true ∷ [])

-- a message that isn't there, and a flag that isn't one
abbrev pub NoSuchMessage : Type 0
NoSuchMessage = (allows two_taken (Queue inbox 4 2 true ∷ Queue work 7 2 true ∷ Queue inbox 7 16 true ∷ Queue inbox 7 15 true ∷ Queue inbox 7 0 true ∷ []) ≡ false ∷ false ∷ false ∷ true ∷ true ∷ [])
    × (allows left_out (Queue inbox 7 2 true ∷ Queue work 1 2 false ∷ []) ≡ false ∷ true ∷ [])
    × (allows (two_taken ▻ Took inbox (Expunged 7 ∷ [])) (Queue inbox 7 2 true ∷ Queue inbox 3 2 true ∷ []) ≡ false ∷ true ∷ [])

-- only what is in the queue is answered, and once
abbrev pub AnsweredOnce : Type 0
AnsweredOnce = (allows flag_queued (Answered 0 ∷ Answered 1 ∷ Answered 2 ∷ []) ≡ false ∷ true ∷ false ∷ [])
    × (allows (three_queued ▻ Answered 2) (Answered 1 ∷ Answered 2 ∷ Answered 3 ∷ Answered 4 ∷ []) ≡ true ∷ false ∷ true ∷ false ∷ [])

-- as many changes with numbers from 1 on
abbrev pub some_items : ℕ → List Item
some_items count = map (λ number. item number inbox 7 2 true) (numbers 0 count)

-- a cache with one message, and as many changes of it in the queue
abbrev pub waiting : ℕ → ℕ → History
waiting count last = start (record { birth = 5; resetting = false; mailboxes = (inbox, message 7 1 ∷ []) ∷ []; last = last; queue = some_items count }) 1

-- 4,096 changes are the most of a queue, and 2^62 - 1 is the number of the last one
abbrev pub QueueIsFull : Type 0
QueueIsFull = (allows (waiting 4095 4095) (Queue inbox 7 3 true ∷ []) ≡ true ∷ [])
    × (allows (waiting 4096 4096) (Queue inbox 7 3 true ∷ Answered 4096 ∷ []) ≡ false ∷ true ∷ [])
    × (allows (waiting 4096 4096 ▻ Answered 1) (Queue inbox 7 3 true ∷ []) ≡ true ∷ [])
    × (queue_is_full (known (waiting 4095 4095)) ≡ false)
    × (queue_is_full (known (waiting 4096 4096)) ≡ true)
    × (no_number_is_left (known (waiting 1 4611686018427387902)) ≡ false)
    × (no_number_is_left (known (waiting 1 4611686018427387903)) ≡ true)
    × (allows (waiting 1 4611686018427387902) (Queue inbox 7 3 true ∷ []) ≡ true ∷ [])
    × (allows (waiting 1 4611686018427387903) (Queue inbox 7 3 true ∷ []) ≡ false ∷ [])

abbrev pub SamplesAreLegal : Type 0
SamplesAreLegal = IsLegal new_cache × IsLegal two_taken × IsLegal flag_queued × IsLegal three_queued × IsLegal begun_anew × IsLegal left_out

-- ---- bases

-- this record isn't canonical
abbrev pub IsNoBase : CacheRecord → Type 0
IsNoBase r = IsCanonical r → ⊥

abbrev pub some_record : CacheRecord
some_record = record { birth = 5; resetting = false; mailboxes = (inbox, message 3 0 ∷ message 7 1 ∷ []) ∷ (work, []) ∷ []; last = 3; queue = item 1 inbox 7 2 true ∷ item 3 inbox 3 0 true ∷ [] }

-- nothing more is asked of a record that is resetting: it can have mailboxes
abbrev pub ResettingBase : Type 0
ResettingBase = IsCanonical (record some_record { resetting = true })

-- a history that goes on from a record
abbrev pub based : History
based = start some_record 9

-- more is taken and queued behind it, and its first change is answered
abbrev pub behind_base : History
behind_base = based ▻ Took work (there 1 0 ∷ []) ▻ Queue work 1 4 true ▻ Answered 1

-- what is known behind a base is what its record says, and what the entries behind it say
abbrev pub BehindBase : Type 0
BehindBase = ((known based).birth ≡ 5)
    × ((known based).mailboxes ≡ inbox ∷ work ∷ [])
    × ((known based).base inbox 7 ≡ Some (message 7 1))
    × ((known based).last ≡ 3)
    × (view_of based inbox ≡ message 3 1 ∷ message 7 5 ∷ [])
    × (view_of based work ≡ [])
    × (base_is_empty (known based) ≡ false)
    × (next based ≡ 9)
    × (allows based (Synced ∷ Took work [] ∷ Queue inbox 7 3 true ∷ Queue work 1 4 true ∷ Answered 1 ∷ Answered 2 ∷ Answered 3 ∷ []) ≡ false ∷ true ∷ true ∷ false ∷ true ∷ false ∷ true ∷ [])
    × ((known behind_base).birth ≡ 5)
    × ((known behind_base).mailboxes ≡ inbox ∷ work ∷ [])
    × (queue_of behind_base ≡ item 3 inbox 3 0 true ∷ item 4 work 1 4 true ∷ [])
    × (view_of behind_base inbox ≡ message 3 1 ∷ message 7 1 ∷ [])
    × (view_of behind_base work ≡ message 1 16 ∷ [])
    × (descriptor_count (known behind_base) ≡ 3)
    × (next behind_base ≡ 12)
    × ((known (behind_base ▻ Kept (work ∷ []))).mailboxes ≡ work ∷ [])
    × (record_of behind_base ≡ record { birth = 5; resetting = false; mailboxes = (inbox, message 3 0 ∷ message 7 1 ∷ []) ∷ (work, message 1 0 ∷ []) ∷ []; last = 4; queue = item 3 inbox 3 0 true ∷ item 4 work 1 4 true ∷ [] })
    × IsLegal behind_base

-- a queue of one change more than the most
abbrev pub QueueIsTooLong : Type 0
QueueIsTooLong = IsNoBase (record some_record { last = 4097; queue = some_items 4097 })

-- a name twice; uids that don't rise; a flag past the sixteen; and numbers that don't rise, or that weren't given
abbrev pub NoBases : Type 0
NoBases = IsCanonical some_record
    × IsNoBase (record some_record { mailboxes = (inbox, []) ∷ (work, []) ∷ (inbox, []) ∷ [] })
    × IsNoBase (record some_record { mailboxes = (inbox, message 7 1 ∷ message 3 0 ∷ []) ∷ [] })
    × IsNoBase (record some_record { mailboxes = (inbox, message 3 0 ∷ message 3 0 ∷ []) ∷ [] })
    × IsNoBase (record some_record { mailboxes = (inbox, message 3 65536 ∷ []) ∷ [] })
    × IsNoBase (record some_record { queue = item 3 inbox 7 2 true ∷ item 1 inbox 3 0 true ∷ [] })
    × IsNoBase (record some_record { queue = item 1 inbox 7 2 true ∷ item 1 inbox 7 2 true ∷ [] })
    × IsNoBase (record some_record { queue = item 4 inbox 7 2 true ∷ [] })
    × IsNoBase (record some_record { queue = item 0 inbox 7 2 true ∷ [] })
    × IsNoBase (record some_record { queue = item 1 inbox 7 16 true ∷ [] })
    × IsNoBase (record some_record { last = 4611686018427387904 })
