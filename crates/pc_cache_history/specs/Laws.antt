-- What holds of every legal history.
use Rattle.std.specs.Prelude.{◌≡◌, ℕ, ◌+◌, ◌<◌, ◌≤◌, ◌==◌, ◌↔◌, Bool, true, false, not, ◌&&◌, ◌||◌, List, [], ◌∷◌, ◌++◌, map, length, Some, None, is_some}
use Rattle.std.specs.Option.{option_map}
use Rattle.std.specs.List.{AllByRecursion, filter, list_any}
use Rattle.std.specs.Map.{keys_of}
use Rattle.pc_message.specs.declared.descriptor.Descriptor.{Descriptor}
use Rattle.pc_message.specs.declared.descriptor.Change.{Change}
use Rattle.pc_message.specs.Flags.{flags_with}
use Rattle.pc_tables.specs.Table.{same, is_among, numbers, total}
use Rattle.pc_tables.specs.Order.{AreDistinct}
use Rattle.pc_cache_history.specs.declared.item.Item.{Item}
use Rattle.pc_cache_history.specs.declared.entry.CacheEntry.{CacheEntry}
use Rattle.pc_cache_history.specs.declared.entry.CacheEntry.TheVariants.{Begin, Synced, Took, Kept, Queue, Answered}
use Rattle.pc_cache_history.specs.declared.limits.TheConstants.{MOST_TAKEN_BYTES}
use Rattle.pc_cache_history.specs.Entry.{uid_of, shown_by}
use Rattle.pc_cache_history.specs.Record.{CacheRecord, descriptor_at, is_for}
use Rattle.pc_cache_history.specs.Effect.{with_changes, last_after, new_items, other_items}
use Rattle.pc_cache_history.specs.Known.{Known, has, said_by, after_entry}
use Rattle.pc_cache_history.specs.View.{laid_over, view, view_at}
use Rattle.pc_cache_history.specs.History.{History, start, ◌▻◌, ◌▻▻◌, new_cache, known, next}
use Rattle.pc_cache_history.specs.Allowed.{descriptor_count, base_is_empty, are_different, took_bytes, is_allowed, IsWithin}
use Rattle.pc_cache_history.specs.Step.{after, record_of}
use Rattle.pc_cache_history.specs.Legal.{AreRising, AreInOrder, IsItem, IsCanonical, IsLegal}

-- ---- the record

-- two histories answer every question alike
pub record AnswerAlike (g h : History) : Type 0 where
  pub number : next g ≡ next h
  pub birth : (known g).birth ≡ (known h).birth
  pub resetting : (known g).resetting ≡ (known h).resetting
  pub mailboxes : (known g).mailboxes ≡ (known h).mailboxes
  pub base : (mailbox : List ℕ) (uid : ℕ) → (known g).base mailbox uid ≡ (known h).base mailbox uid
  pub descriptors : (mailbox : List ℕ) → (known g).descriptors mailbox ≡ (known h).descriptors mailbox
  pub count : descriptor_count (known g) ≡ descriptor_count (known h)
  pub empty : base_is_empty (known g) ≡ base_is_empty (known h)
  pub last : (known g).last ≡ (known h).last
  pub queue : (known g).queue ≡ (known h).queue
  pub view : (mailbox : List ℕ) → view (known g) mailbox ≡ view (known h) mailbox
  pub view_at : (mailbox : List ℕ) (uid : ℕ) → view_at (known g) mailbox uid ≡ view_at (known h) mailbox uid
  pub allowed : (e : CacheEntry) → is_allowed (known g) e ≡ is_allowed (known h) e

-- the history with no entry whose base is the record of this one
abbrev pub folded : History → History
folded h = start (record_of h) (next h)

abbrev pub RecordAnswersAsHistory : Type 0
RecordAnswersAsHistory = (h : History) → IsLegal h → AnswerAlike h (folded h)

-- whatever entries come behind, the record serves as well as the history whose record it is
abbrev pub RecordInPlaceOfHistory : Type 0
RecordInPlaceOfHistory = (h : History) → IsLegal h → (entries : List CacheEntry) → AnswerAlike (h ▻▻ entries) (folded h ▻▻ entries) × (IsLegal (h ▻▻ entries) ↔ IsLegal (folded h ▻▻ entries)) × (record_of (h ▻▻ entries) ≡ record_of (folded h ▻▻ entries))

abbrev pub RecordIsCanonical : Type 0
RecordIsCanonical = (h : History) → IsLegal h → IsCanonical (record_of h)

-- an allowed entry makes of a canonical record one that says what is known after the entry
abbrev pub StepIsOneEntryMore : Type 0
StepIsOneEntryMore = (r : CacheRecord) (e : CacheEntry) → IsCanonical r → is_allowed (said_by r) e ≡ true → IsCanonical (after r e) × (said_by (after r e) ≡ after_entry (said_by r) e)

-- what is said of each mailbox is what stands in its table, and the descriptors are as many as stand there
pub record IsReadOff (r : CacheRecord) : Type 0 where
  pub mailboxes : AllByRecursion (λ (mailbox : List ℕ × List Descriptor). (said_by r).descriptors mailbox.0 ≡ mailbox.1) r.mailboxes
  pub count : descriptor_count (said_by r) ≡ total (λ mailbox. length mailbox.1) r.mailboxes

abbrev pub RecordIsReadOff : Type 0
RecordIsReadOff = (r : CacheRecord) → IsCanonical r → IsReadOff r

-- the record of a new cache is canonical, and so each history that goes on from it by allowed entries is legal
abbrev pub NewCacheIsLegal : Type 0
NewCacheIsLegal = IsLegal new_cache

-- every limit holds at each place
abbrev pub LimitsHold : Type 0
LimitsHold = (h : History) → IsLegal h → IsWithin (known h)

-- ---- mailboxes

-- the mailbox was taken since the last Begin, and no Kept left it out since
abbrev pub is_cached : History → List ℕ → Bool
is_cached (start r number) mailbox = is_among mailbox (keys_of r.mailboxes)
is_cached (h ▻ Begin _) mailbox = false
is_cached (h ▻ Took taken _) mailbox = is_cached h mailbox || same mailbox taken
is_cached (h ▻ Kept names) mailbox = is_cached h mailbox && is_among mailbox names
is_cached (h ▻ _) mailbox = is_cached h mailbox

-- the mailboxes are those that were taken and not left out since the last Begin, each once; and none else has descriptors
pub record AreCached (h : History) : Type 0 where
  pub members : (mailbox : List ℕ) → is_among mailbox (known h).mailboxes ≡ is_cached h mailbox
  pub distinct : AreDistinct (known h).mailboxes
  pub nothing : (mailbox : List ℕ) → is_cached h mailbox ≡ false → (known h).descriptors mailbox ≡ []

abbrev pub MailboxesAreCached : Type 0
MailboxesAreCached = (h : History) → IsLegal h → AreCached h

-- after an entry the mailboxes that were there and still are come first, in their order, and behind them those that weren't there
abbrev pub KeepOrder : History → CacheEntry → Type 0
KeepOrder h e = (more : List (List ℕ)) × ((known (h ▻ e)).mailboxes ≡ filter (λ name. is_cached (h ▻ e) name) (known h).mailboxes ++ more) × AllByRecursion (λ name. is_cached h name ≡ false) more

abbrev pub MailboxesKeepTheirOrder : Type 0
MailboxesKeepTheirOrder = (h : History) (e : CacheEntry) → KeepOrder h e

-- ---- the base

-- descriptors by rising uid, which have at each uid what is known of it
pub record IsListed (k : Known) (mailbox : List ℕ) : Type 0 where
  pub rising : AreRising (k.descriptors mailbox)
  pub shown : (uid : ℕ) → descriptor_at uid (k.descriptors mailbox) ≡ k.base mailbox uid

abbrev pub BaseIsListed : Type 0
BaseIsListed = (h : History) → IsLegal h → (mailbox : List ℕ) → IsListed (known h) mailbox

-- what is known under a uid is of this uid, with sixteen flags
abbrev pub BaseIsOfItsUids : Type 0
BaseIsOfItsUids = (h : History) → IsLegal h → (mailbox : List ℕ) (uid : ℕ) (descriptor : Descriptor) → (known h).base mailbox uid ≡ Some descriptor → (descriptor.uid ≡ uid) × (descriptor.flags < 65536)

-- lists of descriptors by rising uid in which the same stands under each uid are the same
abbrev pub RisingListsAreByUid : Type 0
RisingListsAreByUid = (descriptors others : List Descriptor) → AreRising descriptors → AreRising others → ((uid : ℕ) → descriptor_at uid descriptors ≡ descriptor_at uid others) → descriptors ≡ others

-- these changes name the uid
abbrev pub is_named : ℕ → List Change → Bool
is_named uid changes = list_any (λ change. uid_of change == uid) changes

-- the base of a mailbox after changes: what each says of its uid; of other uids, and in other mailboxes, what it was
pub record IsReplaced (before behind : Known) (mailbox : List ℕ) (changes : List Change) : Type 0 where
  pub named : AllByRecursion (λ (change : Change). behind.base mailbox (uid_of change) ≡ shown_by change) changes
  pub unnamed : (uid : ℕ) → is_named uid changes ≡ false → behind.base mailbox uid ≡ before.base mailbox uid
  pub others : (other : List ℕ) (uid : ℕ) → same mailbox other ≡ false → behind.base other uid ≡ before.base other uid
  pub other_lists : (other : List ℕ) → same mailbox other ≡ false → behind.descriptors other ≡ before.descriptors other

abbrev pub TookReplacesTheNamed : Type 0
TookReplacesTheNamed = (h : History) (mailbox : List ℕ) (changes : List Change) → is_allowed (known h) (Took mailbox changes) ≡ true → IsReplaced (known h) (known (h ▻ Took mailbox changes)) mailbox changes

-- changes that may be taken are written in few enough bytes
abbrev pub TakenIsShort : Type 0
TakenIsShort = (h : History) (mailbox : List ℕ) (changes : List Change) → is_allowed (known h) (Took mailbox changes) ≡ true → took_bytes mailbox changes ≤ MOST_TAKEN_BYTES

-- the change says of a message that is among these that it is gone
abbrev pub takes_away : List Descriptor → Change → Bool
takes_away descriptors change = not (is_some (shown_by change)) && is_some (descriptor_at (uid_of change) descriptors)

-- the change shows a message that isn't among these
abbrev pub brings : List Descriptor → Change → Bool
brings descriptors change = is_some (shown_by change) && not (is_some (descriptor_at (uid_of change) descriptors))

-- how many descriptors there are once changes are taken: fewer by those that are gone, more by those that are new
abbrev pub ChangesAreCounted : Type 0
ChangesAreCounted = (changes : List Change) (descriptors : List Descriptor) → AreRising descriptors → are_different ◌==◌ (map uid_of changes) ≡ true → length (with_changes changes descriptors) + length (filter (takes_away descriptors) changes) ≡ length descriptors + length (filter (brings descriptors) changes)

-- by changes of a mailbox all descriptors get more or fewer as those of the mailbox do
abbrev pub CountIsOfTheMailbox : Type 0
CountIsOfTheMailbox = (h : History) (mailbox : List ℕ) (changes : List Change) → IsLegal h → descriptor_count (known (h ▻ Took mailbox changes)) + length ((known h).descriptors mailbox) ≡ descriptor_count (known h) + length (with_changes changes ((known h).descriptors mailbox))

-- the base after Kept: of the mailboxes that are named what it was, of others nothing
pub record IsCutTo (before behind : Known) (names : List (List ℕ)) : Type 0 where
  pub named : (mailbox : List ℕ) (uid : ℕ) → is_among mailbox names ≡ true → behind.base mailbox uid ≡ before.base mailbox uid
  pub unnamed : (mailbox : List ℕ) (uid : ℕ) → is_among mailbox names ≡ false → behind.base mailbox uid ≡ None
  pub queue : behind.queue ≡ before.queue

abbrev pub KeptLeavesTheOthersOut : Type 0
KeptLeavesTheOthersOut = (h : History) (names : List (List ℕ)) → IsCutTo (known h) (known (h ▻ Kept names)) names

-- after Begin the copies are begun anew, and the queue is what it was
pub record IsBegun (before behind : Known) (birth : ℕ) : Type 0 where
  pub birth_is : behind.birth ≡ birth
  pub resetting : behind.resetting ≡ true
  pub mailboxes : behind.mailboxes ≡ []
  pub base : (mailbox : List ℕ) (uid : ℕ) → behind.base mailbox uid ≡ None
  pub descriptors : (mailbox : List ℕ) → behind.descriptors mailbox ≡ []
  pub last : behind.last ≡ before.last
  pub queue : behind.queue ≡ before.queue

abbrev pub BeginEmptiesTheBase : Type 0
BeginEmptiesTheBase = (h : History) (birth : ℕ) → IsBegun (known h) (known (h ▻ Begin birth)) birth

-- where the repository hasn't yet begun its lists anew, there are no copies
abbrev pub IsEmptyWhereResetting : Known → Type 0
IsEmptyWhereResetting k = k.resetting ≡ true → k.mailboxes ≡ []

-- so it is in a new cache, and no entry changes it; a base can be resetting and have mailboxes
abbrev pub ResettingIsEmpty : Type 0
ResettingIsEmpty = IsEmptyWhereResetting (known new_cache) × ((h : History) (entries : List CacheEntry) → IsLegal (h ▻▻ entries) → IsEmptyWhereResetting (known h) → IsEmptyWhereResetting (known (h ▻▻ entries)))

-- ---- what an entry leaves as it was

-- a Begin
abbrev pub is_begin : CacheEntry → Bool
is_begin (Begin _) = true
is_begin _ = false

-- an entry that says whether the cache is resetting
abbrev pub is_of_state : CacheEntry → Bool
is_of_state (Begin _) = true
is_of_state Synced = true
is_of_state _ = false

-- an entry that says something of the copies
abbrev pub is_of_copies : CacheEntry → Bool
is_of_copies (Begin _) = true
is_of_copies (Took _ _) = true
is_of_copies (Kept _) = true
is_of_copies _ = false

-- an entry that queues a change
abbrev pub is_queue : CacheEntry → Bool
is_queue (Queue _ _ _ _) = true
is_queue _ = false

-- an entry that says something of the queue
abbrev pub is_of_queue : CacheEntry → Bool
is_of_queue (Queue _ _ _ _) = true
is_of_queue (Answered _) = true
is_of_queue _ = false

-- the copies are what they were
pub record HasSameCopies (before behind : Known) : Type 0 where
  pub mailboxes : behind.mailboxes ≡ before.mailboxes
  pub base : (mailbox : List ℕ) (uid : ℕ) → behind.base mailbox uid ≡ before.base mailbox uid
  pub descriptors : (mailbox : List ℕ) → behind.descriptors mailbox ≡ before.descriptors mailbox

-- only Begin changes the birth; only Begin and Synced, whether the cache is resetting; only Begin, Took and Kept, the copies;
-- only Queue, the last number; and only Queue and Answered, the queue
pub record IsLeft (before behind : Known) (e : CacheEntry) : Type 0 where
  pub birth : is_begin e ≡ false → behind.birth ≡ before.birth
  pub resetting : is_of_state e ≡ false → behind.resetting ≡ before.resetting
  pub copies : is_of_copies e ≡ false → HasSameCopies before behind
  pub last : is_queue e ≡ false → behind.last ≡ before.last
  pub queue : is_of_queue e ≡ false → behind.queue ≡ before.queue

abbrev pub EntriesLeaveTheRest : Type 0
EntriesLeaveTheRest = (h : History) (e : CacheEntry) → IsLeft (known h) (known (h ▻ e)) e

-- ---- the queue

-- the changes that entries queue, behind the last one
abbrev pub items_of : ℕ → List CacheEntry → List Item
items_of last [] = []
items_of last (e ∷ entries) = new_items e last ++ items_of (last_after e last) entries

-- an entry answers the change of this number
abbrev pub answers : ℕ → CacheEntry → Bool
answers number (Answered answered) = answered == number
answers number _ = false

-- those of the changes that none of these entries answers
abbrev pub unanswered : List CacheEntry → List Item → List Item
unanswered entries items = filter (λ item. not (list_any (answers item.number) entries)) items

-- the queue is what it was and isn't answered since, and behind it what was queued since and isn't answered
abbrev pub QueueIsUnanswered : Type 0
QueueIsUnanswered = (h : History) (entries : List CacheEntry) → IsLegal (h ▻▻ entries) → (known (h ▻▻ entries)).queue ≡ unanswered entries (known h).queue ++ unanswered entries (items_of (known h).last entries)

-- changes in order of their numbers, each a number that was given
pub record AreNumbered (k : Known) : Type 0 where
  pub rising : AreInOrder k.queue
  pub items : AllByRecursion (IsItem k.last) k.queue

abbrev pub NumbersRise : Type 0
NumbersRise = (h : History) → IsLegal h → AreNumbered (known h)

-- how many of the entries queue a change
abbrev pub queue_count : List CacheEntry → ℕ
queue_count [] = 0
queue_count (e ∷ entries) = last_after e 0 + queue_count entries

-- changes get the numbers behind the last one, one after the other, whatever else comes between: none comes again
pub record AreNumberedOn (h : History) (entries : List CacheEntry) : Type 0 where
  pub last : (known (h ▻▻ entries)).last ≡ (known h).last + queue_count entries
  pub given : map (λ (item : Item). item.number) (items_of (known h).last entries) ≡ numbers (known h).last (queue_count entries)
  pub later : AllByRecursion (λ (item : Item). (known h).last < item.number) (items_of (known h).last entries)

abbrev pub NumbersComeOnce : Type 0
NumbersComeOnce = (h : History) (entries : List CacheEntry) → AreNumberedOn h entries

-- ---- the view

-- the view has the uids of the base, in order, and at each uid its descriptor with the queue laid over it
pub record IsViewed (k : Known) (mailbox : List ℕ) : Type 0 where
  pub uids : map (λ (descriptor : Descriptor). descriptor.uid) (view k mailbox) ≡ map (λ (descriptor : Descriptor). descriptor.uid) (k.descriptors mailbox)
  pub shown : (uid : ℕ) → descriptor_at uid (view k mailbox) ≡ view_at k mailbox uid
  pub there : (uid : ℕ) → is_some (view_at k mailbox uid) ≡ has k mailbox uid

abbrev pub ViewIsOfBase : Type 0
ViewIsOfBase = (h : History) → IsLegal h → (mailbox : List ℕ) → IsViewed (known h) mailbox

-- no queued change is of the mailbox
abbrev pub NoneIsOf : List ℕ → List Item → Type 0
NoneIsOf mailbox items = AllByRecursion (λ (item : Item). same item.mailbox mailbox ≡ false) items

-- then the view is the base
abbrev pub ViewWithoutItems : Type 0
ViewWithoutItems = (h : History) (mailbox : List ℕ) → NoneIsOf mailbox (known h).queue → (view (known h) mailbox ≡ (known h).descriptors mailbox) × ((uid : ℕ) → view_at (known h) mailbox uid ≡ (known h).base mailbox uid)

-- a flag that is set on a message of the view
abbrev pub set_flag : ℕ → Bool → Descriptor → Descriptor
set_flag flag on descriptor = record descriptor { flags = flags_with descriptor.flags flag on }

-- the view once a change is queued: its message has the flag so, and every other is shown as it was
pub record IsSetIn (before behind : Known) (item : Item) : Type 0 where
  pub here : view_at behind item.mailbox item.uid ≡ option_map (set_flag item.flag item.on) (view_at before item.mailbox item.uid)
  pub others : (mailbox : List ℕ) (uid : ℕ) → is_for mailbox uid item ≡ false → view_at behind mailbox uid ≡ view_at before mailbox uid

abbrev pub QueuedIsShown : Type 0
QueuedIsShown = (h : History) (item : Item) → IsLegal h → IsSetIn (known h) (known (h ▻ Queue item.mailbox item.uid item.flag item.on)) item

-- the change of this number is of the message
abbrev pub is_change_of : Known → ℕ → List ℕ → ℕ → Bool
is_change_of k number mailbox uid = list_any (λ item. item.number == number && is_for mailbox uid item) k.queue

-- the view once a change is answered: what is still in the queue is laid over the base, and every message but that of the
-- change is shown as it was
pub record IsAnsweredIn (before behind : Known) (number : ℕ) : Type 0 where
  pub here : (mailbox : List ℕ) (uid : ℕ) → view_at behind mailbox uid ≡ option_map (laid_over mailbox (other_items number before.queue)) (before.base mailbox uid)
  pub others : (mailbox : List ℕ) (uid : ℕ) → is_change_of before number mailbox uid ≡ false → view_at behind mailbox uid ≡ view_at before mailbox uid

abbrev pub AnsweredIsShown : Type 0
AnsweredIsShown = (h : History) (number : ℕ) → IsLegal h → IsAnsweredIn (known h) (known (h ▻ Answered number)) number
