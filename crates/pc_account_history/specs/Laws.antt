-- What holds of every legal history.
use Rattle.std.specs.Prelude.{◌≡◌, ℕ, suc, ◌+◌, ◌<◌, ◌==◌, Bool, true, false, ◌||◌, ◌↔◌, ◌⊎◌, ◌≤◌, ⊤, List, [], ◌∷◌, MatchOption, length, is_some, None, Some, if◌then◌else◌}
use Rattle.std.specs.List.{AllByRecursion, find}
use Rattle.std.specs.Option.{option_map}
use Rattle.pc_base.specs.declared.refusal.LimitWord.{LimitWord}
use Rattle.pc_message.specs.declared.descriptor.Descriptor.{Descriptor}
use Rattle.pc_message.specs.declared.descriptor.Change.TheVariants.{Present, Expunged}
use Rattle.pc_account_history.specs.declared.kept.Kept.{Kept}
use Rattle.pc_account_history.specs.declared.entry.Entry.{Entry}
use Rattle.pc_account_history.specs.declared.entry.Entry.TheVariants.{Flag, ResetClient}
use Rattle.pc_account_history.specs.Record.{AccountRecord, mailbox_of, stamp_at}
use Rattle.pc_message.specs.Message.{weight_of}
use Rattle.pc_tables.specs.Table.{total}
use Rattle.pc_message.specs.Flags.{flag_of, flags_with}
use Rattle.pc_account_history.specs.Effect.{begins, forgets, flagged}
use Rattle.pc_account_history.specs.Known.{Known, said_by, after_entry, touches, kept_after, listed_after, is_client_after}
use Rattle.pc_account_history.specs.History.{History, start, ◌▸◌, ◌▸▸◌, known, next, birth}
use Rattle.pc_account_history.specs.Allowed.{is_allowed, is_client, is_mailbox, messages}
use Rattle.pc_account_history.specs.Answers.{descriptor_at, descriptors, change_at, changed}
use Rattle.pc_account_history.specs.Limits.{is_passed, limit_passed, weight, listed_count, IsWithin, limits_of_bases}
use Rattle.pc_account_history.specs.Step.{after, record_of}
use Rattle.pc_account_history.specs.Legal.{IsUpdateList, IsWellFormed, IsCanonical, IsLegal}
use Rattle.pc_tables.specs.Order.{Ordered}
use Rattle.pc_account_history.specs.UpdateList.{IsListFor, is_taken}

-- two histories answer every question alike
pub record AnswerAlike (g h : History) : Type 0 where
  pub number : next g ≡ next h
  pub pulled : (known g).pulled ≡ (known h).pulled
  pub digest : (known g).digest ≡ (known h).digest
  pub clients : (known g).clients ≡ (known h).clients
  pub births : (client : List ℕ) → birth g client ≡ birth h client
  pub live : (known g).live ≡ (known h).live
  pub dropped : (known g).dropped ≡ (known h).dropped
  pub subscriptions : (known g).subscriptions ≡ (known h).subscriptions
  pub highest : (mailbox : List ℕ) → (known g).highest mailbox ≡ (known h).highest mailbox
  pub kept : (mailbox : List ℕ) (uid : ℕ) → (known g).kept mailbox uid ≡ (known h).kept mailbox uid
  pub listed : (client mailbox : List ℕ) (uid : ℕ) → (known g).listed client mailbox uid ≡ (known h).listed client mailbox uid
  pub changes : (client mailbox : List ℕ) → (known g).changes client mailbox ≡ (known h).changes client mailbox
  pub messages : (mailbox : List ℕ) → messages (known g) mailbox ≡ messages (known h) mailbox
  pub descriptors : (mailbox : List ℕ) → descriptors (known g) mailbox ≡ descriptors (known h) mailbox
  pub changed : (client mailbox : List ℕ) (count : ℕ) → changed (known g) client mailbox count ≡ changed (known h) client mailbox count
  pub allowed : (e : Entry) → is_allowed (known g) e ≡ is_allowed (known h) e
  pub limits : (e : Entry) → limit_passed (known g) e ≡ limit_passed (known h) e

-- the history with no entry whose base is the record of this one
abbrev pub folded : History → History
folded h = start (record_of h) (next h)

abbrev pub RecordAnswersAsHistory : Type 0
RecordAnswersAsHistory = (h : History) → IsLegal h → AnswerAlike h (folded h)

-- whatever entries come behind, the record serves as well as the history whose record it is
abbrev pub RecordInPlaceOfHistory : Type 0
RecordInPlaceOfHistory = (h : History) → IsLegal h → (entries : List Entry) → AnswerAlike (h ▸▸ entries) (folded h ▸▸ entries) × (IsLegal (h ▸▸ entries) ↔ IsLegal (folded h ▸▸ entries)) × (record_of (h ▸▸ entries) ≡ record_of (folded h ▸▸ entries))

abbrev pub RecordIsCanonical : Type 0
RecordIsCanonical = (h : History) → IsLegal h → IsCanonical (record_of h) (next h)

abbrev pub ChangesAreTheUpdateList : Type 0
ChangesAreTheUpdateList = (h : History) → IsLegal h → (client mailbox : List ℕ) → IsListFor h client mailbox ((known h).changes client mailbox)

-- a client was born by an entry of the history, and its lists have given uids with stamps of entries since then; there are no other lists
abbrev pub StampsAreNumbersOfEntries : Type 0
StampsAreNumbersOfEntries = (h : History) → IsLegal h → (client mailbox : List ℕ) → MatchOption (birth h client) ((known h).changes client mailbox ≡ []) (λ born. (0 < born) × (born < next h) × IsUpdateList (next h) ((known h).highest mailbox) born ((known h).changes client mailbox))

-- every limit holds at each place
abbrev pub LimitsHold : Type 0
LimitsHold = (h : History) → IsLegal h → IsWithin (known h) limits_of_bases

-- an entry is refused for a limit only where the history with the entry passes it
abbrev pub LimitIsPassed : Type 0
LimitIsPassed = (h : History) (e : Entry) (limit : LimitWord) → limit_passed (known h) e ≡ Some limit → is_passed (known (h ▸ e)) limit ≡ true

-- what a well-formed record holds is what is counted: messages, their weight, and changes on lists
pub record IsCountedIn (r : AccountRecord) (number : ℕ) : Type 0 where
  pub messages : (mailbox : List ℕ) → messages (said_by r number) mailbox ≡ (mailbox_of r mailbox).messages
  pub weight : weight (said_by r number) ≡ total (λ entry. total (λ kept. weight_of kept.message) entry.1.messages) r.live
  pub changes : listed_count (said_by r number) ≡ total (λ entry. total (λ list. length list.1) entry.1.lists) r.live + total (λ entry. total (λ list. length list.1) entry.1.lists) r.dropped

abbrev pub RecordIsCounted : Type 0
RecordIsCounted = (r : AccountRecord) (number : ℕ) → IsWellFormed r number → IsCountedIn r number

-- an allowed entry that passes no limit makes of a canonical record one that says what is known after the entry
abbrev pub StepIsOneEntryMore : Type 0
StepIsOneEntryMore = (r : AccountRecord) (number : ℕ) (e : Entry) → IsCanonical r number → is_allowed (said_by r number) e ≡ true → limit_passed (said_by r number) e ≡ None → IsCanonical (after r number e) (suc number) × (said_by (after r number e) (suc number) ≡ after_entry (said_by r number) e)

-- an allowed entry, also one that passes a limit, makes of a well-formed record one that says what is known after the entry
abbrev pub StepIsFormedAgain : Type 0
StepIsFormedAgain = (r : AccountRecord) (number : ℕ) (e : Entry) → IsWellFormed r number → is_allowed (said_by r number) e ≡ true → IsWellFormed (after r number e) (suc number) × (said_by (after r number e) (suc number) ≡ after_entry (said_by r number) e)

-- ---- one entry more

abbrev pub UntouchedStays : Type 0
UntouchedStays = (h : History) (e : Entry) (client mailbox : List ℕ) (uid : ℕ) → touches (known h) e client mailbox uid ≡ false → (known (h ▸ e)).kept mailbox uid ≡ (known h).kept mailbox uid

abbrev pub UnlistedWasTaken : Type 0
UnlistedWasTaken = (h : History) (client mailbox : List ℕ) (uid : ℕ) → is_client (known h) client ≡ true → is_some ((known h).kept mailbox uid) ≡ true → (is_some ((known h).listed client mailbox uid) ≡ true) ⊎ (is_taken h client mailbox uid ≡ true)

abbrev pub ClientStays : Type 0
ClientStays = (h : History) (e : Entry) (client : List ℕ) → begins e client ≡ false → birth (h ▸ e) client ≡ birth h client

-- where a stamp is still the one that was shown, so is the message
abbrev pub SameStampSameMessage : Type 0
SameStampSameMessage = (h : History) → IsLegal h → (entries : List Entry) → IsLegal (h ▸▸ entries) → (client mailbox : List ℕ) (uid stamp : ℕ) → (known h).listed client mailbox uid ≡ Some stamp → (known (h ▸▸ entries)).listed client mailbox uid ≡ Some stamp → (known (h ▸▸ entries)).kept mailbox uid ≡ (known h).kept mailbox uid

-- some of these entries, behind the history, touches the uid for the client
abbrev pub touched_since : History → List Entry → List ℕ → List ℕ → ℕ → Bool
touched_since h [] client mailbox uid = false
touched_since h (e ∷ entries) client mailbox uid = touches (known h) e client mailbox uid || touched_since (h ▸ e) entries client mailbox uid

-- while a client takes nothing and is neither made nor dropped, what is listed is what was and what is touched since
abbrev pub ListedIsTouchedSince : Type 0
ListedIsTouchedSince = (h : History) (entries : List Entry) (client mailbox : List ℕ) (uid : ℕ) → is_client (known h) client ≡ true → AllByRecursion (λ e. (begins e client ≡ false) × (forgets e client mailbox uid ≡ false)) entries → is_some ((known (h ▸▸ entries)).listed client mailbox uid) ≡ (is_some ((known h).listed client mailbox uid) || touched_since h entries client mailbox uid)

-- a message that lives has its own uid, which was given
abbrev pub KeptUnderItsUid : Type 0
KeptUnderItsUid = (h : History) → IsLegal h → (mailbox : List ℕ) (uid : ℕ) → MatchOption ((known h).kept mailbox uid) ⊤ (λ kept. (kept.uid ≡ uid) × (0 < uid) × (uid ≤ (known h).highest mailbox))

-- one flag is set, and the others stay
abbrev pub OneFlagIsSet : Type 0
OneFlagIsSet = (flags flag other : ℕ) (on : Bool) → flag < 16 → other < 16 → flag_of (flags_with flags flag on) other ≡ (if flag == other then on else flag_of flags other)

-- ---- what an entry leaves for a client

-- where an entry doesn't make the client, what isn't listed for it afterwards is as it was before;
-- and it wasn't listed then either, or the entry says that the client has taken the change
abbrev pub UnlistedIsUnchanged : Type 0
UnlistedIsUnchanged = (k : Known) (e : Entry) (client mailbox : List ℕ) (uid : ℕ)
    → is_client_after k e client ≡ true
    → begins e client ≡ false
    → listed_after k e client mailbox uid ≡ None
    → (kept_after k e mailbox uid ≡ k.kept mailbox uid)
    × ((forgets e client mailbox uid ≡ true) ⊎ (k.listed client mailbox uid ≡ None))

-- a stamp from before an entry stood there before it, and the entry leaves the message
abbrev pub EarlierStampStays : Type 0
EarlierStampStays = (k : Known) (e : Entry) (client mailbox : List ℕ) (uid stamp : ℕ)
    → is_client_after k e client ≡ true
    → stamp < k.next
    → listed_after k e client mailbox uid ≡ Some stamp
    → (kept_after k e mailbox uid ≡ k.kept mailbox uid)
    × (k.listed client mailbox uid ≡ Some stamp)

-- what is listed for a client stays listed, where the entry neither makes nor drops the client
-- and doesn't say that it has taken the change
abbrev pub ListedStays : Type 0
ListedStays = (k : Known) (e : Entry) (client mailbox : List ℕ) (uid : ℕ)
    → begins e client ≡ false
    → forgets e client mailbox uid ≡ false
    → is_some (k.listed client mailbox uid) ≡ true
    → is_some (listed_after k e client mailbox uid) ≡ true

-- where what lives is listed for a client, it is so after such an entry too
abbrev pub LivingIsListed : Type 0
LivingIsListed = (k : Known) (e : Entry) (client mailbox : List ℕ) (uid : ℕ)
    → is_client_after k e client ≡ true
    → begins e client ≡ false
    → forgets e client mailbox uid ≡ false
    → (is_some (k.kept mailbox uid) ≡ true → is_some (k.listed client mailbox uid) ≡ true)
    → is_some (kept_after k e mailbox uid) ≡ true
    → is_some (listed_after k e client mailbox uid) ≡ true

-- after a reset all that lives is listed for the client
abbrev pub ResetListsWhatLives : Type 0
ResetListsWhatLives = (k : Known) (client mailbox : List ℕ) (uid : ℕ)
    → is_client k client ≡ true
    → is_some (kept_after k (ResetClient client) mailbox uid) ≡ true
    → is_some (listed_after k (ResetClient client) client mailbox uid) ≡ true

-- a birth from before an entry is the birth before it, and the entry doesn't make or drop the client
abbrev pub EarlierBirthStays : Type 0
EarlierBirthStays = (h : History) (e : Entry) (client : List ℕ) (born : ℕ)
    → born < next h
    → birth (h ▸ e) client ≡ Some born
    → (begins e client ≡ false) × (birth h client ≡ Some born)

-- an allowed Flag leaves the message with the flag as it says
abbrev pub FlagIsKept : Type 0
FlagIsKept = (k : Known) (mailbox : List ℕ) (uid flag : ℕ) (on : Bool) (kept : Kept)
    → is_allowed k (Flag mailbox uid flag on) ≡ true
    → k.kept mailbox uid ≡ Some kept
    → (kept_after k (Flag mailbox uid flag on) mailbox uid ≡ Some (flagged flag on kept))
    × (flag_of (flags_with kept.flags flag on) flag ≡ on)

-- ---- what a legal history holds

abbrev pub NextIsPositive : Type 0
NextIsPositive = (h : History) → IsLegal h → 0 < next h

-- a client was born by an entry of the history
abbrev pub BirthIsBefore : Type 0
BirthIsBefore = (h : History) → IsLegal h → (client : List ℕ) (born : ℕ)
    → birth h client ≡ Some born
    → (0 < born) × (born < next h)

-- stamps are numbers of entries of the history
abbrev pub StampsAreBefore : Type 0
StampsAreBefore = (h : History) → IsLegal h → (client mailbox : List ℕ)
    → AllByRecursion (λ listed. listed.stamp < next h) ((known h).changes client mailbox)

-- a uid is listed with the stamp that it has on the list
abbrev pub ListedIsOnTheList : Type 0
ListedIsOnTheList = (h : History) → IsLegal h → (client mailbox : List ℕ) (uid : ℕ)
    → stamp_at uid ((known h).changes client mailbox) ≡ (known h).listed client mailbox uid

-- what lives is in a mailbox that lives
abbrev pub LivesInAMailbox : Type 0
LivesInAMailbox = (h : History) → IsLegal h → (mailbox : List ℕ) (uid : ℕ)
    → is_some ((known h).kept mailbox uid) ≡ true
    → is_mailbox (known h) mailbox ≡ true

-- the descriptors of a mailbox rise by uid, and the one of a uid is that of the message there
abbrev pub DescriptorsAreByUid : Type 0
DescriptorsAreByUid = (h : History) → IsLegal h → (mailbox : List ℕ)
    → Ordered (λ (one later : Descriptor). one.uid < later.uid) (descriptors (known h) mailbox)
    × ((uid : ℕ)
    → find (λ one. one.uid == uid) (descriptors (known h) mailbox)
    ≡ option_map descriptor_at ((known h).kept mailbox uid))

-- what a client is told of a uid is a descriptor of that uid, or that this uid is gone
abbrev pub ChangeNamesItsUid : Type 0
ChangeNamesItsUid = (h : History) → IsLegal h → (mailbox : List ℕ) (uid : ℕ)
    → ((descriptor : Descriptor)
    → change_at (known h) mailbox uid ≡ Present descriptor
    → descriptor.uid ≡ uid)
    × ((gone : ℕ) → change_at (known h) mailbox uid ≡ Expunged gone → gone ≡ uid)

-- ---- the limit that is told

-- an allowed entry is told the first of all limits, in their order, that the history with it
-- passes, and none where it passes none
abbrev pub FirstLimitIsTold : Type 0
FirstLimitIsTold = (h : History) → IsLegal h → (e : Entry)
    → is_allowed (known h) e ≡ true
    → limit_passed (known h) e ≡ find (is_passed (known (h ▸ e))) limits_of_bases
