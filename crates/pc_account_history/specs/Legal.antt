-- Canonical records, and legal histories.
use Rattle.std.specs.Prelude.{◌≡◌, ℕ, ◌<◌, ◌≤◌, ◌==◌, ◌⊎◌, true, false, List, [], ◌∷◌, ◌++◌, None, ⊤}
use Rattle.std.specs.List.{AllByRecursion}
use Rattle.std.specs.Map.{keys_of}
use Rattle.pc_account_history.specs.declared.kept.Kept.{Kept}
use Rattle.pc_account_history.specs.declared.kept.Listed.{Listed}
use Rattle.pc_message.specs.declared.limits.TheConstants.{LAST_MAIL}
use Rattle.pc_account_history.specs.Record.{MailboxRecord, AccountRecord}
use Rattle.pc_account_history.specs.Known.{said_by}
use Rattle.pc_account_history.specs.History.{History, start, ◌▸◌, known}
use Rattle.pc_account_history.specs.Allowed.{is_allowed}
use Rattle.pc_account_history.specs.Limits.{limit_passed, IsWithin, limits_of_bases}
use Rattle.pc_tables.specs.Order.{Ordered, AreDistinct}

-- by stamp, and then by uid
abbrev pub IsListedBefore : Listed → Listed → Type 0
IsListedBefore listed later = (listed.stamp < later.stamp) ⊎ ((listed.stamp ≡ later.stamp) × (listed.uid < later.uid))

abbrev pub HasOtherUid : Listed → Listed → Type 0
HasOtherUid listed later = (listed.uid == later.uid) ≡ false

-- a change of a given uid, with a stamp from the birth of the client up to the entries so far
pub record IsChange (number highest birth : ℕ) (listed : Listed) : Type 0 where
  pub positive : 0 < listed.uid
  pub given : listed.uid ≤ highest
  pub since_birth : birth ≤ listed.stamp
  pub so_far : listed.stamp < number

-- an update list of a client with this birth, in a mailbox with this highest uid, before the entry with this number
pub record IsUpdateList (number highest birth : ℕ) (list : List Listed) : Type 0 where
  pub in_order : Ordered IsListedBefore list
  pub distinct : Ordered HasOtherUid list
  pub changes : AllByRecursion (IsChange number highest birth) list

-- one list for each client, in the clients' order
abbrev pub AreListsOf : ℕ → ℕ → List (List ℕ × ℕ) → List (List ℕ × List Listed) → Type 0
AreListsOf number highest [] [] = ⊤
AreListsOf number highest [] (list ∷ lists) = ⊥
AreListsOf number highest (client ∷ clients) [] = ⊥
AreListsOf number highest (client ∷ clients) (list ∷ lists) = (list.0 ≡ client.0) × IsUpdateList number highest client.1 list.1 × AreListsOf number highest clients lists

-- messages of given uids, which rise
pub record AreMessages (highest : ℕ) (messages : List Kept) : Type 0 where
  pub rising : Ordered (λ (kept later : Kept). kept.uid < later.uid) messages
  pub given : AllByRecursion (λ (kept : Kept). (0 < kept.uid) × (kept.uid ≤ highest)) messages

pub record IsMailbox (number : ℕ) (clients : List (List ℕ × ℕ)) (box : MailboxRecord) : Type 0 where
  pub messages : AreMessages box.highest box.messages
  pub lists : AreListsOf number box.highest clients box.lists

-- what the record of a legal history is, before the entry with this number: all but the limits
pub record IsWellFormed (r : AccountRecord) (number : ℕ) : Type 0 where
  pub positive : 0 < number
  pub births_rise : Ordered (λ (client later : List ℕ × ℕ). client.1 < later.1) r.clients
  pub births : AllByRecursion (λ (client : List ℕ × ℕ). (0 < client.1) × (client.1 < number)) r.clients
  pub client_names : AreDistinct (keys_of r.clients)
  pub mailbox_names : AreDistinct (keys_of r.live ++ keys_of r.dropped)
  pub live : AllByRecursion (λ (mailbox : List ℕ × MailboxRecord). IsMailbox number r.clients mailbox.1) r.live
  pub dropped : AllByRecursion (λ (mailbox : List ℕ × MailboxRecord). IsMailbox number r.clients mailbox.1 × (mailbox.1.messages ≡ [])) r.dropped
  pub boards : AreDistinct (keys_of r.subscriptions)
  pub pulled : r.pulled ≤ LAST_MAIL

-- a canonical record, whose next entry has this number
pub record IsCanonical (r : AccountRecord) (number : ℕ) : Type 0 where
  pub well_formed : IsWellFormed r number
  pub within : IsWithin (said_by r number) limits_of_bases

-- the base is canonical, each entry was allowed, and none passed a limit
abbrev pub IsLegal : History → Type 0
IsLegal (start r number) = IsCanonical r number
IsLegal (h ▸ e) = IsLegal h × (is_allowed (known h) e ≡ true) × (limit_passed (known h) e ≡ None)
