-- What is known of an account at a place of its history: at the beginning what the record says,
-- and after an entry what the entry decides, or else what was known before it.
use Rattle.std.specs.Prelude.{ℕ, suc, ◌+◌, ◌-◌, Bool, false, not, ◌&&◌, ◌||◌, nat_lt, nat_le, List, ◌++◌, map, Option, None, Some, is_some, if◌then◌else◌}
use Rattle.std.specs.Option.{option_map_or, option_and_then}
use Rattle.std.specs.List.{filter}
use Rattle.std.specs.Map.{lookup, keys_of}
use Rattle.pc_account_history.specs.declared.kept.Kept.{Kept}
use Rattle.pc_account_history.specs.declared.kept.Listed.{Listed}
use Rattle.pc_account_history.specs.declared.entry.Entry.{Entry}
use Rattle.pc_tables.specs.Table.{same, numbers}
use Rattle.pc_account_history.specs.Record.{AccountRecord, mailbox_of, list_of, kept_at, stamp_at}
use Rattle.pc_account_history.specs.Effect.{gives, given, left_by, concerns, begins, forgets, clients_after, live_after, dropped_after, subscriptions_after, pulled_after, digest_after}

pub record Known : Type 0 where
  -- the number of the next entry
  pub next : ℕ
  -- the number of the last mail pulled
  pub pulled : ℕ
  -- the digest of the password
  pub digest : Option (List ℕ)
  -- the clients with their births, in order of making
  pub clients : List (List ℕ × ℕ)
  -- the mailboxes that live, in order of making
  pub live : List (List ℕ)
  -- the other mailbox names, in order of their drops
  pub dropped : List (List ℕ)
  -- the subscriptions with their marks, in order of making
  pub subscriptions : List (List ℕ × ℕ)
  -- of a mailbox: the last uid given, or 0
  pub highest : List ℕ → ℕ
  -- of a mailbox and a uid: the message with its flags, where it lives
  pub kept : List ℕ → ℕ → Option Kept
  -- of a client, a mailbox and a uid: the stamp, where the uid is listed
  pub listed : List ℕ → List ℕ → ℕ → Option ℕ
  -- of a client and a mailbox: what is listed, by stamp and then uid
  pub changes : List ℕ → List ℕ → List Listed

-- what a record says; its next entry has this number
abbrev pub said_by : AccountRecord → ℕ → Known
said_by r number = record {
  next = number;
  pulled = r.pulled;
  digest = r.digest;
  clients = r.clients;
  live = keys_of r.live;
  dropped = keys_of r.dropped;
  subscriptions = r.subscriptions;
  highest = λ mailbox. (mailbox_of r mailbox).highest;
  kept = λ mailbox uid. kept_at uid (mailbox_of r mailbox).messages;
  listed = λ client mailbox uid. stamp_at uid (list_of (mailbox_of r mailbox) client);
  changes = λ client mailbox. list_of (mailbox_of r mailbox) client;
}

-- the entry gives this uid in a mailbox
abbrev pub is_given : Known → Entry → List ℕ → ℕ → Bool
is_given k e mailbox uid = nat_lt (k.highest mailbox) uid && nat_le uid (k.highest mailbox + gives e mailbox)

-- a given uid has the message that the entry puts there; else what the entry leaves of the message there
abbrev pub kept_after : Known → Entry → List ℕ → ℕ → Option Kept
kept_after k e mailbox uid = if is_given k e mailbox uid then given e k.kept mailbox uid (uid - k.highest mailbox - 1) else option_and_then (left_by e mailbox uid) (k.kept mailbox uid)

-- the entry touches a uid of a mailbox for a client: it gives the uid, or the uid lives and the entry concerns it
abbrev pub touches : Known → Entry → List ℕ → List ℕ → ℕ → Bool
touches k e client mailbox uid = is_given k e mailbox uid || option_map_or (λ kept. concerns e client mailbox uid kept.flags) (k.kept mailbox uid) false

-- the client is one after the entry
abbrev pub is_client_after : Known → Entry → List ℕ → Bool
is_client_after k e client = is_some (lookup (same client) (clients_after e k.next k.clients))

-- the uid gets the number of the entry as its stamp for the client
abbrev pub stamps : Known → Entry → List ℕ → List ℕ → ℕ → Bool
stamps k e client mailbox uid = is_client_after k e client && touches k e client mailbox uid

-- a touch lists the uid anew; where the client's lists begin or end, or the client has taken the change, it isn't listed
abbrev pub listed_after : Known → Entry → List ℕ → List ℕ → ℕ → Option ℕ
listed_after k e client mailbox uid = if stamps k e client mailbox uid then Some k.next else (if begins e client || forgets e client mailbox uid then None else k.listed client mailbox uid)

-- the entry leaves a listed uid where it stands on the list
abbrev pub stays : Known → Entry → List ℕ → List ℕ → ℕ → Bool
stays k e client mailbox uid = not (begins e client || forgets e client mailbox uid) && not (stamps k e client mailbox uid)

-- what stays on the list, and behind it the uids that are touched, rising
abbrev pub changes_after : Known → Entry → List ℕ → List ℕ → List Listed
changes_after k e client mailbox = filter (λ listed. stays k e client mailbox listed.uid) (k.changes client mailbox) ++ map (λ uid. record { uid = uid; stamp = k.next }) (filter (stamps k e client mailbox) (numbers 0 (k.highest mailbox + gives e mailbox)))

-- what is known after one more entry
abbrev pub after_entry : Known → Entry → Known
after_entry k e = record {
  next = suc k.next;
  pulled = pulled_after e k.pulled;
  digest = digest_after e k.digest;
  clients = clients_after e k.next k.clients;
  live = live_after e k.live;
  dropped = dropped_after e k.dropped;
  subscriptions = subscriptions_after e k.subscriptions;
  highest = λ mailbox. k.highest mailbox + gives e mailbox;
  kept = kept_after k e;
  listed = listed_after k e;
  changes = changes_after k e;
}
