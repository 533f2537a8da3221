-- What one entry does, as small functions of it.
use Rattle.std.specs.Prelude.{ℕ, ◌==◌, Bool, false, ◌&&◌, List, [], ◌∷◌, ◌++◌, map, length, slice_get, Option, None, Some, if◌then◌else◌}
use Rattle.std.specs.Option.{option_map}
use Rattle.std.specs.List.{filter}
use Rattle.std.specs.Map.{set_value}
use Rattle.pc_account_history.specs.declared.kept.Kept.{Kept}
use Rattle.pc_account_history.specs.declared.entry.Entry.{Entry}
use Rattle.pc_account_history.specs.declared.entry.Entry.TheVariants.{MakeMailbox, DropMailbox, Flag, Expunge, Copy, MakeClient, DropClient, ResetClient, ResetMailbox, Forget, Pull, Password, Subscribe, Unsubscribe, Mark}
use Rattle.pc_message.specs.Flags.{flag_of, flags_with}
use Rattle.pc_tables.specs.Table.{same, other_names, others, has_number}

-- the messages of the letters to a mailbox, in order
abbrev pub letters_to : List ℕ → List (List ℕ × List (List ℕ)) → List (List (List ℕ))
letters_to mailbox letters = map (λ letter. letter.1) (filter (λ letter. same letter.0 mailbox) letters)

-- a message under a new uid, without the flag that says deleted
abbrev pub copy_as : ℕ → Kept → Kept
copy_as uid kept = record kept { uid = uid; flags = flags_with kept.flags 0 false }

-- a message that is new, with all flags off
abbrev pub arrived : ℕ → List (List ℕ) → Kept
arrived uid message = record { uid = uid; flags = 0; message = message }

-- a message with one flag set
abbrev pub flagged : ℕ → Bool → Kept → Kept
flagged flag on kept = record kept { flags = flags_with kept.flags flag on }

-- how many uids the entry gives in a mailbox
abbrev pub gives : Entry → List ℕ → ℕ
gives (Copy _ _ target) mailbox = if same target mailbox then 1 else 0
gives (Pull _ letters) mailbox = length (letters_to mailbox letters)
gives _ mailbox = 0

-- the message that the entry puts there as its `place`-th, from 0, under a uid; what lived before is asked for the original of a copy
abbrev pub given : Entry → (List ℕ → ℕ → Option Kept) → List ℕ → ℕ → ℕ → Option Kept
given (Copy mailbox original _) lived _ uid _ = option_map (copy_as uid) (lived mailbox original)
given (Pull _ letters) lived mailbox uid place = option_map (arrived uid) (slice_get (letters_to mailbox letters) place)
given _ lived mailbox uid place = None

-- what the entry leaves of the message at a uid
abbrev pub left_by : Entry → List ℕ → ℕ → Kept → Option Kept
left_by (DropMailbox dropped) mailbox uid kept = if same dropped mailbox then None else Some kept
left_by (Expunge expunged) mailbox uid kept = if same expunged mailbox && flag_of kept.flags 0 then None else Some kept
left_by (Flag changed at flag on) mailbox uid kept = if same changed mailbox && at == uid then Some (flagged flag on kept) else Some kept
left_by _ mailbox uid kept = Some kept

-- the entry touches, for a client, a message with these flags that lives at a uid of a mailbox
abbrev pub concerns : Entry → List ℕ → List ℕ → ℕ → ℕ → Bool
concerns (Flag changed at _ _) client mailbox uid flags = same changed mailbox && at == uid
concerns (Expunge expunged) client mailbox uid flags = same expunged mailbox && flag_of flags 0
concerns (DropMailbox dropped) client mailbox uid flags = same dropped mailbox
concerns (MakeClient made) client mailbox uid flags = same made client
concerns (ResetClient reset) client mailbox uid flags = same reset client
concerns (ResetMailbox reset within) client mailbox uid flags = same within mailbox && same reset client
concerns _ client mailbox uid flags = false

-- the entry begins or ends the lists of a client
abbrev pub begins : Entry → List ℕ → Bool
begins (MakeClient made) client = same made client
begins (DropClient dropped) client = same dropped client
begins _ client = false

-- the entry says that a client has taken the change of a uid
abbrev pub forgets : Entry → List ℕ → List ℕ → ℕ → Bool
forgets (Forget taker within uids) client mailbox uid = same within mailbox && same taker client && has_number uid uids
forgets _ client mailbox uid = false

-- the clients with their births, where the entry has this number
abbrev pub clients_after : Entry → ℕ → List (List ℕ × ℕ) → List (List ℕ × ℕ)
clients_after (MakeClient client) number clients = others client clients ++ (client, number) ∷ []
clients_after (DropClient client) number clients = others client clients
clients_after _ number clients = clients

-- the mailboxes that live, in order of making
abbrev pub live_after : Entry → List (List ℕ) → List (List ℕ)
live_after (MakeMailbox mailbox) names = other_names mailbox names ++ mailbox ∷ []
live_after (DropMailbox mailbox) names = other_names mailbox names
live_after _ names = names

-- the mailboxes that were dropped and not made again, in order of their drops
abbrev pub dropped_after : Entry → List (List ℕ) → List (List ℕ)
dropped_after (MakeMailbox mailbox) names = other_names mailbox names
dropped_after (DropMailbox mailbox) names = other_names mailbox names ++ mailbox ∷ []
dropped_after _ names = names

-- the boards subscribed to, in order, each with the last uid that was marked since
abbrev pub subscriptions_after : Entry → List (List ℕ × ℕ) → List (List ℕ × ℕ)
subscriptions_after (Subscribe board) subscriptions = others board subscriptions ++ (board, 0) ∷ []
subscriptions_after (Unsubscribe board) subscriptions = others board subscriptions
subscriptions_after (Mark board uid) subscriptions = set_value (same board) subscriptions uid
subscriptions_after _ subscriptions = subscriptions

-- the number of the last mail pulled
abbrev pub pulled_after : Entry → ℕ → ℕ
pulled_after (Pull upto _) pulled = upto
pulled_after _ pulled = pulled

-- the digest of the password
abbrev pub digest_after : Entry → Option (List ℕ) → Option (List ℕ)
digest_after (Password digest) before = Some digest
digest_after _ before = before
