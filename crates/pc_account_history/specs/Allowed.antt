-- Which entries are allowed, the limits apart.
use Rattle.std.specs.Prelude.{ℕ, ◌==◌, Bool, false, not, ◌&&◌, nat_lt, nat_le, List, length, is_some, if◌then◌else◌}
use Rattle.std.specs.Option.{option_map_or}
use Rattle.std.specs.List.{list_any, list_all, filter_map}
use Rattle.std.specs.Map.{lookup}
use Rattle.pc_base.specs.Name.{inbox}
use Rattle.pc_account_history.specs.declared.kept.Kept.{Kept}
use Rattle.pc_account_history.specs.declared.entry.Entry.{Entry}
use Rattle.pc_account_history.specs.declared.entry.Entry.TheVariants.{MakeMailbox, DropMailbox, Flag, Expunge, Copy, MakeClient, DropClient, ResetClient, ResetMailbox, Forget, Pull, Password, Subscribe, Unsubscribe, Mark}
use Rattle.pc_message.specs.declared.limits.TheConstants.{MOST_LETTERS, LAST_MAIL}
use Rattle.pc_message.specs.Flags.{flag_of}
use Rattle.pc_tables.specs.Table.{same, is_among, numbers}
use Rattle.pc_account_history.specs.Known.{Known}
use Rattle.pc_tables.specs.Order.{rises_from}

-- the mailbox lives
abbrev pub is_mailbox : Known → List ℕ → Bool
is_mailbox k mailbox = is_among mailbox k.live

-- the client is there
abbrev pub is_client : Known → List ℕ → Bool
is_client k client = is_some (lookup (same client) k.clients)

-- the board is subscribed to
abbrev pub is_subscribed : Known → List ℕ → Bool
is_subscribed k board = is_some (lookup (same board) k.subscriptions)

-- the messages that live in a mailbox, by rising uid
abbrev pub messages : Known → List ℕ → List Kept
messages k mailbox = filter_map (k.kept mailbox) (numbers 0 (k.highest mailbox))

-- what an entry needs
abbrev pub is_allowed : Known → Entry → Bool
is_allowed k (MakeMailbox mailbox) = not (is_mailbox k mailbox)
is_allowed k (DropMailbox mailbox) = is_mailbox k mailbox && not (same mailbox inbox)
is_allowed k (Flag mailbox uid flag on) = nat_le flag 15 && option_map_or (λ kept. if on then not (flag_of kept.flags flag) else flag_of kept.flags flag) (k.kept mailbox uid) false
is_allowed k (Expunge mailbox) = is_mailbox k mailbox && list_any (λ kept. flag_of kept.flags 0) (messages k mailbox)
is_allowed k (Copy mailbox uid target) = is_mailbox k mailbox && is_mailbox k target && is_some (k.kept mailbox uid)
is_allowed k (MakeClient client) = not (is_client k client)
is_allowed k (DropClient client) = is_client k client
is_allowed k (ResetClient client) = is_client k client
is_allowed k (ResetMailbox client mailbox) = is_client k client && is_mailbox k mailbox
is_allowed k (Forget client mailbox uids) = is_client k client && is_mailbox k mailbox && rises_from 0 uids && nat_lt 0 (length uids) && list_all (λ uid. is_some (k.listed client mailbox uid)) uids
is_allowed k (Pull upto letters) = nat_lt k.pulled upto && nat_le upto LAST_MAIL && nat_lt 0 (length letters) && nat_le (length letters) MOST_LETTERS && list_all (λ letter. is_mailbox k letter.0) letters
is_allowed k (Password digest) = not (option_map_or (same digest) k.digest false)
is_allowed k (Subscribe board) = not (is_subscribed k board)
is_allowed k (Unsubscribe board) = is_subscribed k board
is_allowed k (Mark board uid) = option_map_or (λ mark. not (mark == uid)) (lookup (same board) k.subscriptions) false
