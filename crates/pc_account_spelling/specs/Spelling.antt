-- How a store writes entries and records: field by field, one after the other.
use Rattle.std.specs.Prelude.{ℕ, ◌+◌, Bool, true, false, List, [], ◌∷◌, ◌++◌, length, map, Option, None, Some}
use Rattle.std.specs.List.{flat_map, concat}
use Rattle.pc_account_history.specs.declared.kept.Kept.{Kept}
use Rattle.pc_account_history.specs.declared.kept.Listed.{Listed}
use Rattle.pc_account_history.specs.declared.entry.Entry.{Entry}
use Rattle.pc_account_history.specs.declared.entry.Entry.TheVariants.{MakeMailbox, DropMailbox, Flag, Expunge, Copy, MakeClient, DropClient, ResetClient, ResetMailbox, Forget, Pull, Password, Subscribe, Unsubscribe, Mark}
use Rattle.pc_account_history.specs.Entry.{tag_of}
use Rattle.pc_account_history.specs.Record.{MailboxRecord, AccountRecord}
use Rattle.pc_fields.specs.FieldBytes.{u8_field, u16_field, u32_field, u64_field, bool_field, name_field, message_fields, short_list, long_list}

-- a letter: the mailbox that it goes to, and the message
abbrev pub letter_fields : List ℕ × List (List ℕ) → List (List ℕ)
letter_fields letter = name_field letter.0 ∷ message_fields letter.1

-- what an entry says of itself behind its tag
abbrev pub parts_of : Entry → List (List ℕ)
parts_of (MakeMailbox mailbox) = name_field mailbox ∷ []
parts_of (DropMailbox mailbox) = name_field mailbox ∷ []
parts_of (Flag mailbox uid flag on) = name_field mailbox ∷ u32_field uid ∷ u8_field flag ∷ bool_field on ∷ []
parts_of (Expunge mailbox) = name_field mailbox ∷ []
parts_of (Copy mailbox uid target) = name_field mailbox ∷ u32_field uid ∷ name_field target ∷ []
parts_of (MakeClient client) = name_field client ∷ []
parts_of (DropClient client) = name_field client ∷ []
parts_of (ResetClient client) = name_field client ∷ []
parts_of (ResetMailbox client mailbox) = name_field client ∷ name_field mailbox ∷ []
parts_of (Forget client mailbox uids) = name_field client ∷ name_field mailbox ∷ u32_field (length uids) ∷ map u32_field uids
parts_of (Pull upto letters) = u64_field upto ∷ u16_field (length letters) ∷ flat_map letter_fields letters
parts_of (Password digest) = digest ∷ []
parts_of (Subscribe board) = name_field board ∷ []
parts_of (Unsubscribe board) = name_field board ∷ []
parts_of (Mark board uid) = name_field board ∷ u32_field uid ∷ []

-- the fields of an entry
abbrev pub fields_of : Entry → List (List ℕ)
fields_of entry = u8_field (tag_of entry) ∷ parts_of entry

-- the bytes of an entry
abbrev pub spelled_entry : Entry → List ℕ
spelled_entry entry = concat (fields_of entry)

abbrev pub digest_fields : Option (List ℕ) → List (List ℕ)
digest_fields None = bool_field false ∷ []
digest_fields (Some digest) = bool_field true ∷ digest ∷ []

-- a client with its birth
abbrev pub client_fields : List ℕ × ℕ → List (List ℕ)
client_fields client = name_field client.0 ∷ u64_field client.1 ∷ []

-- a message that lives
abbrev pub kept_fields : Kept → List (List ℕ)
kept_fields kept = u32_field kept.uid ∷ u16_field kept.flags ∷ message_fields kept.message

-- a change that a client hasn't taken
abbrev pub listed_fields : Listed → List (List ℕ)
listed_fields listed = u32_field listed.uid ∷ u64_field listed.stamp ∷ []

-- the update list of a client
abbrev pub update_list_fields : List ℕ × List Listed → List (List ℕ)
update_list_fields list = name_field list.0 ∷ long_list listed_fields list.1

-- a mailbox name, whether the mailbox lives, and what stands under it
abbrev pub mailbox_fields : Bool → List ℕ × MailboxRecord → List (List ℕ)
mailbox_fields lives mailbox = name_field mailbox.0 ∷ bool_field lives ∷ u32_field mailbox.1.highest ∷ long_list kept_fields mailbox.1.messages ++ short_list update_list_fields mailbox.1.lists

-- the mailboxes that live, and then the others
abbrev pub mailboxes_fields : AccountRecord → List (List ℕ)
mailboxes_fields r = u16_field (length r.live + length r.dropped) ∷ flat_map (mailbox_fields true) r.live ++ flat_map (mailbox_fields false) r.dropped

-- a subscription with its mark
abbrev pub subscription_fields : List ℕ × ℕ → List (List ℕ)
subscription_fields subscription = name_field subscription.0 ∷ u32_field subscription.1 ∷ []

-- the fields of a record
abbrev pub fields_of_record : AccountRecord → List (List ℕ)
fields_of_record r = u64_field r.pulled ∷ digest_fields r.digest ++ short_list client_fields r.clients ++ mailboxes_fields r ++ short_list subscription_fields r.subscriptions

-- the bytes of a record
abbrev pub spelled_record : AccountRecord → List ℕ
spelled_record r = concat (fields_of_record r)
