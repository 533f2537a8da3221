-- Entries as they are read.
use Rattle.std.specs.Prelude.{ℕ, ◌==◌, List, if◌then◌else◌}
use Rattle.pc_account_history.specs.declared.entry.Entry.{Entry}
use Rattle.pc_account_history.specs.declared.entry.Entry.TheVariants.{MakeMailbox, DropMailbox, Flag, Expunge, Copy, MakeClient, DropClient, ResetClient, ResetMailbox, Forget, Pull, Password, Subscribe, Unsubscribe, Mark}
use Rattle.pc_fields.specs.MessageFormat.{message_format}
use Rattle.pc_fields.specs.Fields.{u8_kind, u16_kind, u64_kind, bool_kind, digest_kind, any, within}
use Rattle.pc_fields.specs.Format.{Format, ends, goes, bind, a_name, a_u32, repeated}

abbrev pub letter_format : Format (List ℕ × List (List ℕ))
letter_format = a_name (λ mailbox. bind message_format (λ message. ends (mailbox, message)))

abbrev pub uid_format : Format ℕ
uid_format = a_u32 (λ uid. ends uid)

abbrev pub named_format : (List ℕ → Entry) → Format Entry
named_format entry = a_name (λ name. ends (entry name))

abbrev pub flag_format : Format Entry
flag_format = a_name (λ mailbox. a_u32 (λ uid. goes u8_kind (within 0 255) (λ flag. goes bool_kind any (λ on. ends (Flag mailbox uid flag on)))))

abbrev pub copy_format : Format Entry
copy_format = a_name (λ mailbox. a_u32 (λ uid. a_name (λ target. ends (Copy mailbox uid target))))

abbrev pub reset_mailbox_format : Format Entry
reset_mailbox_format = a_name (λ client. a_name (λ mailbox. ends (ResetMailbox client mailbox)))

abbrev pub forget_format : Format Entry
forget_format = a_name (λ client. a_name (λ mailbox. a_u32 (λ count. bind (repeated count uid_format) (λ uids. ends (Forget client mailbox uids)))))

abbrev pub pull_format : Format Entry
pull_format = goes u64_kind (within 0 18446744073709551615) (λ upto. goes u16_kind (within 1 64) (λ count. bind (repeated count letter_format) (λ letters. ends (Pull upto letters))))

abbrev pub password_format : Format Entry
password_format = goes digest_kind any (λ digest. ends (Password digest))

abbrev pub mark_format : Format Entry
mark_format = a_name (λ board. a_u32 (λ uid. ends (Mark board uid)))

-- what follows this tag
abbrev pub parts_format : ℕ → Format Entry
parts_format tag = if tag == 1 then named_format MakeMailbox
    else (if tag == 2 then named_format DropMailbox
    else (if tag == 3 then flag_format
    else (if tag == 4 then named_format Expunge
    else (if tag == 5 then copy_format
    else (if tag == 6 then named_format MakeClient
    else (if tag == 7 then named_format DropClient
    else (if tag == 8 then named_format ResetClient
    else (if tag == 9 then reset_mailbox_format
    else (if tag == 10 then forget_format
    else (if tag == 11 then pull_format
    else (if tag == 12 then password_format
    else (if tag == 13 then named_format Subscribe
    else (if tag == 14 then named_format Unsubscribe
    else mark_format)))))))))))))

abbrev pub entry_format : Format Entry
entry_format = goes u8_kind (within 1 15) parts_format
