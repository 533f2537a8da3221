-- The lines of lists of clients and of mailboxes.
use Rattle.std.specs.Prelude.{ℕ, List, map, Option, None, Some, if◌then◌else◌}
use Rattle.pc_account.specs.declared.answer.ClientRow.{ClientRow}
use Rattle.pc_account.specs.declared.answer.MailboxRow.{MailboxRow}
use Rattle.pc_reply.specs.Items.{client_text, counted_text}
use Rattle.pc_reply.specs.declared.items.Mode.{Mode}
use Rattle.pc_reply.specs.declared.items.Mode.TheVariants.{Away, Interactive, Batch}
use Rattle.pc_session.specs.declared.access.Latest.{Latest}

-- how a client is used: by its latest session, where that is live
abbrev pub mode_of : Option Latest → Mode
mode_of None = Away
mode_of (Some latest) = if latest.live then (if latest.batch then Batch else Interactive) else Away

-- a client with its birth
abbrev pub client_line : (List ℕ → Option Latest) → List ℕ × ℕ → List ℕ
client_line latest client = client_text client.0 client.1 (mode_of (latest client.0))

abbrev pub client_lines : (List ℕ → Option Latest) → List (List ℕ × ℕ) → List (List ℕ)
client_lines latest clients = map (client_line latest) clients

-- a mailbox with how many messages live in it and its highest uid
abbrev pub mailbox_line : MailboxRow → List ℕ
mailbox_line row = counted_text row.name row.live row.highest

abbrev pub mailbox_lines : List MailboxRow → List (List ℕ)
mailbox_lines rows = map mailbox_line rows

-- the same of a row
abbrev pub row_line : (List ℕ → Option Latest) → ClientRow → List ℕ
row_line latest row = client_text row.name row.birth (mode_of (latest row.name))
