-- The lines of an answer's list.
use Rattle.std.specs.Prelude.{ℕ, List, [], ◌++◌, map, codes, decimal}
use Rattle.pc_account.specs.declared.answer.Answer.{Answer}
use Rattle.pc_account.specs.declared.answer.Answer.TheVariants as answer
use Rattle.pc_account.specs.declared.answer.MailboxRow.{MailboxRow}

-- a line of a list of mailboxes
abbrev pub mailbox_line : MailboxRow → List ℕ
mailbox_line row = row.name ++ codes " " ++ decimal row.live ++ codes " " ++ decimal row.highest

abbrev pub lines_of : List MailboxRow → List (List ℕ)
lines_of rows = map mailbox_line rows

-- the lines of an answer; so far mailboxes alone are listed
abbrev pub answer_lines : Answer → List (List ℕ)
answer_lines (answer.Mailboxes rows) = lines_of rows
answer_lines _ = []
