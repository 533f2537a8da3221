-- Tables of mailboxes with their descriptors.
use Rattle.std.specs.Prelude.{ℕ, List, [], length, unwrap_or}
use Rattle.std.specs.Map.{lookup}
use Rattle.pc_message.specs.declared.descriptor.Descriptor.{Descriptor}
use Rattle.pc_tables.specs.Table.{same, total}

abbrev pub Table : Type 0
Table = List (List ℕ × List Descriptor)

-- how many descriptors there are in all mailboxes
abbrev pub count_in : Table → ℕ
count_in table = total (λ mailbox. length mailbox.1) table

-- the descriptors of a mailbox
abbrev pub found_in : List ℕ → Table → List Descriptor
found_in mailbox table = unwrap_or (lookup (same mailbox) table) []
