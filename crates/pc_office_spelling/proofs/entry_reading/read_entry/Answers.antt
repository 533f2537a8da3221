use Rattle.pc_fields.proofs.Spelled.{value_within, value_read_of}
use Rattle.pc_office_spelling.proofs.Spelled.{entries-spelled}
use Rattle.pc_office_spelling.specs.Spelled.{entries}
use Rattle.pc_office_spelling.proofs.entry_reading.read_entry.Goals as goal

pub end-requires : goal.end-requires
end-requires c = value_within entries entries-spelled c.new-cursor.ensures c.left.ensures c.read_whole-read.ensures

pub returns-clause-found : goal.returns-clause-found
returns-clause-found c = (value_read_of entries entries-spelled c.new-cursor.ensures c.left.ensures c.read_whole-read.ensures c.end.ensures).found

pub returns-clause-fault : goal.returns-clause-fault
returns-clause-fault c = (value_read_of entries entries-spelled c.new-cursor.ensures c.left.ensures c.read_whole-read.ensures c.end.ensures).fault

pub returns-clause-within : goal.returns-clause-within
returns-clause-within c = (value_read_of entries entries-spelled c.new-cursor.ensures c.left.ensures c.read_whole-read.ensures c.end.ensures).within
