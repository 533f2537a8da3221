use Rattle.std.proofs.Common.{◌≡◌, ◌^◌}
use Rattle.pc_fields.proofs.Spelled.{is_within, is_read_of, if_ended}
use Rattle.pc_account_spelling.proofs.Spelled.{records-spelled}
use Rattle.pc_account_holdings.specs.State.{State}
use Rattle.pc_account_records.proofs.ReadRecord.{held_in, state_canonical}
use Rattle.pc_account_spelling.specs.Spelled.{records}
use Rattle.pc_account_records.proofs.loading.load.Goals as goal

pub end-requires : goal.end-requires
end-requires c = is_within records records-spelled held_in c.read_record-read.result c.new-cursor.ensures c.left.ensures c.read_record-read.ensures.read

pub returns-clause-found : goal.returns-clause-found
returns-clause-found c = (is_read_of records records-spelled held_in c.read_record-read.result c.new-cursor.ensures c.left.ensures c.read_record-read.ensures.read c.end.ensures).found

pub returns-clause-next : goal.returns-clause-next
returns-clause-next c = if_ended (λ (state : State). state.next ≡ 2 ^ 63) c.read_record-read.result _ _ c.end.result c.end.ensures c.read_record-read.ensures.next

pub returns-clause-canonical : goal.returns-clause-canonical
returns-clause-canonical c = state_canonical c.args.bytes.now c.end.result (returns-clause-found c) (returns-clause-next c)

pub returns-clause-fault : goal.returns-clause-fault
returns-clause-fault c = (is_read_of records records-spelled held_in c.read_record-read.result c.new-cursor.ensures c.left.ensures c.read_record-read.ensures.read c.end.ensures).fault

pub returns-clause-within : goal.returns-clause-within
returns-clause-within c = (is_read_of records records-spelled held_in c.read_record-read.result c.new-cursor.ensures c.left.ensures c.read_record-read.ensures.read c.end.ensures).within
