use Rattle.pc_account_records.specs.Recorded.{legal_is_canonical, legal_record_size, state_is_read}
use Rattle.pc_account.proofs.laws.legal_is_saved.Goals as goal

pub returns : goal.returns
returns c = λ state legal. (legal_is_canonical state legal, legal_record_size state legal, λ place fault. state_is_read state place (legal_is_canonical state legal) fault)
