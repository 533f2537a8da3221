use Rattle.pc_office_history.specs.History.{start}
use Rattle.pc_office_history.proofs.Waiting.{mails-numbered}
use Rattle.pc_office_history.proofs.laws.mails_are_numbered.Goals as goal

pub returns : goal.returns
returns c = λ r number es. mails-numbered (start r number) es
