use Rattle.std.proofs.Common.{◌≡◌}
use Rattle.pc_office_history.specs.Step.{pulled_by}
use Rattle.pc_tables.specs.Fronts.{front_mapped}
use Rattle.pc_office_holdings.proofs.holdings.Holdings.note_pulled.Given as goal

abbrev pub invariant-loop-mail : goal.invariant-loop-mail
invariant-loop-mail l = l.mail-items ≡ front_mapped (pulled_by l.user l.number) l.mail-index l.initial.mail-items
