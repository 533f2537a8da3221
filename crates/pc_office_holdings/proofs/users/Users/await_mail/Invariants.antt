use Rattle.std.proofs.Common.{◌≡◌, length}
use Rattle.pc_tables.specs.Fronts.{front_mapped}
use Rattle.pc_office_holdings.specs.Step.{awaited}
use Rattle.pc_office_holdings.proofs.users.Users.await_mail.Given as goal

abbrev pub invariant-loop-index : goal.invariant-loop-index
invariant-loop-index l = (l.self ≡ front_mapped (awaited l.targets l.weight) l.index l.initial.self) × (length l.self ≡ length l.initial.self)
