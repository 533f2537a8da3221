use Rattle.pc_office_history.specs.declared.entry.OfficeEntry.TheVariants.{Accept}
use Rattle.pc_office_history.specs.History.{known}
use Rattle.pc_office_history.proofs.LimitPassed.{first-told}
use Rattle.pc_office_history.proofs.Within.{makes-new, KnowsNames-legal, IsWithin-legal}
use Rattle.pc_office_history.proofs.laws.first_limit_is_told.Goals as goal

pub returns : goal.returns
returns c = λ h legal.
    let knows = KnowsNames-legal h legal in
    let within = IsWithin-legal h legal in
    (λ e allowed. first-told (known h) knows e (makes-new (known h) e allowed) within, λ names message. first-told (known h) knows (Accept names message) tt within)
