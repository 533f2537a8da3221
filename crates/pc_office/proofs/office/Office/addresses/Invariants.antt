use Rattle.std.proofs.Common.{◌≡◌, ℕ, List, ◌++◌, ◌&&◌}
use Rattle.std.specs.List.{filter}
use Rattle.std.specs.Map.{keys_of}
use Rattle.pc_tables.specs.Table.{same}
use Rattle.pc_office_history.specs.declared.kept.Target.{Target}
use Rattle.pc_office.proofs.office.Office.addresses.Given as goal

-- the names so far, and those still to come
abbrev pub invariant-loop-address : goal.invariant-loop-address
invariant-loop-address l =
    let test : List ℕ × Target → _ = λ address. same l.user address.1.user && same l.mailbox address.1.mailbox in
    l.names ++ keys_of (filter test l.address-iterator) ≡ keys_of (filter test l.initial.address-iterator)
