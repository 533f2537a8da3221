-- What reading gives at its end.
use Rattle.std.specs.Prelude.{ℕ, zero, suc, ◌-◌, ◌≤◌, Result, Ok, Err}
use Rattle.pc_base.specs.declared.failure.ReadFault.{ReadFault}
use Rattle.pc_base.specs.declared.failure.ReadFault.TheVariants as fault
use Rattle.pc_fields.specs.declared.cursor.Halt.{Halt}
use Rattle.pc_fields.specs.declared.cursor.Halt.TheVariants.{NoField, Memory}

-- no more bytes are left than there were, unless memory was wanting
abbrev pub IsWithin : {X : Type 0} → Result X Halt → ℕ → ℕ → Type 0
IsWithin (Ok value) size left = left ≤ size
IsWithin (Err NoField) size left = left ≤ size
IsWithin (Err Memory) size left = Unit {0}

-- of so many bytes so many are left: where none are, it is what was read, else the fault is where they begin
abbrev pub ended : {X : Type 0} → Result X Halt → ℕ → ℕ → Result X ReadFault
ended (Ok value) size zero = Ok value
ended (Ok value) size (suc left) = Err (fault.Malformed (size - suc left))
ended (Err NoField) size left = Err (fault.Malformed (size - left))
ended (Err Memory) size left = Err fault.Memory
