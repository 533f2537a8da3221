-- What holds at each fault of a commit.
use Rattle.std.specs.Prelude.{◌≡◌, Bool, true, false, Result, Ok, Err}
use Rattle.pc_base.specs.declared.store_fault.CommitFault.{CommitFault}
use Rattle.pc_base.specs.declared.store_fault.CommitFault.TheVariants.{Full, Device, Memory}

-- the store is called full exactly where it is; want of memory is free
abbrev pub FullWhere : {T : Type 0} → Result T CommitFault → Bool → Type 0
FullWhere (Ok value) full = full ≡ false
FullWhere (Err Full) full = full ≡ true
FullWhere (Err Device) full = full ≡ false
FullWhere (Err Memory) full = Unit {0}

-- a device call failed
abbrev pub OnDevice : {T : Type 0} → Result T CommitFault → Type 0 → Type 0
OnDevice (Ok value) holds = Unit {0}
OnDevice (Err Full) holds = Unit {0}
OnDevice (Err Device) holds = holds
OnDevice (Err Memory) holds = Unit {0}

-- memory was wanted
abbrev pub OnMemory : {T : Type 0} → Result T CommitFault → Type 0 → Type 0
OnMemory (Ok value) holds = Unit {0}
OnMemory (Err Full) holds = Unit {0}
OnMemory (Err Device) holds = Unit {0}
OnMemory (Err Memory) holds = holds
