-- Exit statuses, and the errors that are shown.
use Rattle.std.specs.Prelude.{ℕ, Option, Some, None}
use Rattle.pcmail.specs.declared.status.Status.{Status}
use Rattle.pcmail.specs.declared.status.Status.TheVariants as status
use Rattle.pcmail.specs.declared.status.RunError.{RunError}
use Rattle.pcmail.specs.declared.status.RunError.TheVariants as error

-- the exit status
abbrev pub code_of : Status → ℕ
code_of status.Ok = 0
code_of status.Usage = 1
code_of (status.InputRefused line) = 2
code_of status.ReadFault = 3
code_of status.WriteFault = 4
code_of status.Memory = 9

-- the error that is shown
abbrev pub error_of : Status → Option RunError
error_of status.Ok = None
error_of status.Usage = Some error.Usage
error_of (status.InputRefused line) = Some (error.InputRefused line)
error_of status.ReadFault = Some error.ReadFault
error_of status.WriteFault = Some error.WriteFault
error_of status.Memory = Some error.Memory
