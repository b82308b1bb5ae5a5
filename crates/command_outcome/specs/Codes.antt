-- The exit codes.
use Rattle.std.specs.Prelude.{ℕ}
use Rattle.command_outcome.specs.declared.status.Status.{Status}
use Rattle.command_outcome.specs.declared.status.Status.TheVariants as ends

-- the exit code of each status
abbrev pub code_of : Status → ℕ
code_of ends.Done = 0
code_of ends.Stopped = 1
code_of ends.Usage = 2
code_of ends.Input = 3
code_of ends.ReadFault = 4
code_of ends.WriteFault = 5
code_of ends.Memory = 6
code_of ends.Refused = 7
code_of ends.Steps = 8
