-- The exit statuses.
use Rattle.std.specs.Prelude.{ℕ}
use Rattle.script_host.specs.declared.status.Status.{Status}
use Rattle.script_host.specs.declared.status.Status.TheVariants.{Finished, Thrown, Usage, Refused, BudgetEnded, ReadFault, WriteFault, NoMemory}

abbrev pub code_of : Status → ℕ
code_of Finished = 0
code_of Thrown = 1
code_of Usage = 2
code_of Refused = 3
code_of BudgetEnded = 4
code_of ReadFault = 5
code_of WriteFault = 6
code_of NoMemory = 7
