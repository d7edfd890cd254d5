-- The number and the name of each code of a fault.
use Rattle.std.specs.Prelude.{ℕ, List, codes}
use Rattle.es_source.specs.declared.faults.FaultCode.{FaultCode}
use Rattle.es_source.specs.declared.faults.FaultCode.TheVariants as code

abbrev pub code_number : FaultCode → ℕ
code_number code.TooLong = 1
code_number code.NotUtf8 = 2
code_number code.BadToken = 3
code_number code.Unexpected = 4
code_number code.TooDeep = 5
code_number code.Duplicate = 6
code_number code.Capture = 7
code_number code.BadBinding = 8
code_number code.Misplaced = 9

abbrev pub fault_name : FaultCode → List ℕ
fault_name code.TooLong = codes "TooLong"
fault_name code.NotUtf8 = codes "NotUtf8"
fault_name code.BadToken = codes "BadToken"
fault_name code.Unexpected = codes "Unexpected"
fault_name code.TooDeep = codes "TooDeep"
fault_name code.Duplicate = codes "Duplicate"
fault_name code.Capture = codes "Capture"
fault_name code.BadBinding = codes "BadBinding"
fault_name code.Misplaced = codes "Misplaced"
