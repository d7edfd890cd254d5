-- The whole reading of a script: its tree, or its first fault.
use Rattle.std.specs.Prelude.{ℕ, List, Some, Result, Ok, Err, ⊤}
use Rattle.es_tree.specs.Tree.{Tree}
use Rattle.script_checker.specs.Contract.{IsTreeOf}
use Rattle.script_rules.specs.FirstFault.{HasFirstFault}
use Rattle.es_source.specs.declared.stop.ReadStop.{ReadStop}
use Rattle.es_source.specs.declared.stop.ReadStop.TheVariants.{Fault, NoMemory}

-- the answer is so; want of memory is free
abbrev pub ReadsScript : List ℕ → Result Tree ReadStop → Type 0
ReadsScript bytes (Ok tree) = IsTreeOf bytes tree
ReadsScript bytes (Err (Fault fault)) = HasFirstFault bytes (Some fault)
ReadsScript bytes (Err NoMemory) = ⊤
