-- The tree of a file, and what `check` promises.
use Rattle.std.specs.Prelude.{◌≡◌, ℕ, List, Some, None, Result, Ok, Err}
use Rattle.es_source.specs.Reading.{Reading, reading_of}
use Rattle.es_tree.specs.Tree.{Tree as Checked}
use Rattle.script_grammar.specs.Completed.{Derives}
use Rattle.script_grammar.specs.Scripts.{Parts, HasTree}
use Rattle.script_grammar.specs.Tree.{ParseTree}
use Rattle.script_rules.specs.Faults.{static_fault}
use Rattle.script_rules.specs.FirstFault.{leaves_of}
use Rattle.es_source.specs.declared.stop.ReadStop.{ReadStop}
use Rattle.es_source.specs.declared.stop.ReadStop.TheVariants.{Fault, NoMemory}
use Rattle.script_checker.specs.Made.{checked_tree}

-- Of a script that stands for this tree: its tree where it has no fault of the static rules, and else the first one. Want of memory is free.
abbrev pub ChecksTree : Parts → ParseTree → Result Checked ReadStop → Type 0
ChecksTree s x (Ok c) = (static_fault s.leaves x ≡ None) × (c ≡ checked_tree s.leaves x)
ChecksTree s x (Err (Fault f)) = static_fault s.leaves x ≡ Some f
ChecksTree s x (Err NoMemory) = Unit {0}

abbrev pub Checks : Parts → Result Checked ReadStop → Type 0
Checks s result = (x : ParseTree) → HasTree s.nodes s.root x → ChecksTree s x result

-- These bytes are in the profile, and this is the tree of the script that their tokens derive.
abbrev pub IsTreeOf : List ℕ → Checked → Type 0
IsTreeOf bytes tree =
    (r : Reading) × (x : ParseTree) × (reading_of bytes ≡ Ok r) × Derives r.tokens x × (static_fault (leaves_of r.tokens) x ≡ None)
    × (tree ≡ checked_tree (leaves_of r.tokens) x)
