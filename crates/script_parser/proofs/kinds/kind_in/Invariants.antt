use Rattle.std.proofs.Common.{◌≡◌, drop, map}
use Rattle.script_grammar.specs.Kinds.{kind_in}
use Rattle.script_parser.proofs.kinds.kind_in.Given as goal

abbrev pub invariant-loop-text : goal.invariant-loop-text
invariant-loop-text l = kind_in (drop l.text-index (map (λ row. (row.0.now, row.1)) l.table)) l.units ≡ kind_in (map (λ row. (row.0.now, row.1)) l.table) l.units
