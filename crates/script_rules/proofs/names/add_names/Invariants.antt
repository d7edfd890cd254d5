use Rattle.std.proofs.Common.{map, drop}
use Rattle.script_grammar.specs.Tree.{ParseTree}
use Rattle.script_rules.specs.declared.manner.Declared.{Declared}
use Rattle.script_rules.specs.Names.{bound_by, declared_as}
use Rattle.script_rules.proofs.Lists.{GoesOn}
use Rattle.script_rules.proofs.names.add_names.Given as goal

abbrev pub invariant-loop-n : goal.invariant-loop-n
invariant-loop-n l =
    GoesOn Declared l.script.nodes (λ (x : ParseTree). map (declared_as l.manner) (bound_by x)) l.n-items (drop l.n-index l.n-items) l.initial.declared.items l.declared.items
