use Rattle.std.proofs.Common.{◌≡◌, ◌++◌, codes}
use Rattle.script_generator.specs.Generated.{lines_from}
use Rattle.script_generator.proofs.generating.generated.Given as goal

abbrev pub invariant-loop-before : goal.invariant-loop-before
invariant-loop-before l = l.script.items ≡ codes "let t=0;\n" ++ lines_from 1 l.before
