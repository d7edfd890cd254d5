use Rattle.std.proofs.Common.{length}
use Rattle.script_parser.specs.State.{stack}
use Rattle.script_parser.specs.Progress.{AroundEnd}
use Rattle.script_parser.proofs.parser.Parser.end.Given as goal

abbrev pub invariant-loop-self : goal.invariant-loop-self
invariant-loop-self l = AroundEnd l.fn.self l.self

abbrev pub decreases-loop-self : goal.decreases-loop-self
decreases-loop-self l = length (stack l.self)
