use Rattle.std.proofs.Common.{length}
use Rattle.script_parser.specs.State.{stack}
use Rattle.script_parser.specs.Progress.{Around}
use Rattle.script_parser.proofs.parser.Parser.read.Given as goal

abbrev pub invariant-loop-nesting : goal.invariant-loop-nesting
invariant-loop-nesting l = Around l.fn.self l.self l.number l.token

abbrev pub decreases-loop-nesting : goal.decreases-loop-nesting
decreases-loop-nesting l = length (stack l.self)
