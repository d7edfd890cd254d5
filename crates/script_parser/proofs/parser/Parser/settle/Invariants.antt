use Rattle.std.proofs.Common.{◌≡◌, length}
use Rattle.script_parser.specs.Settling.{settled}
use Rattle.script_parser.specs.State.{stack, state, State, numbers}
use Rattle.script_parser.proofs.parser.Parser.settle.Given as goal

abbrev pub invariant-loop : goal.invariant-loop
invariant-loop l = settled State numbers (stack l.self) (state l.self) l.x ≡ settled State numbers (stack l.fn.self) (state l.fn.self) l.x

abbrev pub decreases-loop : goal.decreases-loop
decreases-loop l = length (stack l.self)
