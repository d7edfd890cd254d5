use Rattle.script_parser.specs.Progress.{Behind}
use Rattle.script_parser.proofs.script.parse.Given as goal

abbrev pub invariant-loop-i : goal.invariant-loop-i
invariant-loop-i l = Behind l.parser l.tokens.tokens l.i
