use Rattle.std.proofs.Common.{◌≡◌, take, map}
use Rattle.script_grammar.specs.Scripts.{leaf_of}
use Rattle.script_parser.proofs.leaves.leaves_of.Given as goal

abbrev pub invariant-loop-i : goal.invariant-loop-i
invariant-loop-i l = l.leaves.items ≡ map leaf_of (take l.i l.tokens.tokens)
