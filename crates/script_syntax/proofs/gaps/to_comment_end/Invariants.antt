use Rattle.std.proofs.Common.{◌≡◌, drop}
use Rattle.es_source.specs.Gaps.{to_comment_end}
use Rattle.script_syntax.proofs.Separators.{later_by}
use Rattle.script_syntax.proofs.gaps.to_comment_end.Given as goal

abbrev pub invariant-loop-i : goal.invariant-loop-i
invariant-loop-i l = later_by l.i (to_comment_end (drop l.i l.rest)) ≡ to_comment_end l.rest
