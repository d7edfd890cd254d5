use Rattle.std.proofs.Common.{◌≡◌, ◌-◌, length, take}
use Rattle.script_syntax.specs.Positions.{position_after}
use Rattle.script_syntax.proofs.Steps.{Reached}
use Rattle.script_syntax.proofs.reading.tokens_of.Given as goal

abbrev pub invariant-tokens : goal.invariant-tokens
invariant-tokens l = record {
  reached : Reached l.characters l.is_first l.all.items l.at;
  place : l.position ≡ position_after (take l.at l.characters);
}

abbrev pub decreases-tokens : goal.decreases-tokens
decreases-tokens l = length l.characters - l.at
