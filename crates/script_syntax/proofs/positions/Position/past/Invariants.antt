use Rattle.std.proofs.Common.{◌≡◌, ◌≤◌, ◌+◌, ◌*◌, ◌++◌, ℕ, List, take}
use Rattle.script_syntax.specs.Positions.{position_after}
use Rattle.script_syntax.proofs.positions.Position.past.Given as goal

abbrev pub invariant-loop-character : goal.invariant-loop-character
invariant-loop-character l = record {
  place : (before : List ℕ) → l.fn.self ≡ position_after before → l.position ≡ position_after (before ++ take l.character-index l.characters);
  line : l.position.place.line ≤ l.fn.self.place.line + l.character-index;
  column : l.position.place.column ≤ l.fn.self.place.column + 4 * l.character-index;
}
