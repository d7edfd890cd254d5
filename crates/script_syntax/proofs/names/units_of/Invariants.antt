use Rattle.std.proofs.Common.{◌≡◌, take}
use Rattle.es_source.specs.Forms.{units_of}
use Rattle.script_syntax.proofs.names.units_of.Given as goal

abbrev pub invariant-loop-character : goal.invariant-loop-character
invariant-loop-character l = l.units ≡ units_of (take l.character-index l.characters)
