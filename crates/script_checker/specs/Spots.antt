-- A spot is good: its scopes are known, and its parts stand for trees.
use Rattle.std.specs.Prelude.{◌<◌, List, length}
use Rattle.script_grammar.specs.declared.node.ParseNode.{ParseNode}
use Rattle.script_rules.specs.declared.scope.Scope.{Scope}
use Rattle.script_rules.specs.Arena.{IsPart}
use Rattle.script_checker.specs.declared.spot.Spot.{Spot}
use Rattle.script_checker.specs.declared.tasks.Setting.{Setting}

abbrev pub IsKnown : List (List Scope) → Setting → Type 0
IsKnown chains s = s.scope.0 < length chains

pub record IsSpot (ns : List ParseNode) (chains : List (List Scope)) (s : Spot) : Type 0 where
  pub around : IsKnown chains s.around
  pub inner : IsKnown chains s.inner
  pub first : IsPart ns s.first
  pub last : IsPart ns s.last
