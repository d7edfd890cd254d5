-- The place that a scanner has reached.
use Rattle.std.specs.Prelude.{◌==◌, ℕ, Bool, false, List, [], ◌∷◌}
use Rattle.es_source.specs.Places.{place_after}
use Rattle.script_syntax.specs.declared.positions.Position.{Position}

-- Whether the last of these characters is a CR.
abbrev pub ends_in_return : List ℕ → Bool
ends_in_return [] = false
ends_in_return (c ∷ []) = c == 0xD
ends_in_return (c ∷ d ∷ cs) = ends_in_return (d ∷ cs)

-- The place after these characters, with whether a CR stands directly before it.
abbrev pub position_after : List ℕ → Position
position_after before =
    record { place = place_after before; after_return = ends_in_return before }
