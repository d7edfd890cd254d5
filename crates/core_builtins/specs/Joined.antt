-- The world after one text was joined to another, where both fit into one.
use Rattle.std.specs.Prelude.{◌++◌, Option, Some, None}
use Rattle.property_keys.specs.declared.identifiers.TextId.{TextId}
use Rattle.es_model.specs.Changes.{Interning, changed}
use Rattle.es_model.specs.World.{World, units_of}

abbrev pub joined_world : World → TextId → TextId → Option TextId → World
joined_world w a b (Some id) = changed (Interning (units_of w.lists a ++ units_of w.lists b)) w
joined_world w a b None = w
