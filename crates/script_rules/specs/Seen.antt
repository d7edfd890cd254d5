-- What is kept of the names of one scope, to tell whether a later name clashes with one of them.
use Rattle.std.specs.Prelude.{◌≡◌, ℕ, Bool, false, List, Option, Some, None}
use Rattle.std.specs.List.{list_any}
use Rattle.std.specs.Map.{lookup}
use Rattle.std.specs.Str.{bytes_eq}
use Rattle.es_source.specs.declared.faults.SourceFault.{SourceFault}
use Rattle.script_grammar.specs.declared.leaf.Leaf.{Leaf}
use Rattle.script_rules.specs.declared.manner.Declared.{Declared}
use Rattle.script_rules.specs.declared.manner.Manner.{Manner}
use Rattle.script_rules.specs.declared.manner.Manner.TheVariants as manner
use Rattle.script_rules.specs.Names.{units_at}
use Rattle.script_rules.specs.Faults.{clash, clashes, duplicates, duplicates_after, least}
use Rattle.script_rules.specs.Order.{earlier}

abbrev pub clash_with : Option Manner → Manner → Bool
clash_with None later = false
clash_with (Some before) later = clashes before later

-- of two manners the one with which more manners clash: `let`, `const` and catch before a parameter, and that before a function
abbrev pub stronger_of : Manner → Manner → Manner
stronger_of manner.Function later = later
stronger_of manner.Parameter manner.Function = manner.Parameter
stronger_of manner.Parameter later = later
stronger_of before later = before

abbrev pub stronger : Option Manner → Manner → Manner
stronger None later = later
stronger (Some before) later = stronger_of before later

-- the table tells of each name whether it clashes with one of these
abbrev pub Tells : List Leaf → List (List ℕ × Manner) → List Declared → Type 0
Tells leaves seen before = (d : Declared) → clash_with (lookup (bytes_eq (units_at leaves d.name)) seen) d.manner ≡ list_any (clash leaves d) before

pub record GoesOver (leaves : List Leaf) (all before rest : List Declared) (seen : List (List ℕ × Manner)) (found : Option SourceFault) : Type 0 where
  pub tells : Tells leaves seen before
  pub least_is : earlier found (least (duplicates_after leaves before rest)) ≡ least (duplicates leaves all)
