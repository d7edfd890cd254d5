-- What of a script does not run yet: array literals, and functions whose code uses `arguments`.
use Rattle.std.specs.Prelude.{Bool, true, false, if◌then◌else◌, Option, Some, None, List, [], ◌∷◌, map}
use Rattle.es_source.specs.declared.place.Place.{Place}
use Rattle.es_source.specs.Places.{is_before}
use Rattle.es_tree.specs.declared.body.Body.{Body}
use Rattle.es_tree.specs.declared.facts.FunctionFacts.{FunctionFacts}
use Rattle.es_tree.specs.declared.node.Node.{Node}
use Rattle.es_tree.specs.declared.node.Node.TheVariants as node
use Rattle.es_tree.specs.declared.primaries.Primary.{Primary}
use Rattle.es_tree.specs.declared.primaries.Primary.TheVariants as primary
use Rattle.es_tree.specs.Tree.{Tree}

abbrev pub is_array_literal : Primary → Bool
is_array_literal (primary.Array elements) = true
is_array_literal other = false

abbrev pub is_array : Node → Bool
is_array (node.Primary p) = is_array_literal p
is_array other = false

-- whether the code of a function uses the name `arguments`
abbrev pub uses_arguments : Body → Bool
uses_arguments code = code.arguments

-- the places of those things of a list of which something holds
abbrev pub places_where : {A : Type 0} → (A → Bool) → List A → List Place → List Place
places_where holds (x ∷ xs) (p ∷ ps) = if holds x then p ∷ places_where holds xs ps else places_where holds xs ps
places_where holds xs ps = []

-- the first tokens of functions, methods and accessors
abbrev pub function_places : List FunctionFacts → List Place
function_places functions = map (λ (f : FunctionFacts). f.place) functions

-- the earlier one of a place that was found and another
abbrev pub earlier : Option Place → Place → Option Place
earlier None p = Some p
earlier (Some before) p = Some (if is_before p before then p else before)

-- the least of these and of one that was found
abbrev pub earliest : Option Place → List Place → Option Place
earliest found [] = found
earliest found (p ∷ ps) = earliest (earlier found p) ps

-- the least place of what does not run yet: the `[` of an array literal, or the first token of a function whose code uses `arguments`
abbrev pub unbuilt : Tree → Option Place
unbuilt tree =
    earliest (earliest None (places_where is_array tree.nodes tree.places))
    (places_where uses_arguments tree.bodies (function_places tree.functions))
