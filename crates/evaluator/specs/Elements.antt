-- Array literals (ECMA-262, 13.2.4).
use Rattle.std.specs.Prelude.{ℕ, ◌+◌, nat_le, if◌then◌else◌, Option, Some, None, List, [], ◌∷◌, drop}
use Rattle.property_keys.specs.Keys.{most_index}
use Rattle.property_keys.specs.declared.identifiers.ObjectId.{ObjectId}
use Rattle.property_keys.specs.declared.values.Value.{Value}
use Rattle.property_keys.specs.declared.values.Value.TheVariants as value
use Rattle.es_tree.specs.declared.node.Node.{Node}
use Rattle.es_tree.specs.declared.node.Node.TheVariants as node
use Rattle.es_tree.specs.declared.numbers.NodeId.{NodeId}
use Rattle.es_tree.specs.declared.primaries.Primary.TheVariants as primary
use Rattle.es_model.specs.declared.intrinsics.Class.TheVariants as class
use Rattle.es_model.specs.Completions.{Completion}
use Rattle.es_model.specs.Program.{Program}
use Rattle.es_model.specs.programs.Abrupt.{then_value}
use Rattle.array_objects.specs.Making.{append_element, array_made, raise_length}
use Rattle.evaluator.specs.Contexts.{Context, evaluate, falls, gives, node_at}
use Rattle.evaluator.specs.References.{prototype_of}

-- ArrayAccumulation (13.2.4.1), an element with its value, and what comes then. No file is so long that a literal has more elements than an Array object
abbrev pub element_put : ObjectId → ℕ → Program → Value → Program
element_put a i next v = if nat_le i most_index then append_element a i v next else falls

abbrev pub element_valued : ObjectId → ℕ → Program → Completion → Program
element_valued a i next c = then_value (element_put a i next) c

-- An Elision raises the length alone
abbrev pub element_left_out : ObjectId → ℕ → Program → Program
element_left_out a i next = if nat_le i most_index then raise_length a (i + 1) next else falls

abbrev pub element_then : Context → ObjectId → ℕ → Option NodeId → Program → Program
element_then here a i None next = element_left_out a i next
element_then here a i (Some e) next = evaluate here e (element_valued a i next)

-- the elements that are left, the first of them at this index
abbrev pub elements_from : Context → ObjectId → ℕ → List (Option NodeId) → Program
elements_from here a i [] = gives (value.Object a)
elements_from here a i (e ∷ es) = element_then here a i e (elements_from here a (i + 1) es)

abbrev pub elements_in : Option Node → List (Option NodeId)
elements_in (Some (node.Primary (primary.Array elements))) = elements
elements_in other = []

abbrev pub elements_at : Context → NodeId → List (Option NodeId)
elements_at here n = elements_in (node_at here n)

-- the elements of a literal from a number on
abbrev pub elements_after : Context → NodeId → ℕ → ObjectId → Program
elements_after here n i a = elements_from here a i (drop i (elements_at here n))

-- ArrayLiteral evaluation (13.2.4.2)
abbrev pub array_literal : Context → NodeId → Program
array_literal here n = array_made 0 (prototype_of class.Array) (elements_after here n 0)
