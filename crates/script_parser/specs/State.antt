-- What the fields of the parser stand for: the two stacks of the machine, where the values are numbers of nodes.
use Rattle.std.specs.Prelude.{◌≡◌, ℕ, Bool, true, false, List, [], ◌∷◌, ◌++◌, Option, Some, None, Result, Ok, Err, length, reverse, slice_get, not}
use Rattle.property_keys.specs.declared.faults.NoMemory.{NoMemory}
use Rattle.script_grammar.specs.declared.act.Act.{Act}
use Rattle.script_grammar.specs.declared.act.Act.TheVariants as act_kinds
use Rattle.script_grammar.specs.declared.node.ParseNode.{ParseNode}
use Rattle.script_grammar.specs.declared.node.ParseNode.TheVariants as node
use Rattle.script_grammar.specs.declared.symbol.Symbol.{Symbol}
use Rattle.script_grammar.specs.Tree.{names, accesses, indexes, is_and_or}
use Rattle.script_grammar.specs.Machine.{Algebra, Outcome, Fail, Next}
use Rattle.script_parser.specs.declared.parser.Parser.{Parser}

-- Nodes, and the numbers of those on the stack, the newest first.
abbrev pub State : Type 0
State = List ParseNode × List ℕ

-- One node more, on the stack.
abbrev pub built : ParseNode → List ParseNode → List ℕ → State
built n ns is = (ns ++ (n ∷ []), length ns ∷ is)

-- The newest values made one; where there are too few, none is left.
abbrev pub act_on : Act → List ParseNode → List ℕ → State
act_on (act_kinds.Atom f) ns is = built (node.Atom f) ns is
act_on (act_kinds.Wrap f) ns (i ∷ is) = built (node.Wrap f i) ns is
act_on (act_kinds.Pair f) ns (j ∷ i ∷ is) = built (node.Pair f i j) ns is
act_on (act_kinds.Triple f) ns (k ∷ j ∷ i ∷ is) = built (node.Triple f i j k) ns is
act_on (act_kinds.Quad f) ns (l ∷ k ∷ j ∷ i ∷ is) = built (node.Quad f i j k l) ns is
act_on _ ns is = (ns, [])

-- A node is a target where its tree is, and may stand beside `??` where its tree may.
abbrev pub is_target_node : Option ParseNode → Bool
is_target_node (Some (node.Atom f)) = names f
is_target_node (Some (node.Wrap f i)) = accesses f
is_target_node (Some (node.Pair f i j)) = indexes f
is_target_node _ = false

abbrev pub is_plain_node : Option ParseNode → Bool
is_plain_node (Some (node.Pair f i j)) = not (is_and_or f)
is_plain_node (Some n) = true
is_plain_node None = false

abbrev pub head_of : List ℕ → Option ℕ
head_of [] = None
head_of (i ∷ is) = Some i

abbrev pub node_at : List ParseNode → Option ℕ → Option ParseNode
node_at ns None = None
node_at ns (Some i) = slice_get ns i

-- The node of the newest value.
abbrev pub newest : List ParseNode → List ℕ → Option ParseNode
newest ns is = node_at ns (head_of is)

abbrev pub numbers : Algebra State
numbers = record { act = λ w s. act_on w s.0 s.1; target = λ s. is_target_node (newest s.0 s.1); plain = λ s. is_plain_node (newest s.0 s.1) }

-- What is expected, the next first.
abbrev pub stack : Parser → List Symbol
stack p = reverse p.pending.items ++ reverse p.symbols.items

abbrev pub ids : Parser → List ℕ
ids p = reverse p.values.items

abbrev pub state : Parser → State
state p = (p.nodes.items, ids p)

-- A token moves the parser as the machine's outcome says, unless memory runs out. What was expected before it stays apart, and a token that is refused
-- changes no value.
abbrev pub Moves : Parser → Parser → Result (Option ℕ) NoMemory → Outcome State → Type 0
Moves old new (Ok (Some n)) o = (o ≡ Next (stack new) (state new) n) × (new.symbols ≡ old.symbols)
Moves old new (Ok None) o = (o ≡ Fail) × (state new ≡ state old) × (new.symbols ≡ old.symbols)
Moves old new (Err e) o = Unit {0}

-- A token that is taken in any case.
abbrev pub some_of : Result ℕ NoMemory → Result (Option ℕ) NoMemory
some_of (Ok n) = Ok (Some n)
some_of (Err e) = Err e
