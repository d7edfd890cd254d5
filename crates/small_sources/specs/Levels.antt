-- How operators group (ECMA-262, 13.4 to 13.16). The numbers in a tree are those of tokens, from 0.
use Rattle.std.specs.Prelude.{ℕ, true, false, List, [], ◌∷◌, codes}
use Rattle.es_tree.specs.declared.expressions.AssignOperator.TheVariants as assign_operator
use Rattle.es_tree.specs.declared.expressions.BinaryOperator.TheVariants as binary_operator
use Rattle.es_tree.specs.declared.expressions.ShortOperator.TheVariants as short_operator
use Rattle.es_tree.specs.declared.expressions.UnaryOperator.{UnaryOperator}
use Rattle.es_tree.specs.declared.expressions.UnaryOperator.TheVariants as unary_operator
use Rattle.script_grammar.specs.declared.labels.Pair.{Pair}
use Rattle.script_grammar.specs.declared.labels.Pair.TheVariants as pair
use Rattle.script_grammar.specs.declared.labels.Triple.TheVariants as triple
use Rattle.script_grammar.specs.declared.labels.Wrap.{Wrap}
use Rattle.script_grammar.specs.declared.labels.Wrap.TheVariants as wrap
use Rattle.script_grammar.specs.Tree.{ParseTree}
use Rattle.script_grammar.specs.Tree.{ParseTree as parse_tree}
use Rattle.script_grammar.specs.Samples.{all, call, evaluate, name}
use Rattle.small_sources.specs.Rows.{TreeRow}

-- a script of one expression
abbrev pub expression : ParseTree → ParseTree
expression e = all (evaluate e ∷ [])

-- an operator between the names of two tokens
abbrev pub joined : Pair → ℕ → ℕ → ParseTree
joined f i j = parse_tree.Pair f (name i) (name j)

abbrev pub set_to : ℕ → ℕ → ParseTree
set_to i j = joined (pair.Assign assign_operator.Plain) i j

-- two operators between the tokens 0, 2 and 4, where the second one stands inside the first, and where it is the other way round
abbrev pub inner_last : Pair → Pair → ParseTree
inner_last f g = expression (parse_tree.Pair f (name 0) (joined g 2 4))

abbrev pub inner_first : Pair → Pair → ParseTree
inner_first f g = expression (parse_tree.Pair g (joined f 0 2) (name 4))

-- one operator between the tokens 0 and 2
abbrev pub between : Pair → ParseTree
between f = expression (joined f 0 2)

abbrev pub choice : ParseTree → ParseTree → ParseTree → ParseTree
choice test then otherwise = parse_tree.Triple triple.Conditional test then otherwise

-- an operator in a token before its operand
abbrev pub prefixed : UnaryOperator → ℕ → ParseTree → ParseTree
prefixed op i e = parse_tree.Wrap (wrap.Unary op i) e

-- one operator in the token 0 before the token 1
abbrev pub before : Wrap → ParseTree
before f = expression (parse_tree.Wrap f (name 1))

-- Each level and the next one that binds tighter, with each operator of the two: the tighter one stands inside, wherever it is written.
abbrev pub level_rows : List TreeRow
level_rows =
    (codes "a || b && c", inner_last (pair.Short short_operator.Or) (pair.Short short_operator.And))
    ∷ (codes "a && b || c", inner_first (pair.Short short_operator.And) (pair.Short short_operator.Or))
    ∷ (codes "a && b == c", inner_last (pair.Short short_operator.And) (pair.Binary binary_operator.Equal))
    ∷ (codes "a && b != c", inner_last (pair.Short short_operator.And) (pair.Binary binary_operator.NotEqual))
    ∷ (codes "a && b === c", inner_last (pair.Short short_operator.And) (pair.Binary binary_operator.StrictlyEqual))
    ∷ (codes "a && b !== c", inner_last (pair.Short short_operator.And) (pair.Binary binary_operator.NotStrictlyEqual))
    ∷ (codes "a == b && c", inner_first (pair.Binary binary_operator.Equal) (pair.Short short_operator.And))
    ∷ (codes "a ?? b == c", inner_last (pair.Short short_operator.Coalesce) (pair.Binary binary_operator.Equal))
    ∷ (codes "a == b ?? c", inner_first (pair.Binary binary_operator.Equal) (pair.Short short_operator.Coalesce))
    ∷ (codes "a == b < c", inner_last (pair.Binary binary_operator.Equal) (pair.Binary binary_operator.Less))
    ∷ (codes "a != b > c", inner_last (pair.Binary binary_operator.NotEqual) (pair.Binary binary_operator.Greater))
    ∷ (codes "a === b <= c", inner_last (pair.Binary binary_operator.StrictlyEqual) (pair.Binary binary_operator.AtMost))
    ∷ (codes "a !== b >= c", inner_last (pair.Binary binary_operator.NotStrictlyEqual) (pair.Binary binary_operator.AtLeast))
    ∷ (codes "a == b instanceof c", inner_last (pair.Binary binary_operator.Equal) (pair.Binary binary_operator.InstanceOf))
    ∷ (codes "a != b in c", inner_last (pair.Binary binary_operator.NotEqual) (pair.Binary binary_operator.In))
    ∷ (codes "a instanceof b == c", inner_first (pair.Binary binary_operator.InstanceOf) (pair.Binary binary_operator.Equal))
    ∷ (codes "a < b != c", inner_first (pair.Binary binary_operator.Less) (pair.Binary binary_operator.NotEqual))
    ∷ (codes "a < b + c", inner_last (pair.Binary binary_operator.Less) (pair.Binary binary_operator.Add))
    ∷ (codes "a > b - c", inner_last (pair.Binary binary_operator.Greater) (pair.Binary binary_operator.Subtract))
    ∷ (codes "a <= b + c", inner_last (pair.Binary binary_operator.AtMost) (pair.Binary binary_operator.Add))
    ∷ (codes "a >= b - c", inner_last (pair.Binary binary_operator.AtLeast) (pair.Binary binary_operator.Subtract))
    ∷ (codes "a instanceof b + c", inner_last (pair.Binary binary_operator.InstanceOf) (pair.Binary binary_operator.Add))
    ∷ (codes "a in b - c", inner_last (pair.Binary binary_operator.In) (pair.Binary binary_operator.Subtract))
    ∷ (codes "a + b < c", inner_first (pair.Binary binary_operator.Add) (pair.Binary binary_operator.Less))
    ∷ (codes "a - b in c", inner_first (pair.Binary binary_operator.Subtract) (pair.Binary binary_operator.In))
    ∷ (codes "a + b * c", inner_last (pair.Binary binary_operator.Add) (pair.Binary binary_operator.Multiply))
    ∷ (codes "a - b % c", inner_last (pair.Binary binary_operator.Subtract) (pair.Binary binary_operator.Remainder))
    ∷ (codes "a * b + c", inner_first (pair.Binary binary_operator.Multiply) (pair.Binary binary_operator.Add))
    ∷ (codes "a % b - c", inner_first (pair.Binary binary_operator.Remainder) (pair.Binary binary_operator.Subtract))
    ∷ []

-- The operators of one level group from the left, and assignments from the right.
abbrev pub same_level_rows : List TreeRow
same_level_rows =
    (codes "a || b || c", inner_first (pair.Short short_operator.Or) (pair.Short short_operator.Or))
    ∷ (codes "a && b && c", inner_first (pair.Short short_operator.And) (pair.Short short_operator.And))
    ∷ (codes "a ?? b ?? c", inner_first (pair.Short short_operator.Coalesce) (pair.Short short_operator.Coalesce))
    ∷ (codes "a == b != c", inner_first (pair.Binary binary_operator.Equal) (pair.Binary binary_operator.NotEqual))
    ∷ (codes "a != b === c", inner_first (pair.Binary binary_operator.NotEqual) (pair.Binary binary_operator.StrictlyEqual))
    ∷ (codes "a === b !== c", inner_first (pair.Binary binary_operator.StrictlyEqual) (pair.Binary binary_operator.NotStrictlyEqual))
    ∷ (codes "a !== b == c", inner_first (pair.Binary binary_operator.NotStrictlyEqual) (pair.Binary binary_operator.Equal))
    ∷ (codes "a < b > c", inner_first (pair.Binary binary_operator.Less) (pair.Binary binary_operator.Greater))
    ∷ (codes "a > b <= c", inner_first (pair.Binary binary_operator.Greater) (pair.Binary binary_operator.AtMost))
    ∷ (codes "a <= b >= c", inner_first (pair.Binary binary_operator.AtMost) (pair.Binary binary_operator.AtLeast))
    ∷ (codes "a >= b instanceof c", inner_first (pair.Binary binary_operator.AtLeast) (pair.Binary binary_operator.InstanceOf))
    ∷ (codes "a instanceof b in c", inner_first (pair.Binary binary_operator.InstanceOf) (pair.Binary binary_operator.In))
    ∷ (codes "a in b < c", inner_first (pair.Binary binary_operator.In) (pair.Binary binary_operator.Less))
    ∷ (codes "a + b - c", inner_first (pair.Binary binary_operator.Add) (pair.Binary binary_operator.Subtract))
    ∷ (codes "a - b + c", inner_first (pair.Binary binary_operator.Subtract) (pair.Binary binary_operator.Add))
    ∷ (codes "a * b % c", inner_first (pair.Binary binary_operator.Multiply) (pair.Binary binary_operator.Remainder))
    ∷ (codes "a % b * c", inner_first (pair.Binary binary_operator.Remainder) (pair.Binary binary_operator.Multiply))
    ∷ (codes "a, b, c", inner_first pair.Comma pair.Comma)
    ∷ (codes "a = b, c", inner_first (pair.Assign assign_operator.Plain) pair.Comma)
    ∷ (codes "a, b = c", inner_last pair.Comma (pair.Assign assign_operator.Plain))
    ∷ (codes "a = b += c", inner_last (pair.Assign assign_operator.Plain) (pair.Assign assign_operator.Add))
    ∷ (codes "a -= b *= c", inner_last (pair.Assign assign_operator.Subtract) (pair.Assign assign_operator.Multiply))
    ∷ (codes "a %= b = c", inner_last (pair.Assign assign_operator.Remainder) (pair.Assign assign_operator.Plain))
    ∷ []

-- Each assignment.
abbrev pub assignment_rows : List TreeRow
assignment_rows =
    (codes "a = b", between (pair.Assign assign_operator.Plain))
    ∷ (codes "a += b", between (pair.Assign assign_operator.Add))
    ∷ (codes "a -= b", between (pair.Assign assign_operator.Subtract))
    ∷ (codes "a *= b", between (pair.Assign assign_operator.Multiply))
    ∷ (codes "a %= b", between (pair.Assign assign_operator.Remainder))
    ∷ []

-- Each operator before its operand, and each update. They bind tighter than every operator between two operands.
abbrev pub prefix_rows : List TreeRow
prefix_rows =
    (codes "delete a", before (wrap.Unary unary_operator.Delete 0))
    ∷ (codes "void a", before (wrap.Unary unary_operator.Void 0))
    ∷ (codes "typeof a", before (wrap.Unary unary_operator.Typeof 0))
    ∷ (codes "+a", before (wrap.Unary unary_operator.Plus 0))
    ∷ (codes "-a", before (wrap.Unary unary_operator.Minus 0))
    ∷ (codes "!a", before (wrap.Unary unary_operator.Not 0))
    ∷ (codes "++a", before (wrap.Update true true 0))
    ∷ (codes "--a", before (wrap.Update false true 0))
    ∷ (codes "a++", expression (parse_tree.Wrap (wrap.Update true false 1) (name 0)))
    ∷ (codes "a--", expression (parse_tree.Wrap (wrap.Update false false 1) (name 0)))
    ∷ (codes "a * -b", expression (parse_tree.Pair (pair.Binary binary_operator.Multiply) (name 0) (prefixed unary_operator.Minus 2 (name 3))))
    ∷ (codes "-a * b", expression (parse_tree.Pair (pair.Binary binary_operator.Multiply) (prefixed unary_operator.Minus 0 (name 1)) (name 3)))
    ∷ (codes "!a == b", expression (parse_tree.Pair (pair.Binary binary_operator.Equal) (prefixed unary_operator.Not 0 (name 1)) (name 3)))
    ∷ (codes "- -a", expression (prefixed unary_operator.Minus 0 (prefixed unary_operator.Minus 1 (name 2))))
    ∷ (codes "-a++", expression (prefixed unary_operator.Minus 0 (parse_tree.Wrap (wrap.Update true false 2) (name 1))))
    ∷ (codes "typeof a.b", expression (prefixed unary_operator.Typeof 0 (parse_tree.Wrap (wrap.Member 2 3) (name 1))))
    ∷ (codes "void a()", expression (prefixed unary_operator.Void 0 (call (name 1) [])))
    ∷ []

-- A conditional: looser than `||` and `??`, tighter than an assignment, from the right.
abbrev pub conditional_rows : List TreeRow
conditional_rows =
    (codes "a ? b : c", expression (choice (name 0) (name 2) (name 4)))
    ∷ (codes "a || b ? c : d", expression (choice (joined (pair.Short short_operator.Or) 0 2) (name 4) (name 6)))
    ∷ (codes "a ?? b ? c : d", expression (choice (joined (pair.Short short_operator.Coalesce) 0 2) (name 4) (name 6)))
    ∷ (codes "a ? b : c || d", expression (choice (name 0) (name 2) (joined (pair.Short short_operator.Or) 4 6)))
    ∷ (codes "a ? b : c ? d : e", expression (choice (name 0) (name 2) (choice (name 4) (name 6) (name 8))))
    ∷ (codes "a ? b ? c : d : e", expression (choice (name 0) (choice (name 2) (name 4) (name 6)) (name 8)))
    ∷ (codes "a ? b = c : d = e", expression (choice (name 0) (set_to 2 4) (set_to 6 8)))
    ∷ (codes "a = b ? c : d", expression (parse_tree.Pair (pair.Assign assign_operator.Plain) (name 0) (choice (name 2) (name 4) (name 6))))
    ∷ (codes "a, b ? c : d", expression (parse_tree.Pair pair.Comma (name 0) (choice (name 2) (name 4) (name 6))))
    ∷ []
