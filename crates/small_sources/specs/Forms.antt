-- Calls, literals and statements (ECMA-262, 13.2, 13.3, 14.7 to 14.15), as trees. The numbers in a tree are those of tokens, from 0.
use Rattle.std.specs.Prelude.{ℕ, List, [], ◌∷◌, codes}
use Rattle.script_grammar.specs.declared.labels.Atom.TheVariants as atom
use Rattle.script_grammar.specs.declared.labels.Wrap.TheVariants as wrap
use Rattle.script_grammar.specs.declared.labels.Pair.TheVariants as pair
use Rattle.script_grammar.specs.declared.labels.Triple.TheVariants as triple
use Rattle.script_grammar.specs.declared.labels.Quad.TheVariants as quad
use Rattle.script_grammar.specs.Tree.{ParseTree}
use Rattle.script_grammar.specs.Tree.{ParseTree as parse_tree}
use Rattle.script_grammar.specs.Grammar.{nothing}
use Rattle.script_grammar.specs.Samples.{all, block, call, evaluate, name, parenthesis}
use Rattle.small_sources.specs.Levels.{expression}
use Rattle.small_sources.specs.Rows.{TreeRow}

-- the `new` in the token 0
abbrev pub new_of : ParseTree → List ParseTree → ParseTree
new_of callee arguments = parse_tree.Pair (pair.New 0) callee (all arguments)

-- an array literal whose `[` is the token 0
abbrev pub array_of : List ParseTree → ParseTree
array_of elements = expression (parse_tree.Wrap (wrap.Array 0) (all elements))

-- an object literal in parentheses
abbrev pub object_of : List ParseTree → ParseTree
object_of properties = expression (parenthesis 0 (parse_tree.Wrap (wrap.Object 1) (all properties)))

abbrev pub a_hole : ParseTree
a_hole = parse_tree.Atom atom.Hole

abbrev pub parameter : ℕ → ParseTree
parameter i = parse_tree.Atom (atom.Binding i)

abbrev pub empty_at : ℕ → ParseTree
empty_at i = parse_tree.Atom (atom.Empty i)

-- `new` with its callee and the arguments directly behind (13.3.5).
abbrev pub new_rows : List TreeRow
new_rows =
    (codes "new a", expression (new_of (name 1) []))
    ∷ (codes "new a()", expression (new_of (name 1) []))
    ∷ (codes "new a(b,)", expression (new_of (name 1) (name 3 ∷ [])))
    ∷ (codes "new a.b", expression (new_of (parse_tree.Wrap (wrap.Member 2 3) (name 1)) []))
    ∷ (codes "new a[b](c)", expression (new_of (parse_tree.Pair (pair.Index 2) (name 1) (name 3)) (name 6 ∷ [])))
    ∷ (codes "new a()()", expression (call (new_of (name 1) []) []))
    ∷ (codes "new a().b", expression (parse_tree.Wrap (wrap.Member 4 5) (new_of (name 1) [])))
    ∷ (codes "new new a(b)(c)", expression (new_of (parse_tree.Pair (pair.New 1) (name 2) (all (name 4 ∷ []))) (name 7 ∷ [])))
    ∷ (codes "new new a", expression (new_of (parse_tree.Pair (pair.New 1) (name 2) nothing) []))
    ∷ (codes "new (a())", expression (new_of (parenthesis 1 (call (name 2) [])) []))
    ∷ []

-- Calls with their arguments, and a last comma (13.3.8).
abbrev pub call_rows : List TreeRow
call_rows =
    (codes "a()", expression (call (name 0) []))
    ∷ (codes "a(b)", expression (call (name 0) (name 2 ∷ [])))
    ∷ (codes "a(b,)", expression (call (name 0) (name 2 ∷ [])))
    ∷ (codes "a(b, c)", expression (call (name 0) (name 2 ∷ name 4 ∷ [])))
    ∷ (codes "a(b, c,)", expression (call (name 0) (name 2 ∷ name 4 ∷ [])))
    ∷ (codes "a()()", expression (call (call (name 0) []) []))
    ∷ (codes "a.b[c](d)", expression (call (parse_tree.Pair (pair.Index 3) (parse_tree.Wrap (wrap.Member 1 2) (name 0)) (name 4)) (name 7 ∷ [])))
    ∷ []

-- Array literals with holes (13.2.4), object literals with a last comma (13.2.5), functions (15.2).
abbrev pub literal_rows : List TreeRow
literal_rows =
    (codes "[]", array_of [])
    ∷ (codes "[,]", array_of (a_hole ∷ []))
    ∷ (codes "[a]", array_of (name 1 ∷ []))
    ∷ (codes "[a,]", array_of (name 1 ∷ []))
    ∷ (codes "[a,,]", array_of (name 1 ∷ a_hole ∷ []))
    ∷ (codes "[,a]", array_of (a_hole ∷ name 2 ∷ []))
    ∷ (codes "[a, b]", array_of (name 1 ∷ name 3 ∷ []))
    ∷ (codes "({})", object_of [])
    ∷ (codes "({a})", object_of (parse_tree.Atom (atom.Shorthand 2) ∷ []))
    ∷ (codes "({a,})", object_of (parse_tree.Atom (atom.Shorthand 2) ∷ []))
    ∷ (codes "({1: a,})", object_of (parse_tree.Pair pair.Property (parse_tree.Atom (atom.Key 2)) (name 4) ∷ []))
    ∷ (codes "(function () { })", expression (parenthesis 0 (parse_tree.Pair (pair.Function 1) nothing nothing)))
    ∷ (codes "function f(a, b) { }", all (parse_tree.Pair (pair.DeclaredFunction 0 1) (all (parameter 3 ∷ parameter 5 ∷ [])) nothing ∷ []))
    ∷ []

-- Statements: each part that may be left out.
abbrev pub statement_rows : List TreeRow
statement_rows =
    (codes "try { } catch { }", all (parse_tree.Triple (triple.Try 0) (block 1 []) (parse_tree.Wrap wrap.Catch (block 4 [])) nothing ∷ []))
    ∷ (codes "try { } catch { } finally { }", all (parse_tree.Triple (triple.Try 0) (block 1 []) (parse_tree.Wrap wrap.Catch (block 4 [])) (block 7 []) ∷ []))
    ∷ (codes "try { } catch (e) { }", all (parse_tree.Triple (triple.Try 0) (block 1 []) (parse_tree.Wrap (wrap.CatchName 5) (block 7 [])) nothing ∷ []))
    ∷ (codes "try { } finally { }", all (parse_tree.Triple (triple.Try 0) (block 1 []) nothing (block 4 []) ∷ []))
    ∷ (codes "if (a) ; else ;", all (parse_tree.Triple (triple.IfElse 0) (name 2) (empty_at 4) (empty_at 6) ∷ []))
    ∷ (codes "if (a) ;", all (parse_tree.Pair (pair.If 0) (name 2) (empty_at 4) ∷ []))
    ∷ (codes "for (;;) ;", all (parse_tree.Quad (quad.For 0) nothing nothing nothing (empty_at 5) ∷ []))
    ∷ (codes "for (a; b;) ;", all (parse_tree.Quad (quad.For 0) (name 2) (name 4) nothing (empty_at 7) ∷ []))
    ∷ (codes "for (;; a) ;", all (parse_tree.Quad (quad.For 0) nothing nothing (name 4) (empty_at 6) ∷ []))
    ∷ (codes "return", all (parse_tree.Atom (atom.Return 0) ∷ []))
    ∷ (codes "return a", all (parse_tree.Wrap (wrap.Return 0) (name 1) ∷ []))
    ∷ (codes "return\na", all (parse_tree.Atom (atom.Return 0) ∷ evaluate (name 1) ∷ []))
    ∷ (codes "{ }", all (block 0 [] ∷ []))
    ∷ []
