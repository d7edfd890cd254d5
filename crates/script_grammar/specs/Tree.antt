-- The tree of a script. Its labels name tokens by their numbers. Parentheses have a label of their own, so that `(a)` is no target.
use Rattle.std.specs.Prelude.{ℕ, Bool, true, false, not, Option, Some, None}
use Rattle.es_tree.specs.declared.expressions.ShortOperator.TheVariants as short_operator
use Rattle.script_grammar.specs.declared.labels.Atom.{Atom as AtomLabel}
use Rattle.script_grammar.specs.declared.labels.Atom.TheVariants as atom
use Rattle.script_grammar.specs.declared.labels.Wrap.{Wrap as WrapLabel}
use Rattle.script_grammar.specs.declared.labels.Wrap.TheVariants as wrap
use Rattle.script_grammar.specs.declared.labels.Pair.{Pair as PairLabel}
use Rattle.script_grammar.specs.declared.labels.Pair.TheVariants as pair
use Rattle.script_grammar.specs.declared.labels.Triple.{Triple as TripleLabel}
use Rattle.script_grammar.specs.declared.labels.Triple.TheVariants as triple
use Rattle.script_grammar.specs.declared.labels.Quad.{Quad as QuadLabel}
use Rattle.script_grammar.specs.declared.labels.Quad.TheVariants as quad

pub data ParseTree : Type 0 where
  Atom : AtomLabel → ParseTree
  Wrap : WrapLabel → ParseTree → ParseTree
  Pair : PairLabel → ParseTree → ParseTree → ParseTree
  Triple : TripleLabel → ParseTree → ParseTree → ParseTree → ParseTree
  Quad : QuadLabel → ParseTree → ParseTree → ParseTree → ParseTree → ParseTree

abbrev pub accesses : WrapLabel → Bool
accesses (wrap.Member dot word) = true
accesses _ = false

abbrev pub indexes : PairLabel → Bool
indexes (pair.Index square) = true
indexes _ = false

abbrev pub names : AtomLabel → Bool
names (atom.Name name) = true
names _ = false

-- A target is a name or a member access, and not in parentheses.
abbrev pub is_target : ParseTree → Bool
is_target (Atom f) = names f
is_target (Wrap f e) = accesses f
is_target (Pair f l e) = indexes f
is_target _ = false

abbrev pub is_and_or : PairLabel → Bool
is_and_or (pair.Short short_operator.And) = true
is_and_or (pair.Short short_operator.Or) = true
is_and_or _ = false

-- What may stand beside `??`: neither `&&` nor `||`, unless in parentheses.
abbrev pub is_plain : ParseTree → Bool
is_plain (Pair f l e) = not (is_and_or f)
is_plain _ = true

-- The number of the first token of what a tree stands for: the label has it, or it is that of the first part. A list, what is left out, a hole and a
-- catch are no nodes and have none.
abbrev pub first_token : ParseTree → Option ℕ
first_token (Atom atom.Nothing) = None
first_token (Atom (atom.This i)) = Some i
first_token (Atom (atom.Null i)) = Some i
first_token (Atom (atom.Bool value i)) = Some i
first_token (Atom (atom.Name i)) = Some i
first_token (Atom (atom.Number i)) = Some i
first_token (Atom (atom.Text i)) = Some i
first_token (Atom atom.Hole) = None
first_token (Atom (atom.Shorthand i)) = Some i
first_token (Atom (atom.Key i)) = Some i
first_token (Atom (atom.Binding i)) = Some i
first_token (Atom (atom.Empty i)) = Some i
first_token (Atom (atom.Break i)) = Some i
first_token (Atom (atom.Continue i)) = Some i
first_token (Atom (atom.Return i)) = Some i
first_token (Wrap (wrap.Parenthesis i) x) = Some i
first_token (Wrap (wrap.Unary op i) x) = Some i
first_token (Wrap (wrap.Update up true i) x) = Some i
first_token (Wrap (wrap.Update up false i) x) = first_token x
first_token (Wrap (wrap.Member dot word) x) = first_token x
first_token (Wrap (wrap.Array i) x) = Some i
first_token (Wrap (wrap.Object i) x) = Some i
first_token (Wrap (wrap.Computed i) x) = Some i
first_token (Wrap (wrap.Binding i) x) = Some i
first_token (Wrap (wrap.Lexical constant i) x) = Some i
first_token (Wrap (wrap.Block i) x) = Some i
first_token (Wrap wrap.Evaluate x) = first_token x
first_token (Wrap (wrap.Return i) x) = Some i
first_token (Wrap (wrap.Throw i) x) = Some i
first_token (Wrap wrap.Catch x) = None
first_token (Wrap (wrap.CatchName i) x) = None
first_token (Pair pair.And x y) = None
first_token (Pair pair.Comma x y) = first_token x
first_token (Pair (pair.Assign op) x y) = first_token x
first_token (Pair (pair.Short op) x y) = first_token x
first_token (Pair (pair.Binary op) x y) = first_token x
first_token (Pair (pair.Index square) x y) = first_token x
first_token (Pair pair.Call x y) = first_token x
first_token (Pair (pair.New i) x y) = Some i
first_token (Pair (pair.Function i) x y) = Some i
first_token (Pair (pair.NamedFunction i name) x y) = Some i
first_token (Pair (pair.DeclaredFunction i name) x y) = Some i
first_token (Pair pair.Property x y) = first_token x
first_token (Pair (pair.Getter i) x y) = Some i
first_token (Pair (pair.Setter i parameter) x y) = Some i
first_token (Pair (pair.If i) x y) = Some i
first_token (Pair (pair.While i) x y) = Some i
first_token (Triple triple.Conditional x y z) = first_token x
first_token (Triple (triple.IfElse i) x y z) = Some i
first_token (Triple triple.Method x y z) = first_token x
first_token (Triple (triple.Try i) x y z) = Some i
first_token (Quad (quad.For i) x y z w) = Some i
