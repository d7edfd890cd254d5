-- A part is visited by its plan.
use Rattle.std.proofs.Common.{◌≡◌, ◌++◌, refl, true, false, List, [], ◌∷◌}
use Rattle.script_grammar.specs.declared.leaf.Leaf.{Leaf}
use Rattle.script_grammar.specs.declared.labels.Wrap.{Wrap}
use Rattle.script_grammar.specs.declared.labels.Wrap.TheVariants as wrap
use Rattle.script_grammar.specs.declared.labels.Pair.{Pair}
use Rattle.script_grammar.specs.declared.labels.Pair.TheVariants as pair
use Rattle.script_grammar.specs.declared.labels.Triple.{Triple}
use Rattle.script_grammar.specs.declared.labels.Triple.TheVariants as triple
use Rattle.script_grammar.specs.declared.labels.Quad.{Quad}
use Rattle.script_grammar.specs.declared.labels.Quad.TheVariants as quad
use Rattle.script_grammar.specs.Tree.{ParseTree, first_token}
use Rattle.script_grammar.specs.Tree.{ParseTree as parse_tree}
use Rattle.script_checker.specs.Firsts.{wrap_first, pair_first, triple_first, for_first}
use Rattle.script_checker.specs.Made.{Around}
use Rattle.script_checker.specs.Machine.{Step, State, Visit, after, plan, run}

first_wrap : (f : Wrap) (x : ParseTree) → first_token (parse_tree.Wrap f x) ≡ wrap_first f (first_token x)
first_wrap (wrap.Parenthesis i) x = refl
first_wrap (wrap.Unary op i) x = refl
first_wrap (wrap.Update up true i) x = refl
first_wrap (wrap.Update up false i) x = refl
first_wrap (wrap.Member dot word) x = refl
first_wrap (wrap.Array i) x = refl
first_wrap (wrap.Object i) x = refl
first_wrap (wrap.Computed i) x = refl
first_wrap (wrap.Binding i) x = refl
first_wrap (wrap.Lexical constant i) x = refl
first_wrap (wrap.Block i) x = refl
first_wrap wrap.Evaluate x = refl
first_wrap (wrap.Return i) x = refl
first_wrap (wrap.Throw i) x = refl
first_wrap wrap.Catch x = refl
first_wrap (wrap.CatchName i) x = refl

first_pair : (f : Pair) (x y : ParseTree) → first_token (parse_tree.Pair f x y) ≡ pair_first f (first_token x)
first_pair pair.And x y = refl
first_pair pair.Comma x y = refl
first_pair (pair.Assign op) x y = refl
first_pair (pair.Short op) x y = refl
first_pair (pair.Binary op) x y = refl
first_pair (pair.Index square) x y = refl
first_pair pair.Call x y = refl
first_pair (pair.New i) x y = refl
first_pair (pair.Function i) x y = refl
first_pair (pair.NamedFunction i name) x y = refl
first_pair (pair.DeclaredFunction i name) x y = refl
first_pair pair.Property x y = refl
first_pair (pair.Getter i) x y = refl
first_pair (pair.Setter i parameter) x y = refl
first_pair (pair.If i) x y = refl
first_pair (pair.While i) x y = refl

first_triple : (f : Triple) (x y z : ParseTree) → first_token (parse_tree.Triple f x y z) ≡ triple_first f (first_token x)
first_triple triple.Conditional x y z = refl
first_triple (triple.IfElse i) x y z = refl
first_triple triple.Method x y z = refl
first_triple (triple.Try i) x y z = refl

first_quad : (f : Quad) (x y z w : ParseTree) → first_token (parse_tree.Quad f x y z w) ≡ for_first f
first_quad (quad.For i) x y z w = refl

pub planned : (leaves : List Leaf) (a : Around) (x : ParseTree) (s : State) → run leaves (plan leaves a x) s ≡ after leaves (Visit a x) s
planned leaves a (parse_tree.Atom f) s = refl
planned leaves a (parse_tree.Wrap f x) s = rw (first_wrap f x) refl
planned leaves a (parse_tree.Pair f x y) s = rw (first_pair f x y) refl
planned leaves a (parse_tree.Triple f x y z) s = rw (first_triple f x y z) refl
planned leaves a (parse_tree.Quad f x y z w) s = rw (first_quad f x y z w) refl

pub run_more : (leaves : List Leaf) (ks ms : List Step) (s : State) → run leaves (ks ++ ms) s ≡ run leaves ms (run leaves ks s)
run_more leaves [] ms s = refl
run_more leaves (k ∷ ks) ms s = run_more leaves ks ms (after leaves k s)
