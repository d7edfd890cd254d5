-- The first token of a part, from that of its own first part.
use Rattle.std.specs.Prelude.{ℕ, true, false, Option, Some, None}
use Rattle.script_grammar.specs.declared.labels.Wrap.{Wrap}
use Rattle.script_grammar.specs.declared.labels.Wrap.TheVariants as wrap
use Rattle.script_grammar.specs.declared.labels.Pair.{Pair}
use Rattle.script_grammar.specs.declared.labels.Pair.TheVariants as pair
use Rattle.script_grammar.specs.declared.labels.Triple.{Triple}
use Rattle.script_grammar.specs.declared.labels.Triple.TheVariants as triple
use Rattle.script_grammar.specs.declared.labels.Quad.{Quad}
use Rattle.script_grammar.specs.declared.labels.Quad.TheVariants as quad

abbrev pub wrap_first : Wrap → Option ℕ → Option ℕ
wrap_first (wrap.Parenthesis i) first = Some i
wrap_first (wrap.Unary op i) first = Some i
wrap_first (wrap.Update up true i) first = Some i
wrap_first (wrap.Update up false i) first = first
wrap_first (wrap.Member dot word) first = first
wrap_first (wrap.Array i) first = Some i
wrap_first (wrap.Object i) first = Some i
wrap_first (wrap.Computed i) first = Some i
wrap_first (wrap.Binding i) first = Some i
wrap_first (wrap.Lexical constant i) first = Some i
wrap_first (wrap.Block i) first = Some i
wrap_first wrap.Evaluate first = first
wrap_first (wrap.Return i) first = Some i
wrap_first (wrap.Throw i) first = Some i
wrap_first wrap.Catch first = None
wrap_first (wrap.CatchName i) first = None

abbrev pub pair_first : Pair → Option ℕ → Option ℕ
pair_first pair.And first = None
pair_first pair.Comma first = first
pair_first (pair.Assign op) first = first
pair_first (pair.Short op) first = first
pair_first (pair.Binary op) first = first
pair_first (pair.Index square) first = first
pair_first pair.Call first = first
pair_first (pair.New i) first = Some i
pair_first (pair.Function i) first = Some i
pair_first (pair.NamedFunction i name) first = Some i
pair_first (pair.DeclaredFunction i name) first = Some i
pair_first pair.Property first = first
pair_first (pair.Getter i) first = Some i
pair_first (pair.Setter i parameter) first = Some i
pair_first (pair.If i) first = Some i
pair_first (pair.While i) first = Some i

abbrev pub triple_first : Triple → Option ℕ → Option ℕ
triple_first triple.Conditional first = first
triple_first (triple.IfElse i) first = Some i
triple_first triple.Method first = first
triple_first (triple.Try i) first = Some i

abbrev pub for_first : Quad → Option ℕ
for_first (quad.For i) = Some i
