-- A parser as a machine on a stack of what is still expected and a stack of values. It is no part of what the grammar says: the proofs of both
-- directions go through it.
use Rattle.std.specs.Prelude.{suc, ℕ, ◌==◌, ◌&&◌, ◌||◌, not, Bool, true, false, cond, List, [], ◌∷◌, Option, Some, None}
use Rattle.es_tree.specs.declared.expressions.AssignOperator.TheVariants as assign_operator
use Rattle.es_tree.specs.declared.expressions.BinaryOperator.TheVariants as binary_operator
use Rattle.es_tree.specs.declared.expressions.ShortOperator.TheVariants as short_operator
use Rattle.es_tree.specs.declared.expressions.UnaryOperator.{UnaryOperator}
use Rattle.script_grammar.specs.declared.sign.Sign.{Sign}
use Rattle.script_grammar.specs.declared.sign.Sign.TheVariants.{Token as of, Inserted as put}
use Rattle.script_grammar.specs.declared.kinds.NameRole.{NameRole}
use Rattle.script_grammar.specs.declared.kinds.NameRole.TheVariants as role
use Rattle.script_grammar.specs.declared.kinds.Word.{Word}
use Rattle.script_grammar.specs.declared.kinds.Word.TheVariants as words
use Rattle.script_grammar.specs.declared.kinds.Bracket.TheVariants as brackets
use Rattle.script_grammar.specs.declared.kinds.Mark.TheVariants as marks
use Rattle.script_grammar.specs.declared.kinds.Kind.TheVariants as kinds
use Rattle.script_grammar.specs.declared.kinds.Level.{Level}
use Rattle.script_grammar.specs.declared.kinds.Level.TheVariants as levels
use Rattle.script_grammar.specs.declared.labels.Atom.TheVariants as atom
use Rattle.script_grammar.specs.declared.labels.Wrap.TheVariants as wrap
use Rattle.script_grammar.specs.declared.labels.Pair.{Pair}
use Rattle.script_grammar.specs.declared.labels.Pair.TheVariants as pair
use Rattle.script_grammar.specs.declared.labels.Triple.TheVariants as triple
use Rattle.script_grammar.specs.declared.labels.Quad.TheVariants as quad
use Rattle.script_grammar.specs.declared.act.Act.{Act}
use Rattle.script_grammar.specs.declared.act.Act.TheVariants as act_kinds
use Rattle.script_grammar.specs.declared.symbol.Terminal.{Terminal}
use Rattle.script_grammar.specs.declared.symbol.Terminal.TheVariants as terminals
use Rattle.script_grammar.specs.declared.symbol.Listing.{Listing}
use Rattle.script_grammar.specs.declared.symbol.Listing.TheVariants as listings
use Rattle.script_grammar.specs.declared.symbol.Expected.{Expected}
use Rattle.script_grammar.specs.declared.symbol.Expected.TheVariants as expectation
use Rattle.script_grammar.specs.declared.symbol.Tail.{Tail}
use Rattle.script_grammar.specs.declared.symbol.Tail.TheVariants as tails
use Rattle.script_grammar.specs.declared.symbol.Loose.{Loose}
use Rattle.script_grammar.specs.declared.symbol.Loose.TheVariants as loose_kind
use Rattle.script_grammar.specs.declared.symbol.Stage.{Stage}
use Rattle.script_grammar.specs.declared.symbol.Stage.TheVariants as stages
use Rattle.script_grammar.specs.declared.symbol.Symbol.{Symbol}
use Rattle.script_grammar.specs.declared.symbol.Symbol.TheVariants as symbols
use Rattle.script_grammar.specs.Grammar.{is_end}
use Rattle.script_grammar.specs.Kinds.{is_word, is_key, prefix_of, level_of, infix_of, is_in}

-- One token: it is not allowed, or what is expected next, the values, and the nesting of the token.
pub data Outcome (S : Type 0) : Type 0 where
  Fail : Outcome S
  Next : List Symbol → S → ℕ → Outcome S

-- Values on a stack: how they are made, whether the newest is a target, and whether it may stand beside `??`.
pub record Algebra (S : Type 0) : Type 0 where
  pub act : Act → S → S
  pub target : S → Bool
  pub plain : S → Bool

abbrev pub level_rank : Level → ℕ
level_rank levels.Multiply = 3
level_rank levels.Add = 4
level_rank levels.Relation = 5
level_rank levels.Equal = 6
level_rank levels.And = 7
level_rank levels.Or = 8

-- The level of the tail that a token belongs to; 13 for none.
abbrev pub reach : Sign → ℕ
reach (of (kinds.Mark marks.Dot) i a) = 1
reach (of (kinds.Bracket brackets.Open) i a) = 1
reach (of (kinds.Bracket brackets.SquareOpen) i a) = 1
reach (of (kinds.Update up) i false) = 2
reach (of (kinds.Infix op) i a) = level_rank (level_of op)
reach (of (kinds.Short short_operator.And) i a) = 7
reach (of (kinds.Short short_operator.Or) i a) = 8
reach (of (kinds.Short short_operator.Coalesce) i a) = 9
reach (of (kinds.Mark marks.Question) i a) = 10
reach (of (kinds.Assign op) i a) = 11
reach (of (kinds.Mark marks.Comma) i a) = 12
reach _ = 13

abbrev pub rank : Tail → ℕ
rank tails.Left = 1
rank tails.Update = 2
rank (tails.Level v n) = level_rank v
rank (tails.Short n) = 9
rank (tails.Conditional n) = 10
rank (tails.Assign n) = 11
rank (tails.Expression n) = 12

abbrev pub bars_in : Tail → Bool
bars_in (tails.Level v n) = n
bars_in _ = false

abbrev pub is_in_sign : Sign → Bool
is_in_sign (of kind i a) = is_in kind
is_in_sign put = false

-- The tail takes the token.
abbrev pub takes : Tail → Sign → Bool
takes z x = (reach x == rank z) && not (bars_in z && is_in_sign x)

abbrev pub fits : Terminal → Sign → Bool
fits terminals.Open (of (kinds.Bracket brackets.Open) i a) = true
fits terminals.Close (of (kinds.Bracket brackets.Close) i a) = true
fits terminals.BraceClose (of (kinds.Bracket brackets.BraceClose) i a) = true
fits terminals.SquareClose (of (kinds.Bracket brackets.SquareClose) i a) = true
fits terminals.Colon (of (kinds.Mark marks.Colon) i a) = true
fits (terminals.Semicolon h) x = is_end h x
fits _ _ = false

-- The bracket that closes a list.
abbrev pub closing : Listing → Terminal
closing listings.Arguments = terminals.Close
closing listings.Parameters = terminals.Close
closing listings.Properties = terminals.BraceClose

abbrev pub is_comma : Sign → Bool
is_comma (of (kinds.Mark marks.Comma) i a) = true
is_comma _ = false

abbrev pub is_word_sign : Word → Sign → Bool
is_word_sign words.Else (of (kinds.Word words.Else) i a) = true
is_word_sign words.Finally (of (kinds.Word words.Finally) i a) = true
is_word_sign _ _ = false

abbrev pub is_equals : Sign → Bool
is_equals (of (kinds.Assign assign_operator.Plain) i a) = true
is_equals _ = false

abbrev pub same_line : Sign → Bool
same_line (of kind i a) = not a
same_line put = true

-- The first token of some item.
abbrev pub begins_word : Bool → Word → Bool
begins_word h words.Function = h
begins_word h words.Catch = false
begins_word h words.Else = false
begins_word h words.Finally = false
begins_word h words.Unused = false
begins_word h _ = true

abbrev pub begins : Bool → Sign → Bool
begins h (of (kinds.Name r) i a) = true
begins h (of kinds.Number i a) = true
begins h (of kinds.Text i a) = true
begins h (of (kinds.Word word) i a) = begins_word h word
begins h (of (kinds.Bracket brackets.BraceOpen) i a) = true
begins h (of (kinds.Bracket brackets.Open) i a) = true
begins h (of (kinds.Bracket brackets.SquareOpen) i a) = true
begins h (of (kinds.Mark marks.Semicolon) i a) = true
begins h (of (kinds.Mark marks.Not) i a) = true
begins h (of (kinds.Update up) i a) = true
begins h (of (kinds.Infix binary_operator.Add) i a) = true
begins h (of (kinds.Infix binary_operator.Subtract) i a) = true
begins h _ = false

-- `:` or `(` behind the name of a property.
abbrev pub ends_key : Sign → Bool
ends_key (of (kinds.Mark marks.Colon) i a) = true
ends_key (of (kinds.Bracket brackets.Open) i a) = true
ends_key _ = false

abbrev pub is_key_sign : Sign → Bool
is_key_sign (of (kinds.Bracket brackets.SquareOpen) i a) = true
is_key_sign (of kind i a) = is_key kind
is_key_sign put = false

-- A token behind `get` or `set` that makes it an accessor.
abbrev pub begins_accessor : NameRole → Sign → Bool
begins_accessor role.Plain x = false
begins_accessor role.Get x = is_key_sign x
begins_accessor role.Set x = is_key_sign x

-- Where what may go on takes the token.
abbrev pub keeps : Loose → Sign → Bool
keeps (loose_kind.Items h) x = begins h x
keeps (loose_kind.Else i) x = is_word_sign words.Else x
keeps (loose_kind.Finally i) x = is_word_sign words.Finally x
keeps (loose_kind.Callee i) x = reach x == 1
keeps loose_kind.Target x = reach x == 1
keeps (loose_kind.Binding c h i) x = is_equals x
keeps (loose_kind.Property r i) x = ends_key x || begins_accessor r x

-- The tails of the levels below a level, the tightest first.
abbrev pub below : Level → Bool → ℕ → List Symbol → List Symbol
below levels.Multiply n d γ = γ
below levels.Add n d γ = symbols.Tail (tails.Level levels.Multiply n) d ∷ γ
below levels.Relation n d γ = symbols.Tail (tails.Level levels.Multiply n) d ∷ symbols.Tail (tails.Level levels.Add n) d ∷ γ
below levels.Equal n d γ =
    symbols.Tail (tails.Level levels.Multiply n) d ∷ symbols.Tail (tails.Level levels.Add n) d ∷ symbols.Tail (tails.Level levels.Relation n) d ∷ γ
below levels.And n d γ =
    symbols.Tail (tails.Level levels.Multiply n) d ∷ symbols.Tail (tails.Level levels.Add n) d ∷ symbols.Tail (tails.Level levels.Relation n) d
    ∷ symbols.Tail (tails.Level levels.Equal n) d ∷ γ
below levels.Or n d γ =
    symbols.Tail (tails.Level levels.Multiply n) d ∷ symbols.Tail (tails.Level levels.Add n) d ∷ symbols.Tail (tails.Level levels.Relation n) d
    ∷ symbols.Tail (tails.Level levels.Equal n) d ∷ symbols.Tail (tails.Level levels.And n) d ∷ γ

module _ (S : Type 0) (alg : Algebra S) where
  abbrev pub none : S → S
  none vs = alg.act (act_kinds.Atom atom.Nothing) vs

  abbrev pub at_primary : ℕ → List Symbol → S → Sign → Outcome S
  at_primary d γ vs (of (kinds.Name r) i a) = Next γ (alg.act (act_kinds.Atom (atom.Name i)) vs) d
  at_primary d γ vs (of kinds.Number i a) = Next γ (alg.act (act_kinds.Atom (atom.Number i)) vs) d
  at_primary d γ vs (of kinds.Text i a) = Next γ (alg.act (act_kinds.Atom (atom.Text i)) vs) d
  at_primary d γ vs (of (kinds.Word words.This) i a) = Next γ (alg.act (act_kinds.Atom (atom.This i)) vs) d
  at_primary d γ vs (of (kinds.Word words.Null) i a) = Next γ (alg.act (act_kinds.Atom (atom.Null i)) vs) d
  at_primary d γ vs (of (kinds.Word words.True) i a) = Next γ (alg.act (act_kinds.Atom (atom.Bool true i)) vs) d
  at_primary d γ vs (of (kinds.Word words.False) i a) = Next γ (alg.act (act_kinds.Atom (atom.Bool false i)) vs) d
  at_primary d γ vs (of (kinds.Bracket brackets.Open) i a) =
      Next (symbols.Part (expectation.Expression false) d ∷ symbols.Take terminals.Close d ∷ symbols.Do (act_kinds.Wrap (wrap.Parenthesis i)) ∷ γ) vs d
  at_primary d γ vs (of (kinds.Bracket brackets.SquareOpen) i a) =
      Next (symbols.Stage stages.Elements d ∷ symbols.Do (act_kinds.Wrap (wrap.Array i)) ∷ γ) (none vs) d
  at_primary d γ vs (of (kinds.Bracket brackets.BraceOpen) i a) =
      Next (symbols.Stage (stages.Listed listings.Properties) d ∷ symbols.Do (act_kinds.Wrap (wrap.Object i)) ∷ γ) (none vs) d
  at_primary d γ vs (of (kinds.Word words.Function) i a) = Next (symbols.Stage (stages.AfterFunction i) (suc d) ∷ γ) vs (suc d)
  at_primary d γ vs (of (kinds.Word words.New) i a) = Next (symbols.Part (expectation.Callee i) (suc d) ∷ γ) vs (suc d)
  at_primary d γ vs _ = Fail

  abbrev pub at_left : ℕ → List Symbol → S → Sign → Outcome S
  at_left d γ vs x = at_primary d (symbols.Tail tails.Left d ∷ symbols.Tail tails.Update d ∷ γ) vs x

  -- behind a prefix operator, where there is one
  abbrev pub prefixed : ℕ → List Symbol → S → Sign → ℕ → Option UnaryOperator → Outcome S
  prefixed d γ vs x i (Some op) = Next (symbols.Part expectation.Unary (suc d) ∷ symbols.Do (act_kinds.Wrap (wrap.Unary op i)) ∷ γ) vs (suc d)
  prefixed d γ vs x i None = at_left d γ vs x

  abbrev pub at_unary : ℕ → List Symbol → S → Sign → Outcome S
  at_unary d γ vs (of (kinds.Update up) i a) =
      Next (symbols.Part expectation.Target (suc d) ∷ symbols.Do (act_kinds.Wrap (wrap.Update up true i)) ∷ γ) vs (suc d)
  at_unary d γ vs (of kind i a) = prefixed d γ vs (of kind i a) i (prefix_of kind)
  at_unary d γ vs put = Fail

  abbrev pub at_operand : Level → Bool → ℕ → List Symbol → S → Sign → Outcome S
  at_operand v n d γ vs x = at_unary d (below v n d γ) vs x

  abbrev pub at_assign : Bool → ℕ → List Symbol → S → Sign → Outcome S
  at_assign n d γ vs x =
      at_operand levels.Or n (suc d) (symbols.Tail (tails.Level levels.Or n) (suc d) ∷ symbols.Tail (tails.Short n) (suc d)
      ∷ symbols.Tail (tails.Conditional n) (suc d) ∷ symbols.Tail (tails.Assign n) (suc d) ∷ γ) vs x

  abbrev pub at_expr : Bool → ℕ → List Symbol → S → Sign → Outcome S
  at_expr n d γ vs x = at_assign n d (symbols.Tail (tails.Expression n) d ∷ γ) vs x

  abbrev pub at_block : ℕ → List Symbol → S → Sign → Outcome S
  at_block d γ vs (of (kinds.Bracket brackets.BraceOpen) i a) =
      Next (symbols.Loose (loose_kind.Items false) d ∷ symbols.Take terminals.BraceClose d ∷ symbols.Do (act_kinds.Wrap (wrap.Block i)) ∷ γ) (none vs) d
  at_block d γ vs _ = Fail

  abbrev pub at_body : ℕ → List Symbol → S → Sign → Outcome S
  at_body d γ vs (of (kinds.Bracket brackets.BraceOpen) i a) =
      Next (symbols.Loose (loose_kind.Items true) d ∷ symbols.Take terminals.BraceClose d ∷ γ) (none vs) d
  at_body d γ vs _ = Fail

  abbrev pub at_params : ℕ → List Symbol → S → Sign → Outcome S
  at_params d γ vs (of (kinds.Bracket brackets.Open) i a) = Next (symbols.Stage (stages.Listed listings.Parameters) d ∷ γ) (none vs) d
  at_params d γ vs _ = Fail

  abbrev pub at_statement : ℕ → List Symbol → S → Sign → Outcome S
  at_statement d γ vs (of (kinds.Bracket brackets.BraceOpen) i a) = at_block (suc d) γ vs (of (kinds.Bracket brackets.BraceOpen) i a)
  at_statement d γ vs (of (kinds.Mark marks.Semicolon) i a) = Next γ (alg.act (act_kinds.Atom (atom.Empty i)) vs) (suc d)
  at_statement d γ vs (of (kinds.Word words.If) i a) =
      Next (symbols.Take terminals.Open (suc d) ∷ symbols.Part (expectation.Expression false) (suc d) ∷ symbols.Take terminals.Close (suc d)
      ∷ symbols.Part expectation.Statement (suc d) ∷ symbols.Loose (loose_kind.Else i) (suc d) ∷ γ) vs (suc d)
  at_statement d γ vs (of (kinds.Word words.While) i a) =
      Next (symbols.Take terminals.Open (suc d) ∷ symbols.Part (expectation.Expression false) (suc d) ∷ symbols.Take terminals.Close (suc d)
      ∷ symbols.Part expectation.Statement (suc d) ∷ symbols.Do (act_kinds.Pair (pair.While i)) ∷ γ) vs (suc d)
  at_statement d γ vs (of (kinds.Word words.For) i a) =
      Next (symbols.Take terminals.Open (suc d) ∷ symbols.Part expectation.First (suc d)
      ∷ symbols.Part (expectation.Maybe false (terminals.Semicolon true)) (suc d) ∷ symbols.Part (expectation.Maybe false terminals.Close) (suc d)
      ∷ symbols.Part expectation.Statement (suc d) ∷ symbols.Do (act_kinds.Quad (quad.For i)) ∷ γ) vs (suc d)
  at_statement d γ vs (of (kinds.Word words.Break) i a) =
      Next (symbols.Take (terminals.Semicolon false) (suc d) ∷ γ) (alg.act (act_kinds.Atom (atom.Break i)) vs) (suc d)
  at_statement d γ vs (of (kinds.Word words.Continue) i a) =
      Next (symbols.Take (terminals.Semicolon false) (suc d) ∷ γ) (alg.act (act_kinds.Atom (atom.Continue i)) vs) (suc d)
  at_statement d γ vs (of (kinds.Word words.Return) i a) = Next (symbols.Stage (stages.AfterReturn i) (suc d) ∷ γ) vs (suc d)
  at_statement d γ vs (of (kinds.Word words.Throw) i a) = Next (symbols.Part (expectation.Thrown i) (suc d) ∷ γ) vs (suc d)
  at_statement d γ vs (of (kinds.Word words.Try) i a) =
      Next (symbols.Part expectation.Block (suc d) ∷ symbols.Stage (stages.AfterTry i) (suc d) ∷ γ) vs (suc d)
  at_statement d γ vs (of (kinds.Word words.Function) i a) = Fail
  at_statement d γ vs x = at_expr false (suc d) (symbols.Take (terminals.Semicolon false) (suc d) ∷ symbols.Do (act_kinds.Wrap wrap.Evaluate) ∷ γ) vs x

  abbrev pub at_bind : Bool → Bool → ℕ → List Symbol → S → Sign → Outcome S
  at_bind c h d γ vs (of (kinds.Name r) i a) = Next (symbols.Loose (loose_kind.Binding c h i) d ∷ γ) vs d
  at_bind c h d γ vs _ = Fail

  -- behind the `let` or `const` with the number i
  abbrev pub declares : Bool → Bool → ℕ → ℕ → List Symbol → S → Outcome S
  declares c h i d γ vs =
      Next (symbols.Part (expectation.Binding c h) d ∷ symbols.Do (act_kinds.Pair pair.And) ∷ symbols.Stage (stages.MoreBindings c h i) d ∷ γ) (none vs) d

  abbrev pub at_item : Bool → ℕ → List Symbol → S → Sign → Outcome S
  at_item true d γ vs (of (kinds.Word words.Function) i a) = Next (symbols.Stage (stages.FunctionName i) (suc d) ∷ γ) vs (suc d)
  at_item h d γ vs (of (kinds.Word words.Let) i a) = declares false false i d γ vs
  at_item h d γ vs (of (kinds.Word words.Const) i a) = declares true false i d γ vs
  at_item h d γ vs x = at_statement d γ vs x

  abbrev pub at_maybe : Bool → Terminal → ℕ → List Symbol → S → Sign → Outcome S
  at_maybe n w d γ vs x = cond (fits w x) (Next γ (none vs) d) (at_expr n d (symbols.Take w d ∷ γ) vs x)

  abbrev pub at_first : ℕ → List Symbol → S → Sign → Outcome S
  at_first d γ vs (of (kinds.Word words.Let) i a) = declares false true i d γ vs
  at_first d γ vs (of (kinds.Word words.Const) i a) = declares true true i d γ vs
  at_first d γ vs x = at_maybe true (terminals.Semicolon true) d γ vs x

  abbrev pub at_part : Expected → ℕ → List Symbol → S → Sign → Outcome S
  at_part expectation.Statement d γ vs x = at_statement d γ vs x
  at_part expectation.Block d γ vs x = at_block d γ vs x
  at_part expectation.Body d γ vs x = at_body d γ vs x
  at_part expectation.Parameters d γ vs x = at_params d γ vs x
  at_part (expectation.Expression n) d γ vs x = at_expr n d γ vs x
  at_part (expectation.Assign n) d γ vs x = at_assign n d γ vs x
  at_part expectation.Unary d γ vs x = at_unary d γ vs x
  at_part (expectation.Operand v n) d γ vs x = at_operand v n d γ vs x
  at_part (expectation.Callee i) d γ vs x = at_primary d (symbols.Loose (loose_kind.Callee i) d ∷ γ) vs x
  at_part expectation.Target d γ vs x = at_primary d (symbols.Loose loose_kind.Target d ∷ γ) vs x
  at_part (expectation.Binding c h) d γ vs x = at_bind c h d γ vs x
  at_part expectation.First d γ vs x = at_first d γ vs x
  at_part (expectation.Maybe n w) d γ vs x = at_maybe n w d γ vs x
  at_part (expectation.Thrown i) d γ vs x =
      cond (same_line x) (at_expr false d (symbols.Take (terminals.Semicolon false) d ∷ symbols.Do (act_kinds.Wrap (wrap.Throw i)) ∷ γ) vs x) Fail

  -- A token that belongs to a tail. After `.`, `[` and `(` the symbol `again` stands for what may follow next.
  abbrev pub after_left : Symbol → ℕ → List Symbol → S → Sign → Outcome S
  after_left again d γ vs (of (kinds.Mark marks.Dot) i a) = Next (symbols.Stage (stages.Word i) d ∷ again ∷ γ) vs d
  after_left again d γ vs (of (kinds.Bracket brackets.SquareOpen) i a) =
      Next (symbols.Part (expectation.Expression false) d ∷ symbols.Take terminals.SquareClose d ∷ symbols.Do (act_kinds.Pair (pair.Index i))
      ∷ again ∷ γ) vs d
  after_left again d γ vs (of (kinds.Bracket brackets.Open) i a) =
      Next (symbols.Stage (stages.Listed listings.Arguments) d ∷ symbols.Do (act_kinds.Pair pair.Call) ∷ again ∷ γ) (none vs) d
  after_left again d γ vs _ = Fail

  abbrev pub after_callee : ℕ → ℕ → List Symbol → S → Sign → Outcome S
  after_callee j d γ vs (of (kinds.Mark marks.Dot) i a) = Next (symbols.Stage (stages.Word i) d ∷ symbols.Loose (loose_kind.Callee j) d ∷ γ) vs d
  after_callee j d γ vs (of (kinds.Bracket brackets.SquareOpen) i a) =
      Next (symbols.Part (expectation.Expression false) d ∷ symbols.Take terminals.SquareClose d ∷ symbols.Do (act_kinds.Pair (pair.Index i))
      ∷ symbols.Loose (loose_kind.Callee j) d ∷ γ) vs d
  after_callee j d γ vs (of (kinds.Bracket brackets.Open) i a) =
      Next (symbols.Stage (stages.Listed listings.Arguments) d ∷ symbols.Do (act_kinds.Pair (pair.New j)) ∷ γ) (none vs) d
  after_callee j d γ vs _ = Fail

  abbrev pub after_update : ℕ → List Symbol → S → Sign → Outcome S
  after_update d γ vs (of (kinds.Update up) i false) = cond (alg.target vs) (Next γ (alg.act (act_kinds.Wrap (wrap.Update up false i)) vs) d) Fail
  after_update d γ vs _ = Fail

  abbrev pub joined : Level → Bool → ℕ → List Symbol → S → Option (Level × Pair) → Outcome S
  joined v n d γ vs (Some q) =
      Next (symbols.Part (expectation.Operand v n) d ∷ symbols.Do (act_kinds.Pair q.1) ∷ symbols.Tail (tails.Level v n) d ∷ γ) vs d
  joined v n d γ vs None = Fail

  abbrev pub after_level : Level → Bool → ℕ → List Symbol → S → Sign → Outcome S
  after_level v n d γ vs (of kind i a) = joined v n d γ vs (infix_of kind)
  after_level v n d γ vs put = Fail

  -- The operands of `??` are those of the level of `&&`.
  abbrev pub after_short : Bool → ℕ → List Symbol → S → Sign → Outcome S
  after_short n d γ vs (of (kinds.Short short_operator.Coalesce) i a) =
      cond (alg.plain vs) (Next (symbols.Part (expectation.Operand levels.And n) d ∷ symbols.Do (act_kinds.Pair (pair.Short short_operator.Coalesce))
      ∷ symbols.Tail (tails.Short n) d ∷ γ) vs d) Fail
  after_short n d γ vs _ = Fail

  abbrev pub after_cond : Bool → ℕ → List Symbol → S → Sign → Outcome S
  after_cond n d γ vs (of (kinds.Mark marks.Question) i a) =
      Next (symbols.Part (expectation.Assign n) d ∷ symbols.Take terminals.Colon d ∷ symbols.Part (expectation.Assign n) d
      ∷ symbols.Do (act_kinds.Triple triple.Conditional) ∷ γ) vs d
  after_cond n d γ vs _ = Fail

  abbrev pub after_assign : Bool → ℕ → List Symbol → S → Sign → Outcome S
  after_assign n d γ vs (of (kinds.Assign op) i a) =
      cond (alg.target vs) (Next (symbols.Part (expectation.Assign n) d ∷ symbols.Do (act_kinds.Pair (pair.Assign op)) ∷ γ) vs d) Fail
  after_assign n d γ vs _ = Fail

  abbrev pub after_expr : Bool → ℕ → List Symbol → S → Sign → Outcome S
  after_expr n d γ vs (of (kinds.Mark marks.Comma) i a) =
      Next (symbols.Part (expectation.Assign n) d ∷ symbols.Do (act_kinds.Pair pair.Comma) ∷ symbols.Tail (tails.Expression n) d ∷ γ) vs d
  after_expr n d γ vs _ = Fail

  abbrev pub continue : Tail → ℕ → List Symbol → S → Sign → Outcome S
  continue tails.Left d γ vs x = after_left (symbols.Tail tails.Left d) d γ vs x
  continue tails.Update d γ vs x = after_update d γ vs x
  continue (tails.Level v n) d γ vs x = after_level v n d γ vs x
  continue (tails.Short n) d γ vs x = after_short n d γ vs x
  continue (tails.Conditional n) d γ vs x = after_cond n d γ vs x
  continue (tails.Assign n) d γ vs x = after_assign n d γ vs x
  continue (tails.Expression n) d γ vs x = after_expr n d γ vs x

  -- The name of a property.
  abbrev pub at_key : ℕ → List Symbol → S → Sign → Outcome S
  at_key d γ vs (of (kinds.Bracket brackets.SquareOpen) i a) =
      Next (symbols.Part (expectation.Assign false) d ∷ symbols.Take terminals.SquareClose d ∷ symbols.Do (act_kinds.Wrap (wrap.Computed i)) ∷ γ) vs d
  at_key d γ vs (of kind i a) = cond (is_key kind) (Next γ (alg.act (act_kinds.Atom (atom.Key i)) vs) d) Fail
  at_key d γ vs put = Fail

  abbrev pub at_prop : ℕ → List Symbol → S → Sign → Outcome S
  at_prop d γ vs (of (kinds.Name r) i a) = Next (symbols.Loose (loose_kind.Property r i) d ∷ γ) vs d
  at_prop d γ vs x = at_key d (symbols.Stage stages.AfterKey d ∷ γ) vs x

  abbrev pub after_key : ℕ → List Symbol → S → Sign → Outcome S
  after_key d γ vs (of (kinds.Mark marks.Colon) i a) = Next (symbols.Part (expectation.Assign false) d ∷ symbols.Do (act_kinds.Pair pair.Property) ∷ γ) vs d
  after_key d γ vs (of (kinds.Bracket brackets.Open) i a) =
      Next (symbols.Stage (stages.Listed listings.Parameters) (suc d) ∷ symbols.Part expectation.Body (suc d)
      ∷ symbols.Do (act_kinds.Triple triple.Method) ∷ γ) (none vs) (suc d)
  after_key d γ vs _ = Fail

  abbrev pub at_accessor : NameRole → ℕ → ℕ → List Symbol → S → Sign → Outcome S
  at_accessor role.Get i d γ vs x =
      at_key d (symbols.Take terminals.Open (suc d) ∷ symbols.Take terminals.Close (suc d) ∷ symbols.Part expectation.Body (suc d)
      ∷ symbols.Do (act_kinds.Pair (pair.Getter i)) ∷ γ) vs x
  at_accessor role.Set i d γ vs x = at_key d (symbols.Take terminals.Open (suc d) ∷ symbols.Stage (stages.SetterName i) (suc d) ∷ γ) vs x
  at_accessor role.Plain i d γ vs x = Fail

  abbrev pub after_prop : NameRole → ℕ → ℕ → List Symbol → S → Sign → Outcome S
  after_prop r i d γ vs x = cond (ends_key x) (after_key d γ (alg.act (act_kinds.Atom (atom.Key i)) vs) x) (at_accessor r i d γ vs x)

  -- What may go on takes the token.
  abbrev pub go_on : Loose → ℕ → List Symbol → S → Sign → Outcome S
  go_on (loose_kind.Items h) d γ vs x = at_item h d (symbols.Do (act_kinds.Pair pair.And) ∷ symbols.Loose (loose_kind.Items h) d ∷ γ) vs x
  go_on (loose_kind.Else i) d γ vs x = Next (symbols.Part expectation.Statement d ∷ symbols.Do (act_kinds.Triple (triple.IfElse i)) ∷ γ) vs d
  go_on (loose_kind.Finally i) d γ vs x = Next (symbols.Part expectation.Block d ∷ symbols.Do (act_kinds.Triple (triple.Try i)) ∷ γ) vs d
  go_on (loose_kind.Callee i) d γ vs x = after_callee i d γ vs x
  go_on loose_kind.Target d γ vs x = after_left (symbols.Loose loose_kind.Target d) d γ vs x
  go_on (loose_kind.Binding c h i) d γ vs x = Next (symbols.Part (expectation.Assign h) d ∷ symbols.Do (act_kinds.Wrap (wrap.Binding i)) ∷ γ) vs d
  go_on (loose_kind.Property r i) d γ vs x = after_prop r i d γ vs x

  -- It may be left alone, and its work then.
  abbrev pub may_leave : Loose → S → Bool
  may_leave loose_kind.Target vs = alg.target vs
  may_leave (loose_kind.Binding c h i) vs = not c
  may_leave _ vs = true

  abbrev pub leave : Loose → S → S
  leave (loose_kind.Items h) vs = vs
  leave (loose_kind.Else i) vs = alg.act (act_kinds.Pair (pair.If i)) vs
  leave (loose_kind.Finally i) vs = alg.act (act_kinds.Triple (triple.Try i)) (none vs)
  leave (loose_kind.Callee i) vs = alg.act (act_kinds.Pair (pair.New i)) (none vs)
  leave loose_kind.Target vs = vs
  leave (loose_kind.Binding c h i) vs = alg.act (act_kinds.Atom (atom.Binding i)) vs
  leave (loose_kind.Property r i) vs = alg.act (act_kinds.Atom (atom.Shorthand i)) vs

  abbrev pub at_param : ℕ → List Symbol → S → Sign → Outcome S
  at_param d γ vs (of (kinds.Name r) i a) = Next γ (alg.act (act_kinds.Atom (atom.Binding i)) vs) d
  at_param d γ vs _ = Fail

  abbrev pub at_member : Listing → ℕ → List Symbol → S → Sign → Outcome S
  at_member listings.Arguments d γ vs x = at_assign false d γ vs x
  at_member listings.Parameters d γ vs x = at_param d γ vs x
  at_member listings.Properties d γ vs x = at_prop d γ vs x

  abbrev pub on_word : ℕ → ℕ → List Symbol → S → Sign → Outcome S
  on_word dot d γ vs (of kind i a) = cond (is_word kind) (Next γ (alg.act (act_kinds.Wrap (wrap.Member dot i)) vs) d) Fail
  on_word dot d γ vs put = Fail

  abbrev pub after_try : ℕ → ℕ → List Symbol → S → Sign → Outcome S
  after_try j d γ vs (of (kinds.Word words.Catch) i a) = Next (symbols.Stage stages.AfterCatch d ∷ symbols.Loose (loose_kind.Finally j) d ∷ γ) vs d
  after_try j d γ vs (of (kinds.Word words.Finally) i a) =
      Next (symbols.Part expectation.Block d ∷ symbols.Do (act_kinds.Triple (triple.Try j)) ∷ γ) (none vs) d
  after_try j d γ vs _ = Fail

  abbrev pub after_catch : ℕ → List Symbol → S → Sign → Outcome S
  after_catch d γ vs (of (kinds.Bracket brackets.Open) i a) = Next (symbols.Stage stages.CatchName d ∷ γ) vs d
  after_catch d γ vs x = at_block d (symbols.Do (act_kinds.Wrap wrap.Catch) ∷ γ) vs x

  abbrev pub catch_name : ℕ → List Symbol → S → Sign → Outcome S
  catch_name d γ vs (of (kinds.Name r) i a) =
      Next (symbols.Take terminals.Close d ∷ symbols.Part expectation.Block d ∷ symbols.Do (act_kinds.Wrap (wrap.CatchName i)) ∷ γ) vs d
  catch_name d γ vs _ = Fail

  abbrev pub function_name : ℕ → ℕ → List Symbol → S → Sign → Outcome S
  function_name j d γ vs (of (kinds.Name r) i a) =
      Next (symbols.Part expectation.Parameters d ∷ symbols.Part expectation.Body d ∷ symbols.Do (act_kinds.Pair (pair.DeclaredFunction j i)) ∷ γ) vs d
  function_name j d γ vs _ = Fail

  abbrev pub after_function : ℕ → ℕ → List Symbol → S → Sign → Outcome S
  after_function j d γ vs (of (kinds.Name r) i a) =
      Next (symbols.Part expectation.Parameters d ∷ symbols.Part expectation.Body d ∷ symbols.Do (act_kinds.Pair (pair.NamedFunction j i)) ∷ γ) vs d
  after_function j d γ vs x = at_params d (symbols.Part expectation.Body d ∷ symbols.Do (act_kinds.Pair (pair.Function j)) ∷ γ) vs x

  abbrev pub setter_name : ℕ → ℕ → List Symbol → S → Sign → Outcome S
  setter_name j d γ vs (of (kinds.Name r) i a) =
      Next (symbols.Take terminals.Close d ∷ symbols.Part expectation.Body d ∷ symbols.Do (act_kinds.Pair (pair.Setter j i)) ∷ γ) vs d
  setter_name j d γ vs _ = Fail

  abbrev pub more_elements : ℕ → List Symbol → S → Sign → Outcome S
  more_elements d γ vs x =
      cond (fits terminals.SquareClose x) (Next γ vs d)
      (cond (is_comma x) (Next (symbols.Stage stages.Elements d ∷ γ) (alg.act (act_kinds.Pair pair.And) (alg.act (act_kinds.Atom atom.Hole) vs)) d)
      (at_assign false d (symbols.Do (act_kinds.Pair pair.And) ∷ symbols.Stage stages.AfterElement d ∷ γ) vs x))

  abbrev pub at_stage : Stage → ℕ → List Symbol → S → Sign → Outcome S
  at_stage (stages.Word i) d γ vs x = on_word i d γ vs x
  at_stage (stages.Listed q) d γ vs x =
      cond (fits (closing q) x) (Next γ vs d) (at_member q d (symbols.Do (act_kinds.Pair pair.And) ∷ symbols.Stage (stages.Rest q) d ∷ γ) vs x)
  at_stage (stages.Rest q) d γ vs x = cond (fits (closing q) x) (Next γ vs d) (cond (is_comma x) (Next (symbols.Stage (stages.Listed q) d ∷ γ) vs d) Fail)
  at_stage stages.Elements d γ vs x = more_elements d γ vs x
  at_stage stages.AfterElement d γ vs x =
      cond (fits terminals.SquareClose x) (Next γ vs d) (cond (is_comma x) (Next (symbols.Stage stages.Elements d ∷ γ) vs d) Fail)
  at_stage (stages.AfterReturn i) d γ vs x =
      cond (is_end false x) (Next γ (alg.act (act_kinds.Atom (atom.Return i)) vs) d)
      (cond (same_line x) (at_expr false d (symbols.Take (terminals.Semicolon false) d ∷ symbols.Do (act_kinds.Wrap (wrap.Return i)) ∷ γ) vs x) Fail)
  at_stage (stages.AfterTry i) d γ vs x = after_try i d γ vs x
  at_stage stages.AfterCatch d γ vs x = after_catch d γ vs x
  at_stage stages.CatchName d γ vs x = catch_name d γ vs x
  at_stage (stages.MoreBindings c h i) d γ vs x =
      cond (is_end h x) (Next γ (alg.act (act_kinds.Wrap (wrap.Lexical c i)) vs) d)
      (cond (is_comma x) (Next (symbols.Part (expectation.Binding c h) d ∷ symbols.Do (act_kinds.Pair pair.And)
      ∷ symbols.Stage (stages.MoreBindings c h i) d ∷ γ) vs d) Fail)
  at_stage (stages.FunctionName i) d γ vs x = function_name i d γ vs x
  at_stage (stages.AfterFunction i) d γ vs x = after_function i d γ vs x
  at_stage stages.AfterKey d γ vs x = after_key d γ vs x
  at_stage (stages.SetterName i) d γ vs x = setter_name i d γ vs x

  abbrev pub step : List Symbol → S → Sign → Outcome S
  step [] vs x = Fail
  step (symbols.Part q d ∷ γ) vs x = at_part q d γ vs x
  step (symbols.Stage q d ∷ γ) vs x = at_stage q d γ vs x
  step (symbols.Take w d ∷ γ) vs x = cond (fits w x) (Next γ vs d) Fail
  step (symbols.Tail q d ∷ γ) vs x = cond (takes q x) (continue q d γ vs x) (step γ vs x)
  step (symbols.Loose q d ∷ γ) vs x = cond (keeps q x) (go_on q d γ vs x) (cond (may_leave q vs) (step γ (leave q vs) x) Fail)
  step (symbols.Do w ∷ γ) vs x = step γ (alg.act w vs) x
