-- What each token is to the grammar.
use Rattle.std.specs.Prelude.{ℕ, Bool, true, false, List, [], ◌∷◌, codes, bytes_eq, Option, Some, None, unwrap_or, if◌then◌else◌}
use Rattle.es_source.specs.declared.token.TokenKind.{TokenKind}
use Rattle.es_source.specs.declared.token.TokenKind.TheVariants as token
use Rattle.es_tree.specs.declared.expressions.AssignOperator.TheVariants as assign_operator
use Rattle.es_tree.specs.declared.expressions.BinaryOperator.{BinaryOperator}
use Rattle.es_tree.specs.declared.expressions.BinaryOperator.TheVariants as binary_operator
use Rattle.es_tree.specs.declared.expressions.ShortOperator.TheVariants as short_operator
use Rattle.es_tree.specs.declared.expressions.UnaryOperator.{UnaryOperator}
use Rattle.es_tree.specs.declared.expressions.UnaryOperator.TheVariants as unary_operator
use Rattle.script_grammar.specs.declared.kinds.NameRole.TheVariants as role
use Rattle.script_grammar.specs.declared.kinds.Word.TheVariants as words
use Rattle.script_grammar.specs.declared.kinds.Bracket.TheVariants as brackets
use Rattle.script_grammar.specs.declared.kinds.Mark.TheVariants as marks
use Rattle.script_grammar.specs.declared.kinds.Kind.{Kind}
use Rattle.script_grammar.specs.declared.kinds.Kind.TheVariants as kinds
use Rattle.script_grammar.specs.declared.kinds.Level.{Level}
use Rattle.script_grammar.specs.declared.kinds.Level.TheVariants as levels
use Rattle.script_grammar.specs.declared.labels.Pair.{Pair}
use Rattle.script_grammar.specs.declared.labels.Pair.TheVariants as pair

-- The words with a kind of their own: those that are reserved in either mode (ECMA-262, 12.7.2), and the names `get` and `set`.
unfoldable pub kinds_of_words : List (List ℕ × Kind)
kinds_of_words =
    (codes "await", kinds.Word words.Unused) ∷ (codes "break", kinds.Word words.Break) ∷ (codes "case", kinds.Word words.Unused)
    ∷ (codes "catch", kinds.Word words.Catch)
    ∷ (codes "class", kinds.Word words.Unused) ∷ (codes "const", kinds.Word words.Const) ∷ (codes "continue", kinds.Word words.Continue)
    ∷ (codes "debugger", kinds.Word words.Unused)
    ∷ (codes "default", kinds.Word words.Unused) ∷ (codes "delete", kinds.Word words.Delete) ∷ (codes "do", kinds.Word words.Unused)
    ∷ (codes "else", kinds.Word words.Else)
    ∷ (codes "enum", kinds.Word words.Unused) ∷ (codes "export", kinds.Word words.Unused) ∷ (codes "extends", kinds.Word words.Unused)
    ∷ (codes "false", kinds.Word words.False)
    ∷ (codes "finally", kinds.Word words.Finally) ∷ (codes "for", kinds.Word words.For) ∷ (codes "function", kinds.Word words.Function)
    ∷ (codes "if", kinds.Word words.If)
    ∷ (codes "implements", kinds.Word words.Unused) ∷ (codes "import", kinds.Word words.Unused) ∷ (codes "in", kinds.Infix binary_operator.In)
    ∷ (codes "instanceof", kinds.Infix binary_operator.InstanceOf) ∷ (codes "interface", kinds.Word words.Unused) ∷ (codes "let", kinds.Word words.Let)
    ∷ (codes "new", kinds.Word words.New) ∷ (codes "null", kinds.Word words.Null) ∷ (codes "package", kinds.Word words.Unused)
    ∷ (codes "private", kinds.Word words.Unused)
    ∷ (codes "protected", kinds.Word words.Unused) ∷ (codes "public", kinds.Word words.Unused) ∷ (codes "return", kinds.Word words.Return)
    ∷ (codes "static", kinds.Word words.Unused)
    ∷ (codes "super", kinds.Word words.Unused) ∷ (codes "switch", kinds.Word words.Unused) ∷ (codes "this", kinds.Word words.This)
    ∷ (codes "throw", kinds.Word words.Throw)
    ∷ (codes "true", kinds.Word words.True) ∷ (codes "try", kinds.Word words.Try) ∷ (codes "typeof", kinds.Word words.Typeof)
    ∷ (codes "var", kinds.Word words.Unused)
    ∷ (codes "void", kinds.Word words.Void) ∷ (codes "while", kinds.Word words.While) ∷ (codes "with", kinds.Word words.Unused)
    ∷ (codes "yield", kinds.Word words.Unused)
    ∷ (codes "get", kinds.Name role.Get) ∷ (codes "set", kinds.Name role.Set) ∷ []

-- The punctuators (12.8).
unfoldable pub punctuators : List (List ℕ × Kind)
punctuators =
    (codes "{", kinds.Bracket brackets.BraceOpen) ∷ (codes "}", kinds.Bracket brackets.BraceClose) ∷ (codes "(", kinds.Bracket brackets.Open)
    ∷ (codes ")", kinds.Bracket brackets.Close)
    ∷ (codes "[", kinds.Bracket brackets.SquareOpen) ∷ (codes "]", kinds.Bracket brackets.SquareClose)
    ∷ (codes ".", kinds.Mark marks.Dot) ∷ (codes "...", kinds.Mark marks.Spread) ∷ (codes ";", kinds.Mark marks.Semicolon)
    ∷ (codes ",", kinds.Mark marks.Comma)
    ∷ (codes "<", kinds.Infix binary_operator.Less) ∷ (codes ">", kinds.Infix binary_operator.Greater)
    ∷ (codes "<=", kinds.Infix binary_operator.AtMost) ∷ (codes ">=", kinds.Infix binary_operator.AtLeast)
    ∷ (codes "==", kinds.Infix binary_operator.Equal) ∷ (codes "!=", kinds.Infix binary_operator.NotEqual)
    ∷ (codes "===", kinds.Infix binary_operator.StrictlyEqual) ∷ (codes "!==", kinds.Infix binary_operator.NotStrictlyEqual)
    ∷ (codes "+", kinds.Infix binary_operator.Add) ∷ (codes "-", kinds.Infix binary_operator.Subtract)
    ∷ (codes "*", kinds.Infix binary_operator.Multiply) ∷ (codes "%", kinds.Infix binary_operator.Remainder)
    ∷ (codes "++", kinds.Update true) ∷ (codes "--", kinds.Update false) ∷ (codes "!", kinds.Mark marks.Not)
    ∷ (codes "&&", kinds.Short short_operator.And) ∷ (codes "||", kinds.Short short_operator.Or) ∷ (codes "??", kinds.Short short_operator.Coalesce)
    ∷ (codes "?", kinds.Mark marks.Question) ∷ (codes ":", kinds.Mark marks.Colon)
    ∷ (codes "=", kinds.Assign assign_operator.Plain) ∷ (codes "+=", kinds.Assign assign_operator.Add)
    ∷ (codes "-=", kinds.Assign assign_operator.Subtract)
    ∷ (codes "*=", kinds.Assign assign_operator.Multiply) ∷ (codes "%=", kinds.Assign assign_operator.Remainder)
    ∷ (codes "=>", kinds.Mark marks.Arrow) ∷ []

abbrev pub kind_in : List (List ℕ × Kind) → List ℕ → Option Kind
kind_in [] text = None
kind_in (row ∷ rows) text = if bytes_eq row.0 text then Some row.1 else kind_in rows text

abbrev pub kind_of : TokenKind → Kind
kind_of (token.Name units) = unwrap_or (kind_in kinds_of_words units) (kinds.Name role.Plain)
kind_of (token.Number value) = kinds.Number
kind_of (token.Text units strict) = kinds.Text
kind_of (token.Punctuator units) = unwrap_or (kind_in punctuators units) kinds.Unknown

-- Word: any word, also a reserved one.
abbrev pub is_word : Kind → Bool
is_word (kinds.Name r) = true
is_word (kinds.Word word) = true
is_word (kinds.Infix binary_operator.In) = true
is_word (kinds.Infix binary_operator.InstanceOf) = true
is_word _ = false

-- Word | Text | Number
abbrev pub is_key : Kind → Bool
is_key kinds.Text = true
is_key kinds.Number = true
is_key kind = is_word kind

-- "delete" | "void" | "typeof" | "+" | "-" | "!"
abbrev pub prefix_of : Kind → Option UnaryOperator
prefix_of (kinds.Word words.Delete) = Some unary_operator.Delete
prefix_of (kinds.Word words.Void) = Some unary_operator.Void
prefix_of (kinds.Word words.Typeof) = Some unary_operator.Typeof
prefix_of (kinds.Infix binary_operator.Add) = Some unary_operator.Plus
prefix_of (kinds.Infix binary_operator.Subtract) = Some unary_operator.Minus
prefix_of (kinds.Mark marks.Not) = Some unary_operator.Not
prefix_of _ = None

abbrev pub level_of : BinaryOperator → Level
level_of binary_operator.Equal = levels.Equal
level_of binary_operator.NotEqual = levels.Equal
level_of binary_operator.StrictlyEqual = levels.Equal
level_of binary_operator.NotStrictlyEqual = levels.Equal
level_of binary_operator.Less = levels.Relation
level_of binary_operator.Greater = levels.Relation
level_of binary_operator.AtMost = levels.Relation
level_of binary_operator.AtLeast = levels.Relation
level_of binary_operator.InstanceOf = levels.Relation
level_of binary_operator.In = levels.Relation
level_of binary_operator.Add = levels.Add
level_of binary_operator.Subtract = levels.Add
level_of binary_operator.Multiply = levels.Multiply
level_of binary_operator.Remainder = levels.Multiply

-- An operator between two operands that groups from the left: its level, and the label of what it makes.
abbrev pub infix_of : Kind → Option (Level × Pair)
infix_of (kinds.Short short_operator.Or) = Some (levels.Or, pair.Short short_operator.Or)
infix_of (kinds.Short short_operator.And) = Some (levels.And, pair.Short short_operator.And)
infix_of (kinds.Infix op) = Some (level_of op, pair.Binary op)
infix_of _ = None

abbrev pub is_in : Kind → Bool
is_in (kinds.Infix binary_operator.In) = true
is_in _ = false
