-- The productions, one rule each, in the order of the grammar. Above each rule stands its production.
use Rattle.std.specs.Prelude.{suc, ◌≡◌, ◌&&◌, ℕ, Bool, true, false, Some, List, [], ◌∷◌, ◌++◌}
use Rattle.es_tree.specs.declared.expressions.AssignOperator.{AssignOperator}
use Rattle.es_tree.specs.declared.expressions.AssignOperator.TheVariants as assign_operator
use Rattle.es_tree.specs.declared.expressions.ShortOperator.TheVariants as short_operator
use Rattle.es_tree.specs.declared.expressions.UnaryOperator.{UnaryOperator}
use Rattle.script_grammar.specs.declared.sign.Sign.{Sign}
use Rattle.script_grammar.specs.declared.sign.Sign.TheVariants.{Token as of, Inserted as put}
use Rattle.script_grammar.specs.declared.kinds.NameRole.{NameRole}
use Rattle.script_grammar.specs.declared.kinds.NameRole.TheVariants as role
use Rattle.script_grammar.specs.declared.kinds.Word.{Word}
use Rattle.script_grammar.specs.declared.kinds.Word.TheVariants as words
use Rattle.script_grammar.specs.declared.kinds.Bracket.{Bracket}
use Rattle.script_grammar.specs.declared.kinds.Bracket.TheVariants as brackets
use Rattle.script_grammar.specs.declared.kinds.Mark.{Mark}
use Rattle.script_grammar.specs.declared.kinds.Mark.TheVariants as marks
use Rattle.script_grammar.specs.declared.kinds.Kind.{Kind}
use Rattle.script_grammar.specs.declared.kinds.Kind.TheVariants as kinds
use Rattle.script_grammar.specs.declared.kinds.Level.{Level}
use Rattle.script_grammar.specs.declared.kinds.Level.TheVariants as levels
use Rattle.script_grammar.specs.declared.labels.Atom.TheVariants as atom
use Rattle.script_grammar.specs.declared.labels.Wrap.TheVariants as wrap
use Rattle.script_grammar.specs.declared.labels.Pair.{Pair}
use Rattle.script_grammar.specs.declared.labels.Pair.TheVariants as pair
use Rattle.script_grammar.specs.declared.labels.Triple.TheVariants as triple
use Rattle.script_grammar.specs.declared.labels.Quad.TheVariants as quad
use Rattle.script_grammar.specs.Tree.{ParseTree, is_target}
use Rattle.script_grammar.specs.Tree.{ParseTree as parse_tree}
use Rattle.script_grammar.specs.Kinds.{is_word, is_key, prefix_of, infix_of, is_in}

-- A token as a script has it, with its nesting: how many productions Statement, Assign, Unary with a prefix operator, New and functions of all kinds
-- contain it. A method or an accessor begins at its `(`.
pub data Read : Type 0 where
  read : Sign → ℕ → Read

-- Tokens, by what they are, number and line break before them, and nesting.
abbrev pub word : Word → ℕ → Bool → ℕ → Read
word x i a d = read (of (kinds.Word x) i a) d

abbrev pub bracket : Bracket → ℕ → Bool → ℕ → Read
bracket x i a d = read (of (kinds.Bracket x) i a) d

abbrev pub mark : Mark → ℕ → Bool → ℕ → Read
mark x i a d = read (of (kinds.Mark x) i a) d

-- The parts. Where `plain` is true, no operator `in` stands outside of brackets: so in the first part of a `for`.
pub data Nonterminal : Type 0 where
  -- of a script or a function's body, where functions may be declared, else of a block
  items : (of_body : Bool) → Nonterminal
  item : (of_body : Bool) → Nonterminal
  -- of the head of a `for`, or not
  lexical : (of_head : Bool) → Nonterminal
  binds : (constant : Bool) → (of_head : Bool) → Nonterminal
  bind : (constant : Bool) → (of_head : Bool) → Nonterminal
  params : Nonterminal
  names : Nonterminal
  param : Nonterminal
  body : Nonterminal
  block : Nonterminal
  statement : Nonterminal
  first : Nonterminal
  maybe : (plain : Bool) → Nonterminal
  catch : Nonterminal
  expr : (plain : Bool) → Nonterminal
  assign : (plain : Bool) → Nonterminal
  cond : (plain : Bool) → Nonterminal
  short : (plain : Bool) → Nonterminal
  coalesce : (plain : Bool) → Nonterminal
  level : Level → (plain : Bool) → Nonterminal
  unary : Nonterminal
  left : Nonterminal
  new : Nonterminal
  callee : Nonterminal
  args : Nonterminal
  arguments : Nonterminal
  primary : Nonterminal
  elements : Nonterminal
  props : Nonterminal
  prop : Nonterminal
  key : Nonterminal

-- The tokens do not begin with `else`.
abbrev pub NoElse : List Read → Type 0
NoElse (read (of (kinds.Word words.Else) i a) n ∷ rest) = ⊥
NoElse _ = Unit {0}

-- Nor with `finally`.
abbrev pub NoFinally : List Read → Type 0
NoFinally (read (of (kinds.Word words.Finally) i a) n ∷ rest) = ⊥
NoFinally _ = Unit {0}

-- They begin with none of `.`, `[` and `(`.
abbrev pub NoMore : List Read → Type 0
NoMore (read (of (kinds.Mark marks.Dot) i a) n ∷ rest) = ⊥
NoMore (read (of (kinds.Bracket brackets.SquareOpen) i a) n ∷ rest) = ⊥
NoMore (read (of (kinds.Bracket brackets.Open) i a) n ∷ rest) = ⊥
NoMore _ = Unit {0}

-- They begin with neither `{` nor `function`.
abbrev pub NoBraceOrFunction : List Read → Type 0
NoBraceOrFunction (read (of (kinds.Bracket brackets.BraceOpen) i a) n ∷ rest) = ⊥
NoBraceOrFunction (read (of (kinds.Word words.Function) i a) n ∷ rest) = ⊥
NoBraceOrFunction _ = Unit {0}

-- No line break stands before the first of them.
abbrev pub SameLine : List Read → Type 0
SameLine (read (of kind i true) n ∷ rest) = ⊥
SameLine _ = Unit {0}

-- What ends a statement or a declaration: a `;` of the file, or one that was put in. The two of the head of a `for` are of the file.
abbrev pub is_end : (of_head : Bool) → Sign → Bool
is_end h (of (kinds.Mark marks.Semicolon) i a) = true
is_end false put = true
is_end _ _ = false

-- The operands of a level.
abbrev pub operand : Level → Bool → Nonterminal
operand levels.Or n = level levels.And n
operand levels.And n = level levels.Equal n
operand levels.Equal n = level levels.Relation n
operand levels.Relation n = level levels.Add n
operand levels.Add n = level levels.Multiply n
operand levels.Multiply n = unary

abbrev pub nothing : ParseTree
nothing = parse_tree.Atom atom.Nothing

-- `Spells p d e ts rest`: the tokens ts are a part p with the tree e, and after it rest; d of the productions that count for nesting contain the part.
pub data Spells : Nonterminal → ℕ → ParseTree → List Read → List Read → Type 0 where
  -- Script = Item*, and "(Lexical | Statement)*" of a Block
  items-none : {h : Bool} {d : ℕ} {ts : List Read} → Spells (items h) d nothing ts ts
  items-more : {h : Bool} {d : ℕ} {xs x : ParseTree} {ts ms rs : List Read}
      → Spells (items h) d xs ts ms
      → Spells (item h) d x ms rs
      → Spells (items h) d (parse_tree.Pair pair.And xs x) ts rs
  -- Item = FunDecl | Lexical | Statement
  -- FunDecl = "function" Name Params Body
  item-function : {d i j : ℕ} {r : NameRole} {ps xs : ParseTree} {ts ms rs : List Read} {a c : Bool}
      → Spells params (suc d) ps ts ms
      → Spells body (suc d) xs ms rs
      → Spells (item true) d (parse_tree.Pair (pair.DeclaredFunction i j) ps xs) (word words.Function i a (suc d)
      ∷ read (of (kinds.Name r) j c) (suc d) ∷ ts) rs
  item-lexical : {h : Bool} {d : ℕ} {x : ParseTree} {ts rs : List Read} → Spells (lexical false) d x ts rs → Spells (item h) d x ts rs
  item-statement : {h : Bool} {d : ℕ} {x : ParseTree} {ts rs : List Read} → Spells statement d x ts rs → Spells (item h) d x ts rs
  -- Params = "(" [ Name ("," Name)* [","] ] ")"
  params-none : {d i j : ℕ} {rs : List Read} {a c : Bool} → Spells params d nothing (bracket brackets.Open i a d ∷ bracket brackets.Close j c d ∷ rs) rs
  params-some : {d i j : ℕ} {xs : ParseTree} {ts rs : List Read} {a c : Bool}
      → Spells names d xs ts (bracket brackets.Close j c d ∷ rs)
      → Spells params d xs (bracket brackets.Open i a d ∷ ts) rs
  params-comma : {d i j l : ℕ} {xs : ParseTree} {ts rs : List Read} {a c f : Bool}
      → Spells names d xs ts (mark marks.Comma l f d ∷ bracket brackets.Close j c d ∷ rs)
      → Spells params d xs (bracket brackets.Open i a d ∷ ts) rs
  names-one : {d : ℕ} {x : ParseTree} {ts rs : List Read} → Spells param d x ts rs → Spells names d (parse_tree.Pair pair.And nothing x) ts rs
  names-more : {d i : ℕ} {xs x : ParseTree} {ts ms rs : List Read} {a : Bool}
      → Spells names d xs ts (mark marks.Comma i a d ∷ ms)
      → Spells param d x ms rs
      → Spells names d (parse_tree.Pair pair.And xs x) ts rs
  param-name : {d i : ℕ} {r : NameRole} {rs : List Read} {a : Bool}
      → Spells param d (parse_tree.Atom (atom.Binding i)) (read (of (kinds.Name r) i a) d ∷ rs) rs
  -- Body = "{" Item* "}"
  body-items : {d i j : ℕ} {xs : ParseTree} {ts rs : List Read} {a c : Bool}
      → Spells (items true) d xs ts (bracket brackets.BraceClose j c d ∷ rs)
      → Spells body d xs (bracket brackets.BraceOpen i a d ∷ ts) rs
  -- Lexical = "let" Bind ("," Bind)* ";" | "const" Init ("," Init)* ";"
  lexical-let : {h : Bool} {d i : ℕ} {xs : ParseTree} {ts rs : List Read} {a : Bool} {x : Sign}
      → Spells (binds false h) d xs ts (read x d ∷ rs)
      → is_end h x ≡ true
      → Spells (lexical h) d (parse_tree.Wrap (wrap.Lexical false i) xs) (word words.Let i a d ∷ ts) rs
  lexical-const : {h : Bool} {d i : ℕ} {xs : ParseTree} {ts rs : List Read} {a : Bool} {x : Sign}
      → Spells (binds true h) d xs ts (read x d ∷ rs)
      → is_end h x ≡ true
      → Spells (lexical h) d (parse_tree.Wrap (wrap.Lexical true i) xs) (word words.Const i a d ∷ ts) rs
  binds-one : {c h : Bool} {d : ℕ} {x : ParseTree} {ts rs : List Read}
      → Spells (bind c h) d x ts rs
      → Spells (binds c h) d (parse_tree.Pair pair.And nothing x) ts rs
  binds-more : {c h : Bool} {d i : ℕ} {xs x : ParseTree} {ts ms rs : List Read} {a : Bool}
      → Spells (binds c h) d xs ts (mark marks.Comma i a d ∷ ms)
      → Spells (bind c h) d x ms rs
      → Spells (binds c h) d (parse_tree.Pair pair.And xs x) ts rs
  -- Bind = Name [ "=" Assign ]
  -- Init = Name "=" Assign
  bind-name : {h : Bool} {d i : ℕ} {r : NameRole} {rs : List Read} {a : Bool}
      → Spells (bind false h) d (parse_tree.Atom (atom.Binding i)) (read (of (kinds.Name r) i a) d ∷ rs) rs
  bind-value : {c h : Bool} {d i j : ℕ} {r : NameRole} {e : ParseTree} {ts rs : List Read} {a f : Bool}
      → Spells (assign h) d e ts rs
      → Spells (bind c h) d (parse_tree.Wrap (wrap.Binding i) e) (read (of (kinds.Name r) i a) d
      ∷ read (of (kinds.Assign assign_operator.Plain) j f) d ∷ ts) rs
  -- Block = "{" (Lexical | Statement)* "}"
  block-items : {d i j : ℕ} {xs : ParseTree} {ts rs : List Read} {a c : Bool}
      → Spells (items false) d xs ts (bracket brackets.BraceClose j c d ∷ rs)
      → Spells block d (parse_tree.Wrap (wrap.Block i) xs) (bracket brackets.BraceOpen i a d ∷ ts) rs
  -- Statement = Block
  statement-block : {d : ℕ} {x : ParseTree} {ts rs : List Read} → Spells block (suc d) x ts rs → Spells statement d x ts rs
  -- ";" of the file itself
  empty : {d i : ℕ} {rs : List Read} {a : Bool} → Spells statement d (parse_tree.Atom (atom.Empty i)) (mark marks.Semicolon i a (suc d) ∷ rs) rs
  -- Expr ";" (Expr not beginning with "{" or "function")
  evaluate : {d : ℕ} {e : ParseTree} {ts rs : List Read} {x : Sign}
      → NoBraceOrFunction ts
      → Spells (expr false) (suc d) e ts (read x (suc d) ∷ rs)
      → is_end false x ≡ true
      → Spells statement d (parse_tree.Wrap wrap.Evaluate e) ts rs
  -- "if" "(" Expr ")" Statement, and no "else" after it
  if : {d i j l : ℕ} {e x : ParseTree} {ts ms rs : List Read} {a c f : Bool}
      → Spells (expr false) (suc d) e ts (bracket brackets.Close l f (suc d) ∷ ms)
      → Spells statement (suc d) x ms rs
      → NoElse rs
      → Spells statement d (parse_tree.Pair (pair.If i) e x) (word words.If i a (suc d) ∷ bracket brackets.Open j c (suc d) ∷ ts) rs
  -- "if" "(" Expr ")" Statement "else" Statement
  if-else : {d i j l o : ℕ} {e x y : ParseTree} {ts ms us rs : List Read} {a c f g : Bool}
      → Spells (expr false) (suc d) e ts (bracket brackets.Close l f (suc d) ∷ ms)
      → Spells statement (suc d) x ms (word words.Else o g (suc d) ∷ us)
      → Spells statement (suc d) y us rs
      → Spells statement d (parse_tree.Triple (triple.IfElse i) e x y) (word words.If i a (suc d) ∷ bracket brackets.Open j c (suc d) ∷ ts) rs
  -- "while" "(" Expr ")" Statement
  while : {d i j l : ℕ} {e x : ParseTree} {ts ms rs : List Read} {a c f : Bool}
      → Spells (expr false) (suc d) e ts (bracket brackets.Close l f (suc d) ∷ ms)
      → Spells statement (suc d) x ms rs
      → Spells statement d (parse_tree.Pair (pair.While i) e x) (word words.While i a (suc d) ∷ bracket brackets.Open j c (suc d) ∷ ts) rs
  -- "for" "(" ( Lexical | [Expr] ";" ) [Expr] ";" [Expr] ")" Statement
  for : {d i j l o : ℕ} {f e g x : ParseTree} {ts ms us qs rs : List Read} {a c p q : Bool}
      → Spells first (suc d) f ts ms
      → Spells (maybe false) (suc d) e ms (mark marks.Semicolon l p (suc d) ∷ us)
      → Spells (maybe false) (suc d) g us (bracket brackets.Close o q (suc d) ∷ qs)
      → Spells statement (suc d) x qs rs
      → Spells statement d (parse_tree.Quad (quad.For i) f e g x) (word words.For i a (suc d) ∷ bracket brackets.Open j c (suc d) ∷ ts) rs
  -- the first part of a `for`: Lexical | [Expr] ";"
  first-lexical : {d : ℕ} {x : ParseTree} {ts rs : List Read} → Spells (lexical true) d x ts rs → Spells first d x ts rs
  first-expr : {d i : ℕ} {e : ParseTree} {ts rs : List Read} {a : Bool}
      → Spells (maybe true) d e ts (mark marks.Semicolon i a d ∷ rs)
      → Spells first d e ts rs
  -- [Expr]
  maybe-none : {n : Bool} {d : ℕ} {ts : List Read} → Spells (maybe n) d nothing ts ts
  maybe-some : {n : Bool} {d : ℕ} {e : ParseTree} {ts rs : List Read} → Spells (expr n) d e ts rs → Spells (maybe n) d e ts rs
  -- "break" ";" | "continue" ";" | "return" ";"
  break : {d i : ℕ} {rs : List Read} {a : Bool} {x : Sign}
      → is_end false x ≡ true
      → Spells statement d (parse_tree.Atom (atom.Break i)) (word words.Break i a (suc d) ∷ read x (suc d) ∷ rs) rs
  continue : {d i : ℕ} {rs : List Read} {a : Bool} {x : Sign}
      → is_end false x ≡ true
      → Spells statement d (parse_tree.Atom (atom.Continue i)) (word words.Continue i a (suc d) ∷ read x (suc d) ∷ rs) rs
  return : {d i : ℕ} {rs : List Read} {a : Bool} {x : Sign}
      → is_end false x ≡ true
      → Spells statement d (parse_tree.Atom (atom.Return i)) (word words.Return i a (suc d) ∷ read x (suc d) ∷ rs) rs
  -- "return" Expr ";" | "throw" Expr ";", with no line break after the word
  return-value : {d i : ℕ} {e : ParseTree} {ts rs : List Read} {a : Bool} {x : Sign}
      → SameLine ts
      → Spells (expr false) (suc d) e ts (read x (suc d) ∷ rs)
      → is_end false x ≡ true
      → Spells statement d (parse_tree.Wrap (wrap.Return i) e) (word words.Return i a (suc d) ∷ ts) rs
  throw : {d i : ℕ} {e : ParseTree} {ts rs : List Read} {a : Bool} {x : Sign}
      → SameLine ts
      → Spells (expr false) (suc d) e ts (read x (suc d) ∷ rs)
      → is_end false x ≡ true
      → Spells statement d (parse_tree.Wrap (wrap.Throw i) e) (word words.Throw i a (suc d) ∷ ts) rs
  -- "try" Block ( Catch [ "finally" Block ] | "finally" Block ); no "finally" follows where the Catch has none, since nothing else begins with it
  try-catch : {d i : ℕ} {x y : ParseTree} {ts ms rs : List Read} {a : Bool}
      → Spells block (suc d) x ts ms
      → Spells catch (suc d) y ms rs
      → NoFinally rs
      → Spells statement d (parse_tree.Triple (triple.Try i) x y nothing) (word words.Try i a (suc d) ∷ ts) rs
  try-both : {d i j : ℕ} {x y z : ParseTree} {ts ms us rs : List Read} {a c : Bool}
      → Spells block (suc d) x ts ms
      → Spells catch (suc d) y ms (word words.Finally j c (suc d) ∷ us)
      → Spells block (suc d) z us rs
      → Spells statement d (parse_tree.Triple (triple.Try i) x y z) (word words.Try i a (suc d) ∷ ts) rs
  try-finally : {d i j : ℕ} {x z : ParseTree} {ts us rs : List Read} {a c : Bool}
      → Spells block (suc d) x ts (word words.Finally j c (suc d) ∷ us)
      → Spells block (suc d) z us rs
      → Spells statement d (parse_tree.Triple (triple.Try i) x nothing z) (word words.Try i a (suc d) ∷ ts) rs
  -- Catch = "catch" [ "(" Name ")" ] Block
  catch-block : {d i : ℕ} {x : ParseTree} {ts rs : List Read} {a : Bool}
      → Spells block d x ts rs
      → Spells catch d (parse_tree.Wrap wrap.Catch x) (word words.Catch i a d ∷ ts) rs
  catch-name : {d i j l o : ℕ} {r : NameRole} {x : ParseTree} {ts rs : List Read} {a c f g : Bool}
      → Spells block d x ts rs
      → Spells catch d (parse_tree.Wrap (wrap.CatchName l) x) (word words.Catch i a d ∷ bracket brackets.Open j c d
      ∷ read (of (kinds.Name r) l f) d ∷ bracket brackets.Close o g d ∷ ts) rs
  -- Expr = Assign ("," Assign)*
  expr-one : {n : Bool} {d : ℕ} {e : ParseTree} {ts rs : List Read} → Spells (assign n) d e ts rs → Spells (expr n) d e ts rs
  expr-more : {n : Bool} {d i : ℕ} {l e : ParseTree} {ts ms rs : List Read} {a : Bool}
      → Spells (expr n) d l ts (mark marks.Comma i a d ∷ ms)
      → Spells (assign n) d e ms rs
      → Spells (expr n) d (parse_tree.Pair pair.Comma l e) ts rs
  -- Assign = Cond | Target ( "=" | "+=" | "-=" | "*=" | "%=" ) Assign
  assign-cond : {n : Bool} {d : ℕ} {e : ParseTree} {ts rs : List Read} → Spells (cond n) (suc d) e ts rs → Spells (assign n) d e ts rs
  assign-to : {n : Bool} {d i : ℕ} {op : AssignOperator} {l e : ParseTree} {ts ms rs : List Read} {a : Bool}
      → Spells left (suc d) l ts (read (of (kinds.Assign op) i a) (suc d) ∷ ms)
      → is_target l ≡ true
      → Spells (assign n) (suc d) e ms rs
      → Spells (assign n) d (parse_tree.Pair (pair.Assign op) l e) ts rs
  -- Cond = Short [ "?" Assign ":" Assign ]
  cond-short : {n : Bool} {d : ℕ} {e : ParseTree} {ts rs : List Read} → Spells (short n) d e ts rs → Spells (cond n) d e ts rs
  cond-choice : {n : Bool} {d i j : ℕ} {c x y : ParseTree} {ts ms us rs : List Read} {a f : Bool}
      → Spells (short n) d c ts (mark marks.Question i a d ∷ ms)
      → Spells (assign n) d x ms (mark marks.Colon j f d ∷ us)
      → Spells (assign n) d y us rs
      → Spells (cond n) d (parse_tree.Triple triple.Conditional c x y) ts rs
  -- Short = Or | Equal ("??" Equal)+
  short-or : {n : Bool} {d : ℕ} {e : ParseTree} {ts rs : List Read} → Spells (level levels.Or n) d e ts rs → Spells (short n) d e ts rs
  short-coalesce : {n : Bool} {d : ℕ} {e : ParseTree} {ts rs : List Read} → Spells (coalesce n) d e ts rs → Spells (short n) d e ts rs
  coalesce-two : {n : Bool} {d i : ℕ} {l e : ParseTree} {ts ms rs : List Read} {a : Bool}
      → Spells (level levels.Equal n) d l ts (read (of (kinds.Short short_operator.Coalesce) i a) d ∷ ms)
      → Spells (level levels.Equal n) d e ms rs
      → Spells (coalesce n) d (parse_tree.Pair (pair.Short short_operator.Coalesce) l e) ts rs
  coalesce-more : {n : Bool} {d i : ℕ} {l e : ParseTree} {ts ms rs : List Read} {a : Bool}
      → Spells (coalesce n) d l ts (read (of (kinds.Short short_operator.Coalesce) i a) d ∷ ms)
      → Spells (level levels.Equal n) d e ms rs
      → Spells (coalesce n) d (parse_tree.Pair (pair.Short short_operator.Coalesce) l e) ts rs
  -- Or = And ("||" And)*
  -- And = Equal ("&&" Equal)*
  -- Equal = Rel (("==" | "!=" | "===" | "!==") Rel)*
  -- Rel = Add (("<" | ">" | "<=" | ">=" | "instanceof" | "in") Add)*
  -- Add = Mul (("+" | "-") Mul)*
  -- Mul = Unary (("*" | "%") Unary)*
  level-one : {v : Level} {n : Bool} {d : ℕ} {e : ParseTree} {ts rs : List Read} → Spells (operand v n) d e ts rs → Spells (level v n) d e ts rs
  level-more : {v : Level} {n : Bool} {d i : ℕ} {kind : Kind} {f : Pair} {l e : ParseTree} {ts ms rs : List Read} {a : Bool}
      → Spells (level v n) d l ts (read (of kind i a) d ∷ ms)
      → infix_of kind ≡ Some (v, f)
      → (n && is_in kind) ≡ false
      → Spells (operand v n) d e ms rs
      → Spells (level v n) d (parse_tree.Pair f l e) ts rs
  -- Unary = ("delete" | "void" | "typeof" | "+" | "-" | "!") Unary
  unary-prefix : {d i : ℕ} {kind : Kind} {op : UnaryOperator} {e : ParseTree} {ts rs : List Read} {a : Bool}
      → prefix_of kind ≡ Some op
      → Spells unary (suc d) e ts rs
      → Spells unary d (parse_tree.Wrap (wrap.Unary op i) e) (read (of kind i a) (suc d) ∷ ts) rs
  -- ("++" | "--") Target
  unary-before : {d i : ℕ} {up a : Bool} {l : ParseTree} {ts rs : List Read}
      → Spells left (suc d) l ts rs
      → is_target l ≡ true
      → Spells unary d (parse_tree.Wrap (wrap.Update up true i) l) (read (of (kinds.Update up) i a) (suc d) ∷ ts) rs
  -- Target ("++" | "--"), with no line break between
  unary-after : {d i : ℕ} {up : Bool} {l : ParseTree} {ts rs : List Read}
      → Spells left d l ts (read (of (kinds.Update up) i false) d ∷ rs)
      → is_target l ≡ true
      → Spells unary d (parse_tree.Wrap (wrap.Update up false i) l) ts rs
  -- Left
  unary-left : {d : ℕ} {e : ParseTree} {ts rs : List Read} → Spells left d e ts rs → Spells unary d e ts rs
  -- Left = Primary | New | Left "." Word | Left "[" Expr "]" | Left Args; Target = a Left that is a Name or ends with "." Word or "[" Expr "]"
  left-primary : {d : ℕ} {e : ParseTree} {ts rs : List Read} → Spells primary d e ts rs → Spells left d e ts rs
  left-new : {d : ℕ} {e : ParseTree} {ts rs : List Read} → Spells new d e ts rs → Spells left d e ts rs
  left-member : {d i j : ℕ} {kind : Kind} {l : ParseTree} {ts rs : List Read} {a c : Bool}
      → Spells left d l ts (mark marks.Dot i a d ∷ read (of kind j c) d ∷ rs)
      → is_word kind ≡ true
      → Spells left d (parse_tree.Wrap (wrap.Member i j) l) ts rs
  left-index : {d i j : ℕ} {l e : ParseTree} {ts ms rs : List Read} {a c : Bool}
      → Spells left d l ts (bracket brackets.SquareOpen i a d ∷ ms)
      → Spells (expr false) d e ms (bracket brackets.SquareClose j c d ∷ rs)
      → Spells left d (parse_tree.Pair (pair.Index i) l e) ts rs
  left-call : {d : ℕ} {l xs : ParseTree} {ts ms rs : List Read}
      → Spells left d l ts ms
      → Spells args d xs ms rs
      → Spells left d (parse_tree.Pair pair.Call l xs) ts rs
  -- New = "new" Callee [Args]: the Callee takes every "." and "[" that continues it, and the "new" the arguments directly behind
  new-bare : {d i : ℕ} {l : ParseTree} {ts rs : List Read} {a : Bool}
      → Spells callee (suc d) l ts rs
      → NoMore rs
      → Spells new d (parse_tree.Pair (pair.New i) l nothing) (word words.New i a (suc d) ∷ ts) rs
  new-args : {d i : ℕ} {l xs : ParseTree} {ts ms rs : List Read} {a : Bool}
      → Spells callee (suc d) l ts ms
      → Spells args (suc d) xs ms rs
      → Spells new d (parse_tree.Pair (pair.New i) l xs) (word words.New i a (suc d) ∷ ts) rs
  -- Callee = Primary | New | Callee "." Word | Callee "[" Expr "]"
  callee-primary : {d : ℕ} {e : ParseTree} {ts rs : List Read} → Spells primary d e ts rs → Spells callee d e ts rs
  callee-new : {d : ℕ} {e : ParseTree} {ts rs : List Read} → Spells new d e ts rs → Spells callee d e ts rs
  callee-member : {d i j : ℕ} {kind : Kind} {l : ParseTree} {ts rs : List Read} {a c : Bool}
      → Spells callee d l ts (mark marks.Dot i a d ∷ read (of kind j c) d ∷ rs)
      → is_word kind ≡ true
      → Spells callee d (parse_tree.Wrap (wrap.Member i j) l) ts rs
  callee-index : {d i j : ℕ} {l e : ParseTree} {ts ms rs : List Read} {a c : Bool}
      → Spells callee d l ts (bracket brackets.SquareOpen i a d ∷ ms)
      → Spells (expr false) d e ms (bracket brackets.SquareClose j c d ∷ rs)
      → Spells callee d (parse_tree.Pair (pair.Index i) l e) ts rs
  -- Args = "(" [ Assign ("," Assign)* [","] ] ")"
  args-none : {d i j : ℕ} {rs : List Read} {a c : Bool} → Spells args d nothing (bracket brackets.Open i a d ∷ bracket brackets.Close j c d ∷ rs) rs
  args-some : {d i j : ℕ} {xs : ParseTree} {ts rs : List Read} {a c : Bool}
      → Spells arguments d xs ts (bracket brackets.Close j c d ∷ rs)
      → Spells args d xs (bracket brackets.Open i a d ∷ ts) rs
  args-comma : {d i j l : ℕ} {xs : ParseTree} {ts rs : List Read} {a c f : Bool}
      → Spells arguments d xs ts (mark marks.Comma l f d ∷ bracket brackets.Close j c d ∷ rs)
      → Spells args d xs (bracket brackets.Open i a d ∷ ts) rs
  arguments-one : {d : ℕ} {e : ParseTree} {ts rs : List Read}
      → Spells (assign false) d e ts rs
      → Spells arguments d (parse_tree.Pair pair.And nothing e) ts rs
  arguments-more : {d i : ℕ} {xs e : ParseTree} {ts ms rs : List Read} {a : Bool}
      → Spells arguments d xs ts (mark marks.Comma i a d ∷ ms)
      → Spells (assign false) d e ms rs
      → Spells arguments d (parse_tree.Pair pair.And xs e) ts rs
  -- Primary = "this" | Name | Number | Text | "null" | "true" | "false"
  this : {d i : ℕ} {rs : List Read} {a : Bool} → Spells primary d (parse_tree.Atom (atom.This i)) (word words.This i a d ∷ rs) rs
  name : {d i : ℕ} {r : NameRole} {rs : List Read} {a : Bool} → Spells primary d (parse_tree.Atom (atom.Name i)) (read (of (kinds.Name r) i a) d ∷ rs) rs
  number : {d i : ℕ} {rs : List Read} {a : Bool} → Spells primary d (parse_tree.Atom (atom.Number i)) (read (of kinds.Number i a) d ∷ rs) rs
  text : {d i : ℕ} {rs : List Read} {a : Bool} → Spells primary d (parse_tree.Atom (atom.Text i)) (read (of kinds.Text i a) d ∷ rs) rs
  null : {d i : ℕ} {rs : List Read} {a : Bool} → Spells primary d (parse_tree.Atom (atom.Null i)) (word words.Null i a d ∷ rs) rs
  truth : {d i : ℕ} {rs : List Read} {a : Bool} → Spells primary d (parse_tree.Atom (atom.Bool true i)) (word words.True i a d ∷ rs) rs
  falsity : {d i : ℕ} {rs : List Read} {a : Bool} → Spells primary d (parse_tree.Atom (atom.Bool false i)) (word words.False i a d ∷ rs) rs
  -- "(" Expr ")"
  parenthesis : {d i j : ℕ} {e : ParseTree} {ts rs : List Read} {a c : Bool}
      → Spells (expr false) d e ts (bracket brackets.Close j c d ∷ rs)
      → Spells primary d (parse_tree.Wrap (wrap.Parenthesis i) e) (bracket brackets.Open i a d ∷ ts) rs
  -- "[" Elements "]"
  array : {d i j : ℕ} {xs : ParseTree} {ts rs : List Read} {a c : Bool}
      → Spells elements d xs ts (bracket brackets.SquareClose j c d ∷ rs)
      → Spells primary d (parse_tree.Wrap (wrap.Array i) xs) (bracket brackets.SquareOpen i a d ∷ ts) rs
  array-last : {d i j : ℕ} {xs e : ParseTree} {ts ms rs : List Read} {a c : Bool}
      → Spells elements d xs ts ms
      → Spells (assign false) d e ms (bracket brackets.SquareClose j c d ∷ rs)
      → Spells primary d (parse_tree.Wrap (wrap.Array i) (parse_tree.Pair pair.And xs e)) (bracket brackets.SquareOpen i a d ∷ ts) rs
  -- "{" [ Prop ("," Prop)* [","] ] "}"
  object-none : {d i j : ℕ} {rs : List Read} {a c : Bool}
      → Spells primary d (parse_tree.Wrap (wrap.Object i) nothing) (bracket brackets.BraceOpen i a d ∷ bracket brackets.BraceClose j c d ∷ rs) rs
  object-some : {d i j : ℕ} {xs : ParseTree} {ts rs : List Read} {a c : Bool}
      → Spells props d xs ts (bracket brackets.BraceClose j c d ∷ rs)
      → Spells primary d (parse_tree.Wrap (wrap.Object i) xs) (bracket brackets.BraceOpen i a d ∷ ts) rs
  object-comma : {d i j l : ℕ} {xs : ParseTree} {ts rs : List Read} {a c f : Bool}
      → Spells props d xs ts (mark marks.Comma l f d ∷ bracket brackets.BraceClose j c d ∷ rs)
      → Spells primary d (parse_tree.Wrap (wrap.Object i) xs) (bracket brackets.BraceOpen i a d ∷ ts) rs
  -- "function" [Name] Params Body
  function : {d i : ℕ} {ps xs : ParseTree} {ts ms rs : List Read} {a : Bool}
      → Spells params (suc d) ps ts ms
      → Spells body (suc d) xs ms rs
      → Spells primary d (parse_tree.Pair (pair.Function i) ps xs) (word words.Function i a (suc d) ∷ ts) rs
  function-name : {d i j : ℕ} {r : NameRole} {ps xs : ParseTree} {ts ms rs : List Read} {a c : Bool}
      → Spells params (suc d) ps ts ms
      → Spells body (suc d) xs ms rs
      → Spells primary d (parse_tree.Pair (pair.NamedFunction i j) ps xs) (word words.Function i a (suc d) ∷ read (of (kinds.Name r) j c) (suc d) ∷ ts) rs
  -- Elements = ","* [ Assign ( ","+ Assign )* ","* ], where a comma that no Assign stands directly before is a hole: each element but a last Assign
  -- with the comma behind it
  elements-none : {d : ℕ} {ts : List Read} → Spells elements d nothing ts ts
  elements-hole : {d i : ℕ} {xs : ParseTree} {ts rs : List Read} {a : Bool}
      → Spells elements d xs ts (mark marks.Comma i a d ∷ rs)
      → Spells elements d (parse_tree.Pair pair.And xs (parse_tree.Atom atom.Hole)) ts rs
  elements-more : {d i : ℕ} {xs e : ParseTree} {ts ms rs : List Read} {a : Bool}
      → Spells elements d xs ts ms
      → Spells (assign false) d e ms (mark marks.Comma i a d ∷ rs)
      → Spells elements d (parse_tree.Pair pair.And xs e) ts rs
  props-one : {d : ℕ} {x : ParseTree} {ts rs : List Read} → Spells prop d x ts rs → Spells props d (parse_tree.Pair pair.And nothing x) ts rs
  props-more : {d i : ℕ} {xs x : ParseTree} {ts ms rs : List Read} {a : Bool}
      → Spells props d xs ts (mark marks.Comma i a d ∷ ms)
      → Spells prop d x ms rs
      → Spells props d (parse_tree.Pair pair.And xs x) ts rs
  -- Prop = Name | PropName ":" Assign | PropName Params Body
  prop-name : {d i : ℕ} {r : NameRole} {rs : List Read} {a : Bool}
      → Spells prop d (parse_tree.Atom (atom.Shorthand i)) (read (of (kinds.Name r) i a) d ∷ rs) rs
  prop-value : {d i : ℕ} {x e : ParseTree} {ts ms rs : List Read} {a : Bool}
      → Spells key d x ts (mark marks.Colon i a d ∷ ms)
      → Spells (assign false) d e ms rs
      → Spells prop d (parse_tree.Pair pair.Property x e) ts rs
  prop-method : {d : ℕ} {x ps xs : ParseTree} {ts ms us rs : List Read}
      → Spells key d x ts ms
      → Spells params (suc d) ps ms us
      → Spells body (suc d) xs us rs
      → Spells prop d (parse_tree.Triple triple.Method x ps xs) ts rs
  -- "get" PropName "(" ")" Body
  prop-get : {d i j l : ℕ} {x xs : ParseTree} {ts ms rs : List Read} {a c f : Bool}
      → Spells key d x ts (bracket brackets.Open j c (suc d) ∷ bracket brackets.Close l f (suc d) ∷ ms)
      → Spells body (suc d) xs ms rs
      → Spells prop d (parse_tree.Pair (pair.Getter i) x xs) (read (of (kinds.Name role.Get) i a) d ∷ ts) rs
  -- "set" PropName "(" Name ")" Body
  prop-set : {d i j l o : ℕ} {r : NameRole} {x xs : ParseTree} {ts ms rs : List Read} {a c f g : Bool}
      → Spells key d x ts (bracket brackets.Open j c (suc d) ∷ read (of (kinds.Name r) o g) (suc d) ∷ bracket brackets.Close l f (suc d) ∷ ms)
      → Spells body (suc d) xs ms rs
      → Spells prop d (parse_tree.Pair (pair.Setter i o) x xs) (read (of (kinds.Name role.Set) i a) d ∷ ts) rs
  -- PropName = Word | Text | Number | "[" Assign "]"
  key-token : {d i : ℕ} {kind : Kind} {rs : List Read} {a : Bool}
      → is_key kind ≡ true
      → Spells key d (parse_tree.Atom (atom.Key i)) (read (of kind i a) d ∷ rs) rs
  key-computed : {d i j : ℕ} {e : ParseTree} {ts rs : List Read} {a c : Bool}
      → Spells (assign false) d e ts (bracket brackets.SquareClose j c d ∷ rs)
      → Spells key d (parse_tree.Wrap (wrap.Computed i) e) (bracket brackets.SquareOpen i a d ∷ ts) rs

-- The tokens are those of a script with this tree.
abbrev pub Plain : List Read → ParseTree → Type 0
Plain ts x = Spells (items true) 0 x ts []

-- Some script begins so.
abbrev pub Viable : List Read → Type 0
Viable ts = (rest : List Read) × (x : ParseTree) × Plain (ts ++ rest) x
